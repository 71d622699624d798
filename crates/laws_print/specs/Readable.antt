-- What a line without NUL is read as: all of it can be written, each definition of an alias on a line of its own.
use Rattle.sudoers_grammar.specs.Node.{Node}
use Rattle.sudoers_grammar.specs.Node as node
use Rattle.laws_print.specs.Writable.{IsNonEmptyListOf, IsWritableUserMember, IsWritableDefinition, IsWritableHostGroup, IsWritableScope, IsWritableParam}

abbrev pub IsReadableNode : Node → Type 0
IsReadableNode (node.Defaults scope params) = IsWritableScope scope × IsNonEmptyListOf IsWritableParam params
IsReadableNode (node.Alias k defs) = IsNonEmptyListOf (IsWritableDefinition k) defs
IsReadableNode (node.Spec users groups) = IsNonEmptyListOf IsWritableUserMember users × IsNonEmptyListOf IsWritableHostGroup groups
IsReadableNode node.Blank = Unit {0}
IsReadableNode node.Comment = Unit {0}
IsReadableNode (node.Include dir path) = Unit {0}
