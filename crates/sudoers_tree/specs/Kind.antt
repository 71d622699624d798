-- The kinds of lines.
use Rattle.sudoers_grammar.specs.Node.{Node}
use Rattle.sudoers_grammar.specs.Node as node
use Rattle.sudoers_tree.specs.declared.line_kind.LineKind.{LineKind}
use Rattle.sudoers_tree.specs.declared.line_kind.LineKind.TheVariants.{Blank, Comment, Include, Defaults, Alias, Spec}

-- the kind of a line that says this
abbrev pub line_kind : Node → LineKind
line_kind node.Blank = Blank
line_kind node.Comment = Comment
line_kind (node.Include dir path) = Include
line_kind (node.Defaults scope params) = Defaults
line_kind (node.Alias k defs) = Alias
line_kind (node.Spec users groups) = Spec
