-- The names of aliases that stand in a line.
use Rattle.std.specs.Prelude.{◌≡◌, false, ℕ, List, [], ◌++◌, map}
use Rattle.std.specs.List.{AllByRecursion}
use Rattle.std.specs.Str.{bytes_eq}
use Rattle.sudoers_grammar.specs.Listed.{AliasMember, aliases_in_node}
use Rattle.sudoers_grammar.specs.Node.{Def, Node}
use Rattle.sudoers_grammar.specs.Node as node

-- the names that a line defines which says this
abbrev pub names_defined_in_line : Node → List (List ℕ)
names_defined_in_line (node.Alias k defs) = map (λ (d : Def). d.name) defs
names_defined_in_line node.Blank = []
names_defined_in_line node.Comment = []
names_defined_in_line (node.Include dir path) = []
names_defined_in_line (node.Defaults scope params) = []
names_defined_in_line (node.Spec users groups) = []

-- the names that it defines, and those of its members that are aliases
abbrev pub alias_names_in_line : Node → List (List ℕ)
alias_names_in_line says = names_defined_in_line says ++ map (λ (a : AliasMember). a.name) (aliases_in_node says)

-- No alias of this name stands in what a line says.
abbrev pub IsAliasNameAbsent : List ℕ → Node → Type 0
IsAliasNameAbsent name says = AllByRecursion (λ (other : List ℕ). bytes_eq name other ≡ false) (alias_names_in_line says)
