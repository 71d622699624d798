-- How many members rules have (cvtsudoers(1), -e: an expanded policy may be much longer than the one that was read).
use Rattle.std.specs.Prelude.{ℕ, ◌+◌, List, [], ◌∷◌, length, Option, Some, None}
use Rattle.sudoers_grammar.specs.Node.{RunasSpec, CmdSpec, HostGroup, Def, Scope, Node}
use Rattle.sudoers_grammar.specs.Node as node
use Rattle.sudoers_tree.specs.Line.{Line}

-- the members of the Runas_Spec that holds of a command: its own, or the one that it inherits, which has `before` members
abbrev pub runas_member_count_or_inherited : ℕ → Option RunasSpec → ℕ
runas_member_count_or_inherited before None = before
runas_member_count_or_inherited before (Some r) = length r.users + length r.groups

-- Each command counts as one, and the members of the Runas_Spec that holds of it count too.
abbrev pub commands_and_effective_runas_member_count : ℕ → List CmdSpec → ℕ
commands_and_effective_runas_member_count before [] = 0
commands_and_effective_runas_member_count before (c ∷ cs) = 1 + runas_member_count_or_inherited before c.runas + commands_and_effective_runas_member_count (runas_member_count_or_inherited before c.runas) cs

abbrev pub host_group_member_count : HostGroup → ℕ
host_group_member_count g = length g.hosts + commands_and_effective_runas_member_count 0 g.commands

abbrev pub host_groups_member_count : List HostGroup → ℕ
host_groups_member_count [] = 0
host_groups_member_count (g ∷ gs) = host_group_member_count g + host_groups_member_count gs

abbrev pub scope_member_count : Option Scope → ℕ
scope_member_count None = 0
scope_member_count (Some s) = length s.members

-- the members in the lists of a user specification or of a Defaults line
abbrev pub spec_or_defaults_member_count : Node → ℕ
spec_or_defaults_member_count (node.Spec users groups) = length users + host_groups_member_count groups
spec_or_defaults_member_count (node.Defaults scope params) = scope_member_count scope
spec_or_defaults_member_count (node.Alias k defs) = 0
spec_or_defaults_member_count node.Blank = 0
spec_or_defaults_member_count node.Comment = 0
spec_or_defaults_member_count (node.Include dir path) = 0

abbrev pub specs_and_defaults_member_count : List Line → ℕ
specs_and_defaults_member_count [] = 0
specs_and_defaults_member_count (line ∷ lines) = spec_or_defaults_member_count line.node + specs_and_defaults_member_count lines

abbrev pub definitions_member_count : List Def → ℕ
definitions_member_count [] = 0
definitions_member_count (d ∷ ds) = length d.members + definitions_member_count ds

-- the members of the definitions that a line has
abbrev pub alias_line_member_count : Node → ℕ
alias_line_member_count (node.Alias k defs) = definitions_member_count defs
alias_line_member_count (node.Spec users groups) = 0
alias_line_member_count (node.Defaults scope params) = 0
alias_line_member_count node.Blank = 0
alias_line_member_count node.Comment = 0
alias_line_member_count (node.Include dir path) = 0

abbrev pub alias_lines_member_count : List Node → ℕ
alias_lines_member_count [] = 0
alias_lines_member_count (n ∷ ns) = alias_line_member_count n + alias_lines_member_count ns
