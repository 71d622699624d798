-- How lines are printed: a Defaults line, an alias line, a user specification (sudoers(5), SUDOERS FILE FORMAT).
use Rattle.std.specs.Prelude.{ℕ, true, false, List, [], ◌++◌, codes}
use Rattle.std.specs.List.{flat_map, join_by}
use Rattle.sudoers_grammar.specs.declared.node.Kind.{Kind}
use Rattle.sudoers_grammar.specs.declared.node.Kind.TheVariants.{User, Host}
use Rattle.sudoers_grammar.specs.Node.{Member, Def, HostGroup, Node}
use Rattle.sudoers_grammar.specs.Node as node
use Rattle.sudoers_grammar.specs.Kind.{alias_line_keyword}
use Rattle.sudoers_cvt_spell.specs.Members.{printed_member_list}
use Rattle.sudoers_cvt_spell.specs.Commands.{printed_runas_options_tags_and_command}
use Rattle.sudoers_cvt_spell.specs.Parameters.{printed_defaults}

abbrev pub printed_alias_definition : Kind → Def → List ℕ
printed_alias_definition k d = d.name ++ codes " = " ++ printed_member_list false k d.members

-- hosts, and what may be run there
abbrev pub printed_host_group : HostGroup → List ℕ
printed_host_group g = printed_member_list false Host g.hosts ++ codes " = " ++ join_by printed_runas_options_tags_and_command (codes ", ") g.commands

abbrev pub printed_spec : List Member → List HostGroup → List ℕ
printed_spec users groups = printed_member_list true User users ++ codes " " ++ join_by printed_host_group (codes " : ") groups

-- A line that says this. Blanks, comments and includes are not printed.
abbrev pub printed_line : Node → List ℕ
printed_line (node.Defaults scope params) = printed_defaults scope params ++ codes "\n"
printed_line (node.Alias k defs) = alias_line_keyword k ++ codes " " ++ join_by (printed_alias_definition k) (codes " : ") defs ++ codes "\n"
printed_line (node.Spec users groups) = printed_spec users groups ++ codes "\n"
printed_line node.Blank = []
printed_line node.Comment = []
printed_line (node.Include dir path) = []

-- lines, one after another
abbrev pub printed_lines : List Node → List ℕ
printed_lines lines = flat_map printed_line lines
