-- Lines with their aliases replaced by their members (sudoers(5), Aliases; cvtsudoers(1), -e).
use Rattle.std.specs.Prelude.{List, [], ◌∷◌, map, Option}
use Rattle.std.specs.List.{flat_map}
use Rattle.std.specs.Option.{option_map}
use Rattle.sudoers_grammar.specs.declared.node.Kind.{Kind}
use Rattle.sudoers_grammar.specs.declared.node.Kind.TheVariants.{User, Runas, Host, Cmnd}
use Rattle.sudoers_grammar.specs.Node.{Member, RunasSpec, CmdSpec, HostGroup, Scope, Node}
use Rattle.sudoers_grammar.specs.Node as node
use Rattle.sudoers_tree.specs.Line.{Line}
use Rattle.sudoers_match_list.specs.Flattened.{fully_expanded_list}

abbrev pub expanded_runas_spec : List Line → RunasSpec → RunasSpec
expanded_runas_spec lines r = record { users = fully_expanded_list Runas lines r.users; groups = fully_expanded_list Runas lines r.groups }

-- the command with another member
abbrev pub command_with_runas_and_member : Option RunasSpec → CmdSpec → Member → CmdSpec
command_with_runas_and_member runas c m = record { runas = runas; options = c.options; tags = c.tags; member = m }

-- An alias becomes one command for each of its members, each with the same Runas_Spec, options and tags.
abbrev pub commands_of_expanded_command : List Line → CmdSpec → List CmdSpec
commands_of_expanded_command lines c = map (command_with_runas_and_member (option_map (expanded_runas_spec lines) c.runas) c) (fully_expanded_list Cmnd lines (c.member ∷ []))

abbrev pub expanded_host_group : List Line → HostGroup → HostGroup
expanded_host_group lines g = record { hosts = fully_expanded_list Host lines g.hosts; commands = flat_map (commands_of_expanded_command lines) g.commands }

-- The list of a scope. Commands stay as they are written.
abbrev pub expanded_scope_list : List Line → Kind → List Member → List Member
expanded_scope_list lines User ms = fully_expanded_list User lines ms
expanded_scope_list lines Runas ms = fully_expanded_list Runas lines ms
expanded_scope_list lines Host ms = fully_expanded_list Host lines ms
expanded_scope_list lines Cmnd ms = ms

abbrev pub expanded_scope : List Line → Scope → Scope
expanded_scope lines s = record { kind = s.kind; members = expanded_scope_list lines s.kind s.members }

-- what a line says, its aliases replaced; definitions stay as they are written
abbrev pub expanded_node : List Line → Node → Node
expanded_node lines (node.Defaults scope params) = node.Defaults (option_map (expanded_scope lines) scope) params
expanded_node lines (node.Spec users groups) = node.Spec (fully_expanded_list User lines users) (map (expanded_host_group lines) groups)
expanded_node lines (node.Alias k defs) = node.Alias k defs
expanded_node lines node.Blank = node.Blank
expanded_node lines node.Comment = node.Comment
expanded_node lines (node.Include dir path) = node.Include dir path
