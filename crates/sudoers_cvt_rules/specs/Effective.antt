-- User specifications in which each command says all that holds of it (sudoers(5), Runas_Spec, Option_Spec, Tag_Spec).
use Rattle.std.specs.Prelude.{Bool, List, [], ◌∷◌, map, Option}
use Rattle.std.specs.List.{filter_map}
use Rattle.std.specs.Option.{option_map}
use Rattle.sudoers_grammar.specs.Node.{CmdSpec, HostGroup, Member, Node}
use Rattle.sudoers_grammar.specs.declared.node.Tag.{Tag}
use Rattle.sudoers_grammar.specs.declared.node.Tag.TheVariants as tag
use Rattle.sudoers_grammar.specs.Node as node
use Rattle.sudoers_match.specs.Heads.{AccumulatedCommandSettings, empty_command_settings, commands_with_settings, given_options_in_order, final_value_of_option, final_value_of_tag}

abbrev pub all_tags_in_name_order : List Tag
all_tags_in_name_order =
    tag.Exec ∷ tag.Follow ∷ tag.Intercept ∷ tag.LogInput ∷ tag.LogOutput ∷ tag.Mail ∷ tag.Passwd ∷ tag.Setenv ∷ []

-- the tags in the order of their names, each name once
abbrev pub given_tags_in_order : (Tag → Option Bool) → List (Tag × Bool)
given_tags_in_order said = filter_map (λ name. option_map (λ (on : Bool). (name, on)) (said name)) all_tags_in_name_order

-- a command with its Runas_Spec, and with its options and tags in the order of their names
abbrev pub effective_command : AccumulatedCommandSettings × Member → CmdSpec
effective_command c = record { runas = c.0.runas; options = given_options_in_order (final_value_of_option c.0.options); tags = given_tags_in_order (final_value_of_tag c.0.tags); member = c.1 }

-- The commands of a host group. Each inherits from those before it.
abbrev pub effective_commands : List CmdSpec → List CmdSpec
effective_commands commands = map effective_command (commands_with_settings empty_command_settings commands)

abbrev pub effective_host_group : HostGroup → HostGroup
effective_host_group g = record { hosts = g.hosts; commands = effective_commands g.commands }

-- what a line says, with its commands so
abbrev pub node_with_effective_commands : Node → Node
node_with_effective_commands (node.Spec users groups) = node.Spec users (map effective_host_group groups)
node_with_effective_commands (node.Defaults scope params) = node.Defaults scope params
node_with_effective_commands (node.Alias k defs) = node.Alias k defs
node_with_effective_commands node.Blank = node.Blank
node_with_effective_commands node.Comment = node.Comment
node_with_effective_commands (node.Include dir path) = node.Include dir path
