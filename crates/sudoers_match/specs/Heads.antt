-- What holds of a command beside its member: as whom it runs, its options and its tags (sudoers(5), Runas_Spec, Option_Spec, Tag_Spec).
use Rattle.std.specs.Prelude.{ℕ, ◌==◌, Bool, List, [], ◌∷◌, ◌++◌, Option, Some, None, if◌then◌else◌}
use Rattle.std.specs.List.{filter_map}
use Rattle.std.specs.Option.{option_map, option_or}
use Rattle.sudoers_grammar.specs.Node.{CmdSpec, RunasSpec, Member}
use Rattle.sudoers_grammar.specs.declared.node.OptionName.{OptionName}
use Rattle.sudoers_grammar.specs.declared.node.OptionName.TheVariants as option
use Rattle.sudoers_grammar.specs.declared.node.Tag.{Tag}
use Rattle.sudoers_grammar.specs.declared.node.Tag.TheVariants as tag
use Rattle.sudoers_match.specs.declared.tags.CommandTags.{CommandTags}

-- The Runas_Spec of a command, and the options and tags of the commands before it and of itself, in this order.
pub record AccumulatedCommandSettings : Type 0 where
  pub runas : Option RunasSpec
  pub options : List (OptionName × List ℕ)
  pub tags : List (Tag × Bool)

abbrev pub empty_command_settings : AccumulatedCommandSettings
empty_command_settings = record { runas = None; options = []; tags = [] }

-- A command inherits what the commands before it in its list leave, until it is overridden.
abbrev pub settings_after_command : AccumulatedCommandSettings → CmdSpec → AccumulatedCommandSettings
settings_after_command h c = record { runas = option_or c.runas h.runas; options = h.options ++ c.options; tags = h.tags ++ c.tags }

-- the commands of a list, each with all that holds of it
abbrev pub commands_with_settings : AccumulatedCommandSettings → List CmdSpec → List (AccumulatedCommandSettings × Member)
commands_with_settings h [] = []
commands_with_settings h (c ∷ cs) = (settings_after_command h c, c.member) ∷ commands_with_settings (settings_after_command h c) cs

-- what the last pair with this name says: each option and each tag is overridden by itself
abbrev pub last_value_named : {N V : Type 0} → (N → Bool) → List (N × V) → Option V
last_value_named is_it [] = None
last_value_named is_it (p ∷ ps) = option_or (last_value_named is_it ps) (if is_it p.0 then Some p.1 else None)

abbrev pub ordinal_of_tag : Tag → ℕ
ordinal_of_tag tag.Exec = 0
ordinal_of_tag tag.Follow = 1
ordinal_of_tag tag.Intercept = 2
ordinal_of_tag tag.LogInput = 3
ordinal_of_tag tag.LogOutput = 4
ordinal_of_tag tag.Mail = 5
ordinal_of_tag tag.Passwd = 6
ordinal_of_tag tag.Setenv = 7

abbrev pub ordinal_of_option : OptionName → ℕ
ordinal_of_option option.Role = 0
ordinal_of_option option.Type = 1
ordinal_of_option option.ApparmorProfile = 2
ordinal_of_option option.Privs = 3
ordinal_of_option option.Limitprivs = 4
ordinal_of_option option.Notbefore = 5
ordinal_of_option option.Notafter = 6
ordinal_of_option option.Timeout = 7
ordinal_of_option option.Cwd = 8
ordinal_of_option option.Chroot = 9

-- what the tags say in the end: each with whether it stands without `NO`, if it stands
abbrev pub final_value_of_tag : List (Tag × Bool) → Tag → Option Bool
final_value_of_tag tags t = last_value_named (λ u. ordinal_of_tag t == ordinal_of_tag u) tags

abbrev pub final_value_of_option : List (OptionName × List ℕ) → OptionName → Option (List ℕ)
final_value_of_option options name = last_value_named (λ other. ordinal_of_option name == ordinal_of_option other) options

abbrev pub final_tags_of : List (Tag × Bool) → CommandTags
final_tags_of tags = record {
  exec = final_value_of_tag tags tag.Exec;
  follow = final_value_of_tag tags tag.Follow;
  intercept = final_value_of_tag tags tag.Intercept;
  log_input = final_value_of_tag tags tag.LogInput;
  log_output = final_value_of_tag tags tag.LogOutput;
  mail = final_value_of_tag tags tag.Mail;
  passwd = final_value_of_tag tags tag.Passwd;
  setenv = final_value_of_tag tags tag.Setenv;
}

abbrev pub all_option_names : List OptionName
all_option_names =
    option.Role ∷ option.Type ∷ option.ApparmorProfile ∷ option.Privs ∷ option.Limitprivs ∷ option.Notbefore ∷ option.Notafter
    ∷ option.Timeout ∷ option.Cwd ∷ option.Chroot ∷ []

-- the options in the order of their names, each name once
abbrev pub given_options_in_order : (OptionName → Option (List ℕ)) → List (OptionName × List ℕ)
given_options_in_order value_of = filter_map (λ name. option_map (λ (value : List ℕ). (name, value)) (value_of name)) all_option_names

-- A device of the proof, which no public contract cites: the tags with one more.
abbrev pub tags_with_tag_set : Tag → Bool → CommandTags → CommandTags
tags_with_tag_set t on tags = record {
  exec = option_or (if ordinal_of_tag tag.Exec == ordinal_of_tag t then Some on else None) tags.exec;
  follow = option_or (if ordinal_of_tag tag.Follow == ordinal_of_tag t then Some on else None) tags.follow;
  intercept = option_or (if ordinal_of_tag tag.Intercept == ordinal_of_tag t then Some on else None) tags.intercept;
  log_input = option_or (if ordinal_of_tag tag.LogInput == ordinal_of_tag t then Some on else None) tags.log_input;
  log_output = option_or (if ordinal_of_tag tag.LogOutput == ordinal_of_tag t then Some on else None) tags.log_output;
  mail = option_or (if ordinal_of_tag tag.Mail == ordinal_of_tag t then Some on else None) tags.mail;
  passwd = option_or (if ordinal_of_tag tag.Passwd == ordinal_of_tag t then Some on else None) tags.passwd;
  setenv = option_or (if ordinal_of_tag tag.Setenv == ordinal_of_tag t then Some on else None) tags.setenv;
}
