-- What the code holds of a command beside its member.
use Rattle.std.specs.Prelude.{◌≡◌}
use Rattle.std.specs.Option.{option_map}
use Rattle.sudoers_line_rows.specs.View.{runas_of_view}
use Rattle.sudoers_match.specs.declared.command_settings.CommandSettings.{CommandSettings as HeadHeld}
use Rattle.sudoers_match.specs.Heads.{AccumulatedCommandSettings, final_tags_of}
use Rattle.sudoers_match.specs.Values.{final_values_of_options, option_values_of_view}

-- It holds the Runas_Spec, and what the options and tags say in the end.
pub record HoldsCommandSettings (held : HeadHeld) (head : AccumulatedCommandSettings) : Type 0 where
  pub runas : option_map runas_of_view held.runas ≡ head.runas
  pub options : option_values_of_view held.options ≡ final_values_of_options head.options
  pub tags : held.tags ≡ final_tags_of head.tags

-- The heads have the same Runas_Spec, and their options and tags say the same in the end.
pub record HaveSameRunasAndFinalOptionsAndTags (head other : AccumulatedCommandSettings) : Type 0 where
  pub runas : head.runas ≡ other.runas
  pub options : final_values_of_options head.options ≡ final_values_of_options other.options
  pub tags : final_tags_of head.tags ≡ final_tags_of other.tags
