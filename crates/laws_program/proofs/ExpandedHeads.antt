-- What holds of a command beside its member, where its alias became several commands.
use Rattle.laws_program.proofs.Common.{◌≡◌, Bool, List, ◌++◌, Option, Some, None, refl, sym, ap, ◌∙◌, ◌==◌, option_or, OptionName, Tag, RunasSpec, CmdSpec}
use Rattle.laws_program.proofs.Common.{Member, Line, AreRunasSpecsAlike, AccumulatedCommandSettings, empty_command_settings, settings_after_command, last_value_named, ordinal_of_option, final_value_of_option, ordinal_of_tag, final_value_of_tag, command_with_runas_and_member}
use Rattle.laws_program.proofs.Twice.{last_value_of_appended_is_option_or}
use Rattle.sudoers_match_list.specs.Alike.{unchanged_atom}

-- Both say the same, the second in the other policy.
pub record AreCommandSettingsExpandedAlike (lines others : List Line) (h g : AccumulatedCommandSettings) : Type 0 where
  pub runas : AreRunasSpecsAlike unchanged_atom lines others h.runas g.runas
  pub options : (name : OptionName) → final_value_of_option g.options name ≡ final_value_of_option h.options name
  pub tags : (name : Tag) → final_value_of_tag g.tags name ≡ final_value_of_tag h.tags name

option_or_with_own_twice_is_once : {V : Type 0} (own before : Option V) → option_or own (option_or own before) ≡ option_or own before
option_or_with_own_twice_is_once None before = refl
option_or_with_own_twice_is_once (Some v) before = refl

-- what is said once more
appended_values_keep_same_last_value : {N V : Type 0} (is_it : N → Bool) (old new own : List (N × V)) → last_value_named is_it new ≡ last_value_named is_it old
    → last_value_named is_it (new ++ own) ≡ last_value_named is_it (old ++ own)
appended_values_keep_same_last_value is_it old new own same =
    last_value_of_appended_is_option_or is_it new own ∙ ap (λ o. option_or (last_value_named is_it own) o) same ∙ sym (last_value_of_appended_is_option_or is_it old own)

-- What is said twice says the same as once.
values_appended_twice_give_same_last : {N V : Type 0} (is_it : N → Bool) (old new own : List (N × V)) → last_value_named is_it new ≡ last_value_named is_it (old ++ own)
    → last_value_named is_it (new ++ own) ≡ last_value_named is_it (old ++ own)
values_appended_twice_give_same_last is_it old new own same =
    last_value_of_appended_is_option_or is_it new own
    ∙ ap (λ o. option_or (last_value_named is_it own) o) (same ∙ last_value_of_appended_is_option_or is_it old own)
    ∙ option_or_with_own_twice_is_once (last_value_named is_it own) (last_value_named is_it old)
    ∙ sym (last_value_of_appended_is_option_or is_it old own)

module _ (lines others : List Line) where
  abbrev RunasAlike : Option RunasSpec → Option RunasSpec → Type 0
  RunasAlike = AreRunasSpecsAlike unchanged_atom lines others

  pub no_heads : AreCommandSettingsExpandedAlike lines others empty_command_settings empty_command_settings
  no_heads = record { runas = tt; options = λ name. refl; tags = λ name. refl }

  runas_more : (own its before was : Option RunasSpec) → RunasAlike own its → RunasAlike before was → RunasAlike (option_or own before) (option_or its was)
  runas_more None None before was same old = old
  runas_more (Some r) (Some s) before was same old = same
  runas_more own its before was same old = absurd same

  runas_again : (own its before was : Option RunasSpec) → RunasAlike own its → RunasAlike (option_or own before) was → RunasAlike (option_or own before) (option_or its was)
  runas_again None None before was same old = old
  runas_again (Some r) (Some s) before was same old = same
  runas_again own its before was same old = absurd same

  module _ (h : AccumulatedCommandSettings) (c : CmdSpec) (r : Option RunasSpec) (same : RunasAlike c.runas r) where
    -- the first of the commands that stand for this one
    pub first_head : (g : AccumulatedCommandSettings) (m : Member) → AreCommandSettingsExpandedAlike lines others h g → AreCommandSettingsExpandedAlike lines others (settings_after_command h c) (settings_after_command g (command_with_runas_and_member r c m))
    first_head g m old = record {
      runas = runas_more c.runas r h.runas g.runas same old.runas;
      options = λ name. appended_values_keep_same_last_value (λ other. ordinal_of_option name == ordinal_of_option other) h.options g.options c.options (old.options name);
      tags = λ name. appended_values_keep_same_last_value (λ other. ordinal_of_tag name == ordinal_of_tag other) h.tags g.tags c.tags (old.tags name);
    }

    -- one of those that follow
    pub next_head : (g : AccumulatedCommandSettings) (m : Member) → AreCommandSettingsExpandedAlike lines others (settings_after_command h c) g → AreCommandSettingsExpandedAlike lines others (settings_after_command h c) (settings_after_command g (command_with_runas_and_member r c m))
    next_head g m old = record {
      runas = runas_again c.runas r h.runas g.runas same old.runas;
      options = λ name. values_appended_twice_give_same_last (λ other. ordinal_of_option name == ordinal_of_option other) h.options g.options c.options (old.options name);
      tags = λ name. values_appended_twice_give_same_last (λ other. ordinal_of_tag name == ordinal_of_tag other) h.tags g.tags c.tags (old.tags name);
    }
