-- A command that says all that holds of it holds the same where it is read again.
use Rattle.laws_program.proofs.Common.{◌≡◌, ℕ, Bool, List, [], ◌∷◌, ◌++◌, Option, Some, None, map, refl, sym, ap, ap₂, ◌∙◌, ◌==◌, option_or, OptionName, Tag}
use Rattle.laws_program.proofs.Common.{RunasSpec, CmdSpec, Member, MemberIsReadBackAs, AreItemsPairwiseRelated, RunasIsReadBackAs, CommandIsReadBackAs, IsPointwiseRelated, AccumulatedCommandSettings, empty_command_settings, settings_after_command}
use Rattle.laws_program.proofs.Common.{ordinal_of_option, final_value_of_option, ordinal_of_tag, final_value_of_tag, effective_command, effective_commands}
use Rattle.sudoers_grammar.specs.declared.node.OptionName.TheVariants as option
use Rattle.sudoers_grammar.specs.declared.node.Tag.TheVariants as tag
use Rattle.sudoers_match.specs.Heads.{commands_with_settings, final_tags_of}
use Rattle.sudoers_match.specs.Values.{final_values_of_options}
use Rattle.laws_program.proofs.Twice.{inheriting_twice_is_inheriting_once, last_value_of_appended_is_option_or, listed_option_has_its_value, listed_tag_has_its_value}

-- the head of a command as it was, and as it is read
pub record AreSettingsReadBackSame (h g : AccumulatedCommandSettings) : Type 0 where
  pub runas : RunasIsReadBackAs h.runas g.runas
  pub options : (name : OptionName) → final_value_of_option g.options name ≡ final_value_of_option h.options name
  pub tags : (name : Tag) → final_value_of_tag g.tags name ≡ final_value_of_tag h.tags name

pub record IsCommandReadBackSame (c d : AccumulatedCommandSettings × Member) : Type 0 where
  pub head : AreSettingsReadBackSame c.0 d.0
  pub member : MemberIsReadBackAs c.1 d.1

runas_read_back_over_inherited_is_same : (own before read was : Option RunasSpec) → RunasIsReadBackAs (option_or own before) read → RunasIsReadBackAs before was → RunasIsReadBackAs (option_or own before) (option_or read was)
runas_read_back_over_inherited_is_same None None None None same old = tt
runas_read_back_over_inherited_is_same None None None (Some w) same old = absurd old
runas_read_back_over_inherited_is_same None None (Some r) was same old = absurd same
runas_read_back_over_inherited_is_same None (Some b) None was same old = absurd same
runas_read_back_over_inherited_is_same None (Some b) (Some r) was same old = same
runas_read_back_over_inherited_is_same (Some o) before None was same old = absurd same
runas_read_back_over_inherited_is_same (Some o) before (Some r) was same old = same

-- What is read says all that held; so what it inherits changes nothing.
settings_after_command_read_back_are_same : (h g : AccumulatedCommandSettings) (c d : CmdSpec) → AreSettingsReadBackSame h g → CommandIsReadBackAs (effective_command (settings_after_command h c, c.member)) d → AreSettingsReadBackSame (settings_after_command h c) (settings_after_command g d)
settings_after_command_read_back_are_same h g c d old same = record {
  runas = runas_read_back_over_inherited_is_same c.runas h.runas d.runas g.runas same.runas old.runas;
  options = λ name.
      last_value_of_appended_is_option_or (λ other. ordinal_of_option name == ordinal_of_option other) g.options d.options
      ∙ ap₂ (λ x y. option_or x y)
      (sym (ap (λ os. final_value_of_option os name) same.options) ∙ listed_option_has_its_value (final_value_of_option (h.options ++ c.options)) name ∙ last_value_of_appended_is_option_or (λ other. ordinal_of_option name == ordinal_of_option other) h.options c.options) (old.options name)
      ∙ inheriting_twice_is_inheriting_once (final_value_of_option c.options name) (final_value_of_option h.options name)
      ∙ sym (last_value_of_appended_is_option_or (λ other. ordinal_of_option name == ordinal_of_option other) h.options c.options);
  tags = λ name.
      last_value_of_appended_is_option_or (λ other. ordinal_of_tag name == ordinal_of_tag other) g.tags d.tags
      ∙ ap₂ (λ x y. option_or x y)
      (sym (ap (λ ts. final_value_of_tag ts name) same.tags) ∙ listed_tag_has_its_value (final_value_of_tag (h.tags ++ c.tags)) name ∙ last_value_of_appended_is_option_or (λ other. ordinal_of_tag name == ordinal_of_tag other) h.tags c.tags) (old.tags name)
      ∙ inheriting_twice_is_inheriting_once (final_value_of_tag c.tags name) (final_value_of_tag h.tags name)
      ∙ sym (last_value_of_appended_is_option_or (λ other. ordinal_of_tag name == ordinal_of_tag other) h.tags c.tags);
}

commands_read_back_have_same_settings : (h g : AccumulatedCommandSettings) (cs ds : List CmdSpec) → AreSettingsReadBackSame h g → AreItemsPairwiseRelated CommandIsReadBackAs (map effective_command (commands_with_settings h cs)) ds → IsPointwiseRelated IsCommandReadBackSame (commands_with_settings h cs) (commands_with_settings g ds)
commands_read_back_have_same_settings h g [] [] old same = tt
commands_read_back_have_same_settings h g (c ∷ cs) (d ∷ ds) old same =
    let next = settings_after_command_read_back_are_same h g c d old same.0 in
    (record { head = next; member = same.0.member }, commands_read_back_have_same_settings (settings_after_command h c) (settings_after_command g d) cs ds next same.1)
commands_read_back_have_same_settings h g cs ds old same = absurd same

-- The commands of a host group hold the same, one by one.
pub effective_commands_read_back_are_same : (cs ds : List CmdSpec) → AreItemsPairwiseRelated CommandIsReadBackAs (effective_commands cs) ds → IsPointwiseRelated IsCommandReadBackSame (commands_with_settings empty_command_settings cs) (commands_with_settings empty_command_settings ds)
effective_commands_read_back_are_same cs ds same = commands_read_back_have_same_settings empty_command_settings empty_command_settings cs ds (record { runas = tt; options = λ name. refl; tags = λ name. refl }) same

-- ---- what options and tags say in the end

pub equal_final_options_give_equal_lists : (was is : List (OptionName × List ℕ)) → ((name : OptionName) → final_value_of_option is name ≡ final_value_of_option was name) → final_values_of_options is ≡ final_values_of_options was
equal_final_options_give_equal_lists was is same =
    let a = same option.Role in
    let b = same option.Type in
    let c = same option.ApparmorProfile in
    let d = same option.Privs in
    let e = same option.Limitprivs in
    let f = same option.Notbefore in
    let i = same option.Notafter in
    let j = same option.Timeout in
    let k = same option.Cwd in
    let l = same option.Chroot in
    cc

pub equal_final_tags_give_equal_lists : (was is : List (Tag × Bool)) → ((name : Tag) → final_value_of_tag is name ≡ final_value_of_tag was name) → final_tags_of is ≡ final_tags_of was
equal_final_tags_give_equal_lists was is same =
    let a = same tag.Exec in
    let b = same tag.Follow in
    let c = same tag.Intercept in
    let d = same tag.LogInput in
    let e = same tag.LogOutput in
    let f = same tag.Mail in
    let i = same tag.Passwd in
    let j = same tag.Setenv in
    cc
