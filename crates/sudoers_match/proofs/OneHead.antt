-- What is held of a command is a head.
use Rattle.sudoers_match.proofs.Common.{Bool, HeadHeld, HoldsCommandSettings, List, None, Option, OptionName, OptionValues, AccumulatedCommandSettings, Some, Tag, [], cons_option, false, final_tags_of}
use Rattle.sudoers_match.proofs.Common.{final_values_of_options, if◌then◌else◌, last_value_named, option_map, option_or, option_values_of_view, refl, runas_of_view, sym, true, ℕ, ◌≡◌}
use Rattle.sudoers_grammar.specs.declared.node.OptionName.TheVariants as option
use Rattle.sudoers_grammar.specs.declared.node.Tag.TheVariants as tag
use Rattle.sudoers_match.specs.declared.tags.CommandTags.{CommandTags}
use Rattle.sudoers_match.proofs.Lasts.{option_or_none_is_option}

-- a list with what is said of one name before it, if anything is
abbrev values_with_optional_value_before : {N V : Type 0} → N → Option V → List (N × V) → List (N × V)
values_with_optional_value_before {N} {V} name said ps = cons_option (option_map (λ (value : V). (name, value)) said) ps

option_or_with_no_value_is_option : {V : Type 0} (it : Bool) (o : Option V) → option_or o (if it then None else None) ≡ o
option_or_with_no_value_is_option true o = option_or_none_is_option o
option_or_with_no_value_is_option false o = option_or_none_is_option o

last_value_after_optional_value_is_later : {N V : Type 0} (is_it : N → Bool) (name : N) (said : Option V) (ps : List (N × V))
    → last_value_named is_it (values_with_optional_value_before name said ps) ≡ option_or (last_value_named is_it ps) (if is_it name then said else None)
last_value_after_optional_value_is_later is_it name None ps = sym (option_or_with_no_value_is_option (is_it name) (last_value_named is_it ps))
last_value_after_optional_value_is_later is_it name (Some value) ps = refl

abbrev option_values_as_list : OptionValues → List (OptionName × List ℕ)
option_values_as_list v =
    values_with_optional_value_before option.Role v.role (values_with_optional_value_before option.Type v.kind (values_with_optional_value_before option.ApparmorProfile v.apparmor_profile
    (values_with_optional_value_before option.Privs v.privs (values_with_optional_value_before option.Limitprivs v.limitprivs (values_with_optional_value_before option.Notbefore v.notbefore
    (values_with_optional_value_before option.Notafter v.notafter (values_with_optional_value_before option.Timeout v.timeout (values_with_optional_value_before option.Cwd v.cwd
    (values_with_optional_value_before option.Chroot v.chroot [])))))))))

abbrev command_tags_as_list : CommandTags → List (Tag × Bool)
command_tags_as_list t =
    values_with_optional_value_before tag.Exec t.exec (values_with_optional_value_before tag.Follow t.follow (values_with_optional_value_before tag.Intercept t.intercept (values_with_optional_value_before tag.LogInput t.log_input
    (values_with_optional_value_before tag.LogOutput t.log_output (values_with_optional_value_before tag.Mail t.mail (values_with_optional_value_before tag.Passwd t.passwd (values_with_optional_value_before tag.Setenv t.setenv [])))))))

listed_option_values_are_read_back : (v : OptionValues) → final_values_of_options (option_values_as_list v) ≡ v
listed_option_values_are_read_back v = simp (last_value_after_optional_value_is_later, option_or_none_is_option)

listed_command_tags_are_read_back : (t : CommandTags) → final_tags_of (command_tags_as_list t) ≡ t
listed_command_tags_are_read_back t = simp (last_value_after_optional_value_is_later, option_or_none_is_option)

pub held_settings_have_command_settings : (held : HeadHeld) → (head : AccumulatedCommandSettings) × HoldsCommandSettings held head
held_settings_have_command_settings held = (
  record { runas = option_map runas_of_view held.runas; options = option_values_as_list (option_values_of_view held.options); tags = command_tags_as_list held.tags },
  record { runas = refl; options = sym (listed_option_values_are_read_back (option_values_of_view held.options)); tags = sym (listed_command_tags_are_read_back held.tags) },
)
