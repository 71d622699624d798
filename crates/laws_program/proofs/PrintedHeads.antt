-- What commands inherit can be written.
use Rattle.laws_program.proofs.Common.{◌≡◌, ℕ, Bool, true, false, List, [], ◌∷◌, ◌++◌, Option, Some, None, map, refl, sym, ap, ◌∙◌, ◌==◌, if◌then◌else◌}
use Rattle.laws_program.proofs.Common.{option_or, AllByRecursion, filter_map, cons_option, eqb-true, OptionName, RunasSpec, CmdSpec, HostGroup, AccumulatedCommandSettings, empty_command_settings}
use Rattle.laws_program.proofs.Common.{settings_after_command, ordinal_of_option, final_value_of_option, all_option_names, IsNonEmptyListOf, IsWritableRunasSpec, IsWritableOption, IsWritableCommand, IsWritableHostGroup, effective_command}
use Rattle.laws_program.proofs.Common.{effective_commands, effective_host_group}
use Rattle.std.specs.Option.{option_map, IfSome}
use Rattle.sudoers_grammar.specs.declared.node.OptionName.TheVariants as option
use Rattle.sudoers_grammar.specs.Atom.{is_option_value_allowed}
use Rattle.sudoers_match.specs.Heads.{commands_with_settings}

-- ---- options

-- the option at a place
abbrev option_of_ordinal : ℕ → OptionName
option_of_ordinal n =
    if n == 0 then option.Role
    else (if n == 1 then option.Type
    else (if n == 2 then option.ApparmorProfile
    else (if n == 3 then option.Privs
    else (if n == 4 then option.Limitprivs
    else (if n == 5 then option.Notbefore
    else (if n == 6 then option.Notafter
    else (if n == 7 then option.Timeout
    else (if n == 8 then option.Cwd else option.Chroot))))))))

option_of_its_ordinal_is_itself : (name : OptionName) → option_of_ordinal (ordinal_of_option name) ≡ name
option_of_its_ordinal_is_itself option.Role = refl
option_of_its_ordinal_is_itself name = refl

pub options_of_equal_ordinals_are_equal : (name other : OptionName) → (ordinal_of_option name == ordinal_of_option other) ≡ true → name ≡ other
options_of_equal_ordinals_are_equal name other e = sym (option_of_its_ordinal_is_itself name) ∙ ap option_of_ordinal (eqb-true (ordinal_of_option name) (ordinal_of_option other) e) ∙ option_of_its_ordinal_is_itself other

-- the option may have what is said of it
abbrev IsOptionValueAllowedIfAny : OptionName → Option (List ℕ) → Type 0
IsOptionValueAllowedIfAny name said = IfSome said (λ (value : List ℕ). is_option_value_allowed name value ≡ true)

final_option_value_is_allowed : (name : OptionName) (os : List (OptionName × List ℕ)) → AllByRecursion IsWritableOption os → IsOptionValueAllowedIfAny name (final_value_of_option os name)
final_option_value_is_allowed name [] all = tt
final_option_value_is_allowed name (o ∷ os) all = by (final_value_of_option os name) (ordinal_of_option name == ordinal_of_option o.0) refl (final_option_value_is_allowed name os all.1)
  where
    by : (later : Option (List ℕ)) (t : Bool) → (ordinal_of_option name == ordinal_of_option o.0) ≡ t → IsOptionValueAllowedIfAny name later → IsOptionValueAllowedIfAny name (option_or later (if t then Some o.1 else None))
    by (Some value) t e is = is
    by None true e is = ap (λ n. is_option_value_allowed n o.1) (options_of_equal_ordinals_are_equal name o.0 e) ∙ all.0
    by None false e is = tt

listed_allowed_options_are_writable : (said : OptionName → Option (List ℕ)) → ((name : OptionName) → IsOptionValueAllowedIfAny name (said name)) → (names : List OptionName) → AllByRecursion IsWritableOption (filter_map (λ name. option_map (λ (value : List ℕ). (name, value)) (said name)) names)
listed_allowed_options_are_writable said may [] = tt
listed_allowed_options_are_writable said may (name ∷ names) = by (said name) (may name) (listed_allowed_options_are_writable said may names)
  where
    by : (o : Option (List ℕ)) → IsOptionValueAllowedIfAny name o → AllByRecursion IsWritableOption (filter_map (λ name. option_map (λ (value : List ℕ). (name, value)) (said name)) names)
        → AllByRecursion IsWritableOption (cons_option (option_map (λ (value : List ℕ). (name, value)) o) (filter_map (λ name. option_map (λ (value : List ℕ). (name, value)) (said name)) names))
    by (Some value) is later = (is, later)
    by None is later = later

pub appended_lists_keep_property_of_all : {X : Type 0} → (P : X → Type 0) (xs ys : List X) → AllByRecursion P xs → AllByRecursion P ys → AllByRecursion P (xs ++ ys)
appended_lists_keep_property_of_all P [] ys all more = more
appended_lists_keep_property_of_all P (x ∷ xs) ys all more = (all.0, appended_lists_keep_property_of_all P xs ys all.1 more)

-- ---- commands

inherited_runas_is_writable : (own before : Option RunasSpec) → IsWritableRunasSpec own → IsWritableRunasSpec before → IsWritableRunasSpec (option_or own before)
inherited_runas_is_writable None before is was = was
inherited_runas_is_writable (Some r) before is was = is

effective_commands_with_settings_are_writable : (h : AccumulatedCommandSettings) (cs : List CmdSpec) → IsWritableRunasSpec h.runas → AllByRecursion IsWritableOption h.options → AllByRecursion IsWritableCommand cs → AllByRecursion IsWritableCommand (map effective_command (commands_with_settings h cs))
effective_commands_with_settings_are_writable h [] runas options all = tt
effective_commands_with_settings_are_writable h (c ∷ cs) runas options all =
    let head = inherited_runas_is_writable c.runas h.runas all.0.runas runas in
    let more = appended_lists_keep_property_of_all IsWritableOption h.options c.options options all.0.options in (
      record { runas = head; options = listed_allowed_options_are_writable (final_value_of_option (h.options ++ c.options)) (λ name. final_option_value_is_allowed name (h.options ++ c.options) more) all_option_names; member = all.0.member },
      effective_commands_with_settings_are_writable (settings_after_command h c) cs head more all.1,
    )

effective_commands_are_writable : (cs : List CmdSpec) → IsNonEmptyListOf IsWritableCommand cs → IsNonEmptyListOf IsWritableCommand (effective_commands cs)
effective_commands_are_writable [] all = absurd all
effective_commands_are_writable (c ∷ cs) all = effective_commands_with_settings_are_writable empty_command_settings (c ∷ cs) tt tt all

effective_host_groups_are_each_writable : (gs : List HostGroup) → AllByRecursion IsWritableHostGroup gs → AllByRecursion IsWritableHostGroup (map effective_host_group gs)
effective_host_groups_are_each_writable [] all = tt
effective_host_groups_are_each_writable (g ∷ gs) all = (record { hosts = all.0.hosts; commands = effective_commands_are_writable g.commands all.0.commands }, effective_host_groups_are_each_writable gs all.1)

-- Host groups whose commands say all that holds of them can be written.
pub effective_host_groups_are_writable : (gs : List HostGroup) → IsNonEmptyListOf IsWritableHostGroup gs → IsNonEmptyListOf IsWritableHostGroup (map effective_host_group gs)
effective_host_groups_are_writable [] all = absurd all
effective_host_groups_are_writable (g ∷ gs) all = effective_host_groups_are_each_writable (g ∷ gs) all
