-- Commands that say all that holds of them say it a second time.
use Rattle.laws_program.proofs.Common.{◌≡◌, ℕ, Bool, true, false, List, [], ◌∷◌, ◌++◌, Option, Some, None, map, refl, sym, ap, ap₂, ◌∙◌, ◌==◌, ◌||◌}
use Rattle.laws_program.proofs.Common.{if◌then◌else◌, option_or, cons_option, list_any, eqb-true, OptionName, Tag, RunasSpec, CmdSpec, HostGroup, Member, AccumulatedCommandSettings}
use Rattle.laws_program.proofs.Common.{empty_command_settings, settings_after_command, last_value_named, ordinal_of_option, final_value_of_option, all_option_names, given_options_in_order, ordinal_of_tag, final_value_of_tag, given_tags_in_order}
use Rattle.laws_program.proofs.Common.{effective_command, effective_commands, effective_host_group}
use Rattle.std.specs.Option.{option_map}
use Rattle.sudoers_grammar.specs.declared.node.OptionName.TheVariants as option
use Rattle.sudoers_grammar.specs.declared.node.Tag.TheVariants as tag
use Rattle.sudoers_match.specs.Heads.{commands_with_settings}
use Rattle.sudoers_cvt_rules.specs.Effective.{all_tags_in_name_order}
use Rattle.sudoers_match.proofs.Lasts.{option_or_none_is_option}
use Rattle.laws_program.proofs.PrintedHeads.{options_of_equal_ordinals_are_equal}

-- ---- the last that is said

option_or_is_associative : {V : Type 0} → (a b c : Option V) → option_or a (option_or b c) ≡ option_or (option_or a b) c
option_or_is_associative None b c = refl
option_or_is_associative (Some v) b c = refl

-- what is inherited twice is inherited once
pub inheriting_twice_is_inheriting_once : {V : Type 0} → (own before : Option V) → option_or (option_or own before) before ≡ option_or own before
inheriting_twice_is_inheriting_once None None = refl
inheriting_twice_is_inheriting_once None (Some v) = refl
inheriting_twice_is_inheriting_once (Some v) before = refl

pub last_value_of_appended_is_option_or : {N V : Type 0} → (is_it : N → Bool) (xs ys : List (N × V)) → last_value_named is_it (xs ++ ys) ≡ option_or (last_value_named is_it ys) (last_value_named is_it xs)
last_value_of_appended_is_option_or is_it [] ys = sym (option_or_none_is_option (last_value_named is_it ys))
last_value_of_appended_is_option_or is_it (x ∷ xs) ys =
    ap (λ o. option_or o (if is_it x.0 then Some x.1 else None)) (last_value_of_appended_is_option_or is_it xs ys)
    ∙ sym (option_or_is_associative (last_value_named is_it ys) (last_value_named is_it xs) (if is_it x.0 then Some x.1 else None))

-- ---- lists of what is said of each name

abbrev named_values_of_names : {N V : Type 0} → (N → Option V) → List N → List (N × V)
named_values_of_names said [] = []
named_values_of_names {N} {V} said (name ∷ names) = cons_option (option_map (λ (value : V). (name, value)) (said name)) (named_values_of_names said names)

-- What a list of what is said of each name says of a name.
last_named_value_is_value_of_name : {N V : Type 0} → (is_it : N → Bool) (it : N) → ((other : N) → is_it other ≡ true → it ≡ other) → (said : N → Option V) (names : List N)
    → last_value_named is_it (named_values_of_names said names) ≡ (if list_any is_it names then said it else None)
last_named_value_is_value_of_name is_it it same said [] = refl
last_named_value_is_value_of_name {N} {V} is_it it same said (name ∷ names) = by (said name) refl (is_it name) refl (list_any is_it names) (last_named_value_is_value_of_name is_it it same said names)
  where
    by : (o : Option V) → said name ≡ o → (t : Bool) → is_it name ≡ t → (u : Bool) → last_value_named is_it (named_values_of_names said names) ≡ (if u then said it else None)
        → last_value_named is_it (cons_option (option_map (λ (value : V). (name, value)) o) (named_values_of_names said names)) ≡ (if t || u then said it else None)
    by None e true f true later = later
    by None e true f false later = later ∙ sym (ap said (same name f) ∙ e)
    by None e false f u later = later
    by (Some v) e true f true later =
        ap₂ (λ o (t : Bool). option_or o (if t then Some v else None)) later f ∙ ap (λ o. option_or o (Some v)) (ap said (same name f) ∙ e) ∙ sym (ap said (same name f) ∙ e)
    by (Some v) e true f false later =
        ap₂ (λ o (t : Bool). option_or o (if t then Some v else None)) later f ∙ sym (ap said (same name f) ∙ e)
    by (Some v) e false f u later =
        ap₂ (λ o (t : Bool). option_or o (if t then Some v else None)) later f ∙ option_or_none_is_option (if u then said it else None)

-- Lists of what is said are the same where the same is said.
equal_values_give_equal_named_lists : {N V : Type 0} → (said other : N → Option V) → ((name : N) → said name ≡ other name) → (names : List N) → named_values_of_names said names ≡ named_values_of_names other names
equal_values_give_equal_named_lists said other same [] = refl
equal_values_give_equal_named_lists {N} {V} said other same (name ∷ names) =
    ap₂ (λ (o : Option V) (list : List (N × V)). cons_option (option_map (λ (value : V). (name, value)) o) list) (same name) (equal_values_give_equal_named_lists said other same names)

-- ---- options and tags

abbrev tag_of_ordinal : ℕ → Tag
tag_of_ordinal n =
    if n == 0 then tag.Exec
    else (if n == 1 then tag.Follow
    else (if n == 2 then tag.Intercept
    else (if n == 3 then tag.LogInput
    else (if n == 4 then tag.LogOutput
    else (if n == 5 then tag.Mail
    else (if n == 6 then tag.Passwd else tag.Setenv))))))

tag_of_its_ordinal_is_itself : (name : Tag) → tag_of_ordinal (ordinal_of_tag name) ≡ name
tag_of_its_ordinal_is_itself tag.Exec = refl
tag_of_its_ordinal_is_itself name = refl

tags_of_equal_ordinals_are_equal : (name other : Tag) → (ordinal_of_tag name == ordinal_of_tag other) ≡ true → name ≡ other
tags_of_equal_ordinals_are_equal name other e = sym (tag_of_its_ordinal_is_itself name) ∙ ap tag_of_ordinal (eqb-true (ordinal_of_tag name) (ordinal_of_tag other) e) ∙ tag_of_its_ordinal_is_itself other

option_is_among_all_options : (name : OptionName) → list_any (λ other. ordinal_of_option name == ordinal_of_option other) all_option_names ≡ true
option_is_among_all_options option.Role = refl
option_is_among_all_options name = refl

tag_is_among_all_tags : (name : Tag) → list_any (λ other. ordinal_of_tag name == ordinal_of_tag other) all_tags_in_name_order ≡ true
tag_is_among_all_tags tag.Exec = refl
tag_is_among_all_tags name = refl

pub listed_option_has_its_value : (said : OptionName → Option (List ℕ)) (name : OptionName) → final_value_of_option (named_values_of_names said all_option_names) name ≡ said name
listed_option_has_its_value said name =
    last_named_value_is_value_of_name (λ other. ordinal_of_option name == ordinal_of_option other) name (options_of_equal_ordinals_are_equal name) said all_option_names
    ∙ ap (λ (t : Bool). if t then said name else None) (option_is_among_all_options name)

pub listed_tag_has_its_value : (said : Tag → Option Bool) (name : Tag) → final_value_of_tag (named_values_of_names said all_tags_in_name_order) name ≡ said name
listed_tag_has_its_value said name =
    last_named_value_is_value_of_name (λ other. ordinal_of_tag name == ordinal_of_tag other) name (tags_of_equal_ordinals_are_equal name) said all_tags_in_name_order
    ∙ ap (λ (t : Bool). if t then said name else None) (tag_is_among_all_tags name)

-- ---- commands

-- a head that says the same as another
record AreSettingsOfSameValues (g h : AccumulatedCommandSettings) : Type 0 where
  runas : g.runas ≡ h.runas
  options : (name : OptionName) → final_value_of_option g.options name ≡ final_value_of_option h.options name
  tags : (name : Tag) → final_value_of_tag g.tags name ≡ final_value_of_tag h.tags name

-- A command that says all that holds of it inherits nothing new.
effective_command_adds_no_new_settings : (g h : AccumulatedCommandSettings) (c : CmdSpec) → AreSettingsOfSameValues g h → AreSettingsOfSameValues (settings_after_command g (effective_command (settings_after_command h c, c.member))) (settings_after_command h c)
effective_command_adds_no_new_settings g h c same = record {
  runas = ap (λ (r : Option RunasSpec). option_or (option_or c.runas h.runas) r) same.runas ∙ inheriting_twice_is_inheriting_once c.runas h.runas;
  options = λ name.
      last_value_of_appended_is_option_or (λ other. ordinal_of_option name == ordinal_of_option other) g.options (given_options_in_order (final_value_of_option (h.options ++ c.options)))
      ∙ ap₂ (λ x y. option_or x y)
      (listed_option_has_its_value (final_value_of_option (h.options ++ c.options)) name ∙ last_value_of_appended_is_option_or (λ other. ordinal_of_option name == ordinal_of_option other) h.options c.options) (same.options name)
      ∙ inheriting_twice_is_inheriting_once (final_value_of_option c.options name) (final_value_of_option h.options name)
      ∙ sym (last_value_of_appended_is_option_or (λ other. ordinal_of_option name == ordinal_of_option other) h.options c.options);
  tags = λ name.
      last_value_of_appended_is_option_or (λ other. ordinal_of_tag name == ordinal_of_tag other) g.tags (given_tags_in_order (final_value_of_tag (h.tags ++ c.tags)))
      ∙ ap₂ (λ x y. option_or x y)
      (listed_tag_has_its_value (final_value_of_tag (h.tags ++ c.tags)) name ∙ last_value_of_appended_is_option_or (λ other. ordinal_of_tag name == ordinal_of_tag other) h.tags c.tags) (same.tags name)
      ∙ inheriting_twice_is_inheriting_once (final_value_of_tag c.tags name) (final_value_of_tag h.tags name)
      ∙ sym (last_value_of_appended_is_option_or (λ other. ordinal_of_tag name == ordinal_of_tag other) h.tags c.tags);
}

abbrev command_of_parts : Option RunasSpec → List (OptionName × List ℕ) → List (Tag × Bool) → Member → CmdSpec
command_of_parts runas options tags member = record { runas = runas; options = options; tags = tags; member = member }

same_settings_give_same_effective_command : (g h : AccumulatedCommandSettings) (m : Member) → AreSettingsOfSameValues g h → effective_command (g, m) ≡ effective_command (h, m)
same_settings_give_same_effective_command g h m same =
    ap (λ (r : Option RunasSpec). command_of_parts r (given_options_in_order (final_value_of_option g.options)) (given_tags_in_order (final_value_of_tag g.tags)) m) same.runas
    ∙ ap₂ (λ (os : List (OptionName × List ℕ)) (ts : List (Tag × Bool)). command_of_parts h.runas os ts m)
    (equal_values_give_equal_named_lists (final_value_of_option g.options) (final_value_of_option h.options) same.options all_option_names)
    (equal_values_give_equal_named_lists (final_value_of_tag g.tags) (final_value_of_tag h.tags) same.tags all_tags_in_name_order)

effective_commands_with_settings_are_stable : (g h : AccumulatedCommandSettings) (cs : List CmdSpec) → AreSettingsOfSameValues g h → map effective_command (commands_with_settings g (map effective_command (commands_with_settings h cs))) ≡ map effective_command (commands_with_settings h cs)
effective_commands_with_settings_are_stable g h [] same = refl
effective_commands_with_settings_are_stable g h (c ∷ cs) same =
    let next = effective_command_adds_no_new_settings g h c same in
    let e : CmdSpec = effective_command (settings_after_command h c, c.member) in
    ap₂ (λ (x : CmdSpec) (xs : List CmdSpec). x ∷ xs) (same_settings_give_same_effective_command (settings_after_command g e) (settings_after_command h c) c.member next) (effective_commands_with_settings_are_stable (settings_after_command g e) (settings_after_command h c) cs next)

effective_commands_are_stable : (cs : List CmdSpec) → effective_commands (effective_commands cs) ≡ effective_commands cs
effective_commands_are_stable cs = effective_commands_with_settings_are_stable empty_command_settings empty_command_settings cs (record { runas = refl; options = λ name. refl; tags = λ name. refl })

-- Host groups whose commands say all that holds of them stay as they are.
pub effective_host_groups_are_stable : (gs : List HostGroup) → map effective_host_group (map effective_host_group gs) ≡ map effective_host_group gs
effective_host_groups_are_stable [] = refl
effective_host_groups_are_stable (g ∷ gs) =
    ap₂ (λ (cs : List CmdSpec) (rest : List HostGroup). (let group : HostGroup = record { hosts = g.hosts; commands = cs } in group) ∷ rest)
    (effective_commands_are_stable g.commands) (effective_host_groups_are_stable gs)
