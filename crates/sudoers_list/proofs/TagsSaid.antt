-- Tags as a list that says them.
use Rattle.std.proofs.Common.{◌≡◌, ◌==◌, Bool, true, false, List, [], ◌∷◌, Option, Some, None, if◌then◌else◌, refl, sym, ap, ◌∙◌}
use Rattle.std.specs.List.{cons_option, filter_map}
use Rattle.std.specs.Option.{option_map, option_or}
use Rattle.sudoers_grammar.specs.declared.node.Tag.{Tag}
use Rattle.sudoers_grammar.specs.declared.node.Tag.TheVariants as tag
use Rattle.sudoers_grammar.specs.Node.{Member}
use Rattle.sudoers_match.specs.declared.command_settings.CommandSettings.{CommandSettings as HeadHeld}
use Rattle.sudoers_match.specs.declared.tags.CommandTags.{CommandTags}
use Rattle.sudoers_match.specs.Heads.{AccumulatedCommandSettings, last_value_named, given_options_in_order, final_value_of_option, final_value_of_tag, ordinal_of_tag, final_tags_of}
use Rattle.sudoers_match.specs.IsHead.{HoldsCommandSettings}
use Rattle.sudoers_match.proofs.Lasts.{option_or_none_is_option}
use Rattle.sudoers_cvt_rules.specs.Effective.{effective_command, given_tags_in_order, all_tags_in_name_order}
use Rattle.sudoers_list.specs.Rule.{command_with_answer_tags, tag_value_in_tags}

-- what is said of the names of which a test holds
abbrev tag_value_of_last_matching_name : (Tag → Bool) → (Tag → Option Bool) → List Tag → Option Bool
tag_value_of_last_matching_name is_it said [] = None
tag_value_of_last_matching_name is_it said (name ∷ names) = option_or (tag_value_of_last_matching_name is_it said names) (if is_it name then said name else None)

option_or_with_no_value_is_option : (b : Bool) (rest : Option Bool) → rest ≡ option_or rest (if◌then◌else◌ {A = Option Bool} b None None)
option_or_with_no_value_is_option true rest = sym (option_or_none_is_option rest)
option_or_with_no_value_is_option false rest = sym (option_or_none_is_option rest)

abbrev tag_pairs_of_given_values : (Tag → Option Bool) → List Tag → List (Tag × Bool)
tag_pairs_of_given_values said names = filter_map (λ name. option_map (λ (on : Bool). (name, on)) (said name)) names

last_value_after_optional_pair_is_later : (is_it : Tag → Bool) (name : Tag) (o rest : Option Bool) (ps : List (Tag × Bool)) → last_value_named is_it ps ≡ rest
    → last_value_named is_it (cons_option (option_map (λ (on : Bool). (name, on)) o) ps) ≡ option_or rest (if is_it name then o else None)
last_value_after_optional_pair_is_later is_it name None rest ps e = e ∙ option_or_with_no_value_is_option (is_it name) rest
last_value_after_optional_pair_is_later is_it name (Some on) rest ps e = ap (λ p. option_or p (if is_it name then Some on else None)) e

last_value_of_tag_pairs_is_picked : (is_it : Tag → Bool) (said : Tag → Option Bool) (names : List Tag) → last_value_named is_it (tag_pairs_of_given_values said names) ≡ tag_value_of_last_matching_name is_it said names
last_value_of_tag_pairs_is_picked is_it said [] = refl
last_value_of_tag_pairs_is_picked is_it said (name ∷ names) = last_value_after_optional_pair_is_later is_it name (said name) (tag_value_of_last_matching_name is_it said names) (tag_pairs_of_given_values said names) (last_value_of_tag_pairs_is_picked is_it said names)

final_value_of_given_tag_is_picked : (said : Tag → Option Bool) (t : Tag) → final_value_of_tag (given_tags_in_order said) t ≡ tag_value_of_last_matching_name (λ u. ordinal_of_tag t == ordinal_of_tag u) said all_tags_in_name_order
final_value_of_given_tag_is_picked said t = last_value_of_tag_pairs_is_picked (λ u. ordinal_of_tag t == ordinal_of_tag u) said all_tags_in_name_order

final_value_of_given_tag_is_given : (said : Tag → Option Bool) (t : Tag) → final_value_of_tag (given_tags_in_order said) t ≡ said t
final_value_of_given_tag_is_given said tag.Exec = final_value_of_given_tag_is_picked said tag.Exec
final_value_of_given_tag_is_given said tag.Follow = final_value_of_given_tag_is_picked said tag.Follow ∙ option_or_none_is_option (said tag.Follow)
final_value_of_given_tag_is_given said tag.Intercept = final_value_of_given_tag_is_picked said tag.Intercept ∙ simp option_or_none_is_option
final_value_of_given_tag_is_given said tag.LogInput = final_value_of_given_tag_is_picked said tag.LogInput ∙ simp option_or_none_is_option
final_value_of_given_tag_is_given said tag.LogOutput = final_value_of_given_tag_is_picked said tag.LogOutput ∙ simp option_or_none_is_option
final_value_of_given_tag_is_given said tag.Mail = final_value_of_given_tag_is_picked said tag.Mail ∙ simp option_or_none_is_option
final_value_of_given_tag_is_given said tag.Passwd = final_value_of_given_tag_is_picked said tag.Passwd ∙ simp option_or_none_is_option
final_value_of_given_tag_is_given said tag.Setenv = final_value_of_given_tag_is_picked said tag.Setenv ∙ simp option_or_none_is_option

-- Tags are those that the list says which they say.
command_tags_are_read_back_from_list : (tags : CommandTags) → tags ≡ final_tags_of (given_tags_in_order (tag_value_in_tags tags))
command_tags_are_read_back_from_list tags =
    let said = tag_value_in_tags tags in
    rw (
      final_value_of_given_tag_is_given said tag.Exec,
      final_value_of_given_tag_is_given said tag.Follow,
      final_value_of_given_tag_is_given said tag.Intercept,
      final_value_of_given_tag_is_given said tag.LogInput,
      final_value_of_given_tag_is_given said tag.LogOutput,
      final_value_of_given_tag_is_given said tag.Mail,
      final_value_of_given_tag_is_given said tag.Passwd,
      final_value_of_given_tag_is_given said tag.Setenv,
    ) refl

equal_tag_values_give_equal_pairs : (f g : Tag → Option Bool) → ((t : Tag) → f t ≡ g t) → (names : List Tag) → tag_pairs_of_given_values f names ≡ tag_pairs_of_given_values g names
equal_tag_values_give_equal_pairs f g same [] = refl
equal_tag_values_give_equal_pairs f g same (name ∷ names) =
    ap (λ o. cons_option (option_map (λ (on : Bool). (name, on)) o) (tag_pairs_of_given_values f names)) (same name)
    ∙ ap (cons_option (option_map (λ (on : Bool). (name, on)) (g name))) (equal_tag_values_give_equal_pairs f g same names)

equal_tag_values_give_equal_given_tags : (f g : Tag → Option Bool) → ((t : Tag) → f t ≡ g t) → given_tags_in_order f ≡ given_tags_in_order g
equal_tag_values_give_equal_given_tags f g same = equal_tag_values_give_equal_pairs f g same all_tags_in_name_order

-- a head with other tags
abbrev pub settings_with_tags_replaced : CommandTags → AccumulatedCommandSettings → AccumulatedCommandSettings
settings_with_tags_replaced tags h = record { runas = h.runas; options = h.options; tags = given_tags_in_order (tag_value_in_tags tags) }

pub held_tags_replaced_hold_settings : (held : HeadHeld) (tags : CommandTags) (h : AccumulatedCommandSettings) → HoldsCommandSettings held h → HoldsCommandSettings (record held { tags = tags }) (settings_with_tags_replaced tags h)
held_tags_replaced_hold_settings held tags h is = record { runas = is.runas; options = is.options; tags = command_tags_are_read_back_from_list tags }

pub effective_command_has_answer_tags : (tags : CommandTags) (h : AccumulatedCommandSettings) (m : Member) → effective_command (settings_with_tags_replaced tags h, m) ≡ command_with_answer_tags tags (h, m)
effective_command_has_answer_tags tags h m =
    ap (λ ts. record { runas = h.runas; options = given_options_in_order (final_value_of_option h.options); tags = ts; member = m })
    (equal_tag_values_give_equal_given_tags (final_value_of_tag (given_tags_in_order (tag_value_in_tags tags))) (tag_value_in_tags tags) (final_value_of_given_tag_is_given (tag_value_in_tags tags)))
