-- A command, of which the code holds what is inherited, is the stated one.
use Rattle.std.proofs.Common.{◌≡◌, ℕ, Bool, List, [], ◌∷◌, map, Option, Some, None, refl, sym, ap, ◌∙◌}
use Rattle.std.specs.List.{filter_map, cons_option}
use Rattle.std.specs.Option.{option_map}
use Rattle.serde_json.specs.Data.{Data, string, object, no_members, member}
use Rattle.std.specs.Prelude.{codes, false}
use Rattle.sudoers_grammar.specs.declared.node.Kind.TheVariants.{Cmnd}
use Rattle.sudoers_grammar.specs.Node.{RunasSpec}
use Rattle.sudoers_grammar.specs.declared.node.OptionName.{OptionName}
use Rattle.sudoers_grammar.specs.declared.node.OptionName.TheVariants as option
use Rattle.sudoers_grammar.specs.declared.node.Tag.{Tag}
use Rattle.sudoers_line_rows.specs.declared.view.Member.{Member as MemberView}
use Rattle.sudoers_line_rows.specs.View.{member_of_view}
use Rattle.sudoers_match.specs.declared.command_settings.CommandSettings.{CommandSettings as HeadHeld}
use Rattle.sudoers_match.specs.declared.options.CommandOptions.{CommandOptions}
use Rattle.sudoers_match.specs.declared.tags.CommandTags.{CommandTags}
use Rattle.sudoers_match.specs.Heads.{AccumulatedCommandSettings, given_options_in_order, all_option_names, final_value_of_option, final_value_of_tag, final_tags_of}
use Rattle.sudoers_match.specs.IsHead.{HoldsCommandSettings}
use Rattle.sudoers_match.specs.Values.{OptionValues, final_values_of_options, option_values_of_view}
use Rattle.sudoers_cvt_spell.specs.Members.{printed_member}
use Rattle.sudoers_cvt_spell.specs.Commands.{printed_option, tag_keyword_or_negated}
use Rattle.sudoers_cvt_rules.specs.Effective.{effective_command, given_tags_in_order, all_tags_in_name_order}
use Rattle.sudoers_cvt_json.specs.Value.{string_array_value, runas_object_or_null, command_object_value}
use Rattle.sudoers_cvt_json.specs.internal.Built.{command_value_of_view, printed_option_texts, printed_tag_texts}

-- ---- options

abbrev printed_option_if_valued : OptionName × Option (List ℕ) → Option (List ℕ)
printed_option_if_valued p = option_map (printed_option p.0) p.1

abbrev option_value_pairs_in_order : OptionValues → List (OptionName × Option (List ℕ))
option_value_pairs_in_order v =
    (option.Role, v.role) ∷ (option.Type, v.kind) ∷ (option.ApparmorProfile, v.apparmor_profile) ∷ (option.Privs, v.privs)
    ∷ (option.Limitprivs, v.limitprivs) ∷ (option.Notbefore, v.notbefore) ∷ (option.Notafter, v.notafter) ∷ (option.Timeout, v.timeout)
    ∷ (option.Cwd, v.cwd) ∷ (option.Chroot, v.chroot) ∷ []

printing_keeps_consed_option : (name : OptionName) (o : Option (List ℕ)) (ps : List (OptionName × List ℕ))
    → map (λ (p : OptionName × List ℕ). printed_option p.0 p.1) (cons_option (option_map (λ (value : List ℕ). (name, value)) o) ps)
    ≡ cons_option (option_map (printed_option name) o) (map (λ (p : OptionName × List ℕ). printed_option p.0 p.1) ps)
printing_keeps_consed_option name None ps = refl
printing_keeps_consed_option name (Some value) ps = refl

printing_keeps_filtered_options : (f : OptionName → Option (List ℕ)) (names : List OptionName)
    → map (λ (p : OptionName × List ℕ). printed_option p.0 p.1) (filter_map (λ name. option_map (λ (value : List ℕ). (name, value)) (f name)) names)
    ≡ filter_map (λ name. option_map (printed_option name) (f name)) names
printing_keeps_filtered_options f [] = refl
printing_keeps_filtered_options f (name ∷ names) =
    printing_keeps_consed_option name (f name) (filter_map (λ n. option_map (λ (value : List ℕ). (n, value)) (f n)) names)
    ∙ ap (λ texts. cons_option (option_map (printed_option name) (f name)) texts) (printing_keeps_filtered_options f names)

printed_options_of_view_are_final_ones : (held : CommandOptions) (options : List (OptionName × List ℕ)) → option_values_of_view held ≡ final_values_of_options options
    → printed_option_texts held ≡ map (λ (p : OptionName × List ℕ). printed_option p.0 p.1) (given_options_in_order (final_value_of_option options))
printed_options_of_view_are_final_ones held options e =
    let shown : printed_option_texts held ≡ filter_map printed_option_if_valued (option_value_pairs_in_order (option_values_of_view held)) = refl in
    let said : filter_map printed_option_if_valued (option_value_pairs_in_order (final_values_of_options options)) ≡ filter_map (λ name. option_map (printed_option name) (final_value_of_option options name)) all_option_names = refl in
    shown ∙ ap (λ v. filter_map printed_option_if_valued (option_value_pairs_in_order v)) e ∙ said ∙ sym (printing_keeps_filtered_options (final_value_of_option options) all_option_names)

-- ---- tags

printing_keeps_consed_tag : (name : Tag) (o : Option Bool) (ps : List (Tag × Bool))
    → map (λ (p : Tag × Bool). tag_keyword_or_negated p.0 p.1) (cons_option (option_map (λ (on : Bool). (name, on)) o) ps)
    ≡ cons_option (option_map (tag_keyword_or_negated name) o) (map (λ (p : Tag × Bool). tag_keyword_or_negated p.0 p.1) ps)
printing_keeps_consed_tag name None ps = refl
printing_keeps_consed_tag name (Some on) ps = refl

printing_keeps_filtered_tags : (f : Tag → Option Bool) (names : List Tag)
    → map (λ (p : Tag × Bool). tag_keyword_or_negated p.0 p.1) (filter_map (λ name. option_map (λ (on : Bool). (name, on)) (f name)) names)
    ≡ filter_map (λ name. option_map (tag_keyword_or_negated name) (f name)) names
printing_keeps_filtered_tags f [] = refl
printing_keeps_filtered_tags f (name ∷ names) =
    printing_keeps_consed_tag name (f name) (filter_map (λ n. option_map (λ (on : Bool). (n, on)) (f n)) names)
    ∙ ap (λ texts. cons_option (option_map (tag_keyword_or_negated name) (f name)) texts) (printing_keeps_filtered_tags f names)

printed_tags_of_view_are_final_ones : (held : CommandTags) (tags : List (Tag × Bool)) → held ≡ final_tags_of tags
    → printed_tag_texts held ≡ map (λ (p : Tag × Bool). tag_keyword_or_negated p.0 p.1) (given_tags_in_order (final_value_of_tag tags))
printed_tags_of_view_are_final_ones held tags e =
    let said : printed_tag_texts (final_tags_of tags) ≡ filter_map (λ name. option_map (tag_keyword_or_negated name) (final_value_of_tag tags name)) all_tags_in_name_order = refl in
    ap printed_tag_texts e ∙ said ∙ sym (printing_keeps_filtered_tags (final_value_of_tag tags) all_tags_in_name_order)

-- ---- the command

abbrev command_object_of_parts : List ℕ → List (List ℕ) → Option RunasSpec → List (List ℕ) → Data
command_object_of_parts command options runas tags =
    object (member (codes "command") (string command)
    (member (codes "options") (string_array_value options)
    (member (codes "runas") (runas_object_or_null runas)
    (member (codes "tags") (string_array_value tags) no_members))))

pub command_of_held_settings_is_effective : (held : HeadHeld) (h : AccumulatedCommandSettings) (m : MemberView) → HoldsCommandSettings held h → command_value_of_view held m ≡ command_object_value (effective_command (h, member_of_view m))
command_of_held_settings_is_effective held h m is =
    let c = printed_member false Cmnd (member_of_view m) in
    ap (λ r. command_object_of_parts c (printed_option_texts held.options) r (printed_tag_texts held.tags)) is.runas
    ∙ ap (λ o. command_object_of_parts c o h.runas (printed_tag_texts held.tags)) (printed_options_of_view_are_final_ones held.options h.options is.options)
    ∙ ap (λ t. command_object_of_parts c (map (λ (p : OptionName × List ℕ). printed_option p.0 p.1) (given_options_in_order (final_value_of_option h.options))) h.runas t) (printed_tags_of_view_are_final_ones held.tags h.tags is.tags)
