-- Options and tags that are printed one by one are those of their list.
use Rattle.std.proofs.Common.{◌≡◌, ℕ, Bool, List, [], ◌∷◌, ◌++◌, flat_map, Option, Some, None, refl, sym, ap, ◌∙◌, append-nil, append_assoc}
use Rattle.std.specs.List.{filter_map, cons_option}
use Rattle.std.specs.Option.{option_map}
use Rattle.sudoers_grammar.specs.declared.node.OptionName.{OptionName}
use Rattle.sudoers_grammar.specs.declared.node.OptionName.TheVariants as option
use Rattle.sudoers_grammar.specs.declared.node.Tag.{Tag}
use Rattle.sudoers_grammar.specs.declared.node.Tag.TheVariants as tag
use Rattle.sudoers_match.specs.Heads.{given_options_in_order, final_value_of_option, all_option_names, final_value_of_tag, final_tags_of}
use Rattle.sudoers_match.specs.Values.{final_values_of_options}
use Rattle.sudoers_cvt_spell.specs.Commands.{printed_options, printed_tags}
use Rattle.sudoers_cvt_rules.specs.Effective.{given_tags_in_order, all_tags_in_name_order}
use Rattle.sudoers_cvt_rules.specs.internal.Said.{printed_option_if_given, printed_time_place_options, printed_given_options, printed_last_four_tags, printed_tag_if_given, printed_given_tags}

abbrev named_values_in_order : (OptionName → Option (List ℕ)) → List OptionName → List (OptionName × List ℕ)
named_values_in_order f names = filter_map (λ name. option_map (λ (value : List ℕ). (name, value)) (f name)) names

printed_options_of_consed_option_are_appended : (name : OptionName) (o : Option (List ℕ)) (ps : List (OptionName × List ℕ))
    → printed_options (cons_option (option_map (λ (value : List ℕ). (name, value)) o) ps) ≡ printed_option_if_given name o ++ printed_options ps
printed_options_of_consed_option_are_appended name None ps = refl
printed_options_of_consed_option_are_appended name (Some value) ps = refl

printed_named_values_are_printed_each : (f : OptionName → Option (List ℕ)) (names : List OptionName) → printed_options (named_values_in_order f names) ≡ flat_map (λ name. printed_option_if_given name (f name)) names
printed_named_values_are_printed_each f [] = refl
printed_named_values_are_printed_each f (name ∷ names) = printed_options_of_consed_option_are_appended name (f name) (named_values_in_order f names) ∙ ap (λ text. printed_option_if_given name (f name) ++ text) (printed_named_values_are_printed_each f names)

printed_options_in_order_are_ten_texts : (f : OptionName → Option (List ℕ)) → printed_options (given_options_in_order f)
    ≡ printed_option_if_given option.Role (f option.Role) ++ (printed_option_if_given option.Type (f option.Type) ++ (printed_option_if_given option.ApparmorProfile (f option.ApparmorProfile)
    ++ (printed_option_if_given option.Privs (f option.Privs) ++ (printed_option_if_given option.Limitprivs (f option.Limitprivs) ++ (printed_option_if_given option.Notbefore (f option.Notbefore)
    ++ (printed_option_if_given option.Notafter (f option.Notafter) ++ (printed_option_if_given option.Timeout (f option.Timeout) ++ (printed_option_if_given option.Cwd (f option.Cwd)
    ++ printed_option_if_given option.Chroot (f option.Chroot)))))))))
printed_options_in_order_are_ten_texts f =
    let one : OptionName → List ℕ = λ name. printed_option_if_given name (f name) in
    let all : List ℕ → List ℕ = λ text. one option.Role ++ (one option.Type ++ (one option.ApparmorProfile ++ (one option.Privs ++ (one option.Limitprivs ++ (one option.Notbefore
    ++ (one option.Notafter ++ (one option.Timeout ++ (one option.Cwd ++ text)))))))) in
    let whole : flat_map one all_option_names ≡ all (one option.Chroot) = ap all (append-nil (one option.Chroot)) in
    printed_named_values_are_printed_each f all_option_names ∙ whole

abbrev printed_final_option : OptionName → List (OptionName × List ℕ) → List ℕ
printed_final_option name options = printed_option_if_given name (final_value_of_option options name)

-- five texts, and those behind them
first_five_of_six_texts_are_grouped : (a b c d e rest : List ℕ) → a ++ (b ++ (c ++ (d ++ (e ++ rest)))) ≡ (a ++ (b ++ (c ++ (d ++ e)))) ++ rest
first_five_of_six_texts_are_grouped a b c d e rest = simp append_assoc

pub printed_final_values_are_printed_options : (options : List (OptionName × List ℕ)) → printed_given_options (final_values_of_options options) ≡ printed_options (given_options_in_order (final_value_of_option options))
printed_final_values_are_printed_options options = sym (printed_options_in_order_are_ten_texts (final_value_of_option options) ∙ first_five_of_six_texts_are_grouped (printed_final_option option.Role options) (printed_final_option option.Type options) (printed_final_option option.ApparmorProfile options)
    (printed_final_option option.Privs options) (printed_final_option option.Limitprivs options) (printed_time_place_options (final_values_of_options options)))

abbrev named_tags_in_order : (Tag → Option Bool) → List Tag → List (Tag × Bool)
named_tags_in_order f names = filter_map (λ name. option_map (λ (on : Bool). (name, on)) (f name)) names

printed_tags_of_consed_tag_are_appended : (name : Tag) (o : Option Bool) (ps : List (Tag × Bool))
    → printed_tags (cons_option (option_map (λ (on : Bool). (name, on)) o) ps) ≡ printed_tag_if_given name o ++ printed_tags ps
printed_tags_of_consed_tag_are_appended name None ps = refl
printed_tags_of_consed_tag_are_appended name (Some on) ps = refl

printed_named_tags_are_printed_each : (f : Tag → Option Bool) (names : List Tag) → printed_tags (named_tags_in_order f names) ≡ flat_map (λ name. printed_tag_if_given name (f name)) names
printed_named_tags_are_printed_each f [] = refl
printed_named_tags_are_printed_each f (name ∷ names) = printed_tags_of_consed_tag_are_appended name (f name) (named_tags_in_order f names) ∙ ap (λ text. printed_tag_if_given name (f name) ++ text) (printed_named_tags_are_printed_each f names)

printed_tags_in_order_are_eight_texts : (f : Tag → Option Bool) → printed_tags (given_tags_in_order f)
    ≡ printed_tag_if_given tag.Exec (f tag.Exec) ++ (printed_tag_if_given tag.Follow (f tag.Follow) ++ (printed_tag_if_given tag.Intercept (f tag.Intercept)
    ++ (printed_tag_if_given tag.LogInput (f tag.LogInput) ++ (printed_tag_if_given tag.LogOutput (f tag.LogOutput) ++ (printed_tag_if_given tag.Mail (f tag.Mail)
    ++ (printed_tag_if_given tag.Passwd (f tag.Passwd) ++ printed_tag_if_given tag.Setenv (f tag.Setenv)))))))
printed_tags_in_order_are_eight_texts f =
    let one : Tag → List ℕ = λ name. printed_tag_if_given name (f name) in
    let all : List ℕ → List ℕ = λ text. one tag.Exec ++ (one tag.Follow ++ (one tag.Intercept ++ (one tag.LogInput ++ (one tag.LogOutput ++ (one tag.Mail ++ (one tag.Passwd ++ text)))))) in
    let whole : flat_map one all_tags_in_name_order ≡ all (one tag.Setenv) = ap all (append-nil (one tag.Setenv)) in
    printed_named_tags_are_printed_each f all_tags_in_name_order ∙ whole

-- four texts, and those behind them
first_four_of_five_texts_are_grouped : (a b c d rest : List ℕ) → a ++ (b ++ (c ++ (d ++ rest))) ≡ (a ++ (b ++ (c ++ d))) ++ rest
first_four_of_five_texts_are_grouped a b c d rest = simp append_assoc

abbrev printed_final_tag : Tag → List (Tag × Bool) → List ℕ
printed_final_tag name tags = printed_tag_if_given name (final_value_of_tag tags name)

pub printed_final_tags_are_printed_tags : (tags : List (Tag × Bool)) → printed_given_tags (final_tags_of tags) ≡ printed_tags (given_tags_in_order (final_value_of_tag tags))
printed_final_tags_are_printed_tags tags = sym (printed_tags_in_order_are_eight_texts (final_value_of_tag tags)
    ∙ first_four_of_five_texts_are_grouped (printed_final_tag tag.Exec tags) (printed_final_tag tag.Follow tags) (printed_final_tag tag.Intercept tags) (printed_final_tag tag.LogInput tags) (printed_last_four_tags (final_tags_of tags)))
