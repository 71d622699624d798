-- Options, one more at a time.
use Rattle.sudoers_match.proofs.Common.{List, None, Option, OptionName, OptionValues, Some, Tables, [], ap, append_assoc, arith, final_value_of_option, final_values_of_options, get_or, get_or-map, if◌then◌else◌}
use Rattle.sudoers_match.proofs.Common.{length, length-map, map, option_in_tables, option_or, ordinal_of_option, sym, take, take_more, text_in_tables, values_with_option_set, ℕ, ◌++◌, ◌+◌, ◌<◌, ◌==◌, ◌∙◌, ◌∷◌, ◌≡◌}
use Rattle.sudoers_grammar.specs.declared.node.OptionName.TheVariants as option
use Rattle.sudoers_line_rows.specs.declared.rows.OptionRow.{OptionRow}
use Rattle.sudoers_match.proofs.Tagged.{last_value_after_push_is_option_or}

final_option_after_push_is_option_or : (m n : OptionName) (text : List ℕ) (ps : List (OptionName × List ℕ))
    → final_value_of_option (ps ++ (n, text) ∷ []) m ≡ option_or (if ordinal_of_option m == ordinal_of_option n then Some text else None) (final_value_of_option ps m)
final_option_after_push_is_option_or m n text ps = last_value_after_push_is_option_or (λ other. ordinal_of_option m == ordinal_of_option other) ps (n, text)

abbrev option_values_of_ten_values : Option (List ℕ) → Option (List ℕ) → Option (List ℕ) → Option (List ℕ) → Option (List ℕ) → Option (List ℕ) → Option (List ℕ) → Option (List ℕ) → Option (List ℕ) → Option (List ℕ) → OptionValues
option_values_of_ten_values a b c d e f g h i j = record { role = a; kind = b; apparmor_profile = c; privs = d; limitprivs = e; notbefore = f; notafter = g; timeout = h; cwd = i; chroot = j }

pub final_options_after_push_have_option_set : (n : OptionName) (text : List ℕ) (ps : List (OptionName × List ℕ)) → final_values_of_options (ps ++ (n, text) ∷ []) ≡ values_with_option_set n text (final_values_of_options ps)
final_options_after_push_have_option_set n text ps =
    ap (λ (x : Option (List ℕ)). option_values_of_ten_values (x) (final_value_of_option (ps ++ (n, text) ∷ []) option.Type) (final_value_of_option (ps ++ (n, text) ∷ []) option.ApparmorProfile) (final_value_of_option (ps ++ (n, text) ∷ []) option.Privs) (final_value_of_option (ps ++ (n, text) ∷ []) option.Limitprivs) (final_value_of_option (ps ++ (n, text) ∷ []) option.Notbefore) (final_value_of_option (ps ++ (n, text) ∷ []) option.Notafter) (final_value_of_option (ps ++ (n, text) ∷ []) option.Timeout) (final_value_of_option (ps ++ (n, text) ∷ []) option.Cwd) (final_value_of_option (ps ++ (n, text) ∷ []) option.Chroot)) (final_option_after_push_is_option_or option.Role n text ps)
    ∙ ap (λ (x : Option (List ℕ)). option_values_of_ten_values ((values_with_option_set n text (final_values_of_options ps)).role) (x) (final_value_of_option (ps ++ (n, text) ∷ []) option.ApparmorProfile) (final_value_of_option (ps ++ (n, text) ∷ []) option.Privs) (final_value_of_option (ps ++ (n, text) ∷ []) option.Limitprivs) (final_value_of_option (ps ++ (n, text) ∷ []) option.Notbefore) (final_value_of_option (ps ++ (n, text) ∷ []) option.Notafter) (final_value_of_option (ps ++ (n, text) ∷ []) option.Timeout) (final_value_of_option (ps ++ (n, text) ∷ []) option.Cwd) (final_value_of_option (ps ++ (n, text) ∷ []) option.Chroot)) (final_option_after_push_is_option_or option.Type n text ps)
    ∙ ap (λ (x : Option (List ℕ)). option_values_of_ten_values ((values_with_option_set n text (final_values_of_options ps)).role) ((values_with_option_set n text (final_values_of_options ps)).kind) (x) (final_value_of_option (ps ++ (n, text) ∷ []) option.Privs) (final_value_of_option (ps ++ (n, text) ∷ []) option.Limitprivs) (final_value_of_option (ps ++ (n, text) ∷ []) option.Notbefore) (final_value_of_option (ps ++ (n, text) ∷ []) option.Notafter) (final_value_of_option (ps ++ (n, text) ∷ []) option.Timeout) (final_value_of_option (ps ++ (n, text) ∷ []) option.Cwd) (final_value_of_option (ps ++ (n, text) ∷ []) option.Chroot)) (final_option_after_push_is_option_or option.ApparmorProfile n text ps)
    ∙ ap (λ (x : Option (List ℕ)). option_values_of_ten_values ((values_with_option_set n text (final_values_of_options ps)).role) ((values_with_option_set n text (final_values_of_options ps)).kind) ((values_with_option_set n text (final_values_of_options ps)).apparmor_profile) (x) (final_value_of_option (ps ++ (n, text) ∷ []) option.Limitprivs) (final_value_of_option (ps ++ (n, text) ∷ []) option.Notbefore) (final_value_of_option (ps ++ (n, text) ∷ []) option.Notafter) (final_value_of_option (ps ++ (n, text) ∷ []) option.Timeout) (final_value_of_option (ps ++ (n, text) ∷ []) option.Cwd) (final_value_of_option (ps ++ (n, text) ∷ []) option.Chroot)) (final_option_after_push_is_option_or option.Privs n text ps)
    ∙ ap (λ (x : Option (List ℕ)). option_values_of_ten_values ((values_with_option_set n text (final_values_of_options ps)).role) ((values_with_option_set n text (final_values_of_options ps)).kind) ((values_with_option_set n text (final_values_of_options ps)).apparmor_profile) ((values_with_option_set n text (final_values_of_options ps)).privs) (x) (final_value_of_option (ps ++ (n, text) ∷ []) option.Notbefore) (final_value_of_option (ps ++ (n, text) ∷ []) option.Notafter) (final_value_of_option (ps ++ (n, text) ∷ []) option.Timeout) (final_value_of_option (ps ++ (n, text) ∷ []) option.Cwd) (final_value_of_option (ps ++ (n, text) ∷ []) option.Chroot)) (final_option_after_push_is_option_or option.Limitprivs n text ps)
    ∙ ap (λ (x : Option (List ℕ)). option_values_of_ten_values ((values_with_option_set n text (final_values_of_options ps)).role) ((values_with_option_set n text (final_values_of_options ps)).kind) ((values_with_option_set n text (final_values_of_options ps)).apparmor_profile) ((values_with_option_set n text (final_values_of_options ps)).privs) ((values_with_option_set n text (final_values_of_options ps)).limitprivs) (x) (final_value_of_option (ps ++ (n, text) ∷ []) option.Notafter) (final_value_of_option (ps ++ (n, text) ∷ []) option.Timeout) (final_value_of_option (ps ++ (n, text) ∷ []) option.Cwd) (final_value_of_option (ps ++ (n, text) ∷ []) option.Chroot)) (final_option_after_push_is_option_or option.Notbefore n text ps)
    ∙ ap (λ (x : Option (List ℕ)). option_values_of_ten_values ((values_with_option_set n text (final_values_of_options ps)).role) ((values_with_option_set n text (final_values_of_options ps)).kind) ((values_with_option_set n text (final_values_of_options ps)).apparmor_profile) ((values_with_option_set n text (final_values_of_options ps)).privs) ((values_with_option_set n text (final_values_of_options ps)).limitprivs) ((values_with_option_set n text (final_values_of_options ps)).notbefore) (x) (final_value_of_option (ps ++ (n, text) ∷ []) option.Timeout) (final_value_of_option (ps ++ (n, text) ∷ []) option.Cwd) (final_value_of_option (ps ++ (n, text) ∷ []) option.Chroot)) (final_option_after_push_is_option_or option.Notafter n text ps)
    ∙ ap (λ (x : Option (List ℕ)). option_values_of_ten_values ((values_with_option_set n text (final_values_of_options ps)).role) ((values_with_option_set n text (final_values_of_options ps)).kind) ((values_with_option_set n text (final_values_of_options ps)).apparmor_profile) ((values_with_option_set n text (final_values_of_options ps)).privs) ((values_with_option_set n text (final_values_of_options ps)).limitprivs) ((values_with_option_set n text (final_values_of_options ps)).notbefore) ((values_with_option_set n text (final_values_of_options ps)).notafter) (x) (final_value_of_option (ps ++ (n, text) ∷ []) option.Cwd) (final_value_of_option (ps ++ (n, text) ∷ []) option.Chroot)) (final_option_after_push_is_option_or option.Timeout n text ps)
    ∙ ap (λ (x : Option (List ℕ)). option_values_of_ten_values ((values_with_option_set n text (final_values_of_options ps)).role) ((values_with_option_set n text (final_values_of_options ps)).kind) ((values_with_option_set n text (final_values_of_options ps)).apparmor_profile) ((values_with_option_set n text (final_values_of_options ps)).privs) ((values_with_option_set n text (final_values_of_options ps)).limitprivs) ((values_with_option_set n text (final_values_of_options ps)).notbefore) ((values_with_option_set n text (final_values_of_options ps)).notafter) ((values_with_option_set n text (final_values_of_options ps)).timeout) (x) (final_value_of_option (ps ++ (n, text) ∷ []) option.Chroot)) (final_option_after_push_is_option_or option.Cwd n text ps)
    ∙ ap (λ (x : Option (List ℕ)). option_values_of_ten_values ((values_with_option_set n text (final_values_of_options ps)).role) ((values_with_option_set n text (final_values_of_options ps)).kind) ((values_with_option_set n text (final_values_of_options ps)).apparmor_profile) ((values_with_option_set n text (final_values_of_options ps)).privs) ((values_with_option_set n text (final_values_of_options ps)).limitprivs) ((values_with_option_set n text (final_values_of_options ps)).notbefore) ((values_with_option_set n text (final_values_of_options ps)).notafter) ((values_with_option_set n text (final_values_of_options ps)).timeout) ((values_with_option_set n text (final_values_of_options ps)).cwd) (x)) (final_option_after_push_is_option_or option.Chroot n text ps)

pub next_row_sets_its_final_option : (t : Tables) (rows : List OptionRow) (i : ℕ) (d : OptionRow) → i < length rows → (old new : OptionValues) (text : List ℕ)
    → text ≡ text_in_tables t (get_or rows i d).value → new ≡ values_with_option_set (get_or rows i d).name text old → (before : List (OptionName × List ℕ))
    → old ≡ final_values_of_options (before ++ take i (map (option_in_tables t) rows)) → new ≡ final_values_of_options (before ++ take (i + 1) (map (option_in_tables t) rows))
next_row_sets_its_final_option t rows i d within old new text is e before so_far =
    let xs = map (option_in_tables t) rows in
    let row = get_or rows i d in
    e ∙ ap (λ x. values_with_option_set row.name x old) is ∙ ap (values_with_option_set row.name (text_in_tables t row.value)) so_far ∙ sym (final_options_after_push_have_option_set row.name (text_in_tables t row.value) (before ++ take i xs))
    ∙ ap final_values_of_options (append_assoc before (take i xs) ((row.name, text_in_tables t row.value) ∷ [])
    ∙ ap (λ zs. before ++ zs) (sym (take_more xs i (row.name, text_in_tables t row.value) (omega (arith, within, length-map rows (option_in_tables t)))
    ∙ ap (λ z. take i xs ++ z ∷ []) (get_or-map (option_in_tables t) rows i d (row.name, text_in_tables t row.value) within))))
