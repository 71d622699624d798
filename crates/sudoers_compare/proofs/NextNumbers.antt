-- The number of the next row that passes, for each row.
use Rattle.std.proofs.Common.{◌≡◌, inl, inr, append_assoc, append-nil, ℕ, zero, suc, ◌+◌, ◌≤◌, Bool, not, ◌&&◌, ◌||◌, List, [], ◌∷◌, ◌++◌, Option, Some, None, drop, length, if◌then◌else◌, refl, sym, ap, ap₂, ◌∙◌, arith}
use Rattle.std.specs.Prelude.{reverse, slice_get}
use Rattle.std.specs.Option.{is_some, option_or}
use Rattle.std.specs.Str.{bytes_eq}
use Rattle.std.proofs.lemmas.List.{drop_all, reverse-append}
use Rattle.std.proofs.lemmas.Slice.Eq.{bytes_eq-Decides}
use Rattle.laws_compare.specs.Content.{FlatPrivilegeRow}
use Rattle.sudoers_compare.specs.declared.overruled.Overruling.{Overruling}
use Rattle.sudoers_compare.specs.Overruled.{are_more_than_compared, command_key, compared_row_limit, covering_row_number, is_row_of_all, is_row_of_same_command, overruling_of_row, overrulings_of_rows}
use Rattle.sudoers_compare.specs.NextRows.{AreNextNumbers, first_passing_number, is_next_row_of_all, next_numbers_of_all, next_numbers_of_same_command, next_row_numbers, overruling_among_passing, overruling_of_two}
use Rattle.sudoers_compare.proofs.Chains.{tail_from_item, the_overruling, true_or_false}
use Rattle.laws_compare.proofs.SameAtoms.{alike_bytes_are_same}
use Rattle.sudoers_compare.proofs.FoundRows.{nothing_is_no_item, one_item_is_the_other}

-- ---- what the numbers are

next_number_of_row_from : (passes_for : FlatPrivilegeRow → FlatPrivilegeRow → Bool) (n : ℕ) (rows : List FlatPrivilegeRow) (j : ℕ) (row : FlatPrivilegeRow) → slice_get rows j ≡ Some row
    → slice_get (next_row_numbers passes_for n rows) j ≡ Some (first_passing_number (passes_for row) (n + j + 1) (drop (j + 1) rows))
next_number_of_row_from passes_for n [] j row e = absurd (nothing_is_no_item e)
next_number_of_row_from passes_for n (x ∷ rows) zero row e =
    let here : n + 1 ≡ n + 0 + 1 = omega (arith) in
    ap (λ (r : FlatPrivilegeRow). Some (first_passing_number (passes_for r) (n + 1) rows)) (one_item_is_the_other e)
    ∙ ap (λ (m : ℕ). Some (first_passing_number (passes_for row) m rows)) here
next_number_of_row_from passes_for n (x ∷ rows) (suc j) row e =
    let number : n + 1 + j + 1 ≡ n + suc j + 1 = omega (arith) in
    let place : suc (j + 1) ≡ suc j + 1 = omega (arith) in
    next_number_of_row_from passes_for (n + 1) rows j row e
    ∙ ap₂ (λ (m k : ℕ). Some (first_passing_number (passes_for row) m (drop k (x ∷ rows)))) number place

pub next_number_of_row : (passes_for : FlatPrivilegeRow → FlatPrivilegeRow → Bool) (rows : List FlatPrivilegeRow) (j : ℕ) (row : FlatPrivilegeRow) → slice_get rows j ≡ Some row
    → slice_get (next_row_numbers passes_for 0 rows) j ≡ Some (first_passing_number (passes_for row) (j + 1) (drop (j + 1) rows))
next_number_of_row passes_for rows j row e =
    let number : 0 + j + 1 ≡ j + 1 = omega (arith) in
    next_number_of_row_from passes_for 0 rows j row e ∙ ap (λ (m : ℕ). Some (first_passing_number (passes_for row) m (drop (j + 1) rows))) number

pub next_numbers_of_same_command_are_next : (row : FlatPrivilegeRow) (rows : List FlatPrivilegeRow) → AreNextNumbers (is_row_of_same_command row) rows (next_numbers_of_same_command rows)
next_numbers_of_same_command_are_next row rows j other stands pass =
    let same : command_key row.grant.atom.atom ≡ command_key other.grant.atom.atom = alike_bytes_are_same (command_key row.grant.atom.atom) (command_key other.grant.atom.atom) pass in
    next_number_of_row is_row_of_same_command rows j other stands
    ∙ ap (λ (key : List ℕ). Some (first_passing_number (λ (later : FlatPrivilegeRow). bytes_eq key (command_key later.grant.atom.atom)) (j + 1) (drop (j + 1) rows))) (sym same)

pub next_numbers_of_all_are_next : (rows : List FlatPrivilegeRow) → AreNextNumbers is_row_of_all rows (next_numbers_of_all rows)
next_numbers_of_all_are_next rows j other stands pass = next_number_of_row is_next_row_of_all rows j other stands

-- ---- what two searches find

two_findings_are_one : (a b : Option ℕ) (m k : Bool) → overruling_of_two (the_overruling a (not (is_some a) && m)) (the_overruling b (not (is_some b) && k))
    ≡ the_overruling (option_or a b) (not (is_some (option_or a b)) && (m || k))
two_findings_are_one None None m k = refl
two_findings_are_one None (Some j) m k = refl
two_findings_are_one (Some i) b m k = refl

pub two_searches_find_overruling : (row : FlatPrivilegeRow) (n : ℕ) (behind : List FlatPrivilegeRow)
    → overruling_of_two (overruling_among_passing (is_row_of_same_command row) row compared_row_limit n behind) (overruling_among_passing is_row_of_all row compared_row_limit n behind) ≡ overruling_of_row row n behind
two_searches_find_overruling row n behind =
    two_findings_are_one (covering_row_number (is_row_of_same_command row) row compared_row_limit n behind) (covering_row_number is_row_of_all row compared_row_limit n behind)
    (are_more_than_compared (is_row_of_same_command row) behind) (are_more_than_compared is_row_of_all behind)

-- ---- from the last row to the first

pub bytes_are_alike_either_way : (a b : List ℕ) → bytes_eq a b ≡ bytes_eq b a
bytes_are_alike_either_way a b = elim (true_or_false (bytes_eq a b)) as (λ _. bytes_eq a b ≡ bytes_eq b a) [
  | inl same ↦ same ∙ sym ((bytes_eq-Decides b a).1 (sym (alike_bytes_are_same a b same)))
  | inr other ↦ elim (true_or_false (bytes_eq b a)) as (λ _. bytes_eq a b ≡ bytes_eq b a) [
    | inl same ↦ (bytes_eq-Decides a b).1 (sym (alike_bytes_are_same b a same)) ∙ sym same
    | inr too ↦ other ∙ sym too
  ]
]

pub one_more_number_is_next : (passes_for : FlatPrivilegeRow → FlatPrivilegeRow → Bool) (rows : List FlatPrivilegeRow) (number fewer : ℕ) (row : FlatPrivilegeRow) (next new_next : List (Option ℕ)) (behind : Option ℕ)
    → fewer + 1 ≡ number → slice_get rows fewer ≡ Some row → next ≡ reverse (next_row_numbers passes_for number (drop number rows))
    → behind ≡ first_passing_number (passes_for row) number (drop number rows) → new_next ≡ next ++ behind ∷ [] → new_next ≡ reverse (next_row_numbers passes_for fewer (drop fewer rows))
one_more_number_is_next passes_for rows number fewer row next new_next behind less stands so_far is pushed =
    let first : behind ≡ first_passing_number (passes_for row) (fewer + 1) (drop (fewer + 1) rows) = is ∙ ap (λ (m : ℕ). first_passing_number (passes_for row) m (drop m rows)) (sym less) in
    let before : next ≡ reverse (next_row_numbers passes_for (fewer + 1) (drop (fewer + 1) rows)) = so_far ∙ ap (λ (m : ℕ). reverse (next_row_numbers passes_for m (drop m rows))) (sym less) in
    pushed ∙ ap₂ (λ (ns : List (Option ℕ)) (b : Option ℕ). ns ++ b ∷ []) before first
    ∙ sym (reverse-append (first_passing_number (passes_for row) (fewer + 1) (drop (fewer + 1) rows) ∷ []) (next_row_numbers passes_for (fewer + 1) (drop (fewer + 1) rows)))
    ∙ ap (λ (here : List FlatPrivilegeRow). reverse (next_row_numbers passes_for fewer here)) (sym (tail_from_item rows fewer row stands))

pub first_row_one_further_to_front : (passes : FlatPrivilegeRow → Bool) (rows : List FlatPrivilegeRow) (number fewer : ℕ) (row : FlatPrivilegeRow) (nearest new_nearest : Option ℕ) → fewer + 1 ≡ number
    → slice_get rows fewer ≡ Some row → nearest ≡ first_passing_number passes number (drop number rows) → new_nearest ≡ (if passes row then Some fewer else nearest)
    → new_nearest ≡ first_passing_number passes fewer (drop fewer rows)
first_row_one_further_to_front passes rows number fewer row nearest new_nearest less stands so_far is =
    is ∙ ap (λ (o : Option ℕ). if passes row then Some fewer else o) (so_far ∙ ap (λ (m : ℕ). first_passing_number passes m (drop m rows)) (sym less))
    ∙ ap (first_passing_number passes fewer) (sym (tail_from_item rows fewer row stands))

-- ---- from the first row to the last

pub one_more_row_has_finding : (rows : List FlatPrivilegeRow) (number : ℕ) (row : FlatPrivilegeRow) (found new_found all : List Overruling) (one : Overruling) → slice_get rows number ≡ Some row
    → found ++ overrulings_of_rows number (drop number rows) ≡ all → one ≡ overruling_of_row row (number + 1) (drop (number + 1) rows) → new_found ≡ found ++ one ∷ []
    → new_found ++ overrulings_of_rows (number + 1) (drop (number + 1) rows) ≡ all
one_more_row_has_finding rows number row found new_found all one stands so_far is pushed =
    let rest = overrulings_of_rows (number + 1) (drop (number + 1) rows) in
    ap (λ (fs : List Overruling). fs ++ rest) pushed ∙ append_assoc found (one ∷ []) rest
    ∙ ap (λ (o : Overruling). found ++ o ∷ rest) is
    ∙ ap (λ (here : List FlatPrivilegeRow). found ++ overrulings_of_rows number here) (sym (tail_from_item rows number row stands)) ∙ so_far

pub all_rows_have_findings : (rows : List FlatPrivilegeRow) (number : ℕ) (found all : List Overruling) → length rows ≤ number → found ++ overrulings_of_rows number (drop number rows) ≡ all → found ≡ all
all_rows_have_findings rows number found all last so_far =
    sym (append-nil found) ∙ ap (λ (here : List FlatPrivilegeRow). found ++ overrulings_of_rows number here) (sym (drop_all number rows last)) ∙ so_far
