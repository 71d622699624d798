-- What is found of a row: a row that covers it, or that no row behind it does.
use Rattle.std.proofs.Common.{◌≡◌, ◌⊎◌, inl, inr, ℕ, zero, suc, ◌+◌, ◌<◌, ◌≤◌, Bool, true, false, not, ◌&&◌, ◌||◌, List, [], ◌∷◌, Option, Some, None, length, if◌then◌else◌, refl, sym, ap, subst, ◌∙◌, true≢false, arith}
use Rattle.std.specs.Prelude.{slice_get}
use Rattle.std.specs.List.{filter}
use Rattle.std.specs.Option.{is_some, option_or}
use Rattle.std.proofs.lemmas.Bool.{and_parts, ltb-false}
use Rattle.std.proofs.lemmas.Slice.Eq.{bytes_eq-Decides}
use Rattle.std.specs.Str.{bytes_eq}
use Rattle.sudoers_grammar.specs.declared.node.Atom.{Atom}
use Rattle.sudoers_grammar.specs.declared.node.Atom.TheVariants as atom
use Rattle.sudoers_line_rows.specs.Alike.{is_same_args, is_same_atom}
use Rattle.sudoers_match_list.specs.Flat.{is_all_atom, has_no_digests}
use Rattle.laws_compare.specs.Content.{FlatPrivilegeRow}
use Rattle.laws_compare.specs.Decided.{is_any_arguments, is_command_atom_wider, is_covering_grant, is_covering_row, is_list_wider, is_runas_spec_wider, is_same_command_with_any_arguments, is_time_bound_wider}
use Rattle.laws_compare.proofs.SameAtoms.{alike_bytes_are_same}
use Rattle.sudoers_compare.specs.declared.overruled.Overruling.{Overruling}
use Rattle.sudoers_compare.specs.Overruled.{are_more_than_compared, command_key, compared_row_limit, covering_row_number, is_row_of_all, is_row_of_same_command, overruling_of_row, overruling_row_number, overrulings_of_rows}

pub one_item_is_the_other : {X : Type 0} {x y : X} → Some x ≡ Some y → x ≡ y
one_item_is_the_other e = cc

pub nothing_is_no_item : {X : Type 0} {x : X} → None ≡ Some x → ⊥
nothing_is_no_item e = absurd cc

-- ---- a covering row has the same command, or is `ALL`

true_disjunction_has_true_side : (a b : Bool) → (a || b) ≡ true → (a ≡ true) ⊎ (b ≡ true)
true_disjunction_has_true_side true b e = inl refl
true_disjunction_has_true_side false b e = inr e

same_atom_has_same_key : (wide narrow : Atom) → is_same_atom wide narrow ≡ true → command_key narrow ≡ command_key wide
same_atom_has_same_key atom.All atom.All e = refl
same_atom_has_same_key (atom.Alias a) (atom.Alias b) e = sym (alike_bytes_are_same a b e)
same_atom_has_same_key (atom.Name a) (atom.Name b) e = refl
same_atom_has_same_key (atom.Id a) (atom.Id b) e = refl
same_atom_has_same_key (atom.Group a) (atom.Group b) e = refl
same_atom_has_same_key (atom.GroupId a) (atom.GroupId b) e = refl
same_atom_has_same_key (atom.NonUnix a) (atom.NonUnix b) e = refl
same_atom_has_same_key (atom.Netgroup a) (atom.Netgroup b) e = refl
same_atom_has_same_key (atom.Host a) (atom.Host b) e = refl
same_atom_has_same_key (atom.Address a) (atom.Address b) e = refl
same_atom_has_same_key (atom.Network a m) (atom.Network b n) e = refl
same_atom_has_same_key atom.Listing atom.Listing e = refl
same_atom_has_same_key (atom.Path a m) (atom.Path b n) e = sym (alike_bytes_are_same a b (and_parts (bytes_eq a b) (is_same_args m n) e).0)
same_atom_has_same_key (atom.Sudoedit m) (atom.Sudoedit n) e = refl
same_atom_has_same_key a b e = absurd (true≢false (sym e))

command_decided_same_has_same_key : (wide narrow : Atom) → is_same_command_with_any_arguments wide narrow ≡ true → command_key narrow ≡ command_key wide
command_decided_same_has_same_key (atom.Path a m) (atom.Path b n) e = sym (alike_bytes_are_same a b (and_parts (bytes_eq a b) (is_any_arguments m) e).0)
command_decided_same_has_same_key (atom.Sudoedit m) (atom.Sudoedit n) e = refl
command_decided_same_has_same_key a b e = absurd (true≢false (sym e))

abbrev HasSameKeyOrIsAll : Atom → Atom → Type 0
HasSameKeyOrIsAll wide narrow = (bytes_eq (command_key narrow) (command_key wide) ≡ true) ⊎ (is_all_atom wide ≡ true)

atom_decided_wider_has_same_key : (wide narrow : Atom) → is_command_atom_wider wide narrow ≡ true → HasSameKeyOrIsAll wide narrow
atom_decided_wider_has_same_key wide narrow e =
    let sides = true_disjunction_has_true_side (is_all_atom wide || is_same_atom wide narrow) (is_same_command_with_any_arguments wide narrow) e in
    elim sides as (λ _. HasSameKeyOrIsAll wide narrow) [
      | inl other ↦ elim (true_disjunction_has_true_side (is_all_atom wide) (is_same_atom wide narrow) other) as (λ _. HasSameKeyOrIsAll wide narrow) [
        | inl all ↦ inr all
        | inr same ↦ inl ((bytes_eq-Decides (command_key narrow) (command_key wide)).1 (same_atom_has_same_key wide narrow same))
      ]
      | inr path ↦ inl ((bytes_eq-Decides (command_key narrow) (command_key wide)).1 (command_decided_same_has_same_key wide narrow path))
    ]

covering_row_has_same_command_or_all : (later row : FlatPrivilegeRow) → is_covering_row later row ≡ true → (is_row_of_same_command row later ≡ true) ⊎ (is_row_of_all later ≡ true)
covering_row_has_same_command_or_all later row e =
    let grant = (and_parts (is_list_wider later.users row.users && is_list_wider later.hosts row.hosts) (is_covering_grant later.grant row.grant) e).1 in
    let wider = (and_parts
    (is_runas_spec_wider later.grant.runas row.grant.runas && is_time_bound_wider later.grant.options.notbefore row.grant.options.notbefore
    && is_time_bound_wider later.grant.options.notafter row.grant.options.notafter && has_no_digests later.grant.atom.digests)
    (is_command_atom_wider later.grant.atom.atom row.grant.atom.atom) grant).1 in
    atom_decided_wider_has_same_key later.grant.atom.atom row.grant.atom.atom wider

-- ---- a row that is found

-- Of these rows, numbered from n on, the one with this number covers the row.
abbrev pub IsCoveredByNumber : FlatPrivilegeRow → ℕ → List FlatPrivilegeRow → ℕ → Type 0
IsCoveredByNumber row n rows number = (j : ℕ) × (number ≡ n + j) × ((later : FlatPrivilegeRow) × (slice_get rows j ≡ Some later) × (is_covering_row later row ≡ true))

row_stands_one_further : (row x : FlatPrivilegeRow) (n : ℕ) (rows : List FlatPrivilegeRow) (number : ℕ) → IsCoveredByNumber row (n + 1) rows number → IsCoveredByNumber row n (x ∷ rows) number
row_stands_one_further row x n rows number (j, is, there) = (suc j, omega (arith, is), there)

found_here_or_further : (passes covers : Bool) (n number : ℕ) (less same : Option ℕ) → (if passes then (if covers then Some n else less) else same) ≡ Some number
    → ((covers ≡ true) × (n ≡ number)) ⊎ ((less ≡ Some number) ⊎ (same ≡ Some number))
found_here_or_further true true n number less same e = inl (refl, one_item_is_the_other e)
found_here_or_further true false n number less same e = inr (inl e)
found_here_or_further false covers n number less same e = inr (inr e)

found_row_covers : (passes : FlatPrivilegeRow → Bool) (row : FlatPrivilegeRow) (most n : ℕ) (rows : List FlatPrivilegeRow) (number : ℕ) → covering_row_number passes row most n rows ≡ Some number
    → IsCoveredByNumber row n rows number
found_row_covers passes row zero n rows number e = absurd (nothing_is_no_item e)
found_row_covers passes row (suc most) n [] number e = absurd (nothing_is_no_item e)
found_row_covers passes row (suc most) n (later ∷ rows) number e =
    let less = covering_row_number passes row most (n + 1) rows in
    let same = covering_row_number passes row (suc most) (n + 1) rows in
    let where_found = found_here_or_further (passes later) (is_covering_row later row) n number less same e in
    elim where_found as (λ _. IsCoveredByNumber row n (later ∷ rows) number) [
      | inl here ↦ (0, omega (arith, here.1), (later, refl, here.0))
      | inr (inl less) ↦ row_stands_one_further row later n rows number (found_row_covers passes row most (n + 1) rows number less)
      | inr (inr same) ↦ row_stands_one_further row later n rows number (found_row_covers passes row (suc most) (n + 1) rows number same)
    ]

found_first_or_second : (a b : Option ℕ) (number : ℕ) → option_or a b ≡ Some number → (a ≡ Some number) ⊎ (b ≡ Some number)
found_first_or_second None b number e = inr e
found_first_or_second (Some k) b number e = inl e

pub overruling_row_covers : (row : FlatPrivilegeRow) (n : ℕ) (behind : List FlatPrivilegeRow) (number : ℕ) → overruling_row_number row n behind ≡ Some number → IsCoveredByNumber row n behind number
overruling_row_covers row n behind number e =
    let by_same = covering_row_number (is_row_of_same_command row) row compared_row_limit n behind in
    let by_all = covering_row_number is_row_of_all row compared_row_limit n behind in
    let either = found_first_or_second by_same by_all number e in
    elim either as (λ _. IsCoveredByNumber row n behind number) [
      | inl same ↦ found_row_covers (is_row_of_same_command row) row compared_row_limit n behind number same
      | inr all ↦ found_row_covers is_row_of_all row compared_row_limit n behind number all
    ]

-- the row with this number stands behind row i and covers it
abbrev pub IsCoveredBehind : List FlatPrivilegeRow → ℕ → ℕ → FlatPrivilegeRow → ℕ → Type 0
IsCoveredBehind rows n i row number = (j : ℕ) × (number ≡ n + j) × (i < j) × ((later : FlatPrivilegeRow) × (slice_get rows j ≡ Some later) × (is_covering_row later row ≡ true))

overruled_row_is_covered_behind : (n : ℕ) (rows : List FlatPrivilegeRow) (i number : ℕ) (row : FlatPrivilegeRow) (found : Overruling) → slice_get rows i ≡ Some row
    → slice_get (overrulings_of_rows n rows) i ≡ Some found → found.by ≡ Some number → IsCoveredBehind rows n i row number
overruled_row_is_covered_behind n [] i number row found stands is by = absurd (nothing_is_no_item stands)
overruled_row_is_covered_behind n (x ∷ rows) zero number row found stands is by =
    let covered = overruling_row_covers x (n + 1) rows number (ap (λ (o : Overruling). o.by) (one_item_is_the_other is) ∙ by) in
    subst (λ (r : FlatPrivilegeRow). IsCoveredBehind (x ∷ rows) n zero r number) (one_item_is_the_other stands)
    (suc covered.0, omega (arith, covered.1), omega (arith), covered.2)
overruled_row_is_covered_behind n (x ∷ rows) (suc i) number row found stands is by =
    let covered = overruled_row_is_covered_behind (n + 1) rows i number row found stands is by in (suc covered.0, omega (arith, covered.1), omega (arith, covered.2), covered.3)

pub overruled_rows_are_covered : (rows : List FlatPrivilegeRow) (i number : ℕ) (row : FlatPrivilegeRow) (found : Overruling) → slice_get rows i ≡ Some row
    → slice_get (overrulings_of_rows 0 rows) i ≡ Some found → found.by ≡ Some number
    → (i < number) × ((later : FlatPrivilegeRow) × (slice_get rows number ≡ Some later) × (is_covering_row later row ≡ true))
overruled_rows_are_covered rows i number row found stands is by =
    let covered = overruled_row_is_covered_behind 0 rows i number row found stands is by in
    let same : covered.0 ≡ number = omega (arith, covered.1) in
    (omega (arith, same, covered.2), subst (λ (j : ℕ). (later : FlatPrivilegeRow) × (slice_get rows j ≡ Some later) × (is_covering_row later row ≡ true)) same covered.3)

-- ---- a row that stays

no_more_here_and_further : (passes covers : Bool) (most n : ℕ) (x : FlatPrivilegeRow) (passing : List FlatPrivilegeRow) (less same : Option ℕ)
    → (if passes then (if covers then Some n else less) else same) ≡ None → length (if passes then x ∷ passing else passing) ≤ suc most
    → ((covers ≡ false) × (less ≡ None) × (length passing ≤ most)) ⊎ ((passes ≡ false) × (same ≡ None) × (length passing ≤ suc most))
no_more_here_and_further true true most n x passing less same e few = absurd (nothing_is_no_item (sym e))
no_more_here_and_further true false most n x passing less same e few = inl (refl, e, omega (arith, few))
no_more_here_and_further false covers most n x passing less same e few = inr (refl, e, few)

none_passes_here : (passes : Bool) (x : FlatPrivilegeRow) (passing : List FlatPrivilegeRow) → length (if passes then x ∷ passing else passing) ≤ 0
    → (passes ≡ false) × (length passing ≤ 0)
none_passes_here true x passing few = absurd (omega (arith, few))
none_passes_here false x passing few = (refl, few)

-- none of these rows that passes covers the row
abbrev AreNotCovering : (FlatPrivilegeRow → Bool) → FlatPrivilegeRow → List FlatPrivilegeRow → Type 0
AreNotCovering passes row rows = (j : ℕ) (later : FlatPrivilegeRow) → slice_get rows j ≡ Some later → passes later ≡ true → is_covering_row later row ≡ false

one_more_is_not_covering : (passes : FlatPrivilegeRow → Bool) (row x : FlatPrivilegeRow) (rows : List FlatPrivilegeRow) → (passes x ≡ true → is_covering_row x row ≡ false)
    → AreNotCovering passes row rows → AreNotCovering passes row (x ∷ rows)
one_more_is_not_covering passes row x rows first others zero later stands pass =
    let same : x ≡ later = one_item_is_the_other stands in
    subst (λ (r : FlatPrivilegeRow). is_covering_row r row ≡ false) same (first (subst (λ (r : FlatPrivilegeRow). passes r ≡ true) (sym same) pass))
one_more_is_not_covering passes row x rows first others (suc j) later stands pass = others j later stands pass

rows_compared_do_not_cover : (passes : FlatPrivilegeRow → Bool) (row : FlatPrivilegeRow) (most n : ℕ) (rows : List FlatPrivilegeRow) → covering_row_number passes row most n rows ≡ None
    → length (filter passes rows) ≤ most → AreNotCovering passes row rows
rows_compared_do_not_cover passes row most n [] e few = λ j later stands pass. absurd (nothing_is_no_item stands)
rows_compared_do_not_cover passes row zero n (x ∷ rows) e few =
    let none = none_passes_here (passes x) x (filter passes rows) few in
    one_more_is_not_covering passes row x rows (λ pass. absurd (true≢false (sym pass ∙ none.0))) (rows_compared_do_not_cover passes row zero (n + 1) rows refl none.1)
rows_compared_do_not_cover passes row (suc most) n (x ∷ rows) e few =
    let less = covering_row_number passes row most (n + 1) rows in
    let same = covering_row_number passes row (suc most) (n + 1) rows in
    let split = no_more_here_and_further (passes x) (is_covering_row x row) most n x (filter passes rows) less same e few in
    elim split as (λ _. AreNotCovering passes row (x ∷ rows)) [
      | inl here ↦ one_more_is_not_covering passes row x rows (λ pass. here.0) (rows_compared_do_not_cover passes row most (n + 1) rows here.1 here.2)
      | inr other ↦ one_more_is_not_covering passes row x rows (λ pass. absurd (true≢false (sym pass ∙ other.0))) (rows_compared_do_not_cover passes row (suc most) (n + 1) rows other.1 other.2)
    ]

found_neither : (a b : Option ℕ) → option_or a b ≡ None → (a ≡ None) × (b ≡ None)
found_neither None b e = (refl, e)
found_neither (Some k) b e = absurd (nothing_is_no_item (sym e))

left_out_neither : (by : Option ℕ) (a b : Bool) → by ≡ None → (not (is_some by) && (a || b)) ≡ false → (a ≡ false) × (b ≡ false)
left_out_neither None false false none e = (refl, refl)
left_out_neither None false true none e = absurd (true≢false e)
left_out_neither None true b none e = absurd (true≢false e)
left_out_neither (Some k) a b none e = absurd (nothing_is_no_item (sym none))

false_unless_true : (b : Bool) → (b ≡ true → ⊥) → b ≡ false
false_unless_true true denied = absurd (denied refl)
false_unless_true false denied = refl

row_found_to_stay_is_not_covered : (row : FlatPrivilegeRow) (n : ℕ) (behind : List FlatPrivilegeRow) → (overruling_of_row row n behind).by ≡ None → (overruling_of_row row n behind).are_rows_left_out ≡ false
    → (j : ℕ) (later : FlatPrivilegeRow) → slice_get behind j ≡ Some later → is_covering_row later row ≡ false
row_found_to_stay_is_not_covered row n behind none left j later stands =
    let neither = found_neither (covering_row_number (is_row_of_same_command row) row compared_row_limit n behind) (covering_row_number is_row_of_all row compared_row_limit n behind) none in
    let few = left_out_neither (overruling_row_number row n behind) (are_more_than_compared (is_row_of_same_command row) behind) (are_more_than_compared is_row_of_all behind) none left in
    false_unless_true (is_covering_row later row) (λ covers. elim (covering_row_has_same_command_or_all later row covers) as (λ _. ⊥) [
      | inl same ↦ true≢false (sym covers ∙ rows_compared_do_not_cover (is_row_of_same_command row) row compared_row_limit n behind neither.0 (ltb-false compared_row_limit (length (filter (is_row_of_same_command row) behind)) few.0) j later stands same)
      | inr all ↦ true≢false (sym covers ∙ rows_compared_do_not_cover is_row_of_all row compared_row_limit n behind neither.1 (ltb-false compared_row_limit (length (filter is_row_of_all behind)) few.1) j later stands all)
    ])

rows_that_stay_are_not_covered_from : (n : ℕ) (rows : List FlatPrivilegeRow) (i : ℕ) (row : FlatPrivilegeRow) (found : Overruling) → slice_get rows i ≡ Some row
    → slice_get (overrulings_of_rows n rows) i ≡ Some found → found.by ≡ None → found.are_rows_left_out ≡ false
    → (j : ℕ) (later : FlatPrivilegeRow) → i < j → slice_get rows j ≡ Some later → is_covering_row later row ≡ false
rows_that_stay_are_not_covered_from n [] i row found stands is none left j later behind there = absurd (nothing_is_no_item stands)
rows_that_stay_are_not_covered_from n (x ∷ rows) i row found stands is none left zero later behind there = absurd (omega (arith, behind))
rows_that_stay_are_not_covered_from n (x ∷ rows) zero row found stands is none left (suc j) later behind there =
    let same = one_item_is_the_other is in
    subst (λ (r : FlatPrivilegeRow). is_covering_row later r ≡ false) (one_item_is_the_other stands)
    (row_found_to_stay_is_not_covered x (n + 1) rows (ap (λ (o : Overruling). o.by) same ∙ none) (ap (λ (o : Overruling). o.are_rows_left_out) same ∙ left) j later there)
rows_that_stay_are_not_covered_from n (x ∷ rows) (suc i) row found stands is none left (suc j) later behind there =
    rows_that_stay_are_not_covered_from (n + 1) rows i row found stands is none left j later (omega (arith, behind)) there

pub rows_that_stay_are_not_covered : (rows : List FlatPrivilegeRow) (i : ℕ) (row : FlatPrivilegeRow) (found : Overruling) → slice_get rows i ≡ Some row
    → slice_get (overrulings_of_rows 0 rows) i ≡ Some found → found.by ≡ None → found.are_rows_left_out ≡ false
    → (j : ℕ) (later : FlatPrivilegeRow) → i < j → slice_get rows j ≡ Some later → is_covering_row later row ≡ false
rows_that_stay_are_not_covered = rows_that_stay_are_not_covered_from 0
