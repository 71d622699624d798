-- The lines on rows that later ones cover, and the rows that are left undecided.
use Rattle.std.proofs.Common.{◌≡◌, ℕ, zero, suc, ◌+◌, ◌<◌, ◌≤◌, min, Bool, true, false, if◌then◌else◌, List, [], ◌∷◌, ◌++◌, codes, Option, Some, None, drop, take, get_or, length, map, refl, sym, ap, ap₂, subst, ◌∙◌, arith, append-nil, append_assoc}
use Rattle.std.specs.Prelude.{slice_get, option_and_then}
use Rattle.std.specs.Fmt.{decimal}
use Rattle.std.proofs.Math.Seq.{drop-nil}
use Rattle.std.proofs.lemmas.List.{drop_more, get_or-map, length-map}
use Rattle.std.proofs.lemmas.Option.{slice_get-get_or, slice_get-map, slice_get_past, slice_get_read}
use Rattle.std.specs.Borrow.{Bor}
use Rattle.std.specs.Option.{option_map}
use Rattle.std.specs.Slice.{IsGetResult}
use Rattle.sudoers_tree.specs.Load.{LoadedPolicy}
use Rattle.laws_compare.specs.Content.{FlatPrivilegeRow}
use Rattle.sudoers_compare.specs.declared.flat_rows.PlacedFlatRow.{PlacedFlatRow}
use Rattle.sudoers_compare.specs.declared.overruled.Overruling.{Overruling}
use Rattle.sudoers_compare.specs.FlatSpecs.{PlacedRow, placed_row_of_view, placed_rows_of_policy, row_of_placed_view}
use Rattle.sudoers_compare.specs.Overruled.{overrulings_of_rows}
use Rattle.sudoers_review.specs.declared.overruled.UndecidedRows.{UndecidedRows}
use Rattle.sudoers_review.specs.OverruledText.{command_text_of_row, overruled_lines, overruled_row_line_if_any, overruled_text, place_text_of_row, text_of_overrulings, undecided_rows, undecided_rows_line}
use Rattle.sudoers_review.specs.Undecided.{AreCountedRows}

pub six_parts_are_grouped : (o a b c d e f : List ℕ) → (((((o ++ a) ++ b) ++ c) ++ d) ++ e) ++ f ≡ o ++ (a ++ b ++ c ++ d ++ e ++ f)
six_parts_are_grouped o a b c d e f = simp append_assoc

-- ---- the lines on covered rows, from one place on

nothing_found_has_no_line : (policy : LoadedPolicy) (all rows : List PlacedRow) → overruled_lines policy all rows [] ≡ []
nothing_found_has_no_line policy all [] = refl
nothing_found_has_no_line policy all (row ∷ rows) = refl

pub no_overruled_line_is_left : (policy : LoadedPolicy) (all rows : List PlacedRow) (found : List Overruling) (n : ℕ) → min (length rows) (length found) ≤ n
    → overruled_lines policy all (drop n rows) (drop n found) ≡ []
no_overruled_line_is_left policy all [] found n end = ap (λ (left : List PlacedRow). overruled_lines policy all left (drop n found)) (drop-nil n)
no_overruled_line_is_left policy all (row ∷ rows) [] n end =
    ap (λ (left : List Overruling). overruled_lines policy all (drop n (row ∷ rows)) left) (drop-nil n) ∙ nothing_found_has_no_line policy all (drop n (row ∷ rows))
no_overruled_line_is_left policy all (row ∷ rows) (one ∷ found) zero end = absurd (omega (arith, end))
no_overruled_line_is_left policy all (row ∷ rows) (one ∷ found) (suc n) end = no_overruled_line_is_left policy all rows found n (omega (arith, end))

pub overruled_lines_end : (policy : LoadedPolicy) (held : List PlacedFlatRow) (found : List Overruling) (n : ℕ) (o : List ℕ) → min (length held) (length found) ≤ n
    → o ≡ o ++ overruled_lines policy (map placed_row_of_view held) (drop n (map placed_row_of_view held)) (drop n found)
overruled_lines_end policy held found n o end =
    let same : length (map placed_row_of_view held) ≡ length held = length-map held placed_row_of_view in
    sym (append-nil o)
    ∙ ap (λ (left : List ℕ). o ++ left) (sym (no_overruled_line_is_left policy (map placed_row_of_view held) (map placed_row_of_view held) found n (omega (arith, end, same))))

pub overruled_line_is_appended : (policy : LoadedPolicy) (all : List PlacedRow) (held : List PlacedFlatRow) (found : List Overruling) (n : ℕ) (d : PlacedFlatRow) (e : Overruling) (o next : List ℕ)
    → n < length held → n < length found
    → next ≡ o ++ overruled_row_line_if_any policy (placed_row_of_view (get_or held n d)) (option_and_then (slice_get all) (get_or found n e).by)
    → next ++ overruled_lines policy all (drop (n + 1) (map placed_row_of_view held)) (drop (n + 1) found)
    ≡ o ++ overruled_lines policy all (drop n (map placed_row_of_view held)) (drop n found)
overruled_line_is_appended policy all held found n d e o next within within_too is =
    let rows : List PlacedRow = map placed_row_of_view held in
    let line : List ℕ = overruled_row_line_if_any policy (placed_row_of_view (get_or held n d)) (option_and_then (slice_get all) (get_or found n e).by) in
    let rest : List ℕ = overruled_lines policy all (drop (n + 1) rows) (drop (n + 1) found) in
    let same : length rows ≡ length held = length-map held placed_row_of_view in
    let split : drop n rows ≡ placed_row_of_view (get_or held n d) ∷ drop (n + 1) rows =
    drop_more rows n (placed_row_of_view d) (omega (arith, within, same))
    ∙ ap (λ (row : PlacedRow). row ∷ drop (n + 1) rows) (get_or-map placed_row_of_view held n d (placed_row_of_view d) within) in
    ap (λ (text : List ℕ). text ++ rest) is ∙ append_assoc o line rest
    ∙ ap₂ (λ (left : List PlacedRow) (ones : List Overruling). o ++ overruled_lines policy all left ones) (sym split) (sym (drop_more found n e within_too))

-- ---- a row that is read

pub row_read_stands : {X Y : Type 0} → (f : X → Y) (xs : List X) (i : ℕ) (r : Option (Bor X)) → IsGetResult xs i i r → option_map (λ (x : Bor X). f x.now) r ≡ slice_get (map f xs) i
row_read_stands f xs i None is =
    let past : length xs ≤ i = is.3 in
    let same : length (map f xs) ≡ length xs = length-map xs f in
    sym (slice_get_past (map f xs) i (omega (arith, past, same)))
row_read_stands f xs i (Some x) is = sym (slice_get-map f xs i ∙ ap (option_map f) (slice_get_read xs (length xs) i x.now refl is.3.0 (is.3.1 x.now)))

-- ---- the rows that are left undecided, counted

nothing_is_no_row : {X : Type 0} {x : X} → None ≡ Some x → ⊥
nothing_is_no_row e = absurd cc

one_is_the_other : {X : Type 0} {x y : X} → Some x ≡ Some y → x ≡ y
one_is_the_other e = cc

row_stands : {X : Type 0} → (xs : List X) (i : ℕ) → i < length xs → (x : X) × (slice_get xs i ≡ Some x)
row_stands [] i within = absurd (omega (arith, within))
row_stands (x ∷ xs) zero within = (x, refl)
row_stands (x ∷ xs) (suc i) within = row_stands xs i (omega (arith, within))

row_behind_stays : (chosen : Bool) (row : PlacedRow) (more before last : List PlacedRow) → more ≡ before ++ last
    → (if chosen then row ∷ more else more) ≡ (if chosen then row ∷ before else before) ++ last
row_behind_stays true row more before last e = ap (λ (rows : List PlacedRow). row ∷ rows) e
row_behind_stays false row more before last e = e

undecided_rows_of_suc : (rows : List PlacedRow) (found : List Overruling) (n : ℕ) (row : PlacedRow) (one : Overruling) → slice_get rows n ≡ Some row → slice_get found n ≡ Some one
    → undecided_rows (take (suc n) rows) (take (suc n) found) ≡ undecided_rows (take n rows) (take n found) ++ undecided_rows (row ∷ []) (one ∷ [])
undecided_rows_of_suc [] found n row one stands stands_too = absurd (nothing_is_no_row stands)
undecided_rows_of_suc (x ∷ xs) [] n row one stands stands_too = absurd (nothing_is_no_row stands_too)
undecided_rows_of_suc (x ∷ xs) (f ∷ fs) zero row one stands stands_too =
    ap₂ (λ (r : PlacedRow) (o : Overruling). undecided_rows (r ∷ []) (o ∷ [])) (one_is_the_other stands) (one_is_the_other stands_too)
undecided_rows_of_suc (x ∷ xs) (f ∷ fs) (suc n) row one stands stands_too =
    row_behind_stays f.are_rows_left_out x (undecided_rows (take (suc n) xs) (take (suc n) fs)) (undecided_rows (take n xs) (take n fs)) (undecided_rows (row ∷ []) (one ∷ []))
    (undecided_rows_of_suc xs fs n row one stands stands_too)

abbrev pub undecided_before : List PlacedRow → List Overruling → ℕ → List PlacedRow
undecided_before rows found n = undecided_rows (take n rows) (take n found)

undecided_rows_of_one_more : (rows : List PlacedRow) (found : List Overruling) (n : ℕ) (row : PlacedRow) (one : Overruling) (left : Bool) → one.are_rows_left_out ≡ left
    → slice_get rows n ≡ Some row → slice_get found n ≡ Some one
    → undecided_before rows found (n + 1) ≡ undecided_before rows found n ++ (if left then row ∷ [] else [])
undecided_rows_of_one_more rows found n row one left is stands stands_too =
    let next : n + 1 ≡ suc n = omega (arith) in
    ap (undecided_before rows found) next ∙ undecided_rows_of_suc rows found n row one stands stands_too
    ∙ ap (λ (b : Bool). undecided_before rows found n ++ (if b then row ∷ [] else [])) is

pub decided_row_is_not_counted : (rows : List PlacedRow) (found : List Overruling) (n : ℕ) (d : Overruling) (counted : UndecidedRows) → length rows ≡ length found → n < length found
    → (get_or found n d).are_rows_left_out ≡ false → AreCountedRows rows counted (undecided_before rows found n) → AreCountedRows rows counted (undecided_before rows found (n + 1))
decided_row_is_not_counted rows found n d counted same within is held =
    let row = row_stands rows n (omega (arith, within, same)) in
    subst (λ (left : List PlacedRow). AreCountedRows rows counted left)
    (sym (undecided_rows_of_one_more rows found n row.0 (get_or found n d) false is row.1 (slice_get-get_or found n d within) ∙ append-nil (undecided_before rows found n))) held

first_row_begins_count : (all left : List PlacedRow) (row : PlacedRow) (counted next : UndecidedRows) → AreCountedRows all counted left → counted.count ≡ 0
    → slice_get all next.first ≡ Some row → next.count ≡ counted.count + 1 → AreCountedRows all next (left ++ row ∷ [])
first_row_begins_count all [] row counted next held none stands more = (omega (arith, more, none), stands)
first_row_begins_count all (x ∷ xs) row counted next held none stands more =
    let many : counted.count ≡ length (x ∷ xs) = held.0 in
    absurd (omega (arith, many, none))

length_of_one_more : {X : Type 0} → (xs : List X) (x : X) → length (xs ++ x ∷ []) ≡ suc (length xs)
length_of_one_more [] x = refl
length_of_one_more (y ∷ ys) x = ap suc (length_of_one_more ys x)

next_row_is_counted : (all left : List PlacedRow) (row : PlacedRow) (counted next : UndecidedRows) → AreCountedRows all counted left → (counted.count ≡ 0 → ⊥)
    → next.first ≡ counted.first → next.count ≡ counted.count + 1 → AreCountedRows all next (left ++ row ∷ [])
next_row_is_counted all [] row counted next held some first more = absurd (some held)
next_row_is_counted all (x ∷ xs) row counted next held some first more =
    let many : counted.count ≡ suc (length xs) = held.0 in
    let longer : length (xs ++ row ∷ []) ≡ suc (length xs) = length_of_one_more xs row in
    (omega (arith, many, longer, more), ap (slice_get all) first ∙ held.1)

pub first_undecided_row_is_counted : (rows : List PlacedRow) (found : List Overruling) (n : ℕ) (d : Overruling) (counted next : UndecidedRows) → length rows ≡ length found → n < length found
    → (get_or found n d).are_rows_left_out ≡ true → counted.count ≡ 0 → next.first ≡ n → next.count ≡ counted.count + 1
    → AreCountedRows rows counted (undecided_before rows found n) → AreCountedRows rows next (undecided_before rows found (n + 1))
first_undecided_row_is_counted rows found n d counted next same within is none first more held =
    let row = row_stands rows n (omega (arith, within, same)) in
    subst (λ (left : List PlacedRow). AreCountedRows rows next left)
    (sym (undecided_rows_of_one_more rows found n row.0 (get_or found n d) true is row.1 (slice_get-get_or found n d within)))
    (first_row_begins_count rows (undecided_before rows found n) row.0 counted next held none (ap (slice_get rows) first ∙ row.1) more)

pub next_undecided_row_is_counted : (rows : List PlacedRow) (found : List Overruling) (n : ℕ) (d : Overruling) (counted next : UndecidedRows) → length rows ≡ length found → n < length found
    → (get_or found n d).are_rows_left_out ≡ true → (counted.count ≡ 0 → ⊥) → next.first ≡ counted.first → next.count ≡ counted.count + 1
    → AreCountedRows rows counted (undecided_before rows found n) → AreCountedRows rows next (undecided_before rows found (n + 1))
next_undecided_row_is_counted rows found n d counted next same within is some first more held =
    let row = row_stands rows n (omega (arith, within, same)) in
    subst (λ (left : List PlacedRow). AreCountedRows rows next left)
    (sym (undecided_rows_of_one_more rows found n row.0 (get_or found n d) true is row.1 (slice_get-get_or found n d within)))
    (next_row_is_counted rows (undecided_before rows found n) row.0 counted next held some first more)

-- ---- the line on them

pub uncounted_rows_are_none : (all left : List PlacedRow) (counted : UndecidedRows) → AreCountedRows all counted left → counted.count ≡ 0 → left ≡ []
uncounted_rows_are_none all [] counted held none = refl
uncounted_rows_are_none all (x ∷ xs) counted held none =
    let many : counted.count ≡ length (x ∷ xs) = held.0 in
    absurd (omega (arith, many, none))

pub rows_without_first_are_none : (all left : List PlacedRow) (counted : UndecidedRows) → AreCountedRows all counted left → slice_get all counted.first ≡ None → left ≡ []
rows_without_first_are_none all [] counted held none = refl
rows_without_first_are_none all (x ∷ xs) counted held none = absurd (nothing_is_no_row (sym none ∙ held.1))

pub no_undecided_line : (policy : LoadedPolicy) (o : List ℕ) (left : List PlacedRow) → left ≡ [] → o ≡ o ++ undecided_rows_line policy left
no_undecided_line policy o left none = sym (append-nil o) ∙ ap (λ (rows : List PlacedRow). o ++ undecided_rows_line policy rows) (sym none)

pub undecided_line_is_appended : (policy : LoadedPolicy) (all left : List PlacedRow) (counted : UndecidedRows) (row : PlacedRow) (o new : List ℕ)
    → AreCountedRows all counted left → (counted.count ≡ 0 → ⊥) → slice_get all counted.first ≡ Some row
    → new ≡ (((((o ++ place_text_of_row policy row) ++ codes ": not decided: ") ++ command_text_of_row row) ++ codes "; commands with more than 64 later rows: ")
    ++ decimal counted.count) ++ codes "\n"
    → new ≡ o ++ undecided_rows_line policy left
undecided_line_is_appended policy all [] counted row o new held some stands e = absurd (some held)
undecided_line_is_appended policy all (x ∷ xs) counted row o new held some stands e =
    let same : row ≡ x = one_is_the_other (sym stands ∙ held.1) in
    e
    ∙ six_parts_are_grouped o (place_text_of_row policy row) (codes ": not decided: ") (command_text_of_row row) (codes "; commands with more than 64 later rows: ") (decimal counted.count) (codes "\n")
    ∙ ap₂ (λ (r : PlacedRow) (n : ℕ). o ++ (place_text_of_row policy r ++ codes ": not decided: " ++ command_text_of_row r ++ codes "; commands with more than 64 later rows: " ++ decimal n ++ codes "\n"))
    same held.0

-- ---- the whole text

pub rows_of_placed_are_rows_of_views : (held : List PlacedFlatRow) → map (λ (placed : PlacedRow). placed.row) (map placed_row_of_view held) ≡ map row_of_placed_view held
rows_of_placed_are_rows_of_views [] = refl
rows_of_placed_are_rows_of_views (x ∷ xs) = ap (λ (rows : List FlatPrivilegeRow). row_of_placed_view x ∷ rows) (rows_of_placed_are_rows_of_views xs)

pub overrulings_are_as_many : (n : ℕ) (rows : List FlatPrivilegeRow) → length (overrulings_of_rows n rows) ≡ length rows
overrulings_are_as_many n [] = refl
overrulings_are_as_many n (row ∷ rows) = ap suc (overrulings_are_as_many (n + 1) rows)

pub found_are_as_many : (held : List PlacedFlatRow) (found : List Overruling) → found ≡ overrulings_of_rows 0 (map row_of_placed_view held) → length found ≡ length held
found_are_as_many held found e = ap length e ∙ overrulings_are_as_many 0 (map row_of_placed_view held) ∙ length-map held row_of_placed_view

pub text_of_found_rows : (policy : LoadedPolicy) (held : List PlacedFlatRow) (found : List Overruling) → map placed_row_of_view held ≡ placed_rows_of_policy policy.walk.lines
    → found ≡ overrulings_of_rows 0 (map row_of_placed_view held) → text_of_overrulings policy (map placed_row_of_view held) found ≡ overruled_text policy
text_of_found_rows policy held found rows e =
    let said : List PlacedRow → List Overruling = λ (placed : List PlacedRow). overrulings_of_rows 0 (map (λ (one : PlacedRow). one.row) placed) in
    ap (text_of_overrulings policy (map placed_row_of_view held)) (e ∙ ap (overrulings_of_rows 0) (sym (rows_of_placed_are_rows_of_views held)))
    ∙ ap (λ (placed : List PlacedRow). text_of_overrulings policy placed (said placed)) rows
