-- The rows with their marks, from one place on.
use Rattle.std.proofs.Common.{◌≡◌, ℕ, zero, suc, ◌+◌, ◌<◌, ◌≤◌, Bool, true, false, List, [], ◌∷◌, ◌++◌, drop, get_or, length, map, refl, sym, ap, ap₂, ◌∙◌, arith, append-nil, append_assoc}
use Rattle.std.proofs.Math.Seq.{drop-nil}
use Rattle.std.specs.List.{flat_map}
use Rattle.sudoers_tree.specs.Load.{LoadedPolicy}
use Rattle.sudoers_compare.specs.declared.flat_rows.PlacedFlatRow.{PlacedFlatRow}
use Rattle.sudoers_compare.specs.FlatSpecs.{PlacedRow, placed_row_of_view}
use Rattle.sudoers_review.specs.declared.changed_rows.MarkedRows.{MarkedRows}
use Rattle.sudoers_compare.specs.declared.same_row.CountedChanges.{CountedChanges}
use Rattle.sudoers_review.specs.ChangedText.{changed_row_lines, line_of_new_row, line_of_old_row, marked_rows, marked_rows_in_front, rows_behind_first_unmarked, rows_with_marks}
use Rattle.sudoers_review.specs.Views.{marked_rows_of_view}

nothing_is_marked : (n : ℕ) → get_or [] n false ≡ false
nothing_is_marked zero = refl
nothing_is_marked (suc n) = refl

row_from_place_on : {X : Type 0} → (f : X → PlacedRow) (marks : List Bool) (xs : List X) (i : ℕ) (d : X) → i < length xs
    → drop i (rows_with_marks marks (map f xs)) ≡ (get_or marks i false, f (get_or xs i d)) ∷ drop (suc i) (rows_with_marks marks (map f xs))
row_from_place_on f marks [] i d within = absurd (omega (arith, within))
row_from_place_on f [] (x ∷ xs) zero d within = refl
row_from_place_on f (m ∷ marks) (x ∷ xs) zero d within = refl
row_from_place_on f [] (x ∷ xs) (suc i) d within = row_from_place_on f [] xs i d (omega (arith, within)) ∙ ap (λ (m : Bool). (m, f (get_or xs i d)) ∷ drop (suc i) (rows_with_marks [] (map f xs))) (nothing_is_marked i)
row_from_place_on f (m ∷ marks) (x ∷ xs) (suc i) d within = row_from_place_on f marks xs i d (omega (arith, within))

-- the row with this number and its mark, and the rows behind it
pub row_with_mark_stands : {X : Type 0} → (f : X → PlacedRow) (marks : List Bool) (xs : List X) (i : ℕ) (d : X) → i < length xs
    → drop i (rows_with_marks marks (map f xs)) ≡ (get_or marks i false, f (get_or xs i d)) ∷ drop (i + 1) (rows_with_marks marks (map f xs))
row_with_mark_stands f marks xs i d within =
    let next : suc i ≡ i + 1 = omega (arith) in
    row_from_place_on f marks xs i d within ∙ ap (λ (n : ℕ). (get_or marks i false, f (get_or xs i d)) ∷ drop n (rows_with_marks marks (map f xs))) next

pub no_row_stands_behind_last : {X : Type 0} → (f : X → PlacedRow) (marks : List Bool) (xs : List X) (i : ℕ) → length xs ≤ i → drop i (rows_with_marks marks (map f xs)) ≡ []
no_row_stands_behind_last f marks [] i end = drop-nil i
no_row_stands_behind_last f marks (x ∷ xs) zero end = absurd (omega (arith, end))
no_row_stands_behind_last f [] (x ∷ xs) (suc i) end = no_row_stands_behind_last f [] xs i (omega (arith, end))
no_row_stands_behind_last f (m ∷ marks) (x ∷ xs) (suc i) end = no_row_stands_behind_last f marks xs i (omega (arith, end))

-- ---- the rows that the code holds

pub held_row_stands : (held : MarkedRows) (i : ℕ) (d : PlacedFlatRow) (mark read : Bool) → i < length held.rows.now → read ≡ mark → read ≡ get_or held.marks.now i false
    → drop i (marked_rows_of_view held) ≡ (mark, placed_row_of_view (get_or held.rows.now i d)) ∷ drop (i + 1) (marked_rows_of_view held)
held_row_stands held i d mark read within is said =
    row_with_mark_stands placed_row_of_view held.marks.now held.rows.now i d within
    ∙ ap (λ (m : Bool). (m, placed_row_of_view (get_or held.rows.now i d)) ∷ drop (i + 1) (marked_rows_of_view held)) (sym said ∙ is)

-- which row it is, does not matter
unmarked_row_stands : (f : PlacedFlatRow → PlacedRow) (marks : List Bool) (xs : List PlacedFlatRow) (i : ℕ) → i < length xs
    → (row : PlacedRow) × (drop i (rows_with_marks marks (map f xs)) ≡ (get_or marks i false, row) ∷ drop (i + 1) (rows_with_marks marks (map f xs)))
unmarked_row_stands f marks [] i within = absurd (omega (arith, within))
unmarked_row_stands f marks (x ∷ xs) i within = (f (get_or (x ∷ xs) i x), row_with_mark_stands f marks (x ∷ xs) i x within)

pub held_row_without_mark_stands : (held : MarkedRows) (i : ℕ) (read : Bool) → i < length held.rows.now → read ≡ false → read ≡ get_or held.marks.now i false
    → (row : PlacedRow) × (drop i (marked_rows_of_view held) ≡ (false, row) ∷ drop (i + 1) (marked_rows_of_view held))
held_row_without_mark_stands held i read within is said =
    let found = unmarked_row_stands placed_row_of_view held.marks.now held.rows.now i within in
    (found.0, found.1 ∙ ap (λ (m : Bool). (m, found.0) ∷ drop (i + 1) (marked_rows_of_view held)) (sym said ∙ is))

pub no_held_row_stands_behind_last : (held : MarkedRows) (i : ℕ) → length held.rows.now ≤ i → drop i (marked_rows_of_view held) ≡ []
no_held_row_stands_behind_last held i end = no_row_stands_behind_last placed_row_of_view held.marks.now held.rows.now i end

-- ---- their lines, each behind those so far

pub marked_line_is_appended : (line : PlacedRow → List ℕ) (o next : List ℕ) (before rest : List (Bool × PlacedRow)) (row : PlacedRow)
    → before ≡ (true, row) ∷ rest → next ≡ o ++ line row → next ++ flat_map line (marked_rows rest) ≡ o ++ flat_map line (marked_rows before)
marked_line_is_appended line o next before rest row stands e =
    ap (λ (text : List ℕ). text ++ flat_map line (marked_rows rest)) e ∙ append_assoc o (line row) (flat_map line (marked_rows rest))
    ∙ ap (λ (rows : List (Bool × PlacedRow)). o ++ flat_map line (marked_rows rows)) (sym stands)

pub unmarked_row_has_no_line : (line : PlacedRow → List ℕ) (o next : List ℕ) (before rest : List (Bool × PlacedRow)) (row : PlacedRow)
    → before ≡ (false, row) ∷ rest → next ≡ o → next ++ flat_map line (marked_rows rest) ≡ o ++ flat_map line (marked_rows before)
unmarked_row_has_no_line line o next before rest row stands e =
    ap (λ (text : List ℕ). text ++ flat_map line (marked_rows rest)) e ∙ ap (λ (rows : List (Bool × PlacedRow)). o ++ flat_map line (marked_rows rows)) (sym stands)

pub no_line_is_left : (line : PlacedRow → List ℕ) (o : List ℕ) (rows : List (Bool × PlacedRow)) → rows ≡ [] → o ≡ o ++ flat_map line (marked_rows rows)
no_line_is_left line o rows end = sym (append-nil o) ∙ ap (λ (left : List (Bool × PlacedRow)). o ++ flat_map line (marked_rows left)) (sym end)

pub marked_line_in_front_is_appended : (line : PlacedRow → List ℕ) (o next : List ℕ) (before rest : List (Bool × PlacedRow)) (row : PlacedRow)
    → before ≡ (true, row) ∷ rest → next ≡ o ++ line row → next ++ flat_map line (marked_rows_in_front rest) ≡ o ++ flat_map line (marked_rows_in_front before)
marked_line_in_front_is_appended line o next before rest row stands e =
    ap (λ (text : List ℕ). text ++ flat_map line (marked_rows_in_front rest)) e ∙ append_assoc o (line row) (flat_map line (marked_rows_in_front rest))
    ∙ ap (λ (rows : List (Bool × PlacedRow)). o ++ flat_map line (marked_rows_in_front rows)) (sym stands)

pub rows_behind_marked_row_are_same : (before rest : List (Bool × PlacedRow)) (row : PlacedRow) → before ≡ (true, row) ∷ rest
    → rows_behind_first_unmarked rest ≡ rows_behind_first_unmarked before
rows_behind_marked_row_are_same before rest row stands = ap rows_behind_first_unmarked (sym stands)

pub unmarked_row_ends_lines_in_front : (line : PlacedRow → List ℕ) (o : List ℕ) (before rest : List (Bool × PlacedRow)) (row : PlacedRow)
    → before ≡ (false, row) ∷ rest → o ≡ o ++ flat_map line (marked_rows_in_front before)
unmarked_row_ends_lines_in_front line o before rest row stands =
    sym (append-nil o) ∙ ap (λ (rows : List (Bool × PlacedRow)). o ++ flat_map line (marked_rows_in_front rows)) (sym stands)

pub rows_behind_unmarked_row_are_rest : (before rest : List (Bool × PlacedRow)) (row : PlacedRow) → before ≡ (false, row) ∷ rest → rest ≡ rows_behind_first_unmarked before
rows_behind_unmarked_row_are_rest before rest row stands = ap rows_behind_first_unmarked (sym stands)

pub last_row_ends_lines_in_front : (line : PlacedRow → List ℕ) (o : List ℕ) (rows : List (Bool × PlacedRow)) → rows ≡ [] → o ≡ o ++ flat_map line (marked_rows_in_front rows)
last_row_ends_lines_in_front line o rows end = sym (append-nil o) ∙ ap (λ (left : List (Bool × PlacedRow)). o ++ flat_map line (marked_rows_in_front left)) (sym end)

pub no_row_is_behind_last : (rows : List (Bool × PlacedRow)) → rows ≡ [] → rows ≡ rows_behind_first_unmarked rows
no_row_is_behind_last rows end = end ∙ ap rows_behind_first_unmarked (sym end)

-- ---- the lines of both policies

pub line_of_old_row_is_appended : (which : CountedChanges) (old new : LoadedPolicy) (o next : List ℕ) (before rest news reached : List (Bool × PlacedRow)) (row : PlacedRow)
    → before ≡ (true, row) ∷ rest → next ≡ o ++ line_of_old_row which old row → reached ≡ news
    → next ++ changed_row_lines which old new rest reached ≡ o ++ changed_row_lines which old new before news
line_of_old_row_is_appended which old new o next before rest news reached row stands e same =
    ap₂ (λ (text : List ℕ) (rows : List (Bool × PlacedRow)). text ++ changed_row_lines which old new rest rows) e same
    ∙ append_assoc o (line_of_old_row which old row) (changed_row_lines which old new rest news)
    ∙ ap (λ (rows : List (Bool × PlacedRow)). o ++ changed_row_lines which old new rows news) (sym stands)

pub lines_of_new_rows_are_appended : (which : CountedChanges) (old new : LoadedPolicy) (o next : List ℕ) (before rest news reached : List (Bool × PlacedRow)) (row : PlacedRow)
    → before ≡ (false, row) ∷ rest → next ≡ o ++ flat_map (line_of_new_row which new) (marked_rows_in_front news) → reached ≡ rows_behind_first_unmarked news
    → next ++ changed_row_lines which old new rest reached ≡ o ++ changed_row_lines which old new before news
lines_of_new_rows_are_appended which old new o next before rest news reached row stands e behind =
    ap₂ (λ (text : List ℕ) (rows : List (Bool × PlacedRow)). text ++ changed_row_lines which old new rest rows) e behind
    ∙ append_assoc o (flat_map (line_of_new_row which new) (marked_rows_in_front news)) (changed_row_lines which old new rest (rows_behind_first_unmarked news))
    ∙ ap (λ (rows : List (Bool × PlacedRow)). o ++ changed_row_lines which old new rows news) (sym stands)

pub lines_of_last_new_rows_are_left : (which : CountedChanges) (old new : LoadedPolicy) (o : List ℕ) (rows news : List (Bool × PlacedRow)) → rows ≡ []
    → o ++ flat_map (line_of_new_row which new) (marked_rows news) ≡ o ++ changed_row_lines which old new rows news
lines_of_last_new_rows_are_left which old new o rows news end = ap (λ (left : List (Bool × PlacedRow)). o ++ changed_row_lines which old new left news) (sym end)
