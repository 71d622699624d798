-- Rows of which some are kept, one after another.
use Rattle.std.proofs.Common.{◌≡◌, ℕ, zero, suc, ◌+◌, ◌<◌, ◌≤◌, min, not, Bool, true, false, List, [], ◌∷◌, ◌++◌, drop, get_or, length, map, refl, sym, ap, ap₂, ◌∙◌, arith, append-nil, append_assoc, if◌then◌else◌}
use Rattle.std.proofs.Math.Seq.{drop-nil}
use Rattle.std.proofs.lemmas.List.{drop_more, map-append}
use Rattle.std.specs.Option.{is_some}
use Rattle.sudoers_compare.specs.declared.overruled.Overruling.{Overruling}
use Rattle.sudoers_compare.specs.FlatSpecs.{PlacedRow}
use Rattle.sudoers_review.proofs.ShownRows.{row_with_mark_stands, no_row_stands_behind_last}
use Rattle.sudoers_review.specs.ChangedText.{marked_rows, rows_with_marks}
use Rattle.sudoers_review_users.specs.UserRows.{rows_not_overruled}

-- ---- rows of which a later one is found, or not

module _ {X : Type 0} (f : X → PlacedRow) where
  -- The rows kept so far, and those behind that are kept, are all that are kept.
  abbrev pub AreUncoveredRowsKept : List X → List Overruling → ℕ → List X → Type 0
  AreUncoveredRowsKept xs found n kept = map f kept ++ rows_not_overruled (map f (drop n xs)) (drop n found) ≡ rows_not_overruled (map f xs) found

  rows_from_place_on : (xs : List X) (found : List Overruling) (n : ℕ) (d : X) (e : Overruling) → n < length xs → n < length found
      → rows_not_overruled (map f (drop n xs)) (drop n found) ≡ rows_not_overruled (f (get_or xs n d) ∷ map f (drop (n + 1) xs)) (get_or found n e ∷ drop (n + 1) found)
  rows_from_place_on xs found n d e within within_too =
      ap₂ (λ (rows : List X) (ones : List Overruling). rows_not_overruled (map f rows) ones) (drop_more xs n d within) (drop_more found n e within_too)

  pub uncovered_row_is_kept : (xs : List X) (found : List Overruling) (n : ℕ) (d : X) (e : Overruling) (is_kept : Bool) (kept next : List X) → n < length xs → n < length found
      → is_some (get_or found n e).by ≡ not is_kept → next ≡ (if is_kept then kept ++ get_or xs n d ∷ [] else kept)
      → AreUncoveredRowsKept xs found n kept → AreUncoveredRowsKept xs found (n + 1) next
  uncovered_row_is_kept xs found n d e true kept next within within_too none pushed so_far =
      let row : PlacedRow = f (get_or xs n d) in
      let behind : List PlacedRow = rows_not_overruled (map f (drop (n + 1) xs)) (drop (n + 1) found) in
      ap (λ (rows : List X). map f rows ++ behind) pushed
      ∙ ap (λ (rows : List PlacedRow). rows ++ behind) (map-append f kept (get_or xs n d ∷ []))
      ∙ append_assoc (map f kept) (row ∷ []) behind
      ∙ ap (λ (b : Bool). map f kept ++ (if b then behind else row ∷ behind)) (sym none)
      ∙ ap (λ (rows : List PlacedRow). map f kept ++ rows) (sym (rows_from_place_on xs found n d e within within_too))
      ∙ so_far
  uncovered_row_is_kept xs found n d e false kept next within within_too some same so_far =
      let row : PlacedRow = f (get_or xs n d) in
      let behind : List PlacedRow = rows_not_overruled (map f (drop (n + 1) xs)) (drop (n + 1) found) in
      ap (λ (rows : List X). map f rows ++ behind) same
      ∙ ap (λ (b : Bool). map f kept ++ (if b then behind else row ∷ behind)) (sym some)
      ∙ ap (λ (rows : List PlacedRow). map f kept ++ rows) (sym (rows_from_place_on xs found n d e within within_too))
      ∙ so_far

  no_row_without_found : (rows : List PlacedRow) → rows_not_overruled rows [] ≡ []
  no_row_without_found [] = refl
  no_row_without_found (row ∷ rows) = refl

  no_row_behind_last : (xs : List X) (found : List Overruling) (n : ℕ) → min (length xs) (length found) ≤ n → rows_not_overruled (map f (drop n xs)) (drop n found) ≡ []
  no_row_behind_last [] found n end = ap (λ (rows : List X). rows_not_overruled (map f rows) (drop n found)) (drop-nil n)
  no_row_behind_last (x ∷ xs) [] n end =
      ap (λ (ones : List Overruling). rows_not_overruled (map f (drop n (x ∷ xs))) ones) (drop-nil n) ∙ no_row_without_found (map f (drop n (x ∷ xs)))
  no_row_behind_last (x ∷ xs) (one ∷ found) zero end = absurd (omega (arith, end))
  no_row_behind_last (x ∷ xs) (one ∷ found) (suc n) end = no_row_behind_last xs found n (omega (arith, end))

  pub all_uncovered_rows_are_kept : (xs : List X) (found : List Overruling) (n : ℕ) (kept : List X) → min (length xs) (length found) ≤ n
      → AreUncoveredRowsKept xs found n kept → map f kept ≡ rows_not_overruled (map f xs) found
  all_uncovered_rows_are_kept xs found n kept end so_far =
      sym (append-nil (map f kept)) ∙ ap (λ (rows : List PlacedRow). map f kept ++ rows) (sym (no_row_behind_last xs found n end)) ∙ so_far

-- ---- rows with marks

module _ {X : Type 0} (f : X → PlacedRow) (marks : List Bool) (xs : List X) where
  -- So it is of the rows that have a mark.
  abbrev pub AreMarkedRowsKept : ℕ → List X → Type 0
  AreMarkedRowsKept n kept = map f kept ++ marked_rows (drop n (rows_with_marks marks (map f xs))) ≡ marked_rows (rows_with_marks marks (map f xs))

  pub marked_row_is_kept : (n : ℕ) (d : X) (is_kept : Bool) (kept next : List X) → n < length xs → is_kept ≡ get_or marks n false
      → next ≡ (if is_kept then kept ++ get_or xs n d ∷ [] else kept) → AreMarkedRowsKept n kept → AreMarkedRowsKept (n + 1) next
  marked_row_is_kept n d true kept next within marked pushed so_far =
      let row : PlacedRow = f (get_or xs n d) in
      let behind : List (Bool × PlacedRow) = drop (n + 1) (rows_with_marks marks (map f xs)) in
      ap (λ (rows : List X). map f rows ++ marked_rows behind) pushed
      ∙ ap (λ (rows : List PlacedRow). rows ++ marked_rows behind) (map-append f kept (get_or xs n d ∷ []))
      ∙ append_assoc (map f kept) (row ∷ []) (marked_rows behind)
      ∙ ap (λ (b : Bool). map f kept ++ marked_rows ((b, row) ∷ behind)) marked
      ∙ ap (λ (rows : List (Bool × PlacedRow)). map f kept ++ marked_rows rows) (sym (row_with_mark_stands f marks xs n d within))
      ∙ so_far
  marked_row_is_kept n d false kept next within unmarked same so_far =
      let row : PlacedRow = f (get_or xs n d) in
      let behind : List (Bool × PlacedRow) = drop (n + 1) (rows_with_marks marks (map f xs)) in
      ap (λ (rows : List X). map f rows ++ marked_rows behind) same
      ∙ ap (λ (b : Bool). map f kept ++ marked_rows ((b, row) ∷ behind)) unmarked
      ∙ ap (λ (rows : List (Bool × PlacedRow)). map f kept ++ marked_rows rows) (sym (row_with_mark_stands f marks xs n d within))
      ∙ so_far

  pub all_marked_rows_are_kept : (n : ℕ) (kept : List X) → length xs ≤ n → AreMarkedRowsKept n kept → map f kept ≡ marked_rows (rows_with_marks marks (map f xs))
  all_marked_rows_are_kept n kept end so_far =
      sym (append-nil (map f kept)) ∙ ap (λ (rows : List (Bool × PlacedRow)). map f kept ++ marked_rows rows) (sym (no_row_stands_behind_last f marks xs n end)) ∙ so_far
