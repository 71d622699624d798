-- The lists that are kept of rows.
use Rattle.std.proofs.Common.{◌≡◌, ℕ, zero, suc, List, [], ◌∷◌, ◌++◌, Some, length, map, refl, sym, ap, ◌∙◌, ◌+◌, ◌<◌, append_assoc, arith, drop, get_or}
use Rattle.std.specs.Prelude.{slice_get}
use Rattle.std.specs.List.{flat_map}
use Rattle.std.proofs.lemmas.List.{drop_more}
use Rattle.laws_compare.specs.Content.{FlatPrivilegeRow}
use Rattle.sudoers_compare.specs.declared.row_lists.RowLists.{RowLists}
use Rattle.sudoers_compare.specs.RowLists.{AreListsKept, ListsWithBits, NumberedLists, lists_of_kept, lists_of_placed_row, lists_of_row}
use Rattle.sudoers_compare.specs.FlatSpecs.{PlacedRow, placed_row_of_view, row_of_placed_view}
use Rattle.sudoers_compare.specs.declared.flat_rows.PlacedFlatRow.{PlacedFlatRow}
use Rattle.sudoers_compare.proofs.FoundRows.{nothing_is_no_item, one_item_is_the_other}

pub map_of_two : {X Y : Type 0} → (f : X → Y) (xs ys : List X) → map f (xs ++ ys) ≡ map f xs ++ map f ys
map_of_two f [] ys = refl
map_of_two f (x ∷ xs) ys = ap (λ (zs : List _). f x ∷ zs) (map_of_two f xs ys)

-- The lists of one more, and those of the rest, are those of all.
pub lists_of_one_more : {X : Type 0} → (rows_of : X → List PlacedRow) (xs : List X) (i : ℕ) (x : X) (before now all : List ListsWithBits) → i < length xs → x ≡ get_or xs i x → now ≡ before ++ map lists_of_placed_row (rows_of x)
    → before ++ map lists_of_placed_row (flat_map rows_of (drop i xs)) ≡ all → now ++ map lists_of_placed_row (flat_map rows_of (drop (i + 1) xs)) ≡ all
lists_of_one_more rows_of xs i x before now all below is added so_far =
    let behind = flat_map rows_of (drop (i + 1) xs) in
    ap (λ (ls : List ListsWithBits). ls ++ map lists_of_placed_row behind) added
    ∙ append_assoc before (map lists_of_placed_row (rows_of x)) (map lists_of_placed_row behind)
    ∙ ap (λ (ls : List ListsWithBits). before ++ ls) (sym (map_of_two lists_of_placed_row (rows_of x) behind))
    ∙ ap (λ (left : List _). before ++ map lists_of_placed_row (flat_map rows_of left)) (sym (drop_more xs i x below ∙ ap (λ (y : _). y ∷ drop (i + 1) xs) (sym is)))
    ∙ so_far

pub one_more_copy_is_kept : (before now rest_before rest all : List ListsWithBits) (one : ListsWithBits) → now ≡ before ++ one ∷ [] → rest_before ≡ one ∷ rest → before ++ rest_before ≡ all → now ++ rest ≡ all
one_more_copy_is_kept before now rest_before rest all one added split so_far =
    ap (λ (ls : List ListsWithBits). ls ++ rest) added ∙ append_assoc before (one ∷ []) rest ∙ ap (λ (ls : List ListsWithBits). before ++ ls) (sym split) ∙ so_far

pub tail_begins : {X : Type 0} → (xs : List X) (i : ℕ) → i < length xs → (x : X) × (drop i xs ≡ x ∷ drop (i + 1) xs)
tail_begins [] i below = absurd (omega (arith, below))
tail_begins (y ∷ xs) zero below = (y, refl)
tail_begins (y ∷ xs) (suc i) below =
    let inner = tail_begins xs i (omega (arith, below)) in
    let further : suc (i + 1) ≡ suc i + 1 = omega (arith) in
    (inner.0, inner.1 ∙ ap (λ (m : ℕ). inner.0 ∷ drop m (y ∷ xs)) further)

-- what is at one place of lists that are mapped to the same is mapped to the same
items_of_same_lists : {X Y Z : Type 0} → (f : X → Z) (g : Y → Z) (xs : List X) (ys : List Y) (j : ℕ) (x : X) (y : Y) → map f xs ≡ map g ys → slice_get xs j ≡ Some x → slice_get ys j ≡ Some y → f x ≡ g y
items_of_same_lists f g [] ys j x y same stands stands_too = absurd (nothing_is_no_item stands)
items_of_same_lists f g (a ∷ xs) [] j x y same stands stands_too = absurd (nothing_is_no_item stands_too)
items_of_same_lists f g (a ∷ xs) (b ∷ ys) zero x y same stands stands_too =
    let first : f a ≡ g b = cc same in
    ap f (sym (one_item_is_the_other stands)) ∙ first ∙ ap g (one_item_is_the_other stands_too)
items_of_same_lists f g (a ∷ xs) (b ∷ ys) (suc j) x y same stands stands_too =
    let rest : map f xs ≡ map g ys = cc same in
    items_of_same_lists f g xs ys j x y rest stands stands_too

rows_of_placed : (rows : List PlacedFlatRow) → map lists_of_placed_row (map placed_row_of_view rows) ≡ map lists_of_row (map row_of_placed_view rows)
rows_of_placed [] = refl
rows_of_placed (row ∷ rows) = ap (λ (ls : List ListsWithBits). lists_of_row (row_of_placed_view row) ∷ ls) (rows_of_placed rows)

pub lists_of_rows_are_kept : (all : NumberedLists) (kept : List RowLists) (rows : List PlacedFlatRow) (placed : List PlacedRow) → map (lists_of_kept all) kept ≡ map lists_of_placed_row placed
    → map placed_row_of_view rows ≡ placed → AreListsKept all kept (map row_of_placed_view rows)
lists_of_rows_are_kept all kept rows placed same is j lists row stands stands_too =
    items_of_same_lists (lists_of_kept all) lists_of_row kept (map row_of_placed_view rows) j lists row
    (same ∙ ap (map lists_of_placed_row) (sym is) ∙ rows_of_placed rows) stands stands_too

-- no lists at all
abbrev pub no_lists : NumberedLists
no_lists = record { users = λ spec. []; hosts = λ spec group. [] }

pub no_lists_are_kept : (all : NumberedLists) (rows : List FlatPrivilegeRow) → AreListsKept all [] rows
no_lists_are_kept all rows j lists row stands stands_too = absurd (nothing_is_no_item stands)
