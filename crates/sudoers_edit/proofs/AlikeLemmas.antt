-- Lists that are alike, in parts.
use Rattle.sudoers_edit.proofs.Common.{Bool, List, [], add-one, ap, ap₂, are_lists_alike, arith, drop, drop-map, false, length, length-map, map, refl, remove, suc, sym, take, take-map, true, zero, ℕ, ◌&&◌, ◌+◌, ◌<◌}
use Rattle.sudoers_edit.proofs.Common.{◌∙◌, ◌∷◌, ◌≡◌, ◌≤◌}

pub conjunction_is_associative : (a b c : Bool) → (a && (b && c)) ≡ ((a && b) && c)
conjunction_is_associative true b c = refl
conjunction_is_associative false b c = refl

-- past the end nothing is taken out
pub removal_past_end_keeps_list : {X : Type 0} (xs : List X) (at : ℕ) → length xs ≤ at → remove xs at ≡ xs
removal_past_end_keeps_list [] zero past = refl
removal_past_end_keeps_list [] (suc at) past = refl
removal_past_end_keeps_list (x ∷ xs) zero past = absurd (omega (arith, past))
removal_past_end_keeps_list (x ∷ xs) (suc at) past = ap (λ z. x ∷ z) (removal_past_end_keeps_list xs at (omega (arith, past)))

-- without an item the list is still longer
pub longer_list_without_item_is_not_alike : {X : Type 0} (alike : X → X → Bool) (xs ys : List X) (at : ℕ) → at < length xs → length ys < at → false ≡ are_lists_alike alike (remove xs at) ys
longer_list_without_item_is_not_alike alike [] ys at within past = absurd (omega (arith, within))
longer_list_without_item_is_not_alike alike (x ∷ xs) ys zero within past = absurd (omega (arith, past))
longer_list_without_item_is_not_alike alike (x ∷ xs) [] (suc at) within past = refl
longer_list_without_item_is_not_alike alike (x ∷ xs) (y ∷ ys) (suc at) within past =
    falsely (alike x y) (are_lists_alike alike (remove xs at) ys) (longer_list_without_item_is_not_alike alike xs ys at (omega (arith, within)) (omega (arith, past)))
  where
    falsely : (a b : Bool) → false ≡ b → false ≡ (a && b)
    falsely true b is = is
    falsely false b is = refl

-- without an item, in two parts
pub alike_without_item_is_alike_in_parts : {X : Type 0} (alike : X → X → Bool) (xs ys : List X) (at : ℕ) → at < length xs → at ≤ length ys
    → (are_lists_alike alike (take at xs) (take at ys) && are_lists_alike alike (drop (suc at) xs) (drop at ys)) ≡ are_lists_alike alike (remove xs at) ys
alike_without_item_is_alike_in_parts alike [] ys at within inside = absurd (omega (arith, within))
alike_without_item_is_alike_in_parts alike (x ∷ xs) ys zero within inside = refl
alike_without_item_is_alike_in_parts alike (x ∷ xs) [] (suc at) within inside = absurd (omega (arith, inside))
alike_without_item_is_alike_in_parts alike (x ∷ xs) (y ∷ ys) (suc at) within inside =
    sym (conjunction_is_associative (alike x y) (are_lists_alike alike (take at xs) (take at ys)) (are_lists_alike alike (drop (suc at) xs) (drop at ys)))
    ∙ ap (λ z. alike x y && z) (alike_without_item_is_alike_in_parts alike xs ys at (omega (arith, within)) (omega (arith, inside)))

pub two_part_values_make_alike_without_item : {X : Type 0} (alike : X → X → Bool) (xs ys : List X) (at : ℕ) (a b : Bool) → at < length xs → at ≤ length ys
    → a ≡ are_lists_alike alike (take at xs) (take at ys) → b ≡ are_lists_alike alike (drop (at + 1) xs) (drop at ys) → (a && b) ≡ are_lists_alike alike (remove xs at) ys
two_part_values_make_alike_without_item alike xs ys at a b within inside front back =
    rw (front, back) (ap (λ n. are_lists_alike alike (take at xs) (take at ys) && are_lists_alike alike (drop n xs) (drop at ys)) (add-one at) ∙ alike_without_item_is_alike_in_parts alike xs ys at within inside)

-- ROWS

-- rows that say the same in the same tables
pub alike_of_equal_rows_is_equal : {R T X : Type 0} (alike : X → X → Bool) (said : T → R → X) (t u v w : T) (items others xs ys : List R) → t ≡ v → u ≡ w → items ≡ xs → others ≡ ys
    → are_lists_alike alike (map (said t) items) (map (said u) others) ≡ are_lists_alike alike (map (said v) xs) (map (said w) ys)
alike_of_equal_rows_is_equal alike said t u v w items others xs ys a b c d = rw (a, b, c, d) refl

-- without a row, in two parts
pub alike_rows_without_row_have_alike_parts : {R X : Type 0} (alike : X → X → Bool) (f g : R → X) (xs ys : List R) (at : ℕ) (a b : Bool) → at < length xs → at ≤ length ys
    → a ≡ are_lists_alike alike (map f (take at xs)) (map g (take at ys)) → b ≡ are_lists_alike alike (map f (drop (at + 1) xs)) (map g (drop at ys))
    → (a && b) ≡ are_lists_alike alike (remove (map f xs) at) (map g ys)
alike_rows_without_row_have_alike_parts alike f g xs ys at a b within inside front back =
    two_part_values_make_alike_without_item alike (map f xs) (map g ys) at a b (omega (arith, within, length-map xs f)) (omega (arith, inside, length-map ys g))
    (front ∙ ap₂ (are_lists_alike alike) (sym (take-map f at xs)) (sym (take-map g at ys)))
    (back ∙ ap₂ (are_lists_alike alike) (sym (drop-map f (at + 1) xs)) (sym (drop-map g at ys)))
