-- Definitions of which one is changed.
use Rattle.sudoers_edit.proofs.Common.{Bool, Def, List, [], add-one, ap, ap₂, are_lists_alike, arith, definitions_with_one_changed, drop, drop-map, get_or, get_or-map, length, length-map, map, refl, slice_get}
use Rattle.sudoers_edit.proofs.Common.{slice_index_or, suc, sym, take, take-map, zero, ℕ, ◌&&◌, ◌+◌, ◌<◌, ◌∙◌, ◌∷◌, ◌≡◌, ◌≤◌}
use Rattle.std.specs.Prelude.{Some}
use Rattle.sudoers_edit.proofs.AlikeLemmas.{conjunction_is_associative}

-- a change past the end of either list is not seen
pub change_past_first_list_keeps_alike : (alike : Def → Def → Bool) (change : Def → Def) (xs ys : List Def) (at : ℕ) → length xs ≤ at
    → are_lists_alike alike xs ys ≡ are_lists_alike alike (definitions_with_one_changed at change xs) ys
change_past_first_list_keeps_alike alike change [] ys at past = refl
change_past_first_list_keeps_alike alike change (x ∷ xs) ys zero past = absurd (omega (arith, past))
change_past_first_list_keeps_alike alike change (x ∷ xs) [] (suc at) past = refl
change_past_first_list_keeps_alike alike change (x ∷ xs) (y ∷ ys) (suc at) past = ap (λ z. alike x y && z) (change_past_first_list_keeps_alike alike change xs ys at (omega (arith, past)))

pub change_past_second_list_keeps_alike : (alike : Def → Def → Bool) (change : Def → Def) (xs ys : List Def) (at : ℕ) → length ys ≤ at
    → are_lists_alike alike xs ys ≡ are_lists_alike alike (definitions_with_one_changed at change xs) ys
change_past_second_list_keeps_alike alike change [] ys at past = refl
change_past_second_list_keeps_alike alike change (x ∷ xs) [] zero past = refl
change_past_second_list_keeps_alike alike change (x ∷ xs) [] (suc at) past = refl
change_past_second_list_keeps_alike alike change (x ∷ xs) (y ∷ ys) zero past = absurd (omega (arith, past))
change_past_second_list_keeps_alike alike change (x ∷ xs) (y ∷ ys) (suc at) past = ap (λ z. alike x y && z) (change_past_second_list_keeps_alike alike change xs ys at (omega (arith, past)))

-- a change, in three parts
pub alike_with_change_is_alike_in_parts : (alike : Def → Def → Bool) (change : Def → Def) (xs ys : List Def) (at : ℕ) (x y : Def) → slice_get xs at ≡ Some x → slice_get ys at ≡ Some y
    → ((are_lists_alike alike (take at xs) (take at ys) && alike (change x) y) && are_lists_alike alike (drop (suc at) xs) (drop (suc at) ys))
    ≡ are_lists_alike alike (definitions_with_one_changed at change xs) ys
alike_with_change_is_alike_in_parts alike change [] ys at x y here there = absurd (cc)
alike_with_change_is_alike_in_parts alike change (w ∷ xs) [] at x y here there = absurd (cc)
alike_with_change_is_alike_in_parts alike change (w ∷ xs) (z ∷ ys) zero x y here there =
    let e : w ≡ x = cc in
    let f : z ≡ y = cc in
    ap (λ v. alike (change v) y && are_lists_alike alike xs ys) (sym e) ∙ ap (λ v. alike (change w) v && are_lists_alike alike xs ys) (sym f)
alike_with_change_is_alike_in_parts alike change (w ∷ xs) (z ∷ ys) (suc at) x y here there =
    let rest = alike_with_change_is_alike_in_parts alike change xs ys at x y here there in
    ap (λ b. b && are_lists_alike alike (drop (suc at) xs) (drop (suc at) ys)) (sym (conjunction_is_associative (alike w z) (are_lists_alike alike (take at xs) (take at ys)) (alike (change x) y)))
    ∙ sym (conjunction_is_associative (alike w z) (are_lists_alike alike (take at xs) (take at ys) && alike (change x) y) (are_lists_alike alike (drop (suc at) xs) (drop (suc at) ys)))
    ∙ ap (λ b. alike w z && b) rest

definition_below_length_is_found : (xs : List Def) (at : ℕ) (x : Def) → at < length xs → x ≡ slice_index_or xs at x → slice_get xs at ≡ Some x
definition_below_length_is_found [] at x within is = absurd (omega (arith, within))
definition_below_length_is_found (w ∷ xs) zero x within is = ap (λ v. Some v) (sym is)
definition_below_length_is_found (w ∷ xs) (suc at) x within is = definition_below_length_is_found xs at x (omega (arith, within)) is

pub three_part_values_make_alike_with_change : (alike : Def → Def → Bool) (change : Def → Def) (xs ys : List Def) (at : ℕ) (x y : Def) (a b c : Bool) → at < length xs → at < length ys
    → x ≡ slice_index_or xs at x → y ≡ slice_index_or ys at y
    → a ≡ are_lists_alike alike (take at xs) (take at ys) → b ≡ alike (change x) y → c ≡ are_lists_alike alike (drop (at + 1) xs) (drop (at + 1) ys)
    → ((a && b) && c) ≡ are_lists_alike alike (definitions_with_one_changed at change xs) ys
three_part_values_make_alike_with_change alike change xs ys at x y a b c within inside here there front mid back =
    rw (front, mid, back) (ap (λ n. (are_lists_alike alike (take at xs) (take at ys) && alike (change x) y) && are_lists_alike alike (drop n xs) (drop n ys)) (add-one at)
    ∙ alike_with_change_is_alike_in_parts alike change xs ys at x y (definition_below_length_is_found xs at x within here) (definition_below_length_is_found ys at y inside there))

-- ROWS

pub change_past_first_rows_keeps_alike : {R : Type 0} (alike : Def → Def → Bool) (change : Def → Def) (f g : R → Def) (xs ys : List R) (at : ℕ) → length xs ≤ at
    → are_lists_alike alike (map f xs) (map g ys) ≡ are_lists_alike alike (definitions_with_one_changed at change (map f xs)) (map g ys)
change_past_first_rows_keeps_alike alike change f g xs ys at past = change_past_first_list_keeps_alike alike change (map f xs) (map g ys) at (omega (arith, past, length-map xs f))

pub change_past_second_rows_keeps_alike : {R : Type 0} (alike : Def → Def → Bool) (change : Def → Def) (f g : R → Def) (xs ys : List R) (at : ℕ) → length ys ≤ at
    → are_lists_alike alike (map f xs) (map g ys) ≡ are_lists_alike alike (definitions_with_one_changed at change (map f xs)) (map g ys)
change_past_second_rows_keeps_alike alike change f g xs ys at past = change_past_second_list_keeps_alike alike change (map f xs) (map g ys) at (omega (arith, past, length-map ys g))

pub alike_rows_with_change_have_alike_parts : {R : Type 0} (alike : Def → Def → Bool) (change : Def → Def) (f g : R → Def) (xs ys : List R) (at : ℕ) (d e : R) (a b c : Bool) → at < length xs → at < length ys
    → a ≡ are_lists_alike alike (map f (take at xs)) (map g (take at ys))
    → b ≡ alike (change (f (get_or xs at d))) (g (get_or ys at e)) → c ≡ are_lists_alike alike (map f (drop (at + 1) xs)) (map g (drop (at + 1) ys))
    → ((a && b) && c) ≡ are_lists_alike alike (definitions_with_one_changed at change (map f xs)) (map g ys)
alike_rows_with_change_have_alike_parts alike change f g xs ys at d e a b c within inside front mid back =
    let x : Def = f (get_or xs at d) in
    let y : Def = g (get_or ys at e) in
    three_part_values_make_alike_with_change alike change (map f xs) (map g ys) at x y a b c (omega (arith, within, length-map xs f)) (omega (arith, inside, length-map ys g))
    (sym (get_or-map f xs at d x within)) (sym (get_or-map g ys at e y inside))
    (front ∙ ap₂ (are_lists_alike alike) (sym (take-map f at xs)) (sym (take-map g at ys)))
    mid
    (back ∙ ap₂ (are_lists_alike alike) (sym (drop-map f (at + 1) xs)) (sym (drop-map g (at + 1) ys)))
