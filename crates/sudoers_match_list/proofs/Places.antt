-- What reads of lists gave.
use Rattle.sudoers_match_list.proofs.Common.{IfSome, List, None, Option, Some, [], ap, arith, get_or, is_some, length, ltb, ltb-true, map, refl, slice_get, slice_get-get_or, slice_get_read, subst, suc, sym, zero, ℕ}
use Rattle.sudoers_match_list.proofs.Common.{◌<◌, ◌∙◌, ◌∷◌, ◌≡◌, ◌≤◌}
use Rattle.std.proofs.lemmas.Bool.Decides.{nat_tests}
use Rattle.std.specs.Borrow.{Bor}

pub missing_element_implies_index_past_end : {X : Type 0} (i n : ℕ) (o : Option (Bor X)) → is_some o ≡ ltb i n → o ≡ None → n ≤ i
missing_element_implies_index_past_end i n None m e = grind (arith, nat_tests)
missing_element_implies_index_past_end i n (Some y) m e = absurd cc

mapped_list_has_mapped_element_at_index : {X Y : Type 0} (f : X → Y) (xs : List X) (i : ℕ) (x : X) → slice_get xs i ≡ Some x → slice_get (map f xs) i ≡ Some (f x)
mapped_list_has_mapped_element_at_index f [] i x e = absurd cc
mapped_list_has_mapped_element_at_index f (y ∷ xs) zero x e = let same : y ≡ x = cc in ap (λ z. Some (f z)) same
mapped_list_has_mapped_element_at_index f (y ∷ xs) (suc i) x e = mapped_list_has_mapped_element_at_index f xs i x e

pub read_element_is_mapped_at_its_index : {X Y : Type 0} (f : X → Y) (xs : List X) (i : ℕ) (o : Option (Bor X)) (x : Bor X) → is_some o ≡ ltb i (length xs)
    → IfSome o (λ y. y.now ≡ get_or xs i y.now) → o ≡ Some x → slice_get (map f xs) i ≡ Some (f x.now)
read_element_is_mapped_at_its_index f xs i None x m h e = absurd cc
read_element_is_mapped_at_its_index f xs i (Some y) x m h e =
    let same : y ≡ x = cc in
    subst (λ (z : Bor _). slice_get (map f xs) i ≡ Some (f z.now)) same
    (mapped_list_has_mapped_element_at_index f xs i y.now (slice_get_read xs (length xs) i y.now refl (ltb-true i (length xs) (sym m)) h))

pub mapped_list_keeps_length : {X Y : Type 0} (f : X → Y) (xs : List X) → length (map f xs) ≡ length xs
mapped_list_keeps_length f [] = refl
mapped_list_keeps_length f (x ∷ xs) = ap suc (mapped_list_keeps_length f xs)

pub mapped_row_is_at_its_index : {X Y : Type 0} (f : X → Y) (xs : List X) (i : ℕ) (d : X) → i < length xs → (y : Y) → y ≡ f (get_or xs i d) → slice_get (map f xs) i ≡ Some y
mapped_row_is_at_its_index f xs i d h y e = mapped_list_has_mapped_element_at_index f xs i (get_or xs i d) (slice_get-get_or xs i d h) ∙ ap Some (sym e)
