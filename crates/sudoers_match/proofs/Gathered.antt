-- What is gathered of things one after another.
use Rattle.sudoers_match.proofs.Common.{AddsAllParts, AddsPartsBeforeIndex, IsConcatenationOfParts, List, Some, [], ap, append-nil, append_assoc, drop, drop_all, drop_more, get_or, length, map, refl, slice_get}
use Rattle.sudoers_match.proofs.Common.{subst, suc, sym, zero, ℕ, ◌++◌, ◌+◌, ◌<◌, ◌∙◌, ◌∷◌, ◌≡◌, ◌≤◌}
use Rattle.std.proofs.lemmas.Option.{slice_get-get_or, slice_get_within}
use Rattle.std.proofs.Math.Numerals.{add-one}

pub list_from_index_is_element_and_rest : {X : Type 0} (xs : List X) (i : ℕ) (x : X) → slice_get xs i ≡ Some x → drop i xs ≡ x ∷ drop (i + 1) xs
list_from_index_is_element_and_rest xs i x at =
    let within = slice_get_within xs i x at in
    let same : get_or xs i x ≡ x = let two : Some (get_or xs i x) ≡ Some x = sym (slice_get-get_or xs i x within) ∙ at in cc in
    drop_more xs i x within ∙ ap (λ y. y ∷ drop (i + 1) xs) same

-- what is first of the rest, and what is left then
pub first_of_rest_is_element_at_index : {X : Type 0} (xs : List X) (n : ℕ) (x : X) (ys : List X) → drop n xs ≡ x ∷ ys → slice_get xs n ≡ Some x
first_of_rest_is_element_at_index xs zero x ys e = ap (λ zs. slice_get zs 0) e
first_of_rest_is_element_at_index [] (suc n) x ys e = absurd cc
first_of_rest_is_element_at_index (z ∷ xs) (suc n) x ys e = first_of_rest_is_element_at_index xs n x ys e

rest_after_first_is_from_successor : {X : Type 0} (xs : List X) (n : ℕ) (x : X) (ys : List X) → drop n xs ≡ x ∷ ys → drop (suc n) xs ≡ ys
rest_after_first_is_from_successor xs zero x ys e = ap (drop 1) e
rest_after_first_is_from_successor [] (suc n) x ys e = absurd cc
rest_after_first_is_from_successor (z ∷ xs) (suc n) x ys e = rest_after_first_is_from_successor xs n x ys e

pub rest_after_first_is_from_next : {X : Type 0} (xs : List X) (n : ℕ) (x : X) (ys : List X) → drop n xs ≡ x ∷ ys → drop (n + 1) xs ≡ ys
rest_after_first_is_from_next xs n x ys e = ap (λ m. drop m xs) (add-one n) ∙ rest_after_first_is_from_successor xs n x ys e

pub mapped_list_has_mapped_element_at_index : {X Y : Type 0} (f : X → Y) (xs : List X) (i : ℕ) (x : X) → slice_get xs i ≡ Some x → slice_get (map f xs) i ≡ Some (f x)
mapped_list_has_mapped_element_at_index f [] i x e = absurd cc
mapped_list_has_mapped_element_at_index f (y ∷ xs) zero x e = let same : y ≡ x = cc in ap (λ z. Some (f z)) same
mapped_list_has_mapped_element_at_index f (y ∷ xs) (suc i) x e = mapped_list_has_mapped_element_at_index f xs i x e

-- the value that the row at this place is
pub mapped_row_is_at_its_index : {X Y : Type 0} (f : X → Y) (xs : List X) (i : ℕ) (d : X) → i < length xs → (y : Y) → y ≡ f (get_or xs i d) → slice_get (map f xs) i ≡ Some y
mapped_row_is_at_its_index f xs i d h y e = mapped_list_has_mapped_element_at_index f xs i (get_or xs i d) (slice_get-get_or xs i d h) ∙ ap Some (sym e)

module _ {X Y : Type 0} (Part : ℕ → X → List Y → Type 0) where
  -- one thing more
  pub joined_more : (i : ℕ) (x : X) (xs : List X) (more rest : List Y) → Part i x more → IsConcatenationOfParts Part (i + 1) xs rest → IsConcatenationOfParts Part i (x ∷ xs) (more ++ rest)
  joined_more i x xs more rest p j = (more, rest, refl, p, subst (λ n. IsConcatenationOfParts Part n xs rest) (add-one i) j)

  module _ (xs : List X) where
    pub none_added : (old : List Y) → AddsPartsBeforeIndex Part xs 0 old old
    none_added old = record { added = []; are = sym (append-nil old); joined = λ rest j. j }

    pub one_added : (i : ℕ) (x : X) (old mid new more : List Y) → slice_get xs i ≡ Some x → AddsPartsBeforeIndex Part xs i old mid → new ≡ mid ++ more
        → Part i x more → AddsPartsBeforeIndex Part xs (i + 1) old new
    one_added i x old mid new more at a e p = record {
      added = a.added ++ more;
      are = e ∙ ap (λ ys. ys ++ more) a.are ∙ append_assoc old a.added more;
      joined = λ rest j. subst (IsConcatenationOfParts Part 0 xs) (sym (append_assoc a.added more rest))
          (a.joined (more ++ rest) (subst (λ zs. IsConcatenationOfParts Part i zs (more ++ rest)) (sym (list_from_index_is_element_and_rest xs i x at))
          (joined_more i x (drop (i + 1) xs) more rest p j)));
    }

    pub all_added : (i : ℕ) (old new : List Y) → length xs ≤ i → AddsPartsBeforeIndex Part xs i old new → AddsAllParts Part xs old new
    all_added i old new h a = record {
      added = a.added;
      are = a.are;
      joined = subst (IsConcatenationOfParts Part 0 xs) (append-nil a.added) (a.joined [] (subst (λ zs. IsConcatenationOfParts Part i zs []) (sym (drop_all i xs h)) refl));
    }
