-- The lines of items, one after another.
use Rattle.std.proofs.Common.{◌≡◌, ℕ, zero, suc, inl, inr, arith, ◌+◌, ◌<◌, ◌≤◌, List, [], ◌∷◌, ◌++◌, codes, drop, get_or, length, map, refl, sym, ap, subst, ◌∙◌, append-nil, append_assoc}
use Rattle.std.proofs.lemmas.List.{drop_more, drop_all}
use Rattle.sudoers_check.specs.Chain.{ListHasElement}
use Rattle.sudoers_review_users.specs.UserChanges.{AreLinesOfItems, no_line, next_line}

module _ {Y : Type 0} (IsLine : Y → List ℕ → Type 0) where
  -- Of these items the lines stand behind the text so far.
  abbrev pub AreItemLinesAppended : List Y → List ℕ → List ℕ → Type 0
  AreItemLinesAppended items old new = (lines : List ℕ) × (new ≡ old ++ lines) × AreLinesOfItems IsLine items lines

  -- With the lines of the items behind, all lines are appended.
  abbrev pub AreItemLinesSoFar : List Y → List Y → List ℕ → List ℕ → Type 0
  AreItemLinesSoFar all left old new = (rest : List ℕ) → AreLinesOfItems IsLine left rest → AreItemLinesAppended all old (new ++ rest)

  pub no_item_line_so_far : (all : List Y) (o : List ℕ) → AreItemLinesSoFar all all o o
  no_item_line_so_far all o = λ (rest : List ℕ) (are : AreLinesOfItems IsLine all rest). (rest, refl, are)

  module _ {X : Type 0} (f : X → Y) where
    pub one_more_item_line : (items : List X) (n : ℕ) (d : X) (old o next line : List ℕ) → n < length items → next ≡ o ++ line → IsLine (f (get_or items n d)) line
        → AreItemLinesSoFar (map f items) (map f (drop n items)) old o → AreItemLinesSoFar (map f items) (map f (drop (n + 1) items)) old next
    one_more_item_line items n d old o next line within e is so_far = λ (rest : List ℕ) (are : AreLinesOfItems IsLine (map f (drop (n + 1) items)) rest).
        let item : Y = f (get_or items n d) in
        let split : map f (drop n items) ≡ item ∷ map f (drop (n + 1) items) = ap (map f) (drop_more items n d within) in
        let got = so_far (line ++ rest) (subst (λ (left : List Y). AreLinesOfItems IsLine left (line ++ rest)) (sym split) (next_line item (map f (drop (n + 1) items)) line rest is are)) in
        let same : next ++ rest ≡ o ++ (line ++ rest) = ap (λ (text : List ℕ). text ++ rest) e ∙ append_assoc o line rest in
        (got.0, same ∙ got.1, got.2)

    pub all_item_lines : (items : List X) (n : ℕ) (old o : List ℕ) → length items ≤ n
        → AreItemLinesSoFar (map f items) (map f (drop n items)) old o → AreItemLinesAppended (map f items) old o
    all_item_lines items n old o end so_far =
        let none : [] ≡ map f (drop n items) = sym (ap (map f) (drop_all n items end)) in
        let got = so_far [] (subst (λ (left : List Y). AreLinesOfItems IsLine left []) none no_line) in
        (got.0, sym (append-nil o) ∙ got.1, got.2)

pub item_is_among : {X : Type 0} (xs : List X) (n : ℕ) (d : X) → n < length xs → ListHasElement xs (get_or xs n d)
item_is_among [] n d within = absurd (omega (arith, within))
item_is_among (x ∷ xs) zero d within = inl refl
item_is_among (x ∷ xs) (suc n) d within = inr (item_is_among xs n d (omega (arith, within)))

-- ---- one line, part by part

pub nine_parts_are_grouped : (o a b c d e f g h i : List ℕ) → ((((((o ++ a) ++ b) ++ c) ++ d) ++ e) ++ f) ++ (g ++ h ++ i) ≡ o ++ (a ++ b ++ c ++ d ++ e ++ f ++ g ++ h ++ i)
nine_parts_are_grouped o a b c d e f g h i = simp append_assoc

pub six_parts_are_grouped : (o a b c d e f : List ℕ) → (((((o ++ a) ++ b) ++ c) ++ d) ++ e) ++ f ≡ o ++ (a ++ b ++ (c ++ d) ++ e ++ f)
six_parts_are_grouped o a b c d e f = simp append_assoc

pub example_is_appended : (o so_far first new words : List ℕ) → so_far ≡ o → first ≡ so_far ++ codes "e.g. " → new ≡ first ++ words → new ≡ o ++ (codes "e.g. " ++ words)
example_is_appended o so_far first new words same begun e =
    e ∙ ap (λ (x : List ℕ). x ++ words) (begun ∙ ap (λ (x : List ℕ). x ++ codes "e.g. ") same) ∙ append_assoc o (codes "e.g. ") words
