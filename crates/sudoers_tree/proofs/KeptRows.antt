-- The rows of a walk that stays.
use Rattle.sudoers_tree.proofs.Common.{All, All-head, All-push, All-tail, Bool, KeepsLineCountWithoutFault, Line, List, ParsedFile, ReplaceLinesAtSpots, ReplacesLineAtSpot, Some, WalkLineSpot, [], ap, arith, eqb-true, false}
use Rattle.sudoers_tree.proofs.Common.{get_or, inl, inr, length, length_push, list_any, nat_eq, refl, slice_get, subst, suc, sym, take, take_more, true, zero, ℕ, ◌++◌, ◌+◌, ◌<◌, ◌||◌, ◌∙◌, ◌∷◌, ◌≡◌, ◌⊎◌}

-- What holds of the first items and of the next holds of one more.
pub property_of_front_extends_to_next_item : {A : Type 0} (P : A → Type 0) (xs : List A) (i : ℕ) (d : A) → i < length xs → All P (take i xs) → P (get_or xs i d)
    → All P (take (i + 1) xs)
property_of_front_extends_to_next_item P xs i d less all here = subst (All P) (sym (take_more xs i d less)) (All-push P (take i xs) (get_or xs i d) all here)

-- What holds of each of these files holds of one that is among them.
pub file_on_walk_keeps_its_line_count : (files others : List ParsedFile) (on : List ℕ) → All (KeepsLineCountWithoutFault files others) on → (f : ℕ) → list_any (nat_eq f) on ≡ true
    → KeepsLineCountWithoutFault files others f
file_on_walk_keeps_its_line_count files others [] all f is = absurd cc
file_on_walk_keeps_its_line_count files others (g ∷ on) all f is =
    by (nat_eq f g) refl is (file_on_walk_keeps_its_line_count files others on (All-tail (KeepsLineCountWithoutFault files others) g on all) f)
  where
    by : (b : Bool) → nat_eq f g ≡ b → (b || list_any (nat_eq f) on) ≡ true
        → (list_any (nat_eq f) on ≡ true → KeepsLineCountWithoutFault files others f) → KeepsLineCountWithoutFault files others f
    by true e found later = subst (KeepsLineCountWithoutFault files others) (sym (eqb-true f g e)) (All-head (KeepsLineCountWithoutFault files others) g on all)
    by false e found later = later found

-- ---- the lines at the spots

item_before_last_is_same_after_append : {A : Type 0} (xs : List A) (x : A) (i : ℕ) → i < length xs → slice_get (xs ++ x ∷ []) i ≡ slice_get xs i
item_before_last_is_same_after_append [] x i less = absurd (omega (arith, less))
item_before_last_is_same_after_append (y ∷ xs) x zero less = refl
item_before_last_is_same_after_append (y ∷ xs) x (suc i) less = item_before_last_is_same_after_append xs x i (omega (arith, less))

last_item_is_at_length_of_front : {A : Type 0} (xs : List A) (x : A) (i : ℕ) → i ≡ length xs → slice_get (xs ++ x ∷ []) i ≡ Some x
last_item_is_at_length_of_front [] x zero is = refl
last_item_is_at_length_of_front [] x (suc i) is = absurd (omega (arith, is))
last_item_is_at_length_of_front (y ∷ xs) x zero is = absurd (omega (arith, is))
last_item_is_at_length_of_front (y ∷ xs) x (suc i) is = last_item_is_at_length_of_front xs x i (omega (arith, is))

-- One more line stands at its spot.
pub next_line_keeps_lines_replaced_at_spots : (others : List ParsedFile) (olds : List Line) (spots : List WalkLineSpot) (news more : List Line) (new : Line)
    → more ≡ news ++ new ∷ [] → ReplaceLinesAtSpots others olds spots news
    → ((at : WalkLineSpot) (old : Line) → slice_get spots (length news) ≡ Some at → slice_get olds (length news) ≡ Some old → ReplacesLineAtSpot others at old new)
    → ReplaceLinesAtSpots others olds spots more
next_line_keeps_lines_replaced_at_spots others olds spots news more new is along here = subst (ReplaceLinesAtSpots others olds spots) (sym is) one_more
  where
    split : (i n : ℕ) → i < n + 1 → (i < n) ⊎ (i ≡ n)
    split i n less = grind (arith, less)

    one_more : ReplaceLinesAtSpots others olds spots (news ++ new ∷ [])
    one_more i at old less there was = by_place (split i (length news) (omega (arith, less, length_push news new)))
      where
        by_place : (i < length news) ⊎ (i ≡ length news)
            → (line : Line) × (slice_get (news ++ new ∷ []) i ≡ Some line) × ReplacesLineAtSpot others at old line
        by_place (inl before) =
            let found = along i at old before there was in
            (found.0, item_before_last_is_same_after_append news new i before ∙ found.1, found.2)
        by_place (inr last) =
            (new, last_item_is_at_length_of_front news new i last, here at old (ap (slice_get spots) (sym last) ∙ there) (ap (slice_get olds) (sym last) ∙ was))
