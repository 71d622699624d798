-- The lines of policies, and lines that are left of them.
use Rattle.sudoers_edit.proofs.Common.{Bool, Line, List, Some, [], ends_in_lf, false, has_inner_line_without_lf, length, map-append, not, or_false, refl, slice_get, texts_of_lines, ℕ, ◌++◌, ◌||◌, ◌∷◌, ◌≡◌}

-- ---- lists

pub texts_of_joined_lines_are_joined : (xs ys : List Line) → texts_of_lines (xs ++ ys) ≡ texts_of_lines xs ++ texts_of_lines ys
texts_of_joined_lines_are_joined xs ys = map-append (λ (line : Line). line.text) xs ys

pub item_behind_front_is_at_front_length : {X : Type 0} (xs : List X) (y : X) (ys : List X) → slice_get (xs ++ y ∷ ys) (length xs) ≡ Some y
item_behind_front_is_at_front_length [] y ys = refl
item_behind_front_is_at_front_length (x ∷ xs) y ys = item_behind_front_is_at_front_length xs y ys

both_false_imply_false_disjunction : (a b : Bool) → a ≡ false → b ≡ false → (a || b) ≡ false
both_false_imply_false_disjunction a b x y = rw (x, y) refl

-- what follows a line matters only as to whether something does
abbrev pub IsNonemptyIfFirstIs : List (List ℕ) → List (List ℕ) → Type 0
IsNonemptyIfFirstIs [] [] = Unit {0}
IsNonemptyIfFirstIs [] (y ∷ ys) = ⊥
IsNonemptyIfFirstIs (x ∷ xs) ys = Unit {0}

ended_lines_have_ended_rest : (l : List ℕ) (ls : List (List ℕ)) → has_inner_line_without_lf (l ∷ ls) ≡ false → has_inner_line_without_lf ls ≡ false
ended_lines_have_ended_rest l [] h = refl
ended_lines_have_ended_rest l (k ∷ ks) h = (or_false _ _ h).1

line_before_ended_replacement_keeps_ended : (l : List ℕ) (old new : List (List ℕ)) → IsNonemptyIfFirstIs old new → has_inner_line_without_lf new ≡ false → has_inner_line_without_lf (l ∷ old) ≡ false
    → has_inner_line_without_lf (l ∷ new) ≡ false
line_before_ended_replacement_keeps_ended l old [] fewer h g = refl
line_before_ended_replacement_keeps_ended l [] (k ∷ ks) fewer h g = absurd fewer
line_before_ended_replacement_keeps_ended l (j ∷ js) (k ∷ ks) fewer h g = both_false_imply_false_disjunction (not (ends_in_lf l)) (has_inner_line_without_lf (k ∷ ks)) (or_false _ _ g).0 h

nonempty_replacement_behind_front : (front old new : List (List ℕ)) → IsNonemptyIfFirstIs old new → IsNonemptyIfFirstIs (front ++ old) (front ++ new)
nonempty_replacement_behind_front [] old new fewer = fewer
nonempty_replacement_behind_front (f ∷ front) old new fewer = tt

pub ended_replacement_behind_front_is_ended : (front old new : List (List ℕ)) → IsNonemptyIfFirstIs old new → has_inner_line_without_lf new ≡ false → has_inner_line_without_lf (front ++ old) ≡ false
    → has_inner_line_without_lf (front ++ new) ≡ false
ended_replacement_behind_front_is_ended [] old new fewer h g = h
ended_replacement_behind_front_is_ended (f ∷ front) old new fewer h g =
    line_before_ended_replacement_keeps_ended f (front ++ old) (front ++ new) (nonempty_replacement_behind_front front old new fewer)
    (ended_replacement_behind_front_is_ended front old new fewer h (ended_lines_have_ended_rest f (front ++ old) g)) g

pub rest_behind_front_is_ended : (front old : List (List ℕ)) → has_inner_line_without_lf (front ++ old) ≡ false → has_inner_line_without_lf old ≡ false
rest_behind_front_is_ended [] old g = g
rest_behind_front_is_ended (f ∷ front) old g = rest_behind_front_is_ended front old (ended_lines_have_ended_rest f (front ++ old) g)
