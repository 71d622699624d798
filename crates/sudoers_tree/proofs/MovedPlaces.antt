-- Names with places that move.
use Rattle.sudoers_tree.proofs.Common.{Place, ◌∙◌}
use Rattle.sudoers_tree.proofs.Common.{All, All-cons, All-head, All-nil, All-tail, List, [], ap, arith, length, map, refl, zip, ℕ, ◌∷◌, ◌≡◌}

pub moved_seconds_are_moved_pairs : {X Y : Type 0} (move : Y → Y) (xs : List X) (ys : List Y) → zip xs (map move ys) ≡ map (λ (e : X × Y). (e.0, move e.1)) (zip xs ys)
moved_seconds_are_moved_pairs move [] ys = refl
moved_seconds_are_moved_pairs move (x ∷ xs) [] = refl
moved_seconds_are_moved_pairs move (x ∷ xs) (y ∷ ys) = ap (λ es. (x, move y) ∷ es) (moved_seconds_are_moved_pairs move xs ys)

pub all_pairs_have_all_seconds : {X Y : Type 0} (P : Y → Type 0) (xs : List X) (ys : List Y) → length xs ≡ length ys → All (λ (e : X × Y). P e.1) (zip xs ys) → All P ys
all_pairs_have_all_seconds P [] [] paired all = All-nil P
all_pairs_have_all_seconds P [] (y ∷ ys) paired all = absurd (omega (arith, paired))
all_pairs_have_all_seconds P (x ∷ xs) [] paired all = All-nil P
all_pairs_have_all_seconds {X = X} {Y = Y} P (x ∷ xs) (y ∷ ys) paired all =
    All-cons P y ys (All-head (λ (e : X × Y). P e.1) (x, y) (zip xs ys) all) (all_pairs_have_all_seconds P xs ys (omega (arith, paired)) (All-tail (λ (e : X × Y). P e.1) (x, y) (zip xs ys) all))

pub names_with_moved_places : {K : Type 0} (name : K → List ℕ) (keys : List K) (places others : List Place) (now : List (List ℕ × Place)) (move : Place → Place) → zip (map name keys) places ≡ now
    → others ≡ map move places → zip (map name keys) others ≡ map (λ (e : List ℕ × Place). (e.0, move e.1)) now
names_with_moved_places name keys places others now move is moved =
    ap (zip (map name keys)) moved ∙ moved_seconds_are_moved_pairs move (map name keys) places ∙ ap (map (λ (e : List ℕ × Place). (e.0, move e.1))) is
