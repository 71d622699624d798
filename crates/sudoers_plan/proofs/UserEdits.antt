-- The edits of definitions and of lines, the last first.
use Rattle.std.proofs.Common.{◌≡◌, ◌∙◌, ℕ, zero, suc, ◌+◌, List, [], ◌∷◌, ◌++◌, length, map, take, drop, min, refl, sym, ap, arith, append_assoc, append-nil}
use Rattle.std.proofs.lemmas.List.{length-map, map-append}
use Rattle.sudoers_grammar.specs.Node.{Def}
use Rattle.sudoers_tree.specs.declared.place.WalkLineSpot.{WalkLineSpot}
use Rattle.sudoers_tree.specs.Line.{Line}
use Rattle.sudoers_tree.specs.Walk.{WalkState, spot_of_walk_line}
use Rattle.sudoers_edit_script.specs.declared.edit.Edit.{Edit}
use Rattle.sudoers_plan.specs.User.{edits_of_user_definition, edits_of_user_definitions, edits_of_user_lines, edits_of_user_node}

-- NUMBERED ITEMS, THE LAST FIRST

nothing_more : (n : ℕ) → n ≡ n + 0
nothing_more n = grind (arith)

from_zero : (n : ℕ) → 0 + n ≡ n
from_zero n = grind (arith)

-- Where a list of edits is made item by item, the last first, those of the last item come first.
last_comes_first : {X : Type 0} (whole : ℕ → List X → List Edit) (one : ℕ → X → List Edit)
    → ((n : ℕ) → whole n [] ≡ []) → ((n : ℕ) (x : X) (xs : List X) → whole n (x ∷ xs) ≡ whole (n + 1) xs ++ one n x)
    → (n : ℕ) (before : List X) (x : X) → whole n (before ++ x ∷ []) ≡ one (n + length before) x ++ whole n before
last_comes_first whole one none more n [] x =
    more n x [] ∙ ap (λ edits. edits ++ one n x) (none (n + 1)) ∙ sym (append-nil (one n x)) ∙ ap (λ edits. one n x ++ edits) (sym (none n))
    ∙ ap (λ m. one m x ++ whole n []) (nothing_more n)
last_comes_first whole one none more n (y ∷ before) x =
    more n y (before ++ x ∷ []) ∙ ap (λ edits. edits ++ one n y) (last_comes_first whole one none more (n + 1) before x)
    ∙ append_assoc (one (n + 1 + length before) x) (whole (n + 1) before) (one n y) ∙ ap (λ edits. one (n + 1 + length before) x ++ edits) (sym (more n y before))
    ∙ ap (λ m. one m x ++ whole n (y ∷ before)) (grind (arith))

last_definition_comes_first : (user : List ℕ) (lines : List Line) (emptied : List (List ℕ)) (at : WalkLineSpot) (before : List Def) (d : Def)
    → edits_of_user_definitions user lines emptied at 0 (before ++ d ∷ [])
    ≡ edits_of_user_definition user lines emptied at (length before) d ++ edits_of_user_definitions user lines emptied at 0 before
last_definition_comes_first user lines emptied at before d =
    last_comes_first (edits_of_user_definitions user lines emptied at) (edits_of_user_definition user lines emptied at) (λ n. refl) (λ n x xs. refl) 0 before d
    ∙ ap (λ m. edits_of_user_definition user lines emptied at m d ++ edits_of_user_definitions user lines emptied at 0 before) (from_zero (length before))

last_line_comes_first : (user : List ℕ) (w : WalkState) (emptied : List (List ℕ)) (before : List Line) (line : Line)
    → edits_of_user_lines user w emptied 0 (before ++ line ∷ [])
    ≡ edits_of_user_node user w.lines emptied (spot_of_walk_line w (length before)) line.text line.node ++ edits_of_user_lines user w emptied 0 before
last_line_comes_first user w emptied before line =
    last_comes_first (edits_of_user_lines user w emptied) (λ n (l : Line). edits_of_user_node user w.lines emptied (spot_of_walk_line w n) l.text l.node)
    (λ n. refl) (λ n x xs. refl) 0 before line
    ∙ ap (λ m. edits_of_user_node user w.lines emptied (spot_of_walk_line w m) line.text line.node ++ edits_of_user_lines user w emptied 0 before) (from_zero (length before))

-- One step of a loop that goes through rows from the last one on: `left` is what was left, `before` what is left now.
one_step : {X R : Type 0} (whole : ℕ → List X → List Edit) (one : ℕ → X → List Edit) (read : R → X)
    → ((before : List X) (x : X) → whole 0 (before ++ x ∷ []) ≡ one (length before) x ++ whole 0 before)
    → (left before : List R) (row : R) (old new all : List Edit) → left ≡ before ++ row ∷ [] → new ≡ old ++ one (length before) (read row)
    → old ++ whole 0 (map read left) ≡ all → new ++ whole 0 (map read before) ≡ all
one_step whole one read last left before row old new all cut made kept =
    ap (λ edits. edits ++ whole 0 (map read before)) made ∙ append_assoc old (one (length before) (read row)) (whole 0 (map read before))
    ∙ ap (λ n. old ++ (one n (read row) ++ whole 0 (map read before))) (sym (length-map before read))
    ∙ ap (λ edits. old ++ edits) (sym (last (map read before) (read row)))
    ∙ ap (λ xs. old ++ whole 0 xs) (sym (ap (map read) cut ∙ map-append read before (row ∷ []))) ∙ kept

pub step_of_definitions : {R : Type 0} (read : R → Def) (user : List ℕ) (lines : List Line) (emptied : List (List ℕ)) (at : WalkLineSpot)
    (left before : List R) (row : R) (old new all : List Edit)
    → left ≡ before ++ row ∷ [] → new ≡ old ++ edits_of_user_definition user lines emptied at (length before) (read row)
    → old ++ edits_of_user_definitions user lines emptied at 0 (map read left) ≡ all
    → new ++ edits_of_user_definitions user lines emptied at 0 (map read before) ≡ all
step_of_definitions read user lines emptied at =
    one_step (edits_of_user_definitions user lines emptied at) (edits_of_user_definition user lines emptied at) read (last_definition_comes_first user lines emptied at)

pub step_of_lines : {R : Type 0} (read : R → Line) (user : List ℕ) (w : WalkState) (emptied : List (List ℕ))
    (left before : List R) (row : R) (old new all : List Edit)
    → left ≡ before ++ row ∷ []
    → new ≡ old ++ edits_of_user_node user w.lines emptied (spot_of_walk_line w (length before)) (read row).text (read row).node
    → old ++ edits_of_user_lines user w emptied 0 (map read left) ≡ all
    → new ++ edits_of_user_lines user w emptied 0 (map read before) ≡ all
step_of_lines read user w emptied =
    one_step (edits_of_user_lines user w emptied) (λ n (l : Line). edits_of_user_node user w.lines emptied (spot_of_walk_line w n) l.text l.node) read
    (last_line_comes_first user w emptied)

-- PARTS OF A LIST

drop_of_nil : {X : Type 0} (n : ℕ) → drop {A = X} n [] ≡ []
drop_of_nil zero = refl
drop_of_nil (suc n) = refl

take_of_nil : {X : Type 0} (n : ℕ) → take {A = X} n [] ≡ []
take_of_nil zero = refl
take_of_nil (suc n) = refl

pub drop_by_least : {X : Type 0} (n : ℕ) (xs : List X) (m : ℕ) → m ≡ min n (length xs) → drop m xs ≡ drop n xs
drop_by_least n [] m h = drop_of_nil m ∙ sym (drop_of_nil n)
drop_by_least zero (x ∷ xs) zero h = refl
drop_by_least zero (x ∷ xs) (suc m) h = absurd (grind (arith, h))
drop_by_least (suc n) (x ∷ xs) zero h = absurd (grind (arith, h))
drop_by_least (suc n) (x ∷ xs) (suc m) h = drop_by_least n xs m (grind (arith, h))

pub take_by_least : {X : Type 0} (n : ℕ) (xs : List X) (m : ℕ) → m ≡ min n (length xs) → take m xs ≡ take n xs
take_by_least n [] m h = take_of_nil m ∙ sym (take_of_nil n)
take_by_least zero (x ∷ xs) zero h = refl
take_by_least zero (x ∷ xs) (suc m) h = absurd (grind (arith, h))
take_by_least (suc n) (x ∷ xs) zero h = absurd (grind (arith, h))
take_by_least (suc n) (x ∷ xs) (suc m) h = ap (λ ys. x ∷ ys) (take_by_least n xs m (grind (arith, h)))
