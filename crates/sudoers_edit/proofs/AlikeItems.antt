-- Members and definitions that are alike say the same, and end at the same places up to the limit.
use Rattle.std.proofs.Common.{◌≡◌, ℕ, zero, suc, ◌≤◌, ◌<◌, Bool, true, ◌&&◌, List, [], ◌∷◌, length, refl, sym, ap, subst, arith}
use Rattle.std.specs.Prelude.{remove}
use Rattle.std.specs.Str.{bytes_eq}
use Rattle.std.proofs.lemmas.Slice.Eq.{bytes_eq-Decides}
use Rattle.sudoers_grammar.specs.Node.{Member, Def}
use Rattle.sudoers_line_rows.specs.Alike.{are_lists_alike, is_same_member, is_same_def}
use Rattle.sudoers_edit.specs.internal.LineCuts.{stop_of_def, stop_of_item_at}
use Rattle.sudoers_edit.proofs.TokenFronts.{AreAlike, AreMembersAlike, stop_of_member}
use Rattle.sudoers_edit.proofs.FrontLists.{AreDefsAlike}

pub bytes_are_equal_to_same : (a b : List ℕ) → b ≡ a → bytes_eq a b ≡ true
bytes_are_equal_to_same a b e = subst (λ (t : List ℕ). bytes_eq a t ≡ true) (sym e) ((bytes_eq-Decides a a).1 refl)

pub alike_members_say_same : (limit : ℕ) (ms os : List Member) → AreAlike (AreMembersAlike limit) ms os → are_lists_alike is_same_member ms os ≡ true
alike_members_say_same limit [] [] alike = refl
alike_members_say_same limit [] (o ∷ os) alike = absurd alike
alike_members_say_same limit (m ∷ ms) [] alike = absurd alike
alike_members_say_same limit (m ∷ ms) (o ∷ os) alike =
    let here = alike.0.0 in
    let later = alike_members_say_same limit ms os alike.1 in
    rw (here, later) refl

definition_of_name_and_members_says_same : (name : List ℕ) (members : List Member) (e : Def) → bytes_eq name e.name ≡ true → are_lists_alike is_same_member members e.members ≡ true
    → (bytes_eq name e.name && are_lists_alike is_same_member members e.members) ≡ true
definition_of_name_and_members_says_same name members e a b = rw (a, b) refl

pub alike_definition_says_same : (limit : ℕ) (d e : Def) → AreDefsAlike limit d e → is_same_def d e ≡ true
alike_definition_says_same limit d e alike =
    definition_of_name_and_members_says_same d.name d.members e (bytes_are_equal_to_same d.name e.name alike.name) (alike_members_say_same limit d.members e.members alike.members)

pub alike_definitions_say_same : (limit : ℕ) (ds es : List Def) → AreAlike (AreDefsAlike limit) ds es → are_lists_alike is_same_def ds es ≡ true
alike_definitions_say_same limit [] [] alike = refl
alike_definitions_say_same limit [] (e ∷ es) alike = absurd alike
alike_definitions_say_same limit (d ∷ ds) [] alike = absurd alike
alike_definitions_say_same limit (d ∷ ds) (e ∷ es) alike =
    let here = alike_definition_says_same limit d e alike.0 in
    let later = alike_definitions_say_same limit ds es alike.1 in
    both_are_true (is_same_def d e) (are_lists_alike is_same_def ds es) here later
  where
    both_are_true : (a b : Bool) → a ≡ true → b ≡ true → (a && b) ≡ true
    both_are_true a b e f = rw (e, f) refl

-- ---- where items end

-- what is alike ends at the same place up to the limit
abbrev pub EndsAlikeUpTo : {X : Type 0} → ℕ → (X → X → Type 0) → (X → ℕ) → Type 0
EndsAlikeUpTo {X} limit A stop = (x y : X) → A x y → stop x ≤ limit → stop y ≡ stop x

pub alike_items_end_alike : {X : Type 0} (limit : ℕ) (A : X → X → Type 0) (stop : X → ℕ) → EndsAlikeUpTo limit A stop → (xs ys : List X) (at : ℕ) → AreAlike A xs ys
    → stop_of_item_at stop xs at ≤ limit → stop_of_item_at stop ys at ≡ stop_of_item_at stop xs at
alike_items_end_alike limit A stop ends [] [] at alike inside = refl
alike_items_end_alike limit A stop ends [] (y ∷ ys) at alike inside = absurd alike
alike_items_end_alike limit A stop ends (x ∷ xs) [] at alike inside = absurd alike
alike_items_end_alike limit A stop ends (x ∷ xs) (y ∷ ys) zero alike inside = ends x y alike.0 inside
alike_items_end_alike limit A stop ends (x ∷ xs) (y ∷ ys) (suc at) alike inside = alike_items_end_alike limit A stop ends xs ys at alike.1 inside

pub alike_lists_are_as_long : {X : Type 0} (A : X → X → Type 0) (xs ys : List X) → AreAlike A xs ys → length ys ≡ length xs
alike_lists_are_as_long A [] [] alike = refl
alike_lists_are_as_long A [] (y ∷ ys) alike = absurd alike
alike_lists_are_as_long A (x ∷ xs) [] alike = absurd alike
alike_lists_are_as_long A (x ∷ xs) (y ∷ ys) alike = ap (λ (n : ℕ). suc n) (alike_lists_are_as_long A xs ys alike.1)

pub item_before_removed_ends_as_before : {X : Type 0} (stop : X → ℕ) (xs : List X) (at i : ℕ) → i < at → stop_of_item_at stop (remove xs at) i ≡ stop_of_item_at stop xs i
item_before_removed_ends_as_before stop xs zero i below = absurd (omega (arith, below))
item_before_removed_ends_as_before stop [] (suc at) i below = refl
item_before_removed_ends_as_before stop (x ∷ xs) (suc at) zero below = refl
item_before_removed_ends_as_before stop (x ∷ xs) (suc at) (suc i) below = item_before_removed_ends_as_before stop xs at i (omega (arith, below))

pub alike_definitions_end_alike : (limit : ℕ) → EndsAlikeUpTo limit (AreDefsAlike limit) stop_of_def
alike_definitions_end_alike limit d e alike inside = alike.stop inside

pub alike_members_end_alike_up_to : (limit : ℕ) → EndsAlikeUpTo limit (AreMembersAlike limit) stop_of_member
alike_members_end_alike_up_to limit m o alike inside = alike.1 inside
