-- Where items end, by the bytes that they own.
use Rattle.std.proofs.Common.{◌≡◌, ℕ, zero, suc, ◌-◌, ◌<◌, Bool, true, ◌&&◌, List, [], ◌∷◌, length, map, refl, sym, subst, ◌∙◌, arith, Some, Option, slice_get}
use Rattle.std.proofs.Math.Dec.{eqb-suc-zero}
use Rattle.std.specs.Prelude.{remove, if◌then◌else◌, ◌==◌, option_map}
use Rattle.sudoers_grammar.specs.Node.{Def}
use Rattle.sudoers_line_rows.specs.Alike.{are_lists_alike, is_same_def}
use Rattle.sudoers_edit.specs.Splice.{ByteExtent, owned_bytes_start, owned_bytes_stop, definition_without_member, definitions_with_one_changed}
use Rattle.sudoers_edit.specs.internal.LineCuts.{stop_of_item_at}
use Rattle.sudoers_edit.proofs.AlikeItems.{alike_members_say_same, alike_definition_says_same, alike_definitions_say_same, bytes_are_equal_to_same}
use Rattle.sudoers_edit.proofs.FrontLists.{AreDefsAlike}
use Rattle.sudoers_edit.proofs.InnerCuts.{AreAlikeButOne, HasNameAndMembers}

-- what is found at a place that is not the first
choice_at_later_place : (at n : ℕ) (a : Option ℕ) (xs : List ByteExtent) → n ≡ at
    → (if suc at == 0 then a else option_map (λ (e : ByteExtent). e.1) (slice_get xs n)) ≡ option_map (λ (e : ByteExtent). e.1) (slice_get xs at)
choice_at_later_place at n a xs e = rw (eqb-suc-zero at, e) refl

stop_found_is_stop_of_item : {X : Type 0} (extent : X → ByteExtent) (xs : List X) (at n : ℕ) → option_map (λ (e : ByteExtent). e.1) (slice_get (map extent xs) at) ≡ Some n
    → (stop_of_item_at (λ (x : X). (extent x).1) xs at ≡ n) × (at < length xs)
stop_found_is_stop_of_item extent [] at n h = absurd (cc)
stop_found_is_stop_of_item extent (x ∷ xs) zero n h = (cc, omega arith)
stop_found_is_stop_of_item extent (x ∷ xs) (suc at) n h = let later = stop_found_is_stop_of_item extent xs at n h in (later.0, omega (arith, later.1))

stop_of_item_is_found : {X : Type 0} (extent : X → ByteExtent) (xs : List X) (at : ℕ) → at < length xs
    → option_map (λ (e : ByteExtent). e.1) (slice_get (map extent xs) at) ≡ Some (stop_of_item_at (λ (x : X). (extent x).1) xs at)
stop_of_item_is_found extent [] at inside = absurd (omega (arith, inside))
stop_of_item_is_found extent (x ∷ xs) zero inside = refl
stop_of_item_is_found extent (x ∷ xs) (suc at) inside = stop_of_item_is_found extent xs at (omega (arith, inside))

-- The item before the one that owns bytes from there ends there.
pub start_of_owned_is_stop_before : {X : Type 0} (extent : X → ByteExtent) (xs : List X) (at from : ℕ) → owned_bytes_start (suc at) (map extent xs) ≡ Some from
    → (stop_of_item_at (λ (x : X). (extent x).1) xs at ≡ from) × (at < length xs)
start_of_owned_is_stop_before extent xs at from h =
    stop_found_is_stop_of_item extent xs at from
    (sym (choice_at_later_place at (suc at - 1) (option_map (λ (e : ByteExtent). e.0) (slice_get (map extent xs) 0)) (map extent xs) (omega arith)) ∙ h)

-- An item that owns bytes up to there ends there.
pub stop_of_owned_is_its_stop : {X : Type 0} (extent : X → ByteExtent) (xs : List X) (at to : ℕ) → owned_bytes_stop (suc at) (map extent xs) ≡ Some to
    → (stop_of_item_at (λ (x : X). (extent x).1) xs (suc at) ≡ to) × (suc at < length xs)
stop_of_owned_is_its_stop extent xs at to h =
    stop_found_is_stop_of_item extent xs (suc at) to (sym (later (option_map (λ (e : ByteExtent). e.0) (slice_get (map extent xs) 1))) ∙ h)
  where
    later : (a : Option ℕ) → (if suc at == 0 then a else option_map (λ (e : ByteExtent). e.1) (slice_get (map extent xs) (suc at))) ≡ option_map (λ (e : ByteExtent). e.1) (slice_get (map extent xs) (suc at))
    later a = rw (eqb-suc-zero at) refl

-- Behind an item the next one owns bytes.
pub stop_before_is_start_of_owned : {X : Type 0} (extent : X → ByteExtent) (xs : List X) (at : ℕ) → at < length xs
    → owned_bytes_start (suc at) (map extent xs) ≡ Some (stop_of_item_at (λ (x : X). (extent x).1) xs at)
stop_before_is_start_of_owned extent xs at inside =
    choice_at_later_place at (suc at - 1) (option_map (λ (e : ByteExtent). e.0) (slice_get (map extent xs) 0)) (map extent xs) (omega arith) ∙ stop_of_item_is_found extent xs at inside

-- An item that is not the first owns bytes up to its end.
pub stop_of_item_is_stop_of_owned : {X : Type 0} (extent : X → ByteExtent) (xs : List X) (at : ℕ) → suc at < length xs
    → owned_bytes_stop (suc at) (map extent xs) ≡ Some (stop_of_item_at (λ (x : X). (extent x).1) xs (suc at))
stop_of_item_is_stop_of_owned extent xs at inside =
    later (option_map (λ (e : ByteExtent). e.0) (slice_get (map extent xs) 1)) ∙ stop_of_item_is_found extent xs (suc at) inside
  where
    later : (a : Option ℕ) → (if suc at == 0 then a else option_map (λ (e : ByteExtent). e.1) (slice_get (map extent xs) (suc at))) ≡ option_map (λ (e : ByteExtent). e.1) (slice_get (map extent xs) (suc at))
    later a = rw (eqb-suc-zero at) refl

-- ---- a definition without a member

-- Definitions that are alike but for a member of one say the same but for that.
pub alike_but_one_say_same_but_one : (limit : ℕ) (at def : ℕ) (d : Def) (ds es : List Def) → slice_get ds def ≡ Some d
    → AreAlikeButOne (AreDefsAlike limit) (HasNameAndMembers limit d.name (remove d.members at)) def ds es
    → are_lists_alike is_same_def (definitions_with_one_changed def (definition_without_member at) ds) es ≡ true
alike_but_one_say_same_but_one limit at def d [] es here alike = absurd alike
alike_but_one_say_same_but_one limit at def d (x ∷ ds) [] here alike = absurd alike
alike_but_one_say_same_but_one limit at zero d (x ∷ ds) (y ∷ es) here alike =
    let same : x ≡ d = cc in
    subst (λ (z : Def). (is_same_def (definition_without_member at z) y && are_lists_alike is_same_def ds es) ≡ true) (sym same)
    (both_are_true (is_same_def (definition_without_member at d) y) (are_lists_alike is_same_def ds es)
    (both_are_true _ _ (bytes_are_equal_to_same d.name y.name alike.0.0) (alike_members_say_same limit (remove d.members at) y.members alike.0.1))
    (alike_definitions_say_same limit ds es alike.1))
  where
    both_are_true : (a b : Bool) → a ≡ true → b ≡ true → (a && b) ≡ true
    both_are_true a b e f = rw (e, f) refl
alike_but_one_say_same_but_one limit at (suc def) d (x ∷ ds) (y ∷ es) here alike =
    both_are_true (is_same_def x y) (are_lists_alike is_same_def (definitions_with_one_changed def (definition_without_member at) ds) es)
    (alike_definition_says_same limit x y alike.0) (alike_but_one_say_same_but_one limit at def d ds es here alike.1)
  where
    both_are_true : (a b : Bool) → a ≡ true → b ≡ true → (a && b) ≡ true
    both_are_true a b e f = rw (e, f) refl

-- the definition that stands in the place of the one
pub good_one_stands_in_place : {X : Type 0} (A : X → X → Type 0) (Good : X → Type 0) (at : ℕ) (xs ys : List X) → AreAlikeButOne A Good at xs ys → (y : X) × (slice_get ys at ≡ Some y) × Good y
good_one_stands_in_place A Good at [] ys alike = absurd alike
good_one_stands_in_place A Good at (x ∷ xs) [] alike = absurd alike
good_one_stands_in_place A Good zero (x ∷ xs) (y ∷ ys) alike = (y, refl, alike.0)
good_one_stands_in_place A Good (suc at) (x ∷ xs) (y ∷ ys) alike = good_one_stands_in_place A Good at xs ys alike.1
