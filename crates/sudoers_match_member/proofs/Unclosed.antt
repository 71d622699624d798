-- Sets that nothing closes.
use Rattle.std.proofs.Common.{◌≡◌, ◌≤◌, ◌<◌, ◌+◌, ◌-◌, ◌/◌, ◌%◌, ℕ, zero, suc, Bool, List, [], ◌∷◌, length, drop, get_or, replicate, refl, sym, ap, subst, ◌∙◌, None, arith}
use Rattle.std.specs.Int.{bit_at}
use Rattle.std.proofs.lemmas.Nat.Bits.{bit_at-zero}
use Rattle.std.proofs.lemmas.List.{drop-drop, length-drop}
use Rattle.sudoers_match_member.specs.declared.unclosed_places.UnclosedPlaces.{UnclosedPlaces}
use Rattle.sudoers_match_member.specs.Folded.{bytes_case_folded_if_wanted}
use Rattle.sudoers_match_member.specs.Sets.{set_item_at, set_one_byte_longer, set_with_item_put_first, set_items_after_skipped_bytes, set_items_behind_opening_bracket}
use Rattle.sudoers_match_member.specs.internal.Unclosed.{AreUnclosedPlaces}

skipped_set_is_unclosed : (k : ℕ) (bytes : List ℕ) → set_items_after_skipped_bytes 0 (drop k bytes) ≡ None → set_items_after_skipped_bytes k bytes ≡ None
skipped_set_is_unclosed zero bytes e = e
skipped_set_is_unclosed (suc k) [] e = refl
skipped_set_is_unclosed (suc k) (b ∷ bs) e = ap set_one_byte_longer (skipped_set_is_unclosed k bs e)

-- A set is unclosed if it is so behind its first item.
pub set_is_unclosed_before_item : (bytes : List ℕ) → 0 < (set_item_at bytes).1 → set_items_after_skipped_bytes 0 (drop (set_item_at bytes).1 bytes) ≡ None → set_items_behind_opening_bracket bytes ≡ None
set_is_unclosed_before_item [] some e = refl
set_is_unclosed_before_item (b ∷ bs) some e =
    let n = (set_item_at (b ∷ bs)).1 in
    let size : n ≡ suc (n - 1) = omega (arith, some) in
    ap (λ set. set_with_item_put_first (set_item_at (b ∷ bs)).0 (set_one_byte_longer set)) (skipped_set_is_unclosed (n - 1) bs (subst (λ k. set_items_after_skipped_bytes 0 (drop k (b ∷ bs)) ≡ None) size e))

-- What is right for a pattern is right for its end.
pub unclosed_places_are_those_of_end : (lower : Bool) (pattern : List ℕ) (places : UnclosedPlaces) (k : ℕ) → k ≤ length pattern → AreUnclosedPlaces lower pattern places → AreUnclosedPlaces lower (drop k pattern) places
unclosed_places_are_those_of_end lower pattern places k inside are left within is =
    let size = length-drop k pattern in
    let there : k + (length (drop k pattern) - left) ≡ length pattern - left = omega (arith, size, within, inside) in
    subst (λ xs. set_items_after_skipped_bytes 0 (bytes_case_folded_if_wanted lower xs) ≡ None) (sym (drop-drop (length (drop k pattern) - left) k pattern ∙ ap (λ n. drop n pattern) there))
    (are left (omega (arith, size, within)) is)

zero_at : (n i : ℕ) → ◌≡◌ {A = ℕ} (get_or (replicate n 0) i 0) 0
zero_at zero i = refl
zero_at (suc n) zero = refl
zero_at (suc n) (suc i) = zero_at n i

-- where no bit is set, none is there
pub no_place_is_unclosed_at_first : (n left : ℕ) → bit_at (get_or {A = ℕ} (replicate n 0) (left / 64) 0) (left % 64) ≡ 1 → ⊥
no_place_is_unclosed_at_first n left is = omega (arith, bit_at-zero (left % 64), ap (λ m. bit_at m (left % 64)) (zero_at n (left / 64)), is)
