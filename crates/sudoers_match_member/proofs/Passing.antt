-- How far items that take one byte each go.
use Rattle.std.proofs.Common.{◌≡◌, ◌≢◌, ℕ, ◌+◌, ◌≤◌, ◌<◌, true, false, List, [], ◌∷◌, ◌++◌, length, drop, arith, sym, ap, subst, ◌∙◌, append_assoc}
use Rattle.std.proofs.lemmas.Bool.{false≢true}
use Rattle.std.proofs.lemmas.List.{length-drop}
use Rattle.sudoers_match_member.specs.declared.wildcards.GlobMode.{GlobMode}
use Rattle.sudoers_match_member.specs.Wildcard.{Star, is_byte_taken_by_item, pattern_item_at, items_of_pattern}
use Rattle.sudoers_match_member.specs.internal.Run.{DoItemsTakePrefix, DoItemsMatch, DoesPatternMatch}
use Rattle.sudoers_match_member.proofs.Items.{items_of_pattern_begin_with_first_item, match_of_item_has_taken_byte, taken_bytes_before_match_are_match, items_and_item_take_bytes_and_byte, rest_after_taken_bytes_is_matched}

pub rest_from_place_within_is_not_empty : (xs : List ℕ) (i : ℕ) → i < length xs → drop i xs ≢ []
rest_from_place_within_is_not_empty xs i h e = omega (arith, length-drop i xs, ap length e)

pub place_after_item_is_within_pattern : (pattern : List ℕ) (at len : ℕ) → at < length pattern → len ≤ length (drop at pattern) → at + len ≤ length pattern
place_after_item_is_within_pattern pattern at len h k = omega (arith, k, length-drop at pattern)

-- an item takes a byte more
pub taken_byte_extends_taken_prefix : (mode : GlobMode) (pattern text left : List ℕ) (b : ℕ) (rest : List ℕ) → DoItemsTakePrefix mode pattern text left (b ∷ rest) → left ≢ [] → 0 < (pattern_item_at left).1
    → is_byte_taken_by_item mode (pattern_item_at left).0 b ≡ true → DoItemsTakePrefix mode pattern text (drop (pattern_item_at left).1 left) rest
taken_byte_extends_taken_prefix mode pattern text left b rest p n some t =
    let i = (pattern_item_at left).0 in
    let after = items_of_pattern (drop (pattern_item_at left).1 left) in
    record {
      items = p.items ++ i ∷ [];
      bytes = p.bytes ++ b ∷ [];
      pattern_is = p.pattern_is ∙ ap (λ xs. p.items ++ xs) (items_of_pattern_begin_with_first_item left n some) ∙ sym (append_assoc p.items (i ∷ []) after);
      text_is = p.text_is ∙ sym (append_assoc p.bytes (b ∷ []) rest);
      take = items_and_item_take_bytes_and_byte mode p.items i p.bytes b p.take t;
    }

pub taken_prefix_of_all_is_pattern_match : (mode : GlobMode) (pattern text left rest : List ℕ) → DoItemsTakePrefix mode pattern text left rest → left ≡ [] → rest ≡ [] → DoesPatternMatch mode pattern text
taken_prefix_of_all_is_pattern_match mode pattern text left rest p e f =
    let end : DoItemsMatch mode (items_of_pattern left) rest = subst (λ l. DoItemsMatch mode (items_of_pattern l) rest) (sym e) f in
    let m = taken_bytes_before_match_are_match mode p.items (items_of_pattern left) p.bytes rest p.take end in
    subst (λ is. DoItemsMatch mode is text) (sym p.pattern_is) (subst (λ t. DoItemsMatch mode (p.items ++ items_of_pattern left) t) (sym p.text_is) m)

-- where the rest is not matched, the text is not
pub unmatched_rest_implies_unmatched_pattern : (mode : GlobMode) (pattern text left rest : List ℕ) → DoItemsTakePrefix mode pattern text left rest → (DoItemsMatch mode (items_of_pattern left) rest → ⊥) → DoesPatternMatch mode pattern text → ⊥
unmatched_rest_implies_unmatched_pattern mode pattern text left rest p n m =
    n (rest_after_taken_bytes_is_matched mode p.items (items_of_pattern left) p.bytes rest p.take
    (subst (λ is. DoItemsMatch mode is (p.bytes ++ rest)) p.pattern_is (subst (λ t. DoItemsMatch mode (items_of_pattern pattern) t) p.text_is m)))

pub empty_pattern_matches_no_nonempty_rest : (mode : GlobMode) (left rest : List ℕ) → left ≡ [] → rest ≢ [] → DoItemsMatch mode (items_of_pattern left) rest → ⊥
empty_pattern_matches_no_nonempty_rest mode left rest e n m = n (subst (λ l. DoItemsMatch mode (items_of_pattern l) rest) e m)

text_of_item_begins_with_taken_byte : (mode : GlobMode) (left rest : List ℕ) → left ≢ [] → (pattern_item_at left).0 ≢ Star → 0 < (pattern_item_at left).1 → DoItemsMatch mode (items_of_pattern left) rest
    → (b : ℕ) × (after : List ℕ) × (rest ≡ b ∷ after) × (is_byte_taken_by_item mode (pattern_item_at left).0 b ≡ true)
text_of_item_begins_with_taken_byte mode left rest n s some m =
    let one = match_of_item_has_taken_byte mode (pattern_item_at left).0 (items_of_pattern (drop (pattern_item_at left).1 left)) rest s (subst (λ is. DoItemsMatch mode is rest) (items_of_pattern_begin_with_first_item left n some) m) in
    (one.0, one.1, one.2, one.3)

pub non_star_item_matches_no_empty_rest : (mode : GlobMode) (left rest : List ℕ) → left ≢ [] → (pattern_item_at left).0 ≢ Star → 0 < (pattern_item_at left).1 → rest ≡ [] → DoItemsMatch mode (items_of_pattern left) rest → ⊥
non_star_item_matches_no_empty_rest mode left rest n s some e m = let one = text_of_item_begins_with_taken_byte mode left rest n s some m in let f = one.2 in cc

pub item_refusing_byte_has_no_match : (mode : GlobMode) (left : List ℕ) (b : ℕ) (rest : List ℕ) → left ≢ [] → (pattern_item_at left).0 ≢ Star → 0 < (pattern_item_at left).1
    → is_byte_taken_by_item mode (pattern_item_at left).0 b ≡ false → DoItemsMatch mode (items_of_pattern left) (b ∷ rest) → ⊥
item_refusing_byte_has_no_match mode left b rest n s some t m =
    let one = text_of_item_begins_with_taken_byte mode left (b ∷ rest) n s some m in
    let same : b ≡ one.0 = let f = one.2 in cc in
    false≢true (sym t ∙ ap (is_byte_taken_by_item mode (pattern_item_at left).0) same ∙ one.3)
