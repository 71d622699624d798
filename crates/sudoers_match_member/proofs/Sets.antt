-- How long the items of a set are, and what is behind them.
use Rattle.std.proofs.Common.{◌≡◌, ◌≢◌, ℕ, zero, suc, ◌+◌, ◌-◌, ◌<◌, Bool, false, ◌||◌, List, [], ◌∷◌, length, drop, get_or, refl, sym, ap, subst, ◌∙◌, Option, Some, None, arith, add-zero}
use Rattle.std.proofs.Math.Bool.{or_assoc, or-false}
use Rattle.std.proofs.lemmas.Bool.{ne_eqb}
use Rattle.std.specs.List.{list_any}
use Rattle.sudoers_match_member.specs.declared.byte_sets.SetItem.{SetItem}
use Rattle.sudoers_match_member.specs.Sets.{is_byte_in_set_item, set_item_at, set_one_byte_longer, set_with_item_put_first, set_items_after_skipped_bytes, set_items_behind_opening_bracket}
use Rattle.sudoers_match_member.specs.internal.Seen.{set_end_and_byte_seen}

longer_set_ends_one_byte_further : (b at : ℕ) (has : Bool) (set : Option (List SetItem × ℕ)) → set_end_and_byte_seen b at has (set_one_byte_longer set) ≡ set_end_and_byte_seen b (at + 1) has set
longer_set_ends_one_byte_further b at has None = refl
longer_set_ends_one_byte_further b at has (Some set) = let e : at + suc set.1 ≡ at + 1 + set.1 = omega arith in ap (λ n. Some (n, has || list_any (is_byte_in_set_item b) set.0)) e

-- passing bytes of an item
pub set_end_shifts_by_skipped_bytes : (k : ℕ) (bytes : List ℕ) (b at : ℕ) (has : Bool) → set_end_and_byte_seen b at has (set_items_after_skipped_bytes k bytes) ≡ set_end_and_byte_seen b (at + k) has (set_items_after_skipped_bytes 0 (drop k bytes))
set_end_shifts_by_skipped_bytes zero [] b at has = refl
set_end_shifts_by_skipped_bytes (suc k) [] b at has = refl
set_end_shifts_by_skipped_bytes zero (c ∷ cs) b at has = ap (λ n. set_end_and_byte_seen b n has (set_items_after_skipped_bytes 0 (c ∷ cs))) (sym (add-zero at))
set_end_shifts_by_skipped_bytes (suc k) (c ∷ cs) b at has =
    let e : at + 1 + k ≡ at + suc k = omega arith in
    longer_set_ends_one_byte_further b at has (set_items_after_skipped_bytes k cs) ∙ set_end_shifts_by_skipped_bytes k cs b (at + 1) has ∙ ap (λ n. set_end_and_byte_seen b n has (set_items_after_skipped_bytes 0 (drop k cs))) e

first_item_adds_its_byte_to_set : (b at : ℕ) (has : Bool) (item : SetItem) (set : Option (List SetItem × ℕ)) → set_end_and_byte_seen b at has (set_with_item_put_first item set) ≡ set_end_and_byte_seen b at (has || is_byte_in_set_item b item) set
first_item_adds_its_byte_to_set b at has item None = refl
first_item_adds_its_byte_to_set b at has item (Some set) = ap (λ h. Some (at + set.1, h)) (sym (or_assoc has (is_byte_in_set_item b item) (list_any (is_byte_in_set_item b) set.0)))

-- an item is passed
abbrev IsSetEndSeenAfterItem : List ℕ → Option (List SetItem × ℕ) → Type 0
IsSetEndSeenAfterItem bytes set = (b at : ℕ) (has more : Bool) (item : SetItem × ℕ) → item ≡ set_item_at bytes → 0 < item.1 → more ≡ (has || is_byte_in_set_item b item.0)
    → set_end_and_byte_seen b (at + item.1) more (set_items_after_skipped_bytes 0 (drop item.1 bytes)) ≡ set_end_and_byte_seen b at has set

bracket_set_end_passes_first_item : (c : ℕ) (cs : List ℕ) (b at : ℕ) (has : Bool) → 0 < (set_item_at (c ∷ cs)).1
    → set_end_and_byte_seen b at has (set_items_behind_opening_bracket (c ∷ cs)) ≡ set_end_and_byte_seen b (at + (set_item_at (c ∷ cs)).1) (has || is_byte_in_set_item b (set_item_at (c ∷ cs)).0) (set_items_after_skipped_bytes 0 (drop (set_item_at (c ∷ cs)).1 (c ∷ cs)))
bracket_set_end_passes_first_item c cs b at has some =
    let item = (set_item_at (c ∷ cs)).0 in let n = (set_item_at (c ∷ cs)).1 in
    let e : at + 1 + (n - 1) ≡ at + n = omega arith in
    let f : suc (n - 1) ≡ n = omega arith in
    first_item_adds_its_byte_to_set b at has item (set_one_byte_longer (set_items_after_skipped_bytes (n - 1) cs))
    ∙ longer_set_ends_one_byte_further b at (has || is_byte_in_set_item b item) (set_items_after_skipped_bytes (n - 1) cs)
    ∙ set_end_shifts_by_skipped_bytes (n - 1) cs b (at + 1) (has || is_byte_in_set_item b item)
    ∙ ap (λ k. set_end_and_byte_seen b k (has || is_byte_in_set_item b item) (set_items_after_skipped_bytes 0 (drop (n - 1) cs))) e
    ∙ ap (λ k. set_end_and_byte_seen b (at + n) (has || is_byte_in_set_item b item) (set_items_after_skipped_bytes 0 (drop k (c ∷ cs)))) f

nonempty_bracket_set_end_passes_item : (c : ℕ) (cs : List ℕ) → IsSetEndSeenAfterItem (c ∷ cs) (set_items_behind_opening_bracket (c ∷ cs))
nonempty_bracket_set_end_passes_item c cs b at has more item is some e =
    ap (λ m. set_end_and_byte_seen b (at + item.1) m (set_items_after_skipped_bytes 0 (drop item.1 (c ∷ cs)))) e
    ∙ ap (λ (i : SetItem × ℕ). set_end_and_byte_seen b (at + i.1) (has || is_byte_in_set_item b i.0) (set_items_after_skipped_bytes 0 (drop i.1 (c ∷ cs)))) is
    ∙ sym (bracket_set_end_passes_first_item c cs b at has (subst (λ (i : SetItem × ℕ). 0 < i.1) is some))

pub first_set_item_is_passed_to_end : (bytes : List ℕ) → 0 < length bytes → IsSetEndSeenAfterItem bytes (set_items_behind_opening_bracket bytes)
first_set_item_is_passed_to_end [] h = absurd (omega arith)
first_set_item_is_passed_to_end (c ∷ cs) h = nonempty_bracket_set_end_passes_item c cs

pub unclosed_first_byte_begins_set_items : (c : ℕ) (cs : List ℕ) → c ≢ 93 → set_items_behind_opening_bracket (c ∷ cs) ≡ set_items_after_skipped_bytes 0 (c ∷ cs)
unclosed_first_byte_begins_set_items c cs n = rw (ne_eqb c 93 n) refl

pub next_set_item_is_passed_to_end : (bytes : List ℕ) → 0 < length bytes → get_or bytes 0 0 ≢ 93 → IsSetEndSeenAfterItem bytes (set_items_after_skipped_bytes 0 bytes)
next_set_item_is_passed_to_end [] h n = absurd (omega arith)
next_set_item_is_passed_to_end (c ∷ cs) h n = subst (λ set. IsSetEndSeenAfterItem (c ∷ cs) set) (unclosed_first_byte_begins_set_items c cs n) (nonempty_bracket_set_end_passes_item c cs)

set_items_at_closing_bracket_are_empty : (c : ℕ) (cs : List ℕ) → c ≡ 93 → set_items_after_skipped_bytes 0 (c ∷ cs) ≡ Some ([], 0)
set_items_at_closing_bracket_are_empty c cs e = rw e refl

-- the set ends
pub set_ends_at_closing_bracket : (bytes : List ℕ) → 0 < length bytes → get_or bytes 0 0 ≡ 93 → (b at : ℕ) (has : Bool) → Some (at, has) ≡ set_end_and_byte_seen b at has (set_items_after_skipped_bytes 0 bytes)
set_ends_at_closing_bracket [] h e b at has = absurd (omega arith)
set_ends_at_closing_bracket (c ∷ cs) h e b at has =
    ap (λ h. Some (at, h)) (sym (or-false has)) ∙ ap (λ n. Some (n, has || false)) (sym (add-zero at)) ∙ ap (set_end_and_byte_seen b at has) (sym (set_items_at_closing_bracket_are_empty c cs e))
