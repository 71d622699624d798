-- The places of a text from which the items of a pattern may match.
use Rattle.std.proofs.Common.{◌≡◌, ◌≢◌, ℕ, zero, suc, ◌+◌, ◌-◌, ◌<◌, ◌≤◌, Bool, true, false, List, [], ◌∷◌, length, drop, take, get_or, arith, refl, sym, ap, subst, ◌∙◌, inl, inr}
use Rattle.std.proofs.lemmas.Bool.{cases_eq, cases_lt, eqb-true}
use Rattle.std.proofs.lemmas.List.{get_or-drop, get_or-take, length-drop, length-take-le}
use Rattle.memchr.specs.Find.{OccursAt}
use Rattle.sudoers_grammar.specs.Pattern.{is_special_in_patterns}
use Rattle.sudoers_match_member.specs.declared.item_set.ItemSet.{ItemSet}
use Rattle.sudoers_match_member.specs.declared.wildcards.GlobMode.{GlobMode}
use Rattle.sudoers_match_member.specs.Folded.{byte_case_folded_if_wanted, bytes_case_folded_if_wanted}
use Rattle.sudoers_match_member.specs.Wildcard.{PatternItem, Star, Byte, is_byte_taken_by_item, items_of_pattern, pattern_items_after_skipped_bytes}
use Rattle.sudoers_match_member.specs.internal.Places.{IsTaker, items_from_place, BeginWithStarless, AreTakersOfItems, DoTakersTakeFrom, DoesMatchFrom}
use Rattle.sudoers_match_member.specs.internal.Run.{DoItemsMatch}
use Rattle.sudoers_match_member.proofs.AsRead.{case_folding_keeps_length, byte_of_folded_bytes_is_folded_byte}
use Rattle.sudoers_match_member.proofs.Items.{match_of_item_has_taken_byte}
use Rattle.sudoers_match_member.proofs.Plain.{plain_byte_is_read_as_byte_item}

-- ---- what a match takes

-- where an item that is no `*` has only such items before it, a match has a byte for it
pub record HasByteForItem (mode : GlobMode) (items : List PatternItem) (text : List ℕ) (number : ℕ) : Type 0 where
  pub within : number < length text
  pub takes : is_byte_taken_by_item mode (get_or items number Star) (get_or text number 0) ≡ true

pub match_has_byte_for_item : (mode : GlobMode) (items : List PatternItem) (text : List ℕ) (number : ℕ) → DoItemsMatch mode items text → BeginWithStarless items (suc number) → HasByteForItem mode items text number
match_has_byte_for_item mode [] text number m starless = absurd (starless 0 (omega arith) refl)
match_has_byte_for_item mode (item ∷ items) text zero m starless =
    let one = match_of_item_has_taken_byte mode item items text (starless 0 (omega arith)) m in
    record { within = omega (arith, ap length one.2); takes = ap (λ xs. is_byte_taken_by_item mode item (get_or xs 0 0)) one.2 ∙ one.3 }
match_has_byte_for_item mode (item ∷ items) text (suc number) m starless =
    let one = match_of_item_has_taken_byte mode item items text (starless 0 (omega arith)) m in
    let later = match_has_byte_for_item mode items one.1 number one.4 (λ i h. starless (suc i) (omega (arith, h))) in
    record { within = omega (arith, ap length one.2, later.within); takes = ap (λ xs. is_byte_taken_by_item mode (get_or items number Star) (get_or xs (suc number) 0)) one.2 ∙ later.takes }

-- ---- rows of items, one behind the other

pub row_extends_starless_items : (items row : List PatternItem) (passed count : ℕ) → drop passed items ≡ row → BeginWithStarless items passed → BeginWithStarless row count → BeginWithStarless items (passed + count)
row_extends_starless_items items row passed count is before behind i h =
    elim (cases_lt i passed) [
      | inl less ↦ before i less
      | inr more ↦ (let e : passed + (i - passed) ≡ i = omega arith in
          subst (λ item. item ≢ Star) (ap (λ xs. get_or xs (i - passed) Star) (sym is) ∙ get_or-drop passed items (i - passed) Star ∙ ap (λ n. get_or items n Star) e) (behind (i - passed) (omega (arith, h, more))))
    ]

-- a match from a place has bytes for all items of a row, and they are the row's takers' bytes
pub match_from_place_has_bytes_for_row : (mode : GlobMode) (lower : Bool) (pattern text : List ℕ) (place passed count : ℕ) → DoesMatchFrom mode lower pattern text place
    → BeginWithStarless (items_from_place lower pattern 0) (passed + count) → 0 < count → place + passed + count ≤ length text
match_from_place_has_bytes_for_row mode lower pattern text place passed count m starless some =
    let last = match_has_byte_for_item mode (items_from_place lower pattern 0) (drop place (bytes_case_folded_if_wanted lower text)) (passed + count - 1) m (λ i h. starless i (omega (arith, h, some))) in
    omega (arith, last.within, length-drop place (bytes_case_folded_if_wanted lower text), case_folding_keeps_length lower text, some)

pub takers_of_row_take_match : (mode : GlobMode) (lower : Bool) (pattern text : List ℕ) (place passed at count : ℕ) (takers : List ItemSet) → ((i : ℕ) → get_or text i 0 < 256) → DoesMatchFrom mode lower pattern text place
    → drop passed (items_from_place lower pattern 0) ≡ items_from_place lower pattern at → BeginWithStarless (items_from_place lower pattern 0) (passed + count)
    → AreTakersOfItems mode lower (items_from_place lower pattern at) count takers → DoTakersTakeFrom takers count (drop passed text) place
takers_of_row_take_match mode lower pattern text place passed at count takers bytes m is starless taken i h =
    let items = items_from_place lower pattern 0 in let folded = bytes_case_folded_if_wanted lower text in
    let one = match_has_byte_for_item mode items (drop place folded) (passed + i) m (λ j k. starless j (omega (arith, h, k))) in
    let within : place + (passed + i) < length text = omega (arith, one.within, length-drop place folded, case_folding_keeps_length lower text) in
    let item : get_or (items_from_place lower pattern at) i Star ≡ get_or items (passed + i) Star = ap (λ xs. get_or xs i Star) (sym is) ∙ get_or-drop passed items i Star in
    let byte : get_or (drop place folded) (passed + i) 0 ≡ byte_case_folded_if_wanted lower (get_or text (place + (passed + i)) 0) =
    get_or-drop place folded (passed + i) 0 ∙ byte_of_folded_bytes_is_folded_byte lower text (place + (passed + i)) within in
    let there : get_or (drop passed text) (place + i) 0 ≡ get_or text (place + (passed + i)) 0 =
    get_or-drop passed text (place + i) 0 ∙ ap (λ n. get_or text n 0) (let e : passed + (place + i) ≡ place + (passed + i) = omega arith in e) in
    subst (λ b. IsTaker takers b i) (sym there)
    (taken i (get_or text (place + (passed + i)) 0) h (bytes (place + (passed + i)))
    (ap (λ p. is_byte_taken_by_item mode p (byte_case_folded_if_wanted lower (get_or text (place + (passed + i)) 0))) item ∙ ap (is_byte_taken_by_item mode (get_or items (passed + i) Star)) (sym byte) ∙ one.takes))

-- ---- bytes that are no wildcards

-- a pattern begins with so many of them
abbrev pub BeginsWithPlainBytes : List ℕ → ℕ → Type 0
BeginsWithPlainBytes pattern count = (i : ℕ) → i < count → is_special_in_patterns (get_or pattern i 0) ≡ false

pub plain_bytes_are_byte_items : (pattern : List ℕ) (count : ℕ) → count ≤ length pattern → BeginsWithPlainBytes pattern count → (i : ℕ) → i < count → get_or (items_of_pattern pattern) i Star ≡ Byte (get_or pattern i 0)
plain_bytes_are_byte_items pattern zero h plain i k = absurd (omega (arith, k))
plain_bytes_are_byte_items [] (suc count) h plain i k = absurd (omega (arith, h))
plain_bytes_are_byte_items (b ∷ pattern) (suc count) h plain zero k = ap (λ (p : PatternItem × ℕ). p.0) (plain_byte_is_read_as_byte_item b pattern (plain 0 (omega arith)))
plain_bytes_are_byte_items (b ∷ pattern) (suc count) h plain (suc i) k =
    ap (λ (p : PatternItem × ℕ). get_or (pattern_items_after_skipped_bytes (p.1 - 1) pattern) i Star) (plain_byte_is_read_as_byte_item b pattern (plain 0 (omega arith)))
    ∙ plain_bytes_are_byte_items pattern count (omega (arith, h)) (λ j m. plain (suc j) (omega (arith, m))) i (omega (arith, k))

byte_item_is_no_star : (item : PatternItem) (c : ℕ) → item ≡ Byte c → item ≢ Star
byte_item_is_no_star item c is e = absurd cc

-- where a text is matched from a place, they stand there
pub plain_bytes_stand_where_pattern_matches : (mode : GlobMode) (pattern text : List ℕ) (count place : ℕ) → count ≤ length pattern → BeginsWithPlainBytes pattern count → place ≤ length text
    → DoItemsMatch mode (items_of_pattern pattern) (drop place text) → OccursAt text (take count pattern) place
plain_bytes_stand_where_pattern_matches mode pattern text count place h plain inside m =
    let items = items_of_pattern pattern in
    let is = plain_bytes_are_byte_items pattern count h plain in
    let one : (i : ℕ) → i < count → HasByteForItem mode items (drop place text) i = λ i k. match_has_byte_for_item mode items (drop place text) i m (λ j n. byte_item_is_no_star _ _ (is j (omega (arith, n, k)))) in
    let size : length (take count pattern) ≡ count = length-take-le count pattern h in
    record {
      fits = elim (cases_eq count 0) [
        | inl none ↦ omega (arith, size, none, inside)
        | inr some ↦ omega (arith, size, (one (count - 1) (omega (arith, some))).within, length-drop place text)
      ];
      reads = λ i k. let within : i < count = omega (arith, k, size) in
          sym (get_or-drop place text i 0)
          ∙ eqb-true (get_or (drop place text) i 0) (get_or pattern i 0) (ap (λ item. is_byte_taken_by_item mode item (get_or (drop place text) i 0)) (sym (is i within)) ∙ (one i within).takes)
          ∙ sym (get_or-take count pattern i 0 within);
    }
