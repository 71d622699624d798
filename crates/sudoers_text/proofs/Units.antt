-- Lemmas on units.
use Rattle.std.proofs.Common.{◌≡◌, ℕ, zero, suc, ◌+◌, ◌-◌, ◌<◌, ◌≤◌, Bool, true, false, ◌&&◌, ◌||◌, List, [], ◌∷◌, ◌++◌, length, take, drop, get_or, refl, sym, ap, subst, ◌∙◌, arith, eq-eqb}
use Rattle.std.proofs.lemmas.Bool.{eqb-true}
use Rattle.std.proofs.lemmas.Bool.Decides.{nat_tests}
use Rattle.std.specs.Prelude.{◌==◌, if◌then◌else◌, slice_range, slice_get, Some}
use Rattle.sudoers_text.specs.Ended.{ends_in_lf}
use Rattle.std.proofs.lemmas.List.{length-append, length-drop, length-take-le, drop-drop, take-append-drop, append_assoc, take_at}
use Rattle.sudoers_text.specs.Unit.{LineUnit, bytes_of_unit, begins_lf, begins_line_end, line_end_size, bytes_up_to_line_end, bytes_of_units_after_leading_gap, is_empty, is_gap_unit}
use Rattle.sudoers_text.specs.Line.{IsLineEndingOrTextEnd, by_lf, by_crlf}
use Rattle.sudoers_text.specs.internal.Left.{UnitStandsAt}

-- a byte passes no test for LF
value_that_is_not_true_is_false : (b : Bool) → (b ≡ true → ⊥) → b ≡ false
value_that_is_not_true_is_false true h = absurd (h refl)
value_that_is_not_true_is_false false h = refl

pub untrue_disjunction_has_false_parts : (a b : Bool) → ((a || b) ≡ true → ⊥) → (a ≡ false) × (b ≡ false)
untrue_disjunction_has_false_parts true b none = absurd (none refl)
untrue_disjunction_has_false_parts false true none = absurd (none refl)
untrue_disjunction_has_false_parts false false none = (refl, refl)

conjunction_with_false_is_false : (b : Bool) → (b && false) ≡ false
conjunction_with_false_is_false true = refl
conjunction_with_false_is_false false = refl

-- no LF: the whole
pub line_end_search_without_lf_keeps_all : (xs : List ℕ) → ((k : ℕ) → k < length xs → (get_or xs k 0 == 10) ≡ true → ⊥) → bytes_up_to_line_end xs ≡ xs
line_end_search_without_lf_keeps_all [] h = refl
line_end_search_without_lf_keeps_all (b ∷ []) h = rw (value_that_is_not_true_is_false (b == 10) (h 0 (omega arith)), conjunction_with_false_is_false (b == 13)) refl
line_end_search_without_lf_keeps_all (b ∷ c ∷ rest) h =
    let other : (b == 10) ≡ false = value_that_is_not_true_is_false (b == 10) (h 0 (omega arith)) in
    let next : (c == 10) ≡ false = value_that_is_not_true_is_false (c == 10) (h 1 (omega arith)) in
    let later = line_end_search_without_lf_keeps_all (c ∷ rest) (λ k l. h (suc k) (omega arith)) in
    ap (λ (t : Bool). if t || (b == 13 && (c == 10)) then [] else b ∷ bytes_up_to_line_end (c ∷ rest)) other
    ∙ ap (λ (t : Bool). if b == 13 && t then [] else b ∷ bytes_up_to_line_end (c ∷ rest)) next
    ∙ ap (λ (t : Bool). if t then [] else b ∷ bytes_up_to_line_end (c ∷ rest)) (conjunction_with_false_is_false (b == 13))
    ∙ ap (λ (ys : List ℕ). b ∷ ys) later

-- one byte more before a line end
line_end_search_passes_other_byte : (b c : ℕ) (rest : List ℕ) → (b == 10) ≡ false → (b == 13 && (c == 10)) ≡ false → bytes_up_to_line_end (b ∷ c ∷ rest) ≡ b ∷ bytes_up_to_line_end (c ∷ rest)
line_end_search_passes_other_byte b c rest other inside =
    ap (λ (t : Bool). if t || (b == 13 && (c == 10)) then [] else b ∷ bytes_up_to_line_end (c ∷ rest)) other
    ∙ ap (λ (t : Bool). if t then [] else b ∷ bytes_up_to_line_end (c ∷ rest)) inside

-- up to the first LF, which stands behind no CR
pub line_end_search_stops_at_lf : (xs : List ℕ) (n : ℕ) → n < length xs → ((k : ℕ) → k < n → (get_or xs k 0 == 10) ≡ true → ⊥) → (get_or xs n 0 == 10) ≡ true → ((k : ℕ) → suc k ≡ n → (get_or xs k 0 == 13) ≡ false) → bytes_up_to_line_end xs ≡ take n xs
line_end_search_stops_at_lf [] n l before here alone = absurd (omega arith)
line_end_search_stops_at_lf (b ∷ rest) zero l before here alone = rw here refl
line_end_search_stops_at_lf (b ∷ []) (suc n) l before here alone = absurd (omega arith)
line_end_search_stops_at_lf (b ∷ c ∷ rest) (suc zero) l before here alone =
    line_end_search_passes_other_byte b c rest (value_that_is_not_true_is_false (b == 10) (before 0 (omega arith))) (ap (λ (t : Bool). t && (c == 10)) (alone 0 refl))
    ∙ ap (λ (ys : List ℕ). b ∷ ys) (line_end_search_stops_at_lf (c ∷ rest) zero (omega arith) (λ k m. absurd (omega arith)) here (λ k e. absurd (omega arith)))
line_end_search_stops_at_lf (b ∷ c ∷ rest) (suc (suc n)) l before here alone =
    line_end_search_passes_other_byte b c rest (value_that_is_not_true_is_false (b == 10) (before 0 (omega arith)))
    (ap (λ (t : Bool). b == 13 && t) (value_that_is_not_true_is_false (c == 10) (before 1 (omega arith))) ∙ conjunction_with_false_is_false (b == 13))
    ∙ ap (λ (ys : List ℕ). b ∷ ys) (line_end_search_stops_at_lf (c ∷ rest) (suc n) (omega arith) (λ k m. before (suc k) (omega arith)) here (λ k e. alone (suc k) (ap suc e)))

-- up to the CR behind which the first LF stands
pub line_end_search_stops_at_cr_lf : (xs : List ℕ) (n : ℕ) → suc n < length xs → ((k : ℕ) → k < suc n → (get_or xs k 0 == 10) ≡ true → ⊥) → (get_or xs (suc n) 0 == 10) ≡ true → (get_or xs n 0 == 13) ≡ true → bytes_up_to_line_end xs ≡ take n xs
line_end_search_stops_at_cr_lf [] n l before lf cr = absurd (omega arith)
line_end_search_stops_at_cr_lf (b ∷ []) n l before lf cr = absurd (omega arith)
line_end_search_stops_at_cr_lf (b ∷ c ∷ rest) zero l before lf cr =
    let other : (b == 10) ≡ false = value_that_is_not_true_is_false (b == 10) (before 0 (omega arith)) in
    ap (λ (t : Bool). if t || (b == 13 && (c == 10)) then [] else b ∷ bytes_up_to_line_end (c ∷ rest)) other
    ∙ ap (λ (t : Bool). if t && (c == 10) then [] else b ∷ bytes_up_to_line_end (c ∷ rest)) cr
    ∙ ap (λ (t : Bool). if t then [] else b ∷ bytes_up_to_line_end (c ∷ rest)) lf
line_end_search_stops_at_cr_lf (b ∷ c ∷ rest) (suc n) l before lf cr =
    line_end_search_passes_other_byte b c rest (value_that_is_not_true_is_false (b == 10) (before 0 (omega arith)))
    (ap (λ (t : Bool). b == 13 && t) (value_that_is_not_true_is_false (c == 10) (before 1 (omega arith))) ∙ conjunction_with_false_is_false (b == 13))
    ∙ ap (λ (ys : List ℕ). b ∷ ys) (line_end_search_stops_at_cr_lf (c ∷ rest) n (omega arith) (λ k m. before (suc k) (omega arith)) lf cr)

-- the same, told by the place of the LF
pub line_ends_before_cr_of_lf : (xs : List ℕ) (end : ℕ) → 0 < end → end < length xs → ((k : ℕ) → k < end → (get_or xs k 0 == 10) ≡ true → ⊥) → (get_or xs end 0 == 10) ≡ true → get_or xs (end - 1) 0 ≡ 13 → bytes_up_to_line_end xs ≡ take (end - 1) xs
line_ends_before_cr_of_lf xs zero some l before lf cr = absurd (omega arith)
line_ends_before_cr_of_lf xs (suc n) some l before lf cr =
    let e : suc n - 1 ≡ n = omega arith in
    let here : get_or xs n 0 ≡ 13 = ap (λ (k : ℕ). get_or xs k 0) (sym e) ∙ cr in
    line_end_search_stops_at_cr_lf xs n l before lf (eq-eqb (get_or xs n 0) 13 here) ∙ ap (λ (k : ℕ). take k xs) (sym e)

pub line_ends_at_lf_without_cr : (xs : List ℕ) (end : ℕ) → end < length xs → ((k : ℕ) → k < end → (get_or xs k 0 == 10) ≡ true → ⊥) → (get_or xs end 0 == 10) ≡ true → (0 < end → get_or xs (end - 1) 0 ≡ 13 → ⊥) → bytes_up_to_line_end xs ≡ take end xs
line_ends_at_lf_without_cr xs end l before lf other =
    line_end_search_stops_at_lf xs end l before lf (λ k is.
    let e : k ≡ end - 1 = omega (arith, is) in
    value_that_is_not_true_is_false (get_or xs k 0 == 13) (λ t. other (omega (arith, is)) (ap (λ (n : ℕ). get_or xs n 0) (sym e) ∙ eqb-true (get_or xs k 0) 13 t)))

-- the line end that begins a text, and what follows it
pub record BeginsWithLineEnd (text : List ℕ) : Type 0 where
  pub ending : List ℕ
  pub rest : List ℕ
  pub whole : text ≡ ending ++ rest
  pub size : length ending ≡ line_end_size text
  pub some : 0 < line_end_size text
  pub ends : (units : List LineUnit) → IsLineEndingOrTextEnd units ending rest

cr_before_lf_begins_line_end : (xs : List ℕ) → begins_lf xs ≡ true → BeginsWithLineEnd (13 ∷ xs)
cr_before_lf_begins_line_end [] h = absurd (cc)
cr_before_lf_begins_line_end (c ∷ xs) h =
    let lf : c ≡ 10 = eqb-true c 10 h in
    let family : ℕ → Type 0 = λ c. BeginsWithLineEnd (13 ∷ c ∷ xs) in
    subst family (sym lf) (record { ending = 13 ∷ 10 ∷ []; rest = xs; whole = refl; size = refl; some = omega arith; ends = λ units. by_crlf })

pub true_conjunction_has_two_true_parts : (a b : Bool) → (a && b) ≡ true → (a ≡ true) × (b ≡ true)
true_conjunction_has_two_true_parts true b h = (refl, h)
true_conjunction_has_two_true_parts false b h = absurd (cc)

tested_byte_begins_line_end : (b : ℕ) (xs : List ℕ) (t : Bool) → (b == 10) ≡ t → (t || (b == 13 && begins_lf xs)) ≡ true → BeginsWithLineEnd (b ∷ xs)
tested_byte_begins_line_end b xs true is h =
    let lf : b ≡ 10 = eqb-true b 10 is in
    let family : ℕ → Type 0 = λ b. BeginsWithLineEnd (b ∷ xs) in
    subst family (sym lf) (record { ending = 10 ∷ []; rest = xs; whole = refl; size = refl; some = omega arith; ends = λ units. by_lf })
tested_byte_begins_line_end b xs false is h =
    let both = true_conjunction_has_two_true_parts (b == 13) (begins_lf xs) h in
    let cr : b ≡ 13 = eqb-true b 13 both.0 in
    let family : ℕ → Type 0 = λ b. BeginsWithLineEnd (b ∷ xs) in
    subst family (sym cr) (cr_before_lf_begins_line_end xs both.1)

pub line_end_test_implies_line_end : (text : List ℕ) → begins_line_end text ≡ true → BeginsWithLineEnd text
line_end_test_implies_line_end [] h = absurd (cc)
line_end_test_implies_line_end (b ∷ xs) h = tested_byte_begins_line_end b xs (b == 10) refl h

-- a part of a text and what stands behind it are a longer part
pub slice_and_unit_are_longer_slice : (text unit : List ℕ) (from at : ℕ) → from ≤ at → at ≤ length text → drop at text ≡ unit ++ drop (at + length unit) text → slice_range text from at ++ unit ≡ slice_range text from (at + length unit)
slice_and_unit_are_longer_slice text unit from at below inside reads =
    let rest = drop (at + length unit) text in
    let front = take (at - from) (drop from text) in
    let size : length front ≡ at - from = length-take-le (at - from) (drop from text) (omega (arith, length-drop from text)) in
    let behind : drop (at - from) (drop from text) ≡ unit ++ rest = drop-drop (at - from) from text ∙ ap (λ (n : ℕ). drop n text) (omega arith) ∙ reads in
    let whole : drop from text ≡ (front ++ unit) ++ rest =
    sym (take-append-drop (at - from) (drop from text)) ∙ ap (λ (xs : List ℕ). front ++ xs) behind ∙ sym (append_assoc front unit rest) in
    sym (ap (λ (xs : List ℕ). take (at + length unit - from) xs) whole
    ∙ take_at (front ++ unit) rest (at + length unit - from) (omega (arith, length-append front unit)))

pub emptiness_test_is_zero_length_test : (xs : List ℕ) → is_empty xs ≡ (length xs == 0)
emptiness_test_is_zero_length_test [] = refl
emptiness_test_is_zero_length_test (x ∷ xs) = grind (arith, nat_tests)

-- the part of the last m bytes before a place is this list
abbrev pub AreLastBytesBeforePlace : List ℕ → ℕ → ℕ → List ℕ → Type 0
AreLastBytesBeforePlace text at m part = (m ≤ at) × (length part ≡ m) × (part ≡ slice_range text (at - m) at)

no_bytes_are_last_before_place : (text : List ℕ) (at : ℕ) → AreLastBytesBeforePlace text at 0 []
no_bytes_are_last_before_place text at =
    let none : 0 ≡ at - (at - 0) = omega arith in
    (omega arith, refl, ap (λ (n : ℕ). take n (drop (at - 0) text)) none)

last_bytes_extend_by_unit : (text part unit : List ℕ) (at n : ℕ) → AreLastBytesBeforePlace text at n part → at ≤ length text → drop at text ≡ unit ++ drop (at + length unit) text → AreLastBytesBeforePlace text (at + length unit) (n + length unit) (part ++ unit)
last_bytes_extend_by_unit text part unit at n last inside reads =
    let same_start : at - n ≡ at + length unit - (n + length unit) = omega arith in (
      omega (arith, last.0),
      length-append part unit ∙ ap (λ (k : ℕ). k + length unit) last.1,
      ap (λ (xs : List ℕ). xs ++ unit) last.2 ∙ slice_and_unit_are_longer_slice text unit (at - n) at (omega arith) inside reads
          ∙ ap (λ (from : ℕ). slice_range text from (at + length unit)) same_start,
    )

last_bytes_extend_or_become_none : (b : Bool) (text part unit : List ℕ) (at n : ℕ) → AreLastBytesBeforePlace text at n part → at ≤ length text → drop at text ≡ unit ++ drop (at + length unit) text → AreLastBytesBeforePlace text (at + length unit) (if b then 0 else n + length unit) (if b then [] else part ++ unit)
last_bytes_extend_or_become_none true text part unit at n last inside reads = no_bytes_are_last_before_place text (at + length unit)
last_bytes_extend_or_become_none false text part unit at n last inside reads = last_bytes_extend_by_unit text part unit at n last inside reads

-- what the line has behind one more unit, without what it begins with
pub begun_line_extends_or_stays_empty : (text : List ℕ) (at n : ℕ) (u : LineUnit) (before : List LineUnit) → AreLastBytesBeforePlace text at n (bytes_of_units_after_leading_gap before) → UnitStandsAt text at u → AreLastBytesBeforePlace text (at + length (bytes_of_unit u)) (if n == 0 && is_gap_unit u then 0 else n + length (bytes_of_unit u)) (bytes_of_units_after_leading_gap (u ∷ before))
begun_line_extends_or_stays_empty text at n u before last stands =
    let same : is_empty (bytes_of_units_after_leading_gap before) ≡ (n == 0) = emptiness_test_is_zero_length_test (bytes_of_units_after_leading_gap before) ∙ ap (λ (k : ℕ). k == 0) last.1 in
    let family : Bool → Type 0 = λ b. AreLastBytesBeforePlace text (at + length (bytes_of_unit u)) (if n == 0 && is_gap_unit u then 0 else n + length (bytes_of_unit u)) (if b && is_gap_unit u then [] else bytes_of_units_after_leading_gap before ++ bytes_of_unit u) in
    subst family (sym same) (last_bytes_extend_or_become_none (n == 0 && is_gap_unit u) text (bytes_of_units_after_leading_gap before) (bytes_of_unit u) at n last stands.inside stands.reads)

-- the last byte tells whether a line ends in LF
byte_before_text_end_tells_lf_end : (xs : List ℕ) (n b : ℕ) → suc n ≡ length xs → Some b ≡ slice_get xs n → (b == 10) ≡ ends_in_lf xs
byte_before_text_end_tells_lf_end [] n b l h = absurd (omega arith)
byte_before_text_end_tells_lf_end (x ∷ []) zero b l h = let e : b ≡ x = cc in ap (λ z. z == 10) e
byte_before_text_end_tells_lf_end (x ∷ []) (suc n) b l h = absurd (omega arith)
byte_before_text_end_tells_lf_end (x ∷ y ∷ ys) zero b l h = absurd (omega arith)
byte_before_text_end_tells_lf_end (x ∷ y ∷ ys) (suc n) b l h = byte_before_text_end_tells_lf_end (y ∷ ys) n b (omega arith) h

pub last_byte_tells_lf_end : (xs : List ℕ) (b : ℕ) → Some b ≡ slice_get xs (length xs - 1) → (b == 10) ≡ ends_in_lf xs
last_byte_tells_lf_end [] b h = cc
last_byte_tells_lf_end (x ∷ xs) b h = byte_before_text_end_tells_lf_end (x ∷ xs) (length xs) b refl (h ∙ ap (slice_get (x ∷ xs)) (let e : length (x ∷ xs) - 1 ≡ length xs = omega arith in e))
