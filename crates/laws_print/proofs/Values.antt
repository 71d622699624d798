-- What a spelled word stands for.
use Rattle.laws_print.proofs.Common.{◌&&◌, ◌≡◌, ℕ, ◌+◌, ◌*◌, ◌/◌, ◌%◌, ◌≤◌, ◌<◌, Bool, true, false, ◌||◌, List, [], ◌∷◌, ◌++◌, refl, sym, ap, subst, ◌∙◌, not}
use Rattle.laws_print.proofs.Common.{arith, ◌⊎◌, inl, inr, ◌==◌, if◌then◌else◌, nat_lt, nat_le, append_assoc, and_parts, ne_eqb, nat_tests}
use Rattle.laws_print.proofs.Common.{LineUnit, Pair, Byte, bytes_of_unit, is_digit, is_word_byte, is_upper, value_of_remaining_bytes, value_of_word, is_alias_byte}
use Rattle.laws_print.proofs.Common.{text_of_units, AreWrittenUnitsOf, units_of_spelled_byte, units_of_spelled_word, is_word_escape_needed, is_control, lower_hex_digit}
use Rattle.sudoers_text.specs.Value.{is_hex, hex_digit_value, begins_hex_escape}
use Rattle.laws_print.proofs.Units.{units_of_hex_escape}
use Rattle.sudoers_cvt_spell.specs.Spelling.{spelled_word_byte, spelled_word}
use Rattle.laws_print.proofs.Words.{IsNoLineEndByte, passing_byte_differs_from_failing_byte, word_test_byte_is_word_byte}
use Rattle.std.proofs.lemmas.Bool.{le-leb, eqb-true, leb-true, or_cases, and_from}

-- ---- digits

-- a byte that is no sign of any kind
pub digit_range_byte_is_word_byte : (x : ℕ) → 47 < x → (x < 58) → is_word_byte x ≡ true
digit_range_byte_is_word_byte x low high =
    rw (ne_eqb x 0 (λ e. omega arith), ne_eqb x 10 (λ e. omega arith), ne_eqb x 13 (λ e. omega arith), ne_eqb x 32 (λ e. omega arith), ne_eqb x 9 (λ e. omega arith), ne_eqb x 34 (λ e. omega arith), ne_eqb x 35 (λ e. omega arith), ne_eqb x 92 (λ e. omega arith), ne_eqb x 33 (λ e. omega arith), ne_eqb x 61 (λ e. omega arith), ne_eqb x 58 (λ e. omega arith), ne_eqb x 44 (λ e. omega arith), ne_eqb x 40 (λ e. omega arith), ne_eqb x 41 (λ e. omega arith)) refl

byte_above_96_is_word_byte : (x : ℕ) → 96 < x → is_word_byte x ≡ true
byte_above_96_is_word_byte x low =
    rw (ne_eqb x 0 (λ e. omega arith), ne_eqb x 10 (λ e. omega arith), ne_eqb x 13 (λ e. omega arith), ne_eqb x 32 (λ e. omega arith), ne_eqb x 9 (λ e. omega arith), ne_eqb x 34 (λ e. omega arith), ne_eqb x 35 (λ e. omega arith), ne_eqb x 92 (λ e. omega arith), ne_eqb x 33 (λ e. omega arith), ne_eqb x 61 (λ e. omega arith), ne_eqb x 58 (λ e. omega arith), ne_eqb x 44 (λ e. omega arith), ne_eqb x 40 (λ e. omega arith), ne_eqb x 41 (λ e. omega arith)) refl

-- a digit below 16
pub record IsHexDigitOfNumber (n : ℕ) : Type 0 where
  pub word : is_word_byte (lower_hex_digit n) ≡ true
  pub hex : is_hex (lower_hex_digit n) ≡ true
  pub number : hex_digit_value (lower_hex_digit n) ≡ n

greater_number_is_not_below_or_equal : (a b : ℕ) → b < a → nat_le a b ≡ false
greater_number_is_not_below_or_equal a b h = grind (arith, nat_tests)

number_below_sixteen_has_hex_digit : (n : ℕ) → n < 16 → (t : Bool) → nat_lt n 10 ≡ t → IsHexDigitOfNumber n
number_below_sixteen_has_hex_digit n h true e =
    let small : n < 10 = grind (arith, nat_tests) in
    let low : nat_le 48 (48 + n) ≡ true = le-leb 48 (48 + n) (omega arith) in
    let high : nat_le (48 + n) 57 ≡ true = le-leb (48 + n) 57 (omega arith) in
    record {
      word = rw e (digit_range_byte_is_word_byte (48 + n) (omega arith) (omega arith));
      hex = rw e (rw (low, high) refl);
      number = rw e (rw (low, high) (omega arith));
    }
number_below_sixteen_has_hex_digit n h false e =
    let large : 10 ≤ n = grind (arith, nat_tests) in
    let low : nat_le 48 (87 + n) ≡ true = le-leb 48 (87 + n) (omega arith) in
    let high : nat_le (87 + n) 57 ≡ false = greater_number_is_not_below_or_equal (87 + n) 57 (omega arith) in
    let from : nat_le 97 (87 + n) ≡ true = le-leb 97 (87 + n) (omega arith) in
    let to : nat_le (87 + n) 102 ≡ true = le-leb (87 + n) 102 (omega arith) in
    let mid : nat_le 65 (87 + n) ≡ true = le-leb 65 (87 + n) (omega arith) in
    let upper : nat_le (87 + n) 70 ≡ false = greater_number_is_not_below_or_equal (87 + n) 70 (omega arith) in
    record {
      word = rw e (byte_above_96_is_word_byte (87 + n) (omega arith));
      hex = rw e (rw (low, high, mid, upper, from, to) refl);
      number = rw e (rw (low, high, from) (omega arith));
    }

number_at_least_limit_is_not_below : (b n : ℕ) → n ≤ b → nat_lt b n ≡ false
number_at_least_limit_is_not_below b n h = grind (arith, nat_tests)

-- ---- bytes

other_byte_begins_no_hex_escape : (b : ℕ) (rest : List ℕ) → (b == 120) ≡ false → begins_hex_escape (b ∷ rest) ≡ false
other_byte_begins_no_hex_escape b [] other = refl
other_byte_begins_no_hex_escape b (c ∷ []) other = refl
other_byte_begins_no_hex_escape b (c ∷ d ∷ rest) other = rw other refl

-- a pair that stands for its second byte
pub value_of_pair_is_second_byte : (b : ℕ) (rest : List ℕ) → IsNoLineEndByte b → (b == 120) ≡ false → value_of_remaining_bytes 0 false (92 ∷ b ∷ rest) ≡ b ∷ value_of_remaining_bytes 0 false rest
value_of_pair_is_second_byte b rest is other =
    rw (is.lf, is.cr, other_byte_begins_no_hex_escape b rest other) refl

value_of_hex_escape_is_its_byte : (high low : ℕ) (rest : List ℕ) (b : ℕ) → is_hex high ≡ true → is_hex low ≡ true → hex_digit_value high * 16 + hex_digit_value low ≡ b → value_of_remaining_bytes 0 false (92 ∷ 120 ∷ high ∷ low ∷ rest) ≡ b ∷ value_of_remaining_bytes 0 false rest
value_of_hex_escape_is_its_byte high low rest b h l is = rw (h, l, is) refl

-- ---- a byte as it is spelled

-- how a byte is spelled: by a pair, in hexadecimal digits, or as it is
pub data AreUnitsSpellingByte (b : ℕ) : List LineUnit → Type 0 where
  by_pair : is_word_escape_needed b ≡ true → AreUnitsSpellingByte b (Pair b ∷ [])
  by_hex : {high low : ℕ} → is_word_byte high ≡ true → is_word_byte low ≡ true → is_hex high ≡ true → is_hex low ≡ true → hex_digit_value high * 16 + hex_digit_value low ≡ b → is_control b ≡ true → AreUnitsSpellingByte b (Pair 120 ∷ Byte high ∷ Byte low ∷ [])
  by_itself : is_word_byte b ≡ true → is_word_escape_needed b ≡ false → is_control b ≡ false → AreUnitsSpellingByte b (Byte b ∷ [])

pub below_test_implies_below : (a b : ℕ) → nat_lt a b ≡ true → a < b
below_test_implies_below a b h = grind (arith, nat_tests)

control_byte_is_below_128 : (b : ℕ) → is_control b ≡ true → b < 128
control_byte_is_below_128 b control = by_low (nat_lt b 32) refl
  where
    by_low : (t : Bool) → nat_lt b 32 ≡ t → b < 128
    by_low true e = let low = below_test_implies_below b 32 e in omega arith
    by_low false e = let last = eqb-true b 127 (ap (λ (t : Bool). t || (b == 127)) (sym e) ∙ control) in omega arith

hex_units_spell_control_byte : (b : ℕ) → is_control b ≡ true → AreUnitsSpellingByte b (units_of_hex_escape b)
hex_units_spell_control_byte b control =
    let small = control_byte_is_below_128 b control in
    let high = number_below_sixteen_has_hex_digit (b / 16) (omega arith) (nat_lt (b / 16) 10) refl in
    let low = number_below_sixteen_has_hex_digit (b % 16) (omega arith) (nat_lt (b % 16) 10) refl in
    by_hex high.word low.word high.hex low.hex (omega (arith, high.number, low.number)) control

pub unescaped_byte_is_word_byte : (b : ℕ) → is_word_escape_needed b ≡ false → is_control b ≡ false → is_word_byte b ≡ true
unescaped_byte_is_word_byte b bare none =
    word_test_byte_is_word_byte (λ x. not (is_word_escape_needed x) && not (is_control x)) refl b (and_from _ _ (ap not bare) (ap not none))

pub units_of_byte_spell_it : (b : ℕ) → AreUnitsSpellingByte b (units_of_spelled_byte b)
units_of_byte_spell_it b = by_escaped (is_word_escape_needed b) refl
  where
    by_escaped : (t : Bool) → is_word_escape_needed b ≡ t → AreUnitsSpellingByte b (if t then Pair b ∷ [] else (if is_control b then units_of_hex_escape b else Byte b ∷ []))
    by_escaped true e = by_pair e
    by_escaped false e = by_control (is_control b) refl
      where
        by_control : (t : Bool) → is_control b ≡ t → AreUnitsSpellingByte b (if t then units_of_hex_escape b else Byte b ∷ [])
        by_control true f = hex_units_spell_control_byte b f
        by_control false f = by_itself (unescaped_byte_is_word_byte b e f) e f

-- ---- words

byte_needing_escape_is_no_line_end : (b : ℕ) → is_word_escape_needed b ≡ true → IsNoLineEndByte b
byte_needing_escape_is_no_line_end b e = record { lf = passing_byte_differs_from_failing_byte is_word_escape_needed 10 b e refl; cr = passing_byte_differs_from_failing_byte is_word_escape_needed 13 b e refl }

units_spelling_byte_are_word_units : (b : ℕ) (us : List LineUnit) → AreUnitsSpellingByte b us → AreWrittenUnitsOf is_word_byte us
units_spelling_byte_are_word_units b us (by_pair e) =
    let is = byte_needing_escape_is_no_line_end b e in
    (rw (passing_byte_differs_from_failing_byte is_word_escape_needed 0 b e refl, is.lf, is.cr) refl, tt)
units_spelling_byte_are_word_units b us (by_hex high low h l is control) = (refl, (high, (low, tt)))
units_spelling_byte_are_word_units b us (by_itself word bare none) = (word, tt)

value_of_units_spelling_byte_is_byte : (b : ℕ) (us : List LineUnit) (more : List ℕ) → AreUnitsSpellingByte b us → value_of_remaining_bytes 0 false (text_of_units us ++ more) ≡ b ∷ value_of_remaining_bytes 0 false more
value_of_units_spelling_byte_is_byte b us more (by_pair e) = value_of_pair_is_second_byte b more (byte_needing_escape_is_no_line_end b e) (passing_byte_differs_from_failing_byte is_word_escape_needed 120 b e refl)
value_of_units_spelling_byte_is_byte b us more (by_hex {high = high} {low = low} word other h l is control) = value_of_hex_escape_is_its_byte high low more b h l is
value_of_units_spelling_byte_is_byte b us more (by_itself word bare none) =
    rw (passing_byte_differs_from_failing_byte is_word_byte 34 b word refl, passing_byte_differs_from_failing_byte is_word_byte 92 b word refl) refl

pub appended_units_of_test_are_of_it : (test : ℕ → Bool) (us vs : List LineUnit) → AreWrittenUnitsOf test us → AreWrittenUnitsOf test vs → AreWrittenUnitsOf test (us ++ vs)
appended_units_of_test_are_of_it test [] vs x y = y
appended_units_of_test_are_of_it test (u ∷ us) vs x y = (x.0, appended_units_of_test_are_of_it test us vs x.1 y)

pub text_of_appended_units_is_appended : (us vs : List LineUnit) → text_of_units (us ++ vs) ≡ text_of_units us ++ text_of_units vs
text_of_appended_units_is_appended [] vs = refl
text_of_appended_units_is_appended (u ∷ us) vs = ap (λ (t : List ℕ). bytes_of_unit u ++ t) (text_of_appended_units_is_appended us vs) ∙ sym (append_assoc (bytes_of_unit u) (text_of_units us) (text_of_units vs))

text_of_byte_units_is_spelled_byte : (b : ℕ) → text_of_units (units_of_spelled_byte b) ≡ spelled_word_byte b
text_of_byte_units_is_spelled_byte b = by_escaped (is_word_escape_needed b)
  where
    by_control : (t : Bool) → text_of_units (if t then units_of_hex_escape b else Byte b ∷ []) ≡ (if t then 92 ∷ 120 ∷ lower_hex_digit (b / 16) ∷ lower_hex_digit (b % 16) ∷ [] else b ∷ [])
    by_control true = refl
    by_control false = refl

    by_escaped : (t : Bool) → text_of_units (if t then Pair b ∷ [] else (if is_control b then units_of_hex_escape b else Byte b ∷ [])) ≡ (if t then 92 ∷ b ∷ [] else (if is_control b then 92 ∷ 120 ∷ lower_hex_digit (b / 16) ∷ lower_hex_digit (b % 16) ∷ [] else b ∷ []))
    by_escaped true = refl
    by_escaped false = by_control (is_control b)

-- The units of a word are its bytes as they are spelled.
pub text_of_word_units_is_spelled_word : (v : List ℕ) → text_of_units (units_of_spelled_word v) ≡ spelled_word v
text_of_word_units_is_spelled_word [] = refl
text_of_word_units_is_spelled_word (b ∷ v) = text_of_appended_units_is_appended (units_of_spelled_byte b) (units_of_spelled_word v) ∙ ap (λ (t : List ℕ). t ++ text_of_units (units_of_spelled_word v)) (text_of_byte_units_is_spelled_byte b) ∙ ap (λ (t : List ℕ). spelled_word_byte b ++ t) (text_of_word_units_is_spelled_word v)

-- A spelled word is units of a word.
pub units_of_spelled_word_are_word_units : (v : List ℕ) → AreWrittenUnitsOf is_word_byte (units_of_spelled_word v)
units_of_spelled_word_are_word_units [] = tt
units_of_spelled_word_are_word_units (b ∷ v) = appended_units_of_test_are_of_it is_word_byte (units_of_spelled_byte b) (units_of_spelled_word v) (units_spelling_byte_are_word_units b (units_of_spelled_byte b) (units_of_byte_spell_it b)) (units_of_spelled_word_are_word_units v)

pub remaining_value_of_word_units_is_word : (v : List ℕ) → value_of_remaining_bytes 0 false (text_of_units (units_of_spelled_word v)) ≡ v
remaining_value_of_word_units_is_word [] = refl
remaining_value_of_word_units_is_word (b ∷ v) =
    ap (λ (t : List ℕ). value_of_remaining_bytes 0 false t) (text_of_appended_units_is_appended (units_of_spelled_byte b) (units_of_spelled_word v))
    ∙ value_of_units_spelling_byte_is_byte b (units_of_spelled_byte b) (text_of_units (units_of_spelled_word v)) (units_of_byte_spell_it b)
    ∙ ap (λ (t : List ℕ). b ∷ t) (remaining_value_of_word_units_is_word v)

-- It stands for what it spells.
pub value_of_word_units_is_word : (v : List ℕ) → value_of_word (text_of_units (units_of_spelled_word v)) ≡ v
unfolding value_of_word
value_of_word_units_is_word v = remaining_value_of_word_units_is_word v

-- ---- names of aliases

-- a byte of an alias's name is spelled as it is
pub record IsByteSpelledAsItself (b : ℕ) : Type 0 where
  pub bare : is_word_escape_needed b ≡ false
  pub plain : is_control b ≡ false

name_range_byte_is_spelled_as_itself : (b low high : ℕ) → low ≤ b → b ≤ high → ((low ≡ 65) × (high ≡ 90)) ⊎ ((low ≡ 48) × (high ≡ 57)) → IsByteSpelledAsItself b
name_range_byte_is_spelled_as_itself b low high from to (inl w) = record {
  bare = rw (ne_eqb b 33 (λ e. omega (arith, w.0, w.1)), ne_eqb b 61 (λ e. omega (arith, w.0, w.1)), ne_eqb b 58 (λ e. omega (arith, w.0, w.1)), ne_eqb b 44 (λ e. omega (arith, w.0, w.1)), ne_eqb b 40 (λ e. omega (arith, w.0, w.1)), ne_eqb b 41 (λ e. omega (arith, w.0, w.1)), ne_eqb b 92 (λ e. omega (arith, w.0, w.1)), ne_eqb b 34 (λ e. omega (arith, w.0, w.1)), ne_eqb b 35 (λ e. omega (arith, w.0, w.1)), ne_eqb b 32 (λ e. omega (arith, w.0, w.1)), ne_eqb b 9 (λ e. omega (arith, w.0, w.1))) refl;
  plain = rw (number_at_least_limit_is_not_below b 32 (omega (arith, w.0)), ne_eqb b 127 (λ e. omega (arith, w.0, w.1))) refl;
}
name_range_byte_is_spelled_as_itself b low high from to (inr w) = record {
  bare = rw (ne_eqb b 33 (λ e. omega (arith, w.0, w.1)), ne_eqb b 61 (λ e. omega (arith, w.0, w.1)), ne_eqb b 58 (λ e. omega (arith, w.0, w.1)), ne_eqb b 44 (λ e. omega (arith, w.0, w.1)), ne_eqb b 40 (λ e. omega (arith, w.0, w.1)), ne_eqb b 41 (λ e. omega (arith, w.0, w.1)), ne_eqb b 92 (λ e. omega (arith, w.0, w.1)), ne_eqb b 34 (λ e. omega (arith, w.0, w.1)), ne_eqb b 35 (λ e. omega (arith, w.0, w.1)), ne_eqb b 32 (λ e. omega (arith, w.0, w.1)), ne_eqb b 9 (λ e. omega (arith, w.0, w.1))) refl;
  plain = rw (number_at_least_limit_is_not_below b 32 (omega (arith, w.0)), ne_eqb b 127 (λ e. omega (arith, w.0, w.1))) refl;
}

pub alias_byte_is_spelled_as_itself : (b : ℕ) → is_alias_byte b ≡ true → IsByteSpelledAsItself b
alias_byte_is_spelled_as_itself b h =
    elim (or_cases (is_upper b || is_digit b) (b == 95) h) [
      | inl w ↦
          elim (or_cases (is_upper b) (is_digit b) w) [
            | inl v ↦ let parts = and_parts (nat_le 65 b) (nat_le b 90) v in name_range_byte_is_spelled_as_itself b 65 90 (leb-true 65 b parts.0) (leb-true b 90 parts.1) (inl (refl, refl))
            | inr v ↦ let parts = and_parts (nat_le 48 b) (nat_le b 57) v in name_range_byte_is_spelled_as_itself b 48 57 (leb-true 48 b parts.0) (leb-true b 57 parts.1) (inr (refl, refl))
          ]
      | inr w ↦ subst IsByteSpelledAsItself (sym (eqb-true b 95 w)) (record { bare = refl; plain = refl })
    ]
