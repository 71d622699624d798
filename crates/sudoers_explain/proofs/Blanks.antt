-- Blanks under what is printed.
use Rattle.std.proofs.Common.{arith, ◌≡◌, ℕ, ◌/◌, ◌%◌, ◌<◌, ◌==◌, ◌&&◌, ◌||◌, not, nat_lt, nat_le, Bool, true, false, List, [], ◌∷◌, ◌++◌, map, if◌then◌else◌, refl, sym, ap, ap₂, ◌∙◌}
use Rattle.std.specs.List.{filter, flat_map}
use Rattle.std.proofs.lemmas.Bool.Decides.{Decides-ltb, Decides-eqb}
use Rattle.std.proofs.lemmas.List.{map-append}
use Rattle.std.proofs.lemmas.List.Elements.{filter-append}
use Rattle.sudoers_explain.specs.ShownRow.{is_first_byte_of_character, blank_of_byte, blanks_of_text, hex_digit, blanks_of_byte, shown_byte}

blanks_of_append : (xs ys : List ℕ) → blanks_of_text (xs ++ ys) ≡ blanks_of_text xs ++ blanks_of_text ys
blanks_of_append xs ys = ap (map blank_of_byte) (filter-append is_first_byte_of_character xs ys) ∙ map-append blank_of_byte (filter is_first_byte_of_character xs) (filter is_first_byte_of_character ys)

hex_digit_is_below_128 : (n : ℕ) → n < 16 → hex_digit n < 128
hex_digit_is_below_128 n l = grind arith

hex_digit_is_above_9 : (n : ℕ) → 9 < hex_digit n
hex_digit_is_above_9 n = grind arith

first_byte_gives_one_blank : (d : ℕ) (ds : List ℕ) → d < 128 → 9 < d → blanks_of_text (d ∷ ds) ≡ 32 ∷ blanks_of_text ds
first_byte_gives_one_blank d ds l m = grind arith

blanks_of_control_byte : (b : ℕ) → b < 128 → blanks_of_text (92 ∷ 120 ∷ hex_digit (b / 16) ∷ hex_digit (b % 16) ∷ []) ≡ 32 ∷ 32 ∷ 32 ∷ 32 ∷ []
blanks_of_control_byte b l =
    let high : b / 16 < 16 = omega arith in
    let low : b % 16 < 16 = omega arith in
    ap (λ ds. 32 ∷ 32 ∷ ds)
    (first_byte_gives_one_blank (hex_digit (b / 16)) (hex_digit (b % 16) ∷ []) (hex_digit_is_below_128 (b / 16) high) (hex_digit_is_above_9 (b / 16))
    ∙ ap (λ ds. 32 ∷ ds) (first_byte_gives_one_blank (hex_digit (b % 16)) [] (hex_digit_is_below_128 (b % 16) low) (hex_digit_is_above_9 (b % 16))))

abbrev escape_of_control_byte : ℕ → List ℕ
escape_of_control_byte b = 92 ∷ 120 ∷ hex_digit (b / 16) ∷ hex_digit (b % 16) ∷ []

abbrev blank_if_first_byte : ℕ → List ℕ
blank_if_first_byte b = if nat_lt b 128 || nat_le 192 b then 32 ∷ [] else []

blanks_of_plain_byte : (b : ℕ) → (b == 9) ≡ false → blanks_of_text (b ∷ []) ≡ blank_if_first_byte b
blanks_of_plain_byte b n = by (is_first_byte_of_character b)
  where
    by : (x : Bool) → map blank_of_byte (if x then b ∷ [] else []) ≡ (if x then 32 ∷ [] else [])
    by true = ap (λ (y : Bool). (if y then 9 else 32) ∷ []) n
    by false = refl

blanks_of_tab : (b : ℕ) → b ≡ 9 → blanks_of_text (b ∷ []) ≡ 9 ∷ []
blanks_of_tab b e = ap (λ x. blanks_of_text (x ∷ [])) e

blanks_of_shown_byte_by_tests : (b : ℕ) (n l e : Bool) → (b == 9) ≡ n → nat_lt b 32 ≡ l → (b == 127) ≡ e
    → blanks_of_text (if (l && not n) || e then escape_of_control_byte b else b ∷ []) ≡ (if n then 9 ∷ [] else (if l || e then 32 ∷ 32 ∷ 32 ∷ 32 ∷ [] else blank_if_first_byte b))
blanks_of_shown_byte_by_tests b true true true p q r =
    let a : b ≡ 9 = (Decides-eqb b 9).0 p in
    let c : b ≡ 127 = (Decides-eqb b 127).0 r in
    let lost : 9 ≡ 127 = sym a ∙ c in absurd (omega (arith, lost))
blanks_of_shown_byte_by_tests b true true false p q r = blanks_of_tab b ((Decides-eqb b 9).0 p)
blanks_of_shown_byte_by_tests b true false e p q r =
    let a : b ≡ 9 = (Decides-eqb b 9).0 p in
    let l : b < 32 = omega (arith, a) in
    let lost : true ≡ false = sym ((Decides-ltb b 32).1 l) ∙ q in absurd cc
blanks_of_shown_byte_by_tests b false true e p q r = blanks_of_control_byte b (let l : b < 32 = (Decides-ltb b 32).0 q in omega (arith, l))
blanks_of_shown_byte_by_tests b false false true p q r = blanks_of_control_byte b (let a : b ≡ 127 = (Decides-eqb b 127).0 r in omega (arith, a))
blanks_of_shown_byte_by_tests b false false false p q r = blanks_of_plain_byte b p

blanks_of_shown_byte_are_blanks_of_byte : (b : ℕ) → blanks_of_text (shown_byte b) ≡ blanks_of_byte b
blanks_of_shown_byte_are_blanks_of_byte b = blanks_of_shown_byte_by_tests b (b == 9) (nat_lt b 32) (b == 127) refl refl refl

pub blanks_of_shown_bytes_are_blanks_of_bytes : (bs : List ℕ) → blanks_of_text (flat_map shown_byte bs) ≡ flat_map blanks_of_byte bs
blanks_of_shown_bytes_are_blanks_of_bytes [] = refl
blanks_of_shown_bytes_are_blanks_of_bytes (b ∷ bs) = blanks_of_append (shown_byte b) (flat_map shown_byte bs) ∙ ap₂ (λ x y. x ++ y) (blanks_of_shown_byte_are_blanks_of_byte b) (blanks_of_shown_bytes_are_blanks_of_bytes bs)
