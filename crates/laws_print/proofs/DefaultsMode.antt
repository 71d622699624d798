-- A line that begins with the word `Defaults` is read as parameters, and has no arguments.
use Rattle.laws_print.proofs.Common.{◌≡◌, ℕ, zero, suc, ◌≤◌, ◌<◌, true, ◌&&◌, List, [], ◌∷◌, ◌++◌, length, take, drop, refl, sym, ap}
use Rattle.laws_print.proofs.Common.{◌∙◌, arith, inl, inr, ◌==◌, nat_lt, codes, take-append-drop, length-take-le, append_assoc}
use Rattle.laws_print.proofs.Common.{length-append, and_parts, eqb-true, nat_tests, take-append_seam, Mode, LineUnit, Pair}
use Rattle.laws_print.proofs.Common.{Byte, bytes_of_unit, is_word_byte, reach_of_units, leading_run_size}
use Rattle.laws_print.proofs.Common.{is_nonempty_run, Run, IncludeWord, is_non_unix_group_word, begins_defaults, forms_of_first_token, token_forms_in_word_lists, line_mode, mode_by_line_start}
use Rattle.laws_print.proofs.Common.{IsTokenOfKindAndSize, is_run_unit}
use Rattle.sudoers_text.specs.declared.part.ByteRunKind.TheVariants as rule
use Rattle.sudoers_text.specs.declared.token.TokenKind.TheVariants as kind
use Rattle.sudoers_text.specs.declared.token.Mode.TheVariants as mode
use Rattle.sudoers_text.specs.Piece.{hash_include_word_size}
use Rattle.sudoers_text.specs.Token.{IsLongestPieceOfForm, leading_gap_size}
use Rattle.laws_print.proofs.Units.{units_of_plain_bytes}
use Rattle.laws_print.proofs.Words.{size_of_matching_byte_or_pair, run_reach_passes_units, bytes_passing_test_are_units_of_it, run_reach_passes_unit, BeginsRunWithByteOrPair, at_byte, at_pair, positive_run_begins_with_byte_or_pair}
use Rattle.sudoers_text.proofs.Reach.{reach_without_first_unit_is_zero}

-- ---- one unit of a word

-- a unit of a word with which the bytes begin
pub record HasWordUnitAtFront (bytes : List ℕ) : Type 0 where
  pub unit : LineUnit
  pub rest : List ℕ
  pub whole : bytes ≡ bytes_of_unit unit ++ rest
  pub is : is_run_unit is_word_byte unit ≡ true
  pub some : 0 < length (bytes_of_unit unit)

positive_word_size_has_unit_at_front : (y : List ℕ) (k : ℕ) → size_of_matching_byte_or_pair is_word_byte y ≡ suc k → HasWordUnitAtFront y
positive_word_size_has_unit_at_front [] k e = absurd (omega (arith, e))
positive_word_size_has_unit_at_front (b ∷ rest) k e = by_front (positive_run_begins_with_byte_or_pair is_word_byte b rest k e)
  where
    by_front : {bytes : List ℕ} → BeginsRunWithByteOrPair is_word_byte bytes → HasWordUnitAtFront bytes
    by_front (at_byte {b = b} {rest = rest} h) = record { unit = Byte b; rest = rest; whole = refl; is = h; some = omega arith }
    by_front (at_pair {c = c} {rest = rest} is) = record { unit = Pair c; rest = rest; whole = refl; is = rw (is.lf, is.cr) refl; some = omega arith }

-- ---- the word alone

abbrev pub defaults_keyword_text : List ℕ
defaults_keyword_text = codes "Defaults"

-- `Defaults` and one unit more
abbrev pub defaults_keyword_with_unit : LineUnit → List ℕ
defaults_keyword_with_unit u = defaults_keyword_text ++ (bytes_of_unit u ++ [])

keyword_with_word_unit_is_word_run : (u : LineUnit) → is_run_unit is_word_byte u ≡ true → is_nonempty_run rule.Word (defaults_keyword_with_unit u) ≡ true
unfolding leading_run_size
keyword_with_word_unit_is_word_run u is =
    let word = run_reach_passes_units is_word_byte refl (units_of_plain_bytes defaults_keyword_text) (bytes_of_unit u ++ []) (bytes_passing_test_are_units_of_it is_word_byte defaults_keyword_text refl) in
    let one = run_reach_passes_unit is_word_byte refl u [] is in
    let all : reach_of_units (size_of_matching_byte_or_pair is_word_byte) 0 (defaults_keyword_with_unit u) ≡ length (defaults_keyword_with_unit u) = omega (arith, word, one, length-append (bytes_of_unit u) []) in
    let positive : nat_lt 0 (length (defaults_keyword_with_unit u)) ≡ true = grind (arith, nat_tests) in
    let same : (length (defaults_keyword_with_unit u) == length (defaults_keyword_with_unit u)) ≡ true = grind (arith, nat_tests) in
    rw (positive, all, same) refl

-- Where no longer run begins the bytes, the word ends.
word_ends_behind_longest_keyword_run : (y : List ℕ) → ((other : ℕ) → other ≤ length (defaults_keyword_text ++ y) → is_nonempty_run rule.Word (take other (defaults_keyword_text ++ y)) ≡ true → other ≤ 8) → size_of_matching_byte_or_pair is_word_byte y ≡ 0
word_ends_behind_longest_keyword_run y longest = by_size (size_of_matching_byte_or_pair is_word_byte y) refl
  where
    by_size : (n : ℕ) → size_of_matching_byte_or_pair is_word_byte y ≡ n → n ≡ 0
    by_size zero e = refl
    by_size (suc k) e =
        let front = positive_word_size_has_unit_at_front y k e in
        let x = defaults_keyword_with_unit front.unit in
        let whole : defaults_keyword_text ++ y ≡ x ++ front.rest = ap (λ (t : List ℕ). defaults_keyword_text ++ t) (front.whole ∙ sym (append_assoc (bytes_of_unit front.unit) [] front.rest)) in
        let taken : take (length x) (defaults_keyword_text ++ y) ≡ x = ap (take (length x)) whole ∙ take-append_seam x front.rest in
        let run = ap (is_nonempty_run rule.Word) taken ∙ keyword_with_word_unit_is_word_run front.unit front.is in
        let small = longest (length x) (omega (arith, ap length whole, length-append x front.rest)) run in
        absurd (omega (arith, small, front.some, length-append (bytes_of_unit front.unit) []))

keyword_before_word_end_begins_defaults : (y : List ℕ) → size_of_matching_byte_or_pair is_word_byte y ≡ 0 → begins_defaults (defaults_keyword_text ++ y) ≡ true
unfolding leading_run_size
keyword_before_word_end_begins_defaults y ends =
    let size : reach_of_units (size_of_matching_byte_or_pair is_word_byte) 0 (defaults_keyword_text ++ y) ≡ 8 = omega (arith, run_reach_passes_units is_word_byte refl (units_of_plain_bytes defaults_keyword_text) y (bytes_passing_test_are_units_of_it is_word_byte defaults_keyword_text refl), reach_without_first_unit_is_zero (size_of_matching_byte_or_pair is_word_byte) y ends) in
    rw size refl

-- ---- the token

-- the longest run of a word is this word
longest_word_run_bounds_other_runs : (before : List LineUnit) (body y : List ℕ) (n : ℕ) → n ≡ 8 → body ≡ defaults_keyword_text ++ y → IsLongestPieceOfForm (Run kind.Word rule.Word) before body n
    → (other : ℕ) → other ≤ length (defaults_keyword_text ++ y) → is_nonempty_run rule.Word (take other (defaults_keyword_text ++ y)) ≡ true → other ≤ 8
longest_word_run_bounds_other_runs before body y n eight whole is other fits run =
    let inside : other ≤ length body = omega (arith, fits, ap length whole) in
    let piece : is_nonempty_run rule.Word (take other body) ≡ true = ap (λ (t : List ℕ). is_nonempty_run rule.Word (take other t)) whole ∙ run in
    let small : other ≤ n = is.longest other inside piece in
    omega (arith, small, eight)

longest_run_of_keyword_begins_defaults : (before : List LineUnit) (body : List ℕ) (n : ℕ) → take n body ≡ defaults_keyword_text → IsLongestPieceOfForm (Run kind.Word rule.Word) before body n → begins_defaults body ≡ true
longest_run_of_keyword_begins_defaults before body n text is =
    let eight : n ≡ 8 = sym (length-take-le n body is.inside) ∙ ap length text in
    let whole : body ≡ defaults_keyword_text ++ drop n body = sym (take-append-drop n body) ∙ ap (λ (t : List ℕ). t ++ drop n body) text in
    ap begins_defaults whole ∙ keyword_before_word_end_begins_defaults (drop n body) (word_ends_behind_longest_keyword_run (drop n body) (longest_word_run_bounds_other_runs before body (drop n body) n eight whole is))

defaults_keyword_is_no_include_word : (before : List LineUnit) (body : List ℕ) (n : ℕ) → take n body ≡ defaults_keyword_text → (nat_lt 0 n && (n == hash_include_word_size before body)) ≡ true → ⊥
defaults_keyword_is_no_include_word before body n text h =
    let whole : body ≡ defaults_keyword_text ++ drop n body = sym (take-append-drop n body) ∙ ap (λ (t : List ℕ). t ++ drop n body) text in
    let none : hash_include_word_size before body ≡ 0 = ap (hash_include_word_size before) whole in
    let parts = and_parts (nat_lt 0 n) (n == hash_include_word_size before body) h in
    let size = eqb-true n (hash_include_word_size before body) parts.1 in
    let empty : take n body ≡ [] = ap (λ (k : ℕ). take k body) (size ∙ none) in
    let both = sym text ∙ empty in cc

word_token_of_keyword_begins_defaults : (before : List LineUnit) (body : List ℕ) (n : ℕ) → take n body ≡ defaults_keyword_text → IsTokenOfKindAndSize (IncludeWord ∷ token_forms_in_word_lists) before body kind.Word n → begins_defaults body ≡ true
word_token_of_keyword_begins_defaults before body n text is =
    elim is [
      | inl w ↦ absurd (defaults_keyword_is_no_include_word before body n text w.1.piece)
      | inr w ↦
          elim w.1 [
            | inl a ↦ absurd (let e = a.0 in cc)
            | inr a ↦
                elim a.1 [
                  | inl b ↦ absurd (let e = b.0 in cc)
                  | inr b ↦
                      elim b.1 [
                        | inl c ↦ absurd (let e = sym (ap is_non_unix_group_word text) ∙ c.1.piece in cc)
                        | inr c ↦
                            elim c.1 [
                              | inl d ↦ longest_run_of_keyword_begins_defaults before body n text d.1
                              | inr d ↦
                                  elim d.1 [
                                    | inl e ↦ absurd (let f = e.0 in cc)
                                    | inr e ↦
                                        elim e.1 [
                                          | inl f ↦ absurd (let g = f.0 in cc)
                                          | inr f ↦ absurd (let g = f.1.0 in cc)
                                        ]
                                  ]
                            ]
                      ]
                ]
          ]
    ]

-- The line is read as parameters.
pub mode_of_defaults_line_is_parameters : (line : List ℕ) (at : ℕ) (before : List LineUnit) (n : ℕ) → at ≡ leading_gap_size line → take n (drop at line) ≡ defaults_keyword_text → IsTokenOfKindAndSize (forms_of_first_token (line_mode line)) before (drop at line) kind.Word n → line_mode line ≡ mode.Parameters
unfolding line_mode
mode_of_defaults_line_is_parameters line at before n there text is = by_mode (line_mode line) refl is
  where
    so : begins_defaults (drop at line) ≡ true → mode_by_line_start (drop (leading_gap_size line) line) ≡ mode.Parameters
    so begins =
        let same : begins_defaults (drop (leading_gap_size line) line) ≡ true = ap (λ (k : ℕ). begins_defaults (drop k line)) (sym there) ∙ begins in
        rw same refl

    by_mode : (m : Mode) → line_mode line ≡ m → IsTokenOfKindAndSize (forms_of_first_token m) before (drop at line) kind.Word n → mode_by_line_start (drop (leading_gap_size line) line) ≡ mode.Parameters
    by_mode mode.Parameters e is = e
    by_mode mode.Words e is = so (word_token_of_keyword_begins_defaults before (drop at line) n text is)
    by_mode mode.Commands e is = so (word_token_of_keyword_begins_defaults before (drop at line) n text is)
