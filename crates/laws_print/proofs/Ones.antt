-- Tokens of bytes that pass a test, without pairs.
use Rattle.laws_print.proofs.Common.{◌≡◌, ℕ, suc, ◌+◌, Bool, true, false, List, [], ◌∷◌, ◌++◌, length, sym, ap, ◌∙◌, arith, list_all, and_parts}
use Rattle.laws_print.proofs.Common.{TokenKind, TokenContext, size_of_one_matching_byte, reach_of_units, leading_run_size, token_forms_in_context, is_line_end_or_empty, kind_and_size_of_token, text_of_units, IsTokenCut}
use Rattle.sudoers_text.specs.declared.part.ByteRunKind.TheVariants as rule
use Rattle.laws_print.proofs.Units.{units_of_plain_bytes}
use Rattle.laws_print.proofs.Words.{plain_byte_begins_token, text_of_units_is_closed, units_stand_in_text, plain_test_byte_is_plain, PassesOnlyPlainBytes, bytes_failing_test_each_fail, bytes_passing_test_are_units_of_it, text_of_units_has_no_nul}
use Rattle.laws_print.proofs.Users.{text_of_plain_units_is_bytes}
use Rattle.sudoers_text.proofs.Reach.{reach_without_first_unit_is_zero}

byte_reach_passes_matching_bytes : (test : ℕ → Bool) (bytes rest : List ℕ) → list_all test bytes ≡ true → reach_of_units (size_of_one_matching_byte test) 0 (bytes ++ rest) ≡ length bytes + reach_of_units (size_of_one_matching_byte test) 0 rest
byte_reach_passes_matching_bytes test [] rest all = omega arith
byte_reach_passes_matching_bytes test (b ∷ bytes) rest all =
    let parts = and_parts (test b) (list_all test bytes) all in
    rw parts.0 (omega (arith, byte_reach_passes_matching_bytes test bytes rest parts.1))

pub byte_reach_of_matching_bytes_is_length : (test : ℕ → Bool) (bytes rest : List ℕ) → list_all test bytes ≡ true → size_of_one_matching_byte test rest ≡ 0 → reach_of_units (size_of_one_matching_byte test) 0 (bytes ++ rest) ≡ length bytes
byte_reach_of_matching_bytes_is_length test bytes rest all ends = omega (arith, byte_reach_passes_matching_bytes test bytes rest all, reach_without_first_unit_is_zero (size_of_one_matching_byte test) rest ends)

-- Such bytes are one token where it is found.
pub matching_plain_bytes_are_cut : (test : ℕ → Bool) → PassesOnlyPlainBytes test → (here : TokenContext) (item : Bool) (k : TokenKind) (b : ℕ) (bytes rest : List ℕ) → list_all test (b ∷ bytes) ≡ true
    → ((i first : Bool) → kind_and_size_of_token (token_forms_in_context here) i first (b ∷ (bytes ++ rest)) ≡ (k, suc (length bytes))) → IsTokenCut here item false k (units_of_plain_bytes (b ∷ bytes)) rest
matching_plain_bytes_are_cut test pass here item k b bytes rest all told =
    let fits = bytes_passing_test_are_units_of_it test (b ∷ bytes) all in
    let none = bytes_failing_test_each_fail test (0 ∷ 9 ∷ 10 ∷ 13 ∷ 32 ∷ 34 ∷ 35 ∷ 92 ∷ []) pass in
    let there = plain_byte_begins_token b (bytes ++ rest) (plain_test_byte_is_plain test pass b (and_parts (test b) (list_all test bytes) all).0) in
    let same : text_of_units (units_of_plain_bytes bytes) ≡ bytes = text_of_plain_units_is_bytes bytes in
    record {
      found = λ i first possible. ap (λ (t : List ℕ). kind_and_size_of_token (token_forms_in_context here) i first (b ∷ (t ++ rest))) same ∙ told i first ∙ ap (λ (t : List ℕ). (k, suc (length t))) (sym same);
      no_gap = ap (λ (t : List ℕ). leading_run_size rule.Gap (b ∷ (t ++ rest))) same ∙ there.no_gap;
      more = ap (λ (t : List ℕ). is_line_end_or_empty (b ∷ (t ++ rest))) same ∙ there.more;
      some = omega arith;
      closed = text_of_units_is_closed test none.1.1.1.1.1.1.1.0 (units_of_plain_bytes (b ∷ bytes)) fits;
      clean = text_of_units_has_no_nul test none.0 (units_of_plain_bytes (b ∷ bytes)) fits;
      leaves = λ before begins none. absurd (cc);
      stand = λ before more begins. units_stand_in_text test pass before (units_of_plain_bytes (b ∷ bytes)) (rest ++ more) fits;
      leaves_units = λ before begins none. absurd (cc);
    }
