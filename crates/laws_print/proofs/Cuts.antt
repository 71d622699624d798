-- A word as a token of a line.
use Rattle.laws_print.proofs.Common.{◌≡◌, ℕ, suc, Bool, true, false, not, List, [], ◌∷◌, ◌++◌, length, refl, sym, ap, ◌∙◌, arith, ◌==◌, not-true}
use Rattle.laws_print.proofs.Common.{and_parts, TokenContext, LineUnit, Pair, Byte, reach_of_units, leading_run_size, is_byte_of_include_path, is_word_byte, is_line_end_or_empty, token_forms_in_context, kind_and_size_of_token}
use Rattle.laws_print.proofs.Common.{text_of_units, IsTokenCut, is_written_unit, AreWrittenUnitsOf}
use Rattle.sudoers_text.specs.declared.part.ByteRunKind.TheVariants as rule
use Rattle.sudoers_text.specs.declared.token.TokenKind.TheVariants as kind
use Rattle.sudoers_text.specs.declared.token.Mode.TheVariants as mode
use Rattle.sudoers_text.specs.declared.context.TokenContext.TheVariants as context
use Rattle.sudoers_text.specs.Part.{is_punct, has_given_first_byte}
use Rattle.laws_print.proofs.Words.{size_of_matching_byte_or_pair, run_reach_of_units_is_their_length, text_of_units_is_closed, units_stand_in_text, BeginsWordWithByte, word_is_found_as_first_token, BeginsTokenWithoutGap, plain_byte_begins_token, pair_begins_token, passing_byte_differs_from_failing_byte}
use Rattle.laws_print.proofs.Words.{plain_test_byte_is_plain, text_of_units_has_no_nul, written_pair_is_no_nul_nor_break}

abbrev pub first_byte_of_unit : LineUnit → ℕ
first_byte_of_unit (Byte b) = b
first_byte_of_unit u = 92

-- A context in which words are read that begin with this byte.
abbrev pub TakesWords : TokenContext → ℕ → Type 0
TakesWords here b = (i first : Bool) (rest : List ℕ) (n : ℕ) → BeginsWordWithByte b rest → leading_run_size rule.Word (b ∷ rest) ≡ suc n → kind_and_size_of_token (token_forms_in_context here) i first (b ∷ rest) ≡ (kind.Word, suc n)

pub first_word_context_takes_words : (b : ℕ) → TakesWords (context.First mode.Words) b
first_word_context_takes_words b i first rest n is size = word_is_found_as_first_token i first b rest n is size

pub first_command_context_takes_words : (b : ℕ) → TakesWords (context.First mode.Commands) b
first_command_context_takes_words b i first rest n is size = word_is_found_as_first_token i first b rest n is size

-- A word ends before these bytes.
pub record EndsWord (percent : Bool) (rest : List ℕ) : Type 0 where
  pub ends : size_of_matching_byte_or_pair is_word_byte rest ≡ 0
  pub apart : percent ≡ true → (has_given_first_byte 35 rest ≡ false) × (has_given_first_byte 58 rest ≡ false)

word_units_keep_lack_of_first_byte : (a : ℕ) (us : List LineUnit) (rest : List ℕ) → is_word_byte a ≡ false → (92 == a) ≡ false → AreWrittenUnitsOf is_word_byte us → has_given_first_byte a rest ≡ false → has_given_first_byte a (text_of_units us ++ rest) ≡ false
word_units_keep_lack_of_first_byte a [] rest none other all apart = apart
word_units_keep_lack_of_first_byte a (Byte b ∷ us) rest none other all apart = passing_byte_differs_from_failing_byte is_word_byte a b all.0 none
word_units_keep_lack_of_first_byte a (Pair c ∷ us) rest none other all apart = other
word_units_keep_lack_of_first_byte a us rest none other all apart = absurd (let h = all.0 in cc)

-- what stands where a word begins
pub record HasWordAtFront (u : LineUnit) (us : List LineUnit) (rest : List ℕ) : Type 0 where
  pub behind : List ℕ
  pub whole : text_of_units (u ∷ us) ++ rest ≡ first_byte_of_unit u ∷ behind
  pub word : BeginsWordWithByte (first_byte_of_unit u) behind
  pub place : BeginsTokenWithoutGap (first_byte_of_unit u ∷ behind)

word_units_stand_at_front : (u : LineUnit) (us : List LineUnit) (rest : List ℕ) → AreWrittenUnitsOf is_word_byte (u ∷ us) → EndsWord (first_byte_of_unit u == 37) rest → HasWordAtFront u us rest
word_units_stand_at_front (Byte b) us rest all ends =
    let parts = and_parts (is_byte_of_include_path b) (not (is_punct b)) all.0 in
    let plain = plain_test_byte_is_plain is_word_byte refl b all.0 in
    record {
      behind = text_of_units us ++ rest;
      whole = refl;
      word = record {
        punct = not-true _ parts.1;
        hash = plain.hash;
        behind = λ percent. (word_units_keep_lack_of_first_byte 35 us rest refl refl all.1 (ends.apart percent).0, word_units_keep_lack_of_first_byte 58 us rest refl refl all.1 (ends.apart percent).1);
      };
      place = plain_byte_begins_token b (text_of_units us ++ rest) plain;
    }
word_units_stand_at_front (Pair c) us rest all ends = record {
  behind = c ∷ (text_of_units us ++ rest);
  whole = refl;
  word = record { punct = refl; hash = refl; behind = λ percent. absurd (cc) };
  place = pair_begins_token c (text_of_units us ++ rest) (written_pair_is_no_nul_nor_break c all.0).1;
}
word_units_stand_at_front u us rest all ends = absurd (let h = all.0 in cc)

length_of_word_units_is_positive : (u : LineUnit) (us : List LineUnit) → is_written_unit is_word_byte u ≡ true → (n : ℕ) × (length (text_of_units (u ∷ us)) ≡ suc n)
length_of_word_units_is_positive (Byte b) us h = (length (text_of_units us), refl)
length_of_word_units_is_positive (Pair c) us h = (length (c ∷ text_of_units us), refl)
length_of_word_units_is_positive u us h = absurd (cc)

-- A word is one token.
pub word_units_are_cut_as_word : (here : TokenContext) (item : Bool) (u : LineUnit) (us : List LineUnit) (rest : List ℕ) → AreWrittenUnitsOf is_word_byte (u ∷ us) → TakesWords here (first_byte_of_unit u) → EndsWord (first_byte_of_unit u == 37) rest → IsTokenCut here item false kind.Word (u ∷ us) rest
unfolding leading_run_size
word_units_are_cut_as_word here item u us rest all takes ends =
    let is = word_units_stand_at_front u us rest all ends in
    let some = length_of_word_units_is_positive u us all.0 in
    let size : leading_run_size rule.Word (first_byte_of_unit u ∷ is.behind) ≡ suc some.0 =
    ap (λ (bytes : List ℕ). reach_of_units (size_of_matching_byte_or_pair is_word_byte) 0 bytes) (sym is.whole) ∙ run_reach_of_units_is_their_length is_word_byte refl (u ∷ us) rest all ends.ends ∙ some.1 in
    record {
      found = λ i first possible.
          ap (λ (bytes : List ℕ). kind_and_size_of_token (token_forms_in_context here) i first bytes) is.whole ∙ takes i first is.behind some.0 is.word size
          ∙ ap (λ (n : ℕ). (kind.Word, n)) (sym some.1);
      no_gap = ap (λ (bytes : List ℕ). leading_run_size rule.Gap bytes) is.whole ∙ is.place.no_gap;
      more = ap is_line_end_or_empty is.whole ∙ is.place.more;
      some = omega (arith, some.1);
      closed = text_of_units_is_closed is_word_byte refl (u ∷ us) all;
      clean = text_of_units_has_no_nul is_word_byte refl (u ∷ us) all;
      leaves = λ before begins no. absurd (cc);
      stand = λ before more begins. units_stand_in_text is_word_byte refl before (u ∷ us) (rest ++ more) all;
      leaves_units = λ before begins no. absurd (cc);
    }
