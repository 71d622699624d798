-- Users as they are written are tokens of a line.
use Rattle.laws_print.proofs.Common.{◌≡◌, ◌≢◌, ℕ, zero, suc, ◌+◌, ◌≤◌, ◌<◌, Bool, true, false, List, [], ◌∷◌, ◌++◌, length, Some, refl, sym, ap, ◌∙◌}
use Rattle.laws_print.proofs.Common.{arith, ◌==◌, if◌then◌else◌, codes, nat_lt, list_all, and_parts, nat_tests, TokenContext, LineUnit, Pair, Byte, unit_at}
use Rattle.laws_print.proofs.Common.{is_id_position_after_units, is_digit, size_of_one_matching_byte, reach_of_units, leading_run_size, is_word_byte, token_forms_in_context, token_forms_in_word_lists, kind_and_size_of_token, size_with_prefix}
use Rattle.laws_print.proofs.Common.{numeric_id_size, optional_colon_id_size, hash_id_size, non_unix_group_size, colon_and_word_size, text_of_units, AllowsIdBehindUnits, IsTokenCut, AreWrittenUnitsOf}
use Rattle.laws_print.proofs.Common.{units_of_spelled_word, is_read_as_other_than_user_name, IsWritableUserAtom, is_upper, TokenForm, is_alias_byte, is_name, id_limit, Atom}
use Rattle.std.specs.Fmt.{decimal}
use Rattle.sudoers_text.specs.declared.part.ByteRunKind.TheVariants as rule
use Rattle.sudoers_text.specs.declared.token.TokenKind.TheVariants as kind
use Rattle.sudoers_text.specs.Part.{is_punct, has_given_first_byte}
use Rattle.laws_print.proofs.Units.{units_of_plain_bytes}
use Rattle.sudoers_cvt_spell.specs.Spelling.{spelled_word}
use Rattle.laws_print.proofs.ListTokens.{units_of_user_name, token_kind_of_atom, units_of_user_atom}
use Rattle.laws_print.proofs.Words.{plain_byte_stands_as_unit, units_stand_in_text, size_of_matching_byte_or_pair, run_reach_of_units_is_their_length, text_of_units_is_closed, successor_is_above_zero, passing_byte_differs_from_failing_byte, plain_test_byte_is_plain, bytes_passing_test_are_units_of_it, units_of_test_pass_weaker_test, tested_byte_is_no_nul_nor_backslash}
use Rattle.laws_print.proofs.Words.{is_byte_no_nul_nor_backslash, text_of_units_has_no_nul}
use Rattle.sudoers_grammar.specs.declared.node.Atom.TheVariants as atom
use Rattle.laws_print.proofs.Cuts.{first_byte_of_unit, TakesWords, word_units_are_cut_as_word}
use Rattle.laws_print.proofs.Words.{word_is_found_in_word_list}
use Rattle.laws_print.proofs.Values.{units_of_spelled_word_are_word_units, alias_byte_is_spelled_as_itself, unescaped_byte_is_word_byte}
use Rattle.laws_print.proofs.Users.{text_of_plain_units_is_bytes, IsFrontOfSpelledWord, escaped, itself, word_units_have_front_of_spelled_word, special_spelled_word_can_take_backslash, decimal_of_id_is_read_back}
use Rattle.sudoers_text.proofs.Reach.{reach_without_first_unit_is_zero}

-- ---- marks

-- A mark is one token where it is found.
pub found_punctuation_is_cut : (here : TokenContext) (item next : Bool) (b : ℕ) (rest : List ℕ) → ((i first : Bool) → kind_and_size_of_token (token_forms_in_context here) i first (b ∷ rest) ≡ (kind.Punct, 1)) → is_punct b ≡ true → ((before : List LineUnit) → AllowsIdBehindUnits item before → AllowsIdBehindUnits next (Byte b ∷ before)) → IsTokenCut here item next kind.Punct (Byte b ∷ []) rest
unfolding leading_run_size
found_punctuation_is_cut here item next b rest told is leaves =
    let plain = plain_test_byte_is_plain is_punct refl b is in
    let backslash : (b == 92) ≡ false = plain.backslash in
    let some : (0 == length (b ∷ rest)) ≡ false = grind (arith, nat_tests) in
    record {
      found = λ i first possible. told i first;
      no_gap = rw (plain.blank, backslash) refl;
      more = rw (plain.lf, plain.cr, some) refl;
      some = omega arith;
      closed = text_of_units_is_closed is_punct refl (Byte b ∷ []) (is, tt);
      clean = text_of_units_has_no_nul is_punct refl (Byte b ∷ []) (is, tt);
      leaves = λ before begins. rw backslash (leaves before begins);
      stand = λ before more begins. (plain_byte_stands_as_unit before b (rest ++ more) plain, tt);
      leaves_units = leaves;
    }

-- It is one where words are read.
pub punctuation_in_word_list_is_cut : (here : TokenContext) (item next : Bool) (b : ℕ) (rest : List ℕ) → token_forms_in_context here ≡ token_forms_in_word_lists → is_punct b ≡ true → ((before : List LineUnit) → AllowsIdBehindUnits item before → AllowsIdBehindUnits next (Byte b ∷ before)) → IsTokenCut here item next kind.Punct (Byte b ∷ []) rest
punctuation_in_word_list_is_cut here item next b rest words is leaves =
    found_punctuation_is_cut here item next b rest (λ i first. ap (λ (fs : List TokenForm). kind_and_size_of_token fs i first (b ∷ rest)) words ∙ by_test (is_punct b) is i first) is leaves
  where
    by_test : (t : Bool) → is_punct b ≡ true → (i first : Bool) → kind_and_size_of_token token_forms_in_word_lists i first (b ∷ rest) ≡ (kind.Punct, 1)
    by_test t is i first = rw is refl

-- ---- numbers

digit_reach_passes_digits : (ds rest : List ℕ) → list_all is_digit ds ≡ true → reach_of_units (size_of_one_matching_byte is_digit) 0 (ds ++ rest) ≡ length ds + reach_of_units (size_of_one_matching_byte is_digit) 0 rest
digit_reach_passes_digits [] rest all = omega arith
digit_reach_passes_digits (d ∷ ds) rest all =
    let parts = and_parts (is_digit d) (list_all is_digit ds) all in
    rw parts.0 (omega (arith, digit_reach_passes_digits ds rest parts.1))

pub leading_digits_size_is_their_length : (ds rest : List ℕ) → list_all is_digit ds ≡ true → size_of_one_matching_byte is_digit rest ≡ 0 → leading_run_size rule.Digits (ds ++ rest) ≡ length ds
unfolding leading_run_size
leading_digits_size_is_their_length ds rest all ends = omega (arith, digit_reach_passes_digits ds rest all, reach_without_first_unit_is_zero (size_of_one_matching_byte is_digit) rest ends)

size_with_prefix_is_sum : (k n : ℕ) → 0 < n → size_with_prefix k n ≡ k + n
size_with_prefix_is_sum k zero h = absurd (omega arith)
size_with_prefix_is_sum k (suc n) h = refl

-- an ID of a user
pub hash_number_is_found_as_id : (first : Bool) (ds rest : List ℕ) → list_all is_digit ds ≡ true → 0 < length ds → size_of_one_matching_byte is_digit rest ≡ 0 → kind_and_size_of_token token_forms_in_word_lists true first (35 ∷ (ds ++ rest)) ≡ (kind.Id, length (35 ∷ ds))
unfolding numeric_id_size hash_id_size
hash_number_is_found_as_id first ds rest all some ends =
    let size : leading_run_size rule.Digits (ds ++ rest) ≡ length ds = leading_digits_size_is_their_length ds rest all ends in
    let more : size_with_prefix 1 (length ds) ≡ suc (length ds) = size_with_prefix_is_sum 1 (length ds) some ∙ omega arith in
    let positive : nat_lt 0 (suc (length ds)) ≡ true = successor_is_above_zero (length ds) in
    rw (size, more, positive) refl

pub percent_hash_number_is_found_as_id : (first : Bool) (ds rest : List ℕ) → list_all is_digit ds ≡ true → 0 < length ds → size_of_one_matching_byte is_digit rest ≡ 0 → kind_and_size_of_token token_forms_in_word_lists true first (37 ∷ 35 ∷ (ds ++ rest)) ≡ (kind.Id, length (37 ∷ 35 ∷ ds))
unfolding numeric_id_size hash_id_size optional_colon_id_size
percent_hash_number_is_found_as_id first ds rest all some ends =
    let size : leading_run_size rule.Digits (ds ++ rest) ≡ length ds = leading_digits_size_is_their_length ds rest all ends in
    let one : size_with_prefix 1 (length ds) ≡ suc (length ds) = size_with_prefix_is_sum 1 (length ds) some ∙ omega arith in
    let two : 1 + suc (length ds) ≡ suc (suc (length ds)) = omega arith in
    let positive : nat_lt 0 (suc (suc (length ds))) ≡ true = successor_is_above_zero (suc (length ds)) in
    rw (size, one, two, positive) refl

-- ---- groups that are not of Unix

pub percent_colon_word_is_found_as_word : (i first : Bool) (b n : ℕ) (rest : List ℕ) → (b == 35) ≡ false → leading_run_size rule.Word (b ∷ rest) ≡ suc n → kind_and_size_of_token token_forms_in_word_lists i first (37 ∷ 58 ∷ b ∷ rest) ≡ (kind.Word, suc (suc (suc n)))
unfolding numeric_id_size hash_id_size optional_colon_id_size non_unix_group_size colon_and_word_size
percent_colon_word_is_found_as_word i first b n rest hash size =
    let one : size_with_prefix 1 (suc n) ≡ suc (suc n) = size_with_prefix_is_sum 1 (suc n) (omega arith) ∙ omega arith in
    let two : 1 + suc (suc n) ≡ suc (suc (suc n)) = omega arith in
    let positive : nat_lt 0 (suc (suc (suc n))) ≡ true = successor_is_above_zero (suc (suc n)) in
    rw (hash, size, one, two, positive) refl

-- ---- users

-- A user ends before these bytes.
pub record EndsUser (rest : List ℕ) : Type 0 where
  pub word : size_of_matching_byte_or_pair is_word_byte rest ≡ 0
  pub hash : has_given_first_byte 35 rest ≡ false
  pub colon : has_given_first_byte 58 rest ≡ false
  pub digit : size_of_one_matching_byte is_digit rest ≡ 0

word_list_context_takes_words : (here : TokenContext) → token_forms_in_context here ≡ token_forms_in_word_lists → (b : ℕ) → TakesWords here b
word_list_context_takes_words here words b i first rest n is size = ap (λ (fs : List TokenForm). kind_and_size_of_token fs i first (b ∷ rest)) words ∙ word_is_found_in_word_list i first b rest n is size

-- some units of a word
pub word_units_in_word_list_are_cut : (here : TokenContext) (item : Bool) (us : List LineUnit) (rest : List ℕ) → token_forms_in_context here ≡ token_forms_in_word_lists → 0 < length (text_of_units us) → AreWrittenUnitsOf is_word_byte us → EndsUser rest → IsTokenCut here item false kind.Word us rest
word_units_in_word_list_are_cut here item [] rest words some all ends = absurd (omega arith)
word_units_in_word_list_are_cut here item (u ∷ us) rest words some all ends =
    word_units_are_cut_as_word here item u us rest all (word_list_context_takes_words here words (first_byte_of_unit u)) (record { ends = ends.word; apart = λ percent. (ends.hash, ends.colon) })

pub spelled_word_front_is_not_empty : (b : ℕ) (text : List ℕ) → IsFrontOfSpelledWord b text → 0 < length text
spelled_word_front_is_not_empty b text escaped = omega arith
spelled_word_front_is_not_empty b text (itself word) = omega arith

pub units_of_user_name_are_word_units : (first : Bool) (b : ℕ) (name : List ℕ) → (0 < length (text_of_units (units_of_user_name first (b ∷ name)))) × AreWrittenUnitsOf is_word_byte (units_of_user_name first (b ∷ name))
units_of_user_name_are_word_units first b name = by_else (is_read_as_other_than_user_name first (spelled_word (b ∷ name))) refl
  where
    by_else : (t : Bool) → is_read_as_other_than_user_name first (spelled_word (b ∷ name)) ≡ t → (0 < length (text_of_units (if t then Pair b ∷ units_of_spelled_word name else units_of_spelled_word (b ∷ name)))) × AreWrittenUnitsOf is_word_byte (if t then Pair b ∷ units_of_spelled_word name else units_of_spelled_word (b ∷ name))
    by_else true e = (omega arith, ((special_spelled_word_can_take_backslash first b name e).pair, units_of_spelled_word_are_word_units name))
    by_else false e = (spelled_word_front_is_not_empty b (text_of_units (units_of_spelled_word (b ∷ name))) (word_units_have_front_of_spelled_word b name), units_of_spelled_word_are_word_units (b ∷ name))

pub alias_bytes_are_word_units : (name : List ℕ) → list_all is_alias_byte name ≡ true → AreWrittenUnitsOf is_word_byte (units_of_plain_bytes name)
alias_bytes_are_word_units name all = units_of_test_pass_weaker_test is_alias_byte is_word_byte (λ b h. let is = alias_byte_is_spelled_as_itself b h in unescaped_byte_is_word_byte b is.bare is.plain) (units_of_plain_bytes name) (bytes_passing_test_are_units_of_it is_alias_byte name all)

pub name_is_nonempty_alias_bytes : (name : List ℕ) → is_name name ≡ true → (0 < length name) × (list_all is_alias_byte name ≡ true)
name_is_nonempty_alias_bytes [] h = absurd (cc)
name_is_nonempty_alias_bytes (b ∷ name) h =
    let parts = and_parts (is_upper b) (list_all is_alias_byte name) h in
    (omega arith, rw (parts.0, parts.1) refl)

pub alias_name_in_word_list_is_cut : (here : TokenContext) (item : Bool) (name rest : List ℕ) → token_forms_in_context here ≡ token_forms_in_word_lists → is_name name ≡ true → EndsUser rest → IsTokenCut here item false kind.Word (units_of_plain_bytes name) rest
alias_name_in_word_list_is_cut here item name rest words is ends =
    let bytes = name_is_nonempty_alias_bytes name is in
    word_units_in_word_list_are_cut here item (units_of_plain_bytes name) rest words (omega (arith, bytes.0, ap length (text_of_plain_units_is_bytes name))) (alias_bytes_are_word_units name bytes.1) ends

-- a `#` that begins a number
hash_before_number_stands_as_unit : (before : List LineUnit) (ds rest : List ℕ) → list_all is_digit ds ≡ true → 0 < length ds → is_id_position_after_units before ≡ true → unit_at before (35 ∷ (text_of_units (units_of_plain_bytes ds) ++ rest)) ≡ Some (Byte 35)
hash_before_number_stands_as_unit before [] rest all some begins = absurd (omega arith)
hash_before_number_stands_as_unit before (d ∷ ds) rest all some begins =
    let is : is_digit d ≡ true = (and_parts (is_digit d) (list_all is_digit ds) all).0 in
    rw (begins, is) refl

hash_number_is_cut : (here : TokenContext) (n : ℕ) (rest : List ℕ) → token_forms_in_context here ≡ token_forms_in_word_lists → n ≤ id_limit → EndsUser rest → IsTokenCut here true false kind.Id (Byte 35 ∷ units_of_plain_bytes (decimal n)) rest
unfolding leading_run_size
hash_number_is_cut here n rest words h ends =
    let is = decimal_of_id_is_read_back n h in
    let digits = bytes_passing_test_are_units_of_it is_digit (decimal n) is.1 in
    let simple : AreWrittenUnitsOf is_byte_no_nul_nor_backslash (Byte 35 ∷ units_of_plain_bytes (decimal n)) = (refl, units_of_test_pass_weaker_test is_digit is_byte_no_nul_nor_backslash (tested_byte_is_no_nul_nor_backslash is_digit refl refl) (units_of_plain_bytes (decimal n)) digits) in
    let some : (0 == length (35 ∷ (text_of_units (units_of_plain_bytes (decimal n)) ++ rest))) ≡ false = grind (arith, nat_tests) in
    record {
      found = λ i first possible.
          ap (λ (fs : List TokenForm). kind_and_size_of_token fs i first (35 ∷ (text_of_units (units_of_plain_bytes (decimal n)) ++ rest))) words
          ∙ ap (λ (t : Bool). kind_and_size_of_token token_forms_in_word_lists t first (35 ∷ (text_of_units (units_of_plain_bytes (decimal n)) ++ rest))) (possible refl)
          ∙ ap (λ (ds : List ℕ). kind_and_size_of_token token_forms_in_word_lists true first (35 ∷ (ds ++ rest))) (text_of_plain_units_is_bytes (decimal n))
          ∙ hash_number_is_found_as_id first (decimal n) rest is.1 is.2 ends.digit
          ∙ ap (λ (ds : List ℕ). (kind.Id, length (35 ∷ ds))) (sym (text_of_plain_units_is_bytes (decimal n)));
      no_gap = refl;
      more = some;
      some = omega arith;
      closed = text_of_units_is_closed is_byte_no_nul_nor_backslash refl (Byte 35 ∷ units_of_plain_bytes (decimal n)) simple;
      clean = text_of_units_has_no_nul is_byte_no_nul_nor_backslash refl (Byte 35 ∷ units_of_plain_bytes (decimal n)) simple;
      leaves = λ before begins none. absurd (cc);
      stand = λ before more begins. (hash_before_number_stands_as_unit before (decimal n) (rest ++ more) is.1 is.2 (begins refl), units_stand_in_text is_digit refl (Byte 35 ∷ before) (units_of_plain_bytes (decimal n)) (rest ++ more) digits);
      leaves_units = λ before begins none. absurd (cc);
    }

percent_hash_number_is_cut : (here : TokenContext) (n : ℕ) (rest : List ℕ) → token_forms_in_context here ≡ token_forms_in_word_lists → n ≤ id_limit → EndsUser rest → IsTokenCut here true false kind.Id (Byte 37 ∷ Byte 35 ∷ units_of_plain_bytes (decimal n)) rest
unfolding leading_run_size
percent_hash_number_is_cut here n rest words h ends =
    let is = decimal_of_id_is_read_back n h in
    let digits = bytes_passing_test_are_units_of_it is_digit (decimal n) is.1 in
    let simple : AreWrittenUnitsOf is_byte_no_nul_nor_backslash (Byte 37 ∷ Byte 35 ∷ units_of_plain_bytes (decimal n)) = (refl, (refl, units_of_test_pass_weaker_test is_digit is_byte_no_nul_nor_backslash (tested_byte_is_no_nul_nor_backslash is_digit refl refl) (units_of_plain_bytes (decimal n)) digits)) in
    let some : (0 == length (37 ∷ 35 ∷ (text_of_units (units_of_plain_bytes (decimal n)) ++ rest))) ≡ false = grind (arith, nat_tests) in
    record {
      found = λ i first possible.
          ap (λ (fs : List TokenForm). kind_and_size_of_token fs i first (37 ∷ 35 ∷ (text_of_units (units_of_plain_bytes (decimal n)) ++ rest))) words
          ∙ ap (λ (t : Bool). kind_and_size_of_token token_forms_in_word_lists t first (37 ∷ 35 ∷ (text_of_units (units_of_plain_bytes (decimal n)) ++ rest))) (possible refl)
          ∙ ap (λ (ds : List ℕ). kind_and_size_of_token token_forms_in_word_lists true first (37 ∷ 35 ∷ (ds ++ rest))) (text_of_plain_units_is_bytes (decimal n))
          ∙ percent_hash_number_is_found_as_id first (decimal n) rest is.1 is.2 ends.digit
          ∙ ap (λ (ds : List ℕ). (kind.Id, length (37 ∷ 35 ∷ ds))) (sym (text_of_plain_units_is_bytes (decimal n)));
      no_gap = refl;
      more = some;
      some = omega arith;
      closed = text_of_units_is_closed is_byte_no_nul_nor_backslash refl (Byte 37 ∷ Byte 35 ∷ units_of_plain_bytes (decimal n)) simple;
      clean = text_of_units_has_no_nul is_byte_no_nul_nor_backslash refl (Byte 37 ∷ Byte 35 ∷ units_of_plain_bytes (decimal n)) simple;
      leaves = λ before begins none. absurd (cc);
      stand = λ before more begins. (refl, (hash_before_number_stands_as_unit (Byte 37 ∷ before) (decimal n) (rest ++ more) is.1 is.2 (begins refl), units_stand_in_text is_digit refl (Byte 35 ∷ Byte 37 ∷ before) (units_of_plain_bytes (decimal n)) (rest ++ more) digits));
      leaves_units = λ before begins none. absurd (cc);
    }

-- what a spelled word begins with is no `#`
pub record BeginsWithoutHash (bytes : List ℕ) : Type 0 where
  pub byte : ℕ
  pub more : List ℕ
  pub whole : bytes ≡ byte ∷ more
  pub hash : (byte == 35) ≡ false

pub spelled_word_front_begins_without_hash : (b : ℕ) (text : List ℕ) → IsFrontOfSpelledWord b text → BeginsWithoutHash text
spelled_word_front_begins_without_hash b text (escaped {more = more}) = record { byte = 92; more = more; whole = refl; hash = refl }
spelled_word_front_begins_without_hash b text (itself {more = more} word) = record { byte = b; more = more; whole = refl; hash = passing_byte_differs_from_failing_byte is_word_byte 35 b word refl }

percent_colon_word_is_cut : (here : TokenContext) (item : Bool) (b : ℕ) (name rest : List ℕ) → token_forms_in_context here ≡ token_forms_in_word_lists → EndsUser rest → IsTokenCut here item false kind.Word (Byte 37 ∷ Byte 58 ∷ units_of_spelled_word (b ∷ name)) rest
unfolding leading_run_size
percent_colon_word_is_cut here item b name rest words ends =
    let text = text_of_units (units_of_spelled_word (b ∷ name)) in
    let front = spelled_word_front_begins_without_hash b text (word_units_have_front_of_spelled_word b name) in
    let long : length text ≡ suc (length front.more) = ap length front.whole in
    let size : leading_run_size rule.Word (front.byte ∷ (front.more ++ rest)) ≡ suc (length front.more) =
    ap (λ (t : List ℕ). reach_of_units (size_of_matching_byte_or_pair is_word_byte) 0 (t ++ rest)) (sym front.whole)
    ∙ run_reach_of_units_is_their_length is_word_byte refl (units_of_spelled_word (b ∷ name)) rest (units_of_spelled_word_are_word_units (b ∷ name)) ends.word ∙ long in
    let simple : AreWrittenUnitsOf is_byte_no_nul_nor_backslash (Byte 37 ∷ Byte 58 ∷ units_of_spelled_word (b ∷ name)) = (refl, (refl, units_of_test_pass_weaker_test is_word_byte is_byte_no_nul_nor_backslash (tested_byte_is_no_nul_nor_backslash is_word_byte refl refl) (units_of_spelled_word (b ∷ name)) (units_of_spelled_word_are_word_units (b ∷ name)))) in
    let some : (0 == length (37 ∷ 58 ∷ (text ++ rest))) ≡ false = grind (arith, nat_tests) in
    record {
      found = λ i first possible.
          ap (λ (fs : List TokenForm). kind_and_size_of_token fs i first (37 ∷ 58 ∷ (text ++ rest))) words
          ∙ ap (λ (t : List ℕ). kind_and_size_of_token token_forms_in_word_lists i first (37 ∷ 58 ∷ (t ++ rest))) front.whole
          ∙ percent_colon_word_is_found_as_word i first front.byte (length front.more) (front.more ++ rest) front.hash size
          ∙ ap (λ (n : ℕ). (kind.Word, suc (suc n))) (sym long);
      no_gap = refl;
      more = some;
      some = omega arith;
      closed = text_of_units_is_closed is_byte_no_nul_nor_backslash refl (Byte 37 ∷ Byte 58 ∷ units_of_spelled_word (b ∷ name)) simple;
      clean = text_of_units_has_no_nul is_byte_no_nul_nor_backslash refl (Byte 37 ∷ Byte 58 ∷ units_of_spelled_word (b ∷ name)) simple;
      leaves = λ before begins none. absurd (cc);
      stand = λ before more begins. (refl, (refl, units_stand_in_text is_word_byte refl (Byte 58 ∷ Byte 37 ∷ before) (units_of_spelled_word (b ∷ name)) (rest ++ more) (units_of_spelled_word_are_word_units (b ∷ name))));
      leaves_units = λ before begins none. absurd (cc);
    }

user_name_is_cut : (here : TokenContext) (item first : Bool) (name rest : List ℕ) → token_forms_in_context here ≡ token_forms_in_word_lists → name ≢ [] → EndsUser rest → IsTokenCut here item false kind.Word (units_of_user_name first name) rest
user_name_is_cut here item first [] rest words h ends = absurd (h refl)
user_name_is_cut here item first (b ∷ name) rest words h ends = let fits = units_of_user_name_are_word_units first b name in word_units_in_word_list_are_cut here item (units_of_user_name first (b ∷ name)) rest words fits.0 fits.1 ends

non_unix_group_is_cut : (here : TokenContext) (item : Bool) (name rest : List ℕ) → token_forms_in_context here ≡ token_forms_in_word_lists → name ≢ [] → EndsUser rest → IsTokenCut here item false kind.Word (Byte 37 ∷ Byte 58 ∷ units_of_spelled_word name) rest
non_unix_group_is_cut here item [] rest words h ends = absurd (h refl)
non_unix_group_is_cut here item (b ∷ name) rest words h ends = percent_colon_word_is_cut here item b name rest words ends

-- A user is one token.
pub writable_user_is_cut : (here : TokenContext) (first : Bool) (a : Atom) (rest : List ℕ) → token_forms_in_context here ≡ token_forms_in_word_lists → IsWritableUserAtom a → EndsUser rest → IsTokenCut here true false (token_kind_of_atom a) (units_of_user_atom first a) rest
writable_user_is_cut here first atom.All rest words is ends = word_units_in_word_list_are_cut here true (units_of_plain_bytes (codes "ALL")) rest words (omega arith) (refl, (refl, (refl, tt))) ends
writable_user_is_cut here first (atom.Alias name) rest words is ends = alias_name_in_word_list_is_cut here true name rest words is.0 ends
writable_user_is_cut here first (atom.Name name) rest words is ends = user_name_is_cut here true first name rest words is ends
writable_user_is_cut here first (atom.Id n) rest words is ends = hash_number_is_cut here n rest words is ends
writable_user_is_cut here first (atom.Group name) rest words is ends = word_units_in_word_list_are_cut here true (Byte 37 ∷ units_of_spelled_word name) rest words (omega arith) (refl, units_of_spelled_word_are_word_units name) ends
writable_user_is_cut here first (atom.GroupId n) rest words is ends = percent_hash_number_is_cut here n rest words is ends
writable_user_is_cut here first (atom.NonUnix name) rest words is ends = non_unix_group_is_cut here true name rest words is ends
writable_user_is_cut here first (atom.Netgroup name) rest words is ends = word_units_in_word_list_are_cut here true (Byte 43 ∷ units_of_spelled_word name) rest words (omega arith) (refl, units_of_spelled_word_are_word_units name) ends
writable_user_is_cut here first a rest words is ends = absurd is
