-- Each form's computed size is that of its longest piece.
use Rattle.std.proofs.Common.{◌≡◌, ℕ, zero, suc, ◌+◌, ◌≤◌, ◌<◌, Bool, true, false, ◌&&◌, ◌||◌, List, [], ◌∷◌, length, take, drop, refl, sym, ap, subst, ◌∙◌, arith}
use lib.Pointwise.{pointwise_long}
use Rattle.std.specs.Prelude.{◌==◌, if◌then◌else◌, nat_lt, nat_eq}
use Rattle.std.specs.List.{starts_with}
use Rattle.std.proofs.lemmas.Bool.{eqb-true}
use Rattle.sudoers_text.specs.declared.part.ByteRunKind.TheVariants as rule
use Rattle.sudoers_text.specs.Unit.{LineUnit, Byte, is_id_position_after_units, bytes_of_units_after_leading_gap, is_empty, is_hash_of_comment, is_rest_of_hash_include, bytes_up_to_line_end, includedir_word, include_word, has_blanks_and_path, defaults_word}
use Rattle.sudoers_text.specs.Part.{size_of_one_matching_byte, leading_run_size, is_nonempty_run, has_given_first_byte, closed_quote_size}
use Rattle.sudoers_text.specs.Piece.{TokenForm, Mark, Operator, Number, NonUnixGroup, Run, CommandPath, QuotedPart, CommentPart, IncludeWord, FirstWord, Argument, QuotedRest, is_piece_of_form, is_hash_id, is_optional_colon_id, is_numeric_id, is_colon_and_word, is_non_unix_group_word, plus_or_minus_equals_size, comment_size, hash_include_word_size, defaults_or_at_include_word_size, quoted_argument_rest_size, has_host_or_runas_sign, is_argument_of_size}
use Rattle.sudoers_text.specs.Word.{is_among, at_include_words}
use Rattle.sudoers_text.specs.Found.{size_with_prefix, hash_id_size, optional_colon_id_size, numeric_id_size, colon_and_word_size, non_unix_group_size, command_path_size, comment_size_at, hash_include_size_at, argument_size, longest_piece_size}
use Rattle.sudoers_text.proofs.Units.{true_conjunction_has_two_true_parts}
use Rattle.sudoers_text.proofs.Reach.{choice_of_bounded_sizes_is_within_bound, leading_run_size_is_within_bytes, quoted_run_size_is_within_bytes, place_with_first_byte_is_within_bytes, line_end_search_is_within_bytes}
use Rattle.sudoers_text.proofs.Arguments.{argument_size_is_that_of_longest_argument}
use Rattle.sudoers_text.proofs.Sizes.{IsLongestPieceSize, test_failing_all_prefixes_has_zero_size, equal_tests_have_same_longest_piece_size, leading_run_size_is_longest_nonempty_run, positive_by_test_is_positive, positive_number_passes_positive_test, equal_numbers_pass_equality_test, two_true_values_are_true_together}

-- how many bytes the longest piece of the form has that begins the bytes; 0: none does
pub record IsLongestFormPieceSize (form : TokenForm) (before : List LineUnit) (bytes : List ℕ) (n : ℕ) : Type 0 where
  pub inside : n ≤ length bytes
  pub sound : 0 < n → is_piece_of_form form before bytes n ≡ true
  pub most : (m : ℕ) → m ≤ length bytes → is_piece_of_form form before bytes m ≡ true → (0 < m) × (m ≤ n)

choice_with_zero_is_within_bound : (t : Bool) (a n : ℕ) → (t ≡ true → a ≤ n) → (if t then a else 0) ≤ n
choice_with_zero_is_within_bound true a n h = h refl
choice_with_zero_is_within_bound false a n h = omega arith

choice_of_bounded_numbers_is_within_bound : (t : Bool) (a b n : ℕ) → (t ≡ true → a ≤ n) → b ≤ n → (if t then a else b) ≤ n
choice_of_bounded_numbers_is_within_bound true a b n h k = h refl
choice_of_bounded_numbers_is_within_bound false a b n h k = k

prefix_is_no_longer_than_bytes : (n : ℕ) (bytes : List ℕ) → length (take n bytes) ≤ length bytes
prefix_is_no_longer_than_bytes zero bytes = omega arith
prefix_is_no_longer_than_bytes (suc n) [] = omega arith
prefix_is_no_longer_than_bytes (suc n) (b ∷ bytes) = omega (arith, prefix_is_no_longer_than_bytes n bytes)

word_that_begins_bytes_is_no_longer : (bytes needle : List ℕ) → starts_with nat_eq bytes needle ≡ true → length needle ≤ length bytes
word_that_begins_bytes_is_no_longer bytes needle h = omega (arith, pointwise_long nat_eq needle (take (length needle) bytes) h, prefix_is_no_longer_than_bytes (length needle) bytes)

-- nothing begins where nothing is left
longest_piece_of_empty_bytes_is_zero : (is : List ℕ → Bool) → is [] ≡ false → IsLongestPieceSize is [] 0
longest_piece_of_empty_bytes_is_zero is none = test_failing_all_prefixes_has_zero_size is [] absent
  where
    absent : (m : ℕ) → m ≤ 0 → is (take m []) ≡ true → ⊥
    absent zero inside h = absurd (cc)
    absent (suc m) inside h = absurd (omega arith)

-- ---- one byte and more behind it

piece_size_grows_by_first_byte : (is other : List ℕ → Bool) (b : ℕ) (rest : List ℕ) (n : ℕ) → is [] ≡ false → ((text : List ℕ) → is (b ∷ text) ≡ other text) → IsLongestPieceSize other rest n → IsLongestPieceSize is (b ∷ rest) (size_with_prefix 1 n)
piece_size_grows_by_first_byte is other b rest zero none same size = test_failing_all_prefixes_has_zero_size is (b ∷ rest) absent
  where
    absent : (m : ℕ) → m ≤ suc (length rest) → is (take m (b ∷ rest)) ≡ true → ⊥
    absent zero inside h = absurd (cc)
    absent (suc m) inside h = let more = size.most m (omega arith) (sym (same (take m rest)) ∙ h) in omega (arith, more.0, more.1)
piece_size_grows_by_first_byte is other b rest (suc n) none same size = record {
  inside = omega (arith, size.inside);
  sound = λ some. let one : 1 + suc n ≡ suc (suc n) = omega arith in ap (λ (k : ℕ). is (take k (b ∷ rest))) one ∙ same (take (suc n) rest) ∙ size.sound (omega arith);
  most = most;
}
  where
    most : (m : ℕ) → m ≤ suc (length rest) → is (take m (b ∷ rest)) ≡ true → (0 < m) × (m ≤ 1 + suc n)
    most zero inside h = absurd (cc)
    most (suc m) inside h = let more = size.most m (omega arith) (sym (same (take m rest)) ∙ h) in (omega arith, omega (arith, more.1))

-- ---- numbers

hash_id_size_is_longest : (before : List LineUnit) (bytes : List ℕ) → IsLongestPieceSize (is_hash_id before) bytes (hash_id_size (is_id_position_after_units before) bytes)
unfolding hash_id_size
hash_id_size_is_longest before [] = longest_piece_of_empty_bytes_is_zero (is_hash_id before) refl
hash_id_size_is_longest before (b ∷ rest) = by_tests (b == 35) (is_id_position_after_units before) refl refl
  where
    by_tests : (s t : Bool) → (b == 35) ≡ s → is_id_position_after_units before ≡ t → IsLongestPieceSize (is_hash_id before) (b ∷ rest) (if s && t then size_with_prefix 1 (leading_run_size rule.Digits rest) else 0)
    by_tests true true e f = piece_size_grows_by_first_byte (is_hash_id before) (is_nonempty_run rule.Digits) b rest (leading_run_size rule.Digits rest) refl (λ text. rw e (rw f refl)) (leading_run_size_is_longest_nonempty_run rule.Digits rest)
    by_tests true false e f = piece_size_grows_by_first_byte (is_hash_id before) (λ text. false) b rest 0 refl (λ text. rw e (rw f refl)) (test_failing_all_prefixes_has_zero_size (λ text. false) rest (λ m inside h. absurd (cc)))
    by_tests false t e f = piece_size_grows_by_first_byte (is_hash_id before) (λ text. false) b rest 0 refl (λ text. rw e refl) (test_failing_all_prefixes_has_zero_size (λ text. false) rest (λ m inside h. absurd (cc)))

optional_colon_id_size_is_longest : (before : List LineUnit) (bytes : List ℕ) → IsLongestPieceSize (is_optional_colon_id before) bytes (optional_colon_id_size (is_id_position_after_units before) bytes)
unfolding optional_colon_id_size
optional_colon_id_size_is_longest before [] = longest_piece_of_empty_bytes_is_zero (is_optional_colon_id before) refl
optional_colon_id_size_is_longest before (b ∷ rest) = by_test (b == 58) refl
  where
    by_test : (s : Bool) → (b == 58) ≡ s → IsLongestPieceSize (is_optional_colon_id before) (b ∷ rest) (if s then size_with_prefix 1 (hash_id_size true rest) else hash_id_size (is_id_position_after_units before) (b ∷ rest))
    by_test true e = piece_size_grows_by_first_byte (is_optional_colon_id before) (is_hash_id (Byte 58 ∷ before)) b rest (hash_id_size true rest) refl (λ text. rw e refl) (hash_id_size_is_longest (Byte 58 ∷ before) rest)
    by_test false e = equal_tests_have_same_longest_piece_size (is_optional_colon_id before) (is_hash_id before) (b ∷ rest) (hash_id_size (is_id_position_after_units before) (b ∷ rest)) same (hash_id_size_is_longest before (b ∷ rest))
      where
        same : (m : ℕ) → is_optional_colon_id before (take m (b ∷ rest)) ≡ is_hash_id before (take m (b ∷ rest))
        same zero = refl
        same (suc m) = rw e refl

numeric_id_size_is_longest : (before : List LineUnit) (bytes : List ℕ) → IsLongestPieceSize (is_numeric_id before) bytes (numeric_id_size (is_id_position_after_units before) bytes)
unfolding numeric_id_size
numeric_id_size_is_longest before [] = longest_piece_of_empty_bytes_is_zero (is_numeric_id before) refl
numeric_id_size_is_longest before (b ∷ rest) = by_test (b == 37) refl
  where
    by_test : (s : Bool) → (b == 37) ≡ s → IsLongestPieceSize (is_numeric_id before) (b ∷ rest) (if s then size_with_prefix 1 (optional_colon_id_size (is_id_position_after_units before) rest) else hash_id_size (is_id_position_after_units before) (b ∷ rest))
    by_test true e = piece_size_grows_by_first_byte (is_numeric_id before) (is_optional_colon_id (Byte 37 ∷ before)) b rest (optional_colon_id_size (is_id_position_after_units before) rest) refl (λ text. rw e refl) (optional_colon_id_size_is_longest (Byte 37 ∷ before) rest)
    by_test false e = equal_tests_have_same_longest_piece_size (is_numeric_id before) (is_hash_id before) (b ∷ rest) (hash_id_size (is_id_position_after_units before) (b ∷ rest)) same (hash_id_size_is_longest before (b ∷ rest))
      where
        same : (m : ℕ) → is_numeric_id before (take m (b ∷ rest)) ≡ is_hash_id before (take m (b ∷ rest))
        same zero = refl
        same (suc m) = rw e refl

-- ---- words of non-Unix groups

size_of_marked_piece_is_longest : (is other : List ℕ → Bool) (mark : ℕ) (bytes : List ℕ) (n : List ℕ → ℕ) → is [] ≡ false → ((b : ℕ) (text : List ℕ) → is (b ∷ text) ≡ (b == mark && other text)) → ((rest : List ℕ) → IsLongestPieceSize other rest (n rest)) → (size : List ℕ → ℕ) → size [] ≡ 0 → ((b : ℕ) (rest : List ℕ) → size (b ∷ rest) ≡ (if b == mark then size_with_prefix 1 (n rest) else 0)) → IsLongestPieceSize is bytes (size bytes)
size_of_marked_piece_is_longest is other mark [] n none same later size nothing told = subst (IsLongestPieceSize is []) (sym nothing) (longest_piece_of_empty_bytes_is_zero is none)
size_of_marked_piece_is_longest is other mark (b ∷ rest) n none same later size nothing told = subst (IsLongestPieceSize is (b ∷ rest)) (sym (told b rest)) (by_test (b == mark) refl)
  where
    by_test : (s : Bool) → (b == mark) ≡ s → IsLongestPieceSize is (b ∷ rest) (if s then size_with_prefix 1 (n rest) else 0)
    by_test true e = piece_size_grows_by_first_byte is other b rest (n rest) none (λ text. same b text ∙ ap (λ (t : Bool). t && other text) e) (later rest)
    by_test false e = piece_size_grows_by_first_byte is (λ text. false) b rest 0 none (λ text. same b text ∙ ap (λ (t : Bool). t && other text) e) (test_failing_all_prefixes_has_zero_size (λ text. false) rest (λ m inside h. absurd (cc)))

colon_and_word_size_is_longest : (bytes : List ℕ) → IsLongestPieceSize is_colon_and_word bytes (colon_and_word_size bytes)
unfolding colon_and_word_size
colon_and_word_size_is_longest bytes = size_of_marked_piece_is_longest is_colon_and_word (is_nonempty_run rule.Word) 58 bytes (leading_run_size rule.Word) refl (λ b text. refl) (leading_run_size_is_longest_nonempty_run rule.Word) colon_and_word_size refl (λ b rest. refl)

non_unix_group_size_is_longest : (bytes : List ℕ) → IsLongestPieceSize is_non_unix_group_word bytes (non_unix_group_size bytes)
unfolding non_unix_group_size
non_unix_group_size_is_longest bytes = size_of_marked_piece_is_longest is_non_unix_group_word is_colon_and_word 37 bytes colon_and_word_size refl (λ b text. refl) colon_and_word_size_is_longest non_unix_group_size refl (λ b rest. refl)

-- ---- pieces of one size

only_possible_size_is_longest_form_size : (form : TokenForm) (before : List LineUnit) (bytes : List ℕ) (n : ℕ) → n ≤ length bytes → ((m : ℕ) → is_piece_of_form form before bytes m ≡ (nat_lt 0 m && (m == n))) → IsLongestFormPieceSize form before bytes n
only_possible_size_is_longest_form_size form before bytes n inside told = record {
  inside = inside;
  sound = λ some. told n ∙ two_true_values_are_true_together (nat_lt 0 n) (n == n) (positive_number_passes_positive_test n some) (equal_numbers_pass_equality_test n n refl);
  most = λ m below h.
      let parts = true_conjunction_has_two_true_parts (nat_lt 0 m) (m == n) (sym (told m) ∙ h) in
      (positive_by_test_is_positive m parts.0, omega (arith, eqb-true m n parts.1));
}

longest_text_piece_is_longest_form_piece : (form : TokenForm) (before : List LineUnit) (bytes : List ℕ) (n : ℕ) (is : List ℕ → Bool) → ((m : ℕ) → is_piece_of_form form before bytes m ≡ is (take m bytes)) → IsLongestPieceSize is bytes n → IsLongestFormPieceSize form before bytes n
longest_text_piece_is_longest_form_piece form before bytes n is told size = record {
  inside = size.inside;
  sound = λ some. told n ∙ size.sound some;
  most = λ m below h. size.most m below (sym (told m) ∙ h);
}

one_byte_size_is_longest_mark_size : (test : ℕ → Bool) (before : List LineUnit) (bytes : List ℕ) → IsLongestFormPieceSize (Mark test) before bytes (size_of_one_matching_byte test bytes)
one_byte_size_is_longest_mark_size test before [] = record { inside = omega arith; sound = λ some. absurd (omega arith); most = λ m below h. absurd (cc) }
one_byte_size_is_longest_mark_size test before (b ∷ rest) = by_test (test b) refl
  where
    by_test : (t : Bool) → test b ≡ t → IsLongestFormPieceSize (Mark test) before (b ∷ rest) (if t then 1 else 0)
    by_test true e = record {
      inside = omega arith;
      sound = λ some. rw e refl;
      most = λ m below h.
          let parts = true_conjunction_has_two_true_parts (test b) (m == 1) h in
          let one : m ≡ 1 = eqb-true m 1 parts.1 in
          (omega arith, omega arith);
    }
    by_test false e = record {
      inside = omega arith;
      sound = λ some. absurd (omega arith);
      most = λ m below h. let parts = true_conjunction_has_two_true_parts (test b) (m == 1) h in absurd (cc);
    }

operator_size_is_within_bytes : (bytes : List ℕ) → plus_or_minus_equals_size bytes ≤ length bytes
unfolding plus_or_minus_equals_size
operator_size_is_within_bytes [] = omega arith
operator_size_is_within_bytes (b ∷ []) = omega arith
operator_size_is_within_bytes (b ∷ c ∷ rest) = choice_of_bounded_sizes_is_within_bound ((b == 43 || b == 45) && c == 61) 2 0 (length (b ∷ c ∷ rest)) (omega arith) (omega arith)

command_path_size_is_longest_path_size : (before : List LineUnit) (bytes : List ℕ) → IsLongestFormPieceSize CommandPath before bytes (command_path_size bytes)
unfolding command_path_size
command_path_size_is_longest_path_size before bytes = by_test (has_given_first_byte 47 bytes) refl
  where
    by_test : (t : Bool) → has_given_first_byte 47 bytes ≡ t → IsLongestFormPieceSize CommandPath before bytes (if t then leading_run_size rule.Path bytes else 0)
    by_test true e = longest_text_piece_is_longest_form_piece CommandPath before bytes (leading_run_size rule.Path bytes) (is_nonempty_run rule.Path) (λ m. rw e refl) (leading_run_size_is_longest_nonempty_run rule.Path bytes)
    by_test false e = longest_text_piece_is_longest_form_piece CommandPath before bytes 0 (λ text. false) (λ m. rw e refl) (test_failing_all_prefixes_has_zero_size (λ text. false) bytes (λ m inside h. absurd (cc)))

-- ---- pieces that begin with `#`

comment_size_by_flags_is_comment_size : (before : List LineUnit) (bytes : List ℕ) → comment_size_at (is_id_position_after_units before) (is_empty (bytes_of_units_after_leading_gap before)) bytes ≡ comment_size before bytes
unfolding comment_size_at
comment_size_by_flags_is_comment_size before [] = refl
comment_size_by_flags_is_comment_size before (b ∷ rest) = refl

comment_size_is_within_bytes : (before : List LineUnit) (bytes : List ℕ) → comment_size before bytes ≤ length bytes
comment_size_is_within_bytes before [] = omega arith
comment_size_is_within_bytes before (b ∷ rest) = choice_with_zero_is_within_bound (b == 35 && is_hash_of_comment before rest) (length (bytes_up_to_line_end rest) + 1) (length (b ∷ rest)) (λ t. omega (arith, line_end_search_is_within_bytes rest))

include_size_by_flag_is_include_size : (before : List LineUnit) (bytes : List ℕ) → hash_include_size_at (is_empty (bytes_of_units_after_leading_gap before)) bytes ≡ hash_include_word_size before bytes
unfolding hash_include_size_at
include_size_by_flag_is_include_size before [] = refl
include_size_by_flag_is_include_size before (b ∷ rest) = refl

hash_include_word_fits_into_bytes : (rest : List ℕ) → is_rest_of_hash_include rest ≡ true → (if starts_with nat_eq rest includedir_word then 11 else 8) ≤ suc (length rest)
hash_include_word_fits_into_bytes rest h = by_test (starts_with nat_eq rest includedir_word) (starts_with nat_eq rest include_word) refl refl h
  where
    by_test : (s t : Bool) → starts_with nat_eq rest includedir_word ≡ s → starts_with nat_eq rest include_word ≡ t → ((t && has_blanks_and_path (drop 7 rest)) || (s && has_blanks_and_path (drop 10 rest))) ≡ true → (if s then 11 else 8) ≤ suc (length rest)
    by_test true t e f g = omega (arith, word_that_begins_bytes_is_no_longer rest includedir_word e)
    by_test false true e f g = omega (arith, word_that_begins_bytes_is_no_longer rest include_word f)
    by_test false false e f g = absurd (cc)

hash_include_word_size_is_within_bytes : (before : List LineUnit) (bytes : List ℕ) → hash_include_word_size before bytes ≤ length bytes
hash_include_word_size_is_within_bytes before [] = omega arith
hash_include_word_size_is_within_bytes before (b ∷ rest) =
    choice_with_zero_is_within_bound (b == 35 && (is_empty (bytes_of_units_after_leading_gap before) && is_rest_of_hash_include rest)) (if starts_with nat_eq rest includedir_word then 11 else 8) (length (b ∷ rest))
    (λ t.
    let parts = true_conjunction_has_two_true_parts (b == 35) (is_empty (bytes_of_units_after_leading_gap before) && is_rest_of_hash_include rest) t in
    hash_include_word_fits_into_bytes rest (true_conjunction_has_two_true_parts (is_empty (bytes_of_units_after_leading_gap before)) (is_rest_of_hash_include rest) parts.1).1)

-- ---- others

leading_keyword_size_is_within_bytes : (bytes : List ℕ) → defaults_or_at_include_word_size bytes ≤ length bytes
unfolding defaults_or_at_include_word_size
leading_keyword_size_is_within_bytes bytes =
    let word = leading_run_size rule.Word bytes in
    let defaults = starts_with nat_eq bytes defaults_word in
    let whole = word == 8 || has_host_or_runas_sign (drop 8 bytes) in
    choice_of_bounded_numbers_is_within_bound (defaults && whole) 8 (if is_among at_include_words (take word bytes) then word else 0) (length bytes)
    (λ t. omega (arith, word_that_begins_bytes_is_no_longer bytes defaults_word (true_conjunction_has_two_true_parts defaults whole t).0))
    (choice_with_zero_is_within_bound (is_among at_include_words (take word bytes)) word (length bytes) (λ t. leading_run_size_is_within_bytes rule.Word bytes))

quoted_argument_rest_is_within_bytes : (bytes : List ℕ) → quoted_argument_rest_size bytes ≤ length bytes
unfolding quoted_argument_rest_size
quoted_argument_rest_is_within_bytes bytes =
    let clean = leading_run_size rule.Clean bytes in
    choice_of_bounded_numbers_is_within_bound (has_given_first_byte 34 (drop clean bytes)) (clean + 1) clean (length bytes)
    (λ t. omega (arith, place_with_first_byte_is_within_bytes 34 clean bytes t)) (leading_run_size_is_within_bytes rule.Clean bytes)

pub computed_form_size_is_longest : (form : TokenForm) (before : List LineUnit) (bytes : List ℕ) → IsLongestFormPieceSize form before bytes (longest_piece_size form (is_id_position_after_units before) (is_empty (bytes_of_units_after_leading_gap before)) bytes)
computed_form_size_is_longest (Mark test) before bytes = one_byte_size_is_longest_mark_size test before bytes
computed_form_size_is_longest Operator before bytes = only_possible_size_is_longest_form_size Operator before bytes (plus_or_minus_equals_size bytes) (operator_size_is_within_bytes bytes) (λ m. refl)
computed_form_size_is_longest Number before bytes = longest_text_piece_is_longest_form_piece Number before bytes (numeric_id_size (is_id_position_after_units before) bytes) (is_numeric_id before) (λ m. refl) (numeric_id_size_is_longest before bytes)
computed_form_size_is_longest NonUnixGroup before bytes = longest_text_piece_is_longest_form_piece NonUnixGroup before bytes (non_unix_group_size bytes) is_non_unix_group_word (λ m. refl) (non_unix_group_size_is_longest bytes)
computed_form_size_is_longest (Run k r) before bytes = longest_text_piece_is_longest_form_piece (Run k r) before bytes (leading_run_size r bytes) (is_nonempty_run r) (λ m. refl) (leading_run_size_is_longest_nonempty_run r bytes)
computed_form_size_is_longest CommandPath before bytes = command_path_size_is_longest_path_size before bytes
computed_form_size_is_longest (QuotedPart k) before bytes = only_possible_size_is_longest_form_size (QuotedPart k) before bytes (closed_quote_size bytes) (quoted_run_size_is_within_bytes rule.Quote bytes) (λ m. refl)
computed_form_size_is_longest CommentPart before bytes =
    subst (IsLongestFormPieceSize CommentPart before bytes) (sym (comment_size_by_flags_is_comment_size before bytes)) (only_possible_size_is_longest_form_size CommentPart before bytes (comment_size before bytes) (comment_size_is_within_bytes before bytes) (λ m. refl))
computed_form_size_is_longest IncludeWord before bytes =
    subst (IsLongestFormPieceSize IncludeWord before bytes) (sym (include_size_by_flag_is_include_size before bytes)) (only_possible_size_is_longest_form_size IncludeWord before bytes (hash_include_word_size before bytes) (hash_include_word_size_is_within_bytes before bytes) (λ m. refl))
computed_form_size_is_longest FirstWord before bytes = only_possible_size_is_longest_form_size FirstWord before bytes (defaults_or_at_include_word_size bytes) (leading_keyword_size_is_within_bytes bytes) (λ m. refl)
computed_form_size_is_longest Argument before bytes =
    let size = argument_size_is_that_of_longest_argument bytes in
    record {
      inside = size.inside;
      sound = λ some. two_true_values_are_true_together (nat_lt 0 (argument_size bytes)) (is_argument_of_size bytes (argument_size bytes)) (positive_number_passes_positive_test (argument_size bytes) some) (size.sound some);
      most = λ m below h. let parts = true_conjunction_has_two_true_parts (nat_lt 0 m) (is_argument_of_size bytes m) h in (positive_by_test_is_positive m parts.0, size.most m below parts.1);
    }
computed_form_size_is_longest QuotedRest before bytes = only_possible_size_is_longest_form_size QuotedRest before bytes (quoted_argument_rest_size bytes) (quoted_argument_rest_is_within_bytes bytes) (λ m. refl)
