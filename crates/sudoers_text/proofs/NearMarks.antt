-- Marks, numbers, groups, comments and includes that begin before a name. Each ends before the name and is the same with another one,
-- or reaches into either.
use Rattle.std.proofs.Common.{◌≡◌, inl, inr, ℕ, zero, suc, ◌+◌, ◌≤◌, Bool, true, false, ◌&&◌, ◌||◌, not, List, [], ◌∷◌, ◌++◌, length, drop, refl, sym, ap, ◌∙◌, arith}
use Rattle.std.specs.Prelude.{◌==◌, if◌then◌else◌, nat_eq}
use Rattle.std.specs.List.{starts_with}
use Rattle.sudoers_text.specs.declared.part.ByteRunKind.TheVariants as rule
use Rattle.sudoers_text.specs.Unit.{begins_digit, has_path_after_blanks, has_blanks_and_path, is_rest_of_hash_include, include_word, includedir_word, is_blank, begins_line_end, bytes_up_to_line_end}
use Rattle.sudoers_text.specs.Part.{leading_run_size, is_upper}
use Rattle.sudoers_text.specs.Piece.{plus_or_minus_equals_size}
use Rattle.sudoers_text.specs.Found.{size_with_prefix, hash_id_size, optional_colon_id_size, numeric_id_size, colon_and_word_size, non_unix_group_size, comment_size_at, hash_include_size_at}
use Rattle.sudoers_text.proofs.Ahead.{bytes_told_apart_by_test_are_unequal, upper_case_letter_is_no_blank, upper_case_letter_is_no_digit, AreUpperCaseLetters, AgreeUpToPlace, equal_sizes_agree_up_to_place, successors_of_agreeing_sizes_agree, leading_run_sizes_agree_before_letters, line_end_start_is_same_for_letters}

pub zero_sizes_agree_up_to_place : (p : ℕ) → AgreeUpToPlace p 0 0
zero_sizes_agree_up_to_place p = inl (omega arith, refl)

pub choice_of_agreeing_sizes_agrees : (t : Bool) (p a b c d : ℕ) → AgreeUpToPlace p a b → AgreeUpToPlace p c d → AgreeUpToPlace p (if t then a else c) (if t then b else d)
choice_of_agreeing_sizes_agrees true p a b c d e f = e
choice_of_agreeing_sizes_agrees false p a b c d e f = f

-- by one test and another that is the same
pub equal_tests_choose_agreeing_sizes : (s t : Bool) (p a b c d : ℕ) → s ≡ t → AgreeUpToPlace p a b → AgreeUpToPlace p c d → AgreeUpToPlace p (if s then a else c) (if t then b else d)
equal_tests_choose_agreeing_sizes true true p a b c d same e f = e
equal_tests_choose_agreeing_sizes false false p a b c d same e f = f
equal_tests_choose_agreeing_sizes true false p a b c d same e f = absurd (cc)
equal_tests_choose_agreeing_sizes false true p a b c d same e f = absurd (cc)

prefix_byte_keeps_sizes_agreeing : (p a b : ℕ) → AgreeUpToPlace p a b → AgreeUpToPlace (suc p) (size_with_prefix 1 a) (size_with_prefix 1 b)
prefix_byte_keeps_sizes_agreeing p zero zero e = zero_sizes_agree_up_to_place (suc p)
prefix_byte_keeps_sizes_agreeing p zero (suc b) (inl e) = absurd (omega (arith, e.1))
prefix_byte_keeps_sizes_agreeing p zero (suc b) (inr e) = absurd (omega (arith, e.0))
prefix_byte_keeps_sizes_agreeing p (suc a) zero (inl e) = absurd (omega (arith, e.1))
prefix_byte_keeps_sizes_agreeing p (suc a) zero (inr e) = absurd (omega (arith, e.1))
prefix_byte_keeps_sizes_agreeing p (suc a) (suc b) (inl e) = inl (omega (arith, e.0), omega (arith, e.1))
prefix_byte_keeps_sizes_agreeing p (suc a) (suc b) (inr e) = inr (omega (arith, e.0), omega (arith, e.1))

pub added_count_keeps_sizes_agreeing : (k p a b : ℕ) → AgreeUpToPlace p a b → AgreeUpToPlace (k + p) (k + a) (k + b)
added_count_keeps_sizes_agreeing k p a b (inl e) = inl (omega (arith, e.0), omega (arith, e.1))
added_count_keeps_sizes_agreeing k p a b (inr e) = inr (omega (arith, e.0), omega (arith, e.1))

pub added_byte_keeps_sizes_agreeing : (p a b : ℕ) → AgreeUpToPlace p a b → AgreeUpToPlace (suc p) (a + 1) (b + 1)
added_byte_keeps_sizes_agreeing p a b (inl e) = inl (omega (arith, e.0), omega (arith, e.1))
added_byte_keeps_sizes_agreeing p a b (inr e) = inr (omega (arith, e.0), omega (arith, e.1))

-- ---- marks, operators, numbers, groups

pub operator_sizes_agree_before_letters : (q : List ℕ) (u v : ℕ) (xs ys : List ℕ) → AreUpperCaseLetters u v → AgreeUpToPlace (length q) (plus_or_minus_equals_size (q ++ u ∷ xs)) (plus_or_minus_equals_size (q ++ v ∷ ys))
unfolding plus_or_minus_equals_size
operator_sizes_agree_before_letters [] u v xs ys is = by_rest xs ys
  where
    none : (w : ℕ) (zs : List ℕ) → is_upper w ≡ true → plus_or_minus_equals_size (w ∷ zs) ≡ 0
    none w [] h = refl
    none w (z ∷ zs) h =
        let a : (w == 43) ≡ false = bytes_told_apart_by_test_are_unequal is_upper 43 w h refl in
        let b : (w == 45) ≡ false = bytes_told_apart_by_test_are_unequal is_upper 45 w h refl in
        rw (a, b) refl

    by_rest : (xs ys : List ℕ) → AgreeUpToPlace 0 (plus_or_minus_equals_size (u ∷ xs)) (plus_or_minus_equals_size (v ∷ ys))
    by_rest xs ys = equal_sizes_agree_up_to_place 0 (plus_or_minus_equals_size (u ∷ xs)) (plus_or_minus_equals_size (v ∷ ys)) (none u xs is.one ∙ sym (none v ys is.another))
operator_sizes_agree_before_letters (b ∷ []) u v xs ys is =
    let a : (u == 61) ≡ false = bytes_told_apart_by_test_are_unequal is_upper 61 u is.one refl in
    let c : (v == 61) ≡ false = bytes_told_apart_by_test_are_unequal is_upper 61 v is.another refl in
    rw (a, c) (by_test (b == 43 || b == 45))
  where
    by_test : (t : Bool) → AgreeUpToPlace 1 (if t && false then 2 else 0) (if t && false then 2 else 0)
    by_test true = zero_sizes_agree_up_to_place 1
    by_test false = zero_sizes_agree_up_to_place 1
operator_sizes_agree_before_letters (b ∷ c ∷ q) u v xs ys is = equal_sizes_agree_up_to_place (length (b ∷ c ∷ q)) _ _ refl

hash_id_sizes_agree_before_letters : (item : Bool) (q : List ℕ) (u v : ℕ) (xs ys : List ℕ) → AreUpperCaseLetters u v
    → AgreeUpToPlace (length q) (hash_id_size item (q ++ u ∷ xs)) (hash_id_size item (q ++ v ∷ ys))
unfolding hash_id_size
hash_id_sizes_agree_before_letters item [] u v xs ys is =
    let a : (u == 35) ≡ false = bytes_told_apart_by_test_are_unequal is_upper 35 u is.one refl in
    let b : (v == 35) ≡ false = bytes_told_apart_by_test_are_unequal is_upper 35 v is.another refl in
    rw (a, b) (zero_sizes_agree_up_to_place 0)
hash_id_sizes_agree_before_letters item (b ∷ q) u v xs ys is =
    choice_of_agreeing_sizes_agrees (b == 35 && item) (suc (length q)) (size_with_prefix 1 (leading_run_size rule.Digits (q ++ u ∷ xs)))
    (size_with_prefix 1 (leading_run_size rule.Digits (q ++ v ∷ ys))) 0 0
    (prefix_byte_keeps_sizes_agreeing (length q) (leading_run_size rule.Digits (q ++ u ∷ xs)) (leading_run_size rule.Digits (q ++ v ∷ ys)) (leading_run_sizes_agree_before_letters rule.Digits q u v xs ys is))
    (zero_sizes_agree_up_to_place (suc (length q)))

optional_colon_id_sizes_agree_before_letters : (item : Bool) (q : List ℕ) (u v : ℕ) (xs ys : List ℕ) → AreUpperCaseLetters u v
    → AgreeUpToPlace (length q) (optional_colon_id_size item (q ++ u ∷ xs)) (optional_colon_id_size item (q ++ v ∷ ys))
unfolding optional_colon_id_size
optional_colon_id_sizes_agree_before_letters item [] u v xs ys is =
    let a : (u == 58) ≡ false = bytes_told_apart_by_test_are_unequal is_upper 58 u is.one refl in
    let b : (v == 58) ≡ false = bytes_told_apart_by_test_are_unequal is_upper 58 v is.another refl in
    rw (a, b) (hash_id_sizes_agree_before_letters item [] u v xs ys is)
optional_colon_id_sizes_agree_before_letters item (b ∷ q) u v xs ys is =
    choice_of_agreeing_sizes_agrees (b == 58) (suc (length q)) (size_with_prefix 1 (hash_id_size true (q ++ u ∷ xs)))
    (size_with_prefix 1 (hash_id_size true (q ++ v ∷ ys))) (hash_id_size item (b ∷ q ++ u ∷ xs)) (hash_id_size item (b ∷ q ++ v ∷ ys))
    (prefix_byte_keeps_sizes_agreeing (length q) (hash_id_size true (q ++ u ∷ xs)) (hash_id_size true (q ++ v ∷ ys)) (hash_id_sizes_agree_before_letters true q u v xs ys is))
    (hash_id_sizes_agree_before_letters item (b ∷ q) u v xs ys is)

pub numeric_id_sizes_agree_before_letters : (item : Bool) (q : List ℕ) (u v : ℕ) (xs ys : List ℕ) → AreUpperCaseLetters u v
    → AgreeUpToPlace (length q) (numeric_id_size item (q ++ u ∷ xs)) (numeric_id_size item (q ++ v ∷ ys))
unfolding numeric_id_size
numeric_id_sizes_agree_before_letters item [] u v xs ys is =
    let a : (u == 37) ≡ false = bytes_told_apart_by_test_are_unequal is_upper 37 u is.one refl in
    let b : (v == 37) ≡ false = bytes_told_apart_by_test_are_unequal is_upper 37 v is.another refl in
    rw (a, b) (hash_id_sizes_agree_before_letters item [] u v xs ys is)
numeric_id_sizes_agree_before_letters item (b ∷ q) u v xs ys is =
    choice_of_agreeing_sizes_agrees (b == 37) (suc (length q)) (size_with_prefix 1 (optional_colon_id_size item (q ++ u ∷ xs)))
    (size_with_prefix 1 (optional_colon_id_size item (q ++ v ∷ ys))) (hash_id_size item (b ∷ q ++ u ∷ xs)) (hash_id_size item (b ∷ q ++ v ∷ ys))
    (prefix_byte_keeps_sizes_agreeing (length q) (optional_colon_id_size item (q ++ u ∷ xs)) (optional_colon_id_size item (q ++ v ∷ ys)) (optional_colon_id_sizes_agree_before_letters item q u v xs ys is))
    (hash_id_sizes_agree_before_letters item (b ∷ q) u v xs ys is)

colon_word_sizes_agree_before_letters : (q : List ℕ) (u v : ℕ) (xs ys : List ℕ) → AreUpperCaseLetters u v
    → AgreeUpToPlace (length q) (colon_and_word_size (q ++ u ∷ xs)) (colon_and_word_size (q ++ v ∷ ys))
unfolding colon_and_word_size
colon_word_sizes_agree_before_letters [] u v xs ys is =
    let a : (u == 58) ≡ false = bytes_told_apart_by_test_are_unequal is_upper 58 u is.one refl in
    let b : (v == 58) ≡ false = bytes_told_apart_by_test_are_unequal is_upper 58 v is.another refl in
    rw (a, b) (zero_sizes_agree_up_to_place 0)
colon_word_sizes_agree_before_letters (b ∷ q) u v xs ys is =
    choice_of_agreeing_sizes_agrees (b == 58) (suc (length q)) (size_with_prefix 1 (leading_run_size rule.Word (q ++ u ∷ xs))) (size_with_prefix 1 (leading_run_size rule.Word (q ++ v ∷ ys))) 0 0
    (prefix_byte_keeps_sizes_agreeing (length q) (leading_run_size rule.Word (q ++ u ∷ xs)) (leading_run_size rule.Word (q ++ v ∷ ys)) (leading_run_sizes_agree_before_letters rule.Word q u v xs ys is))
    (zero_sizes_agree_up_to_place (suc (length q)))

pub group_word_sizes_agree_before_letters : (q : List ℕ) (u v : ℕ) (xs ys : List ℕ) → AreUpperCaseLetters u v → AgreeUpToPlace (length q) (non_unix_group_size (q ++ u ∷ xs)) (non_unix_group_size (q ++ v ∷ ys))
unfolding non_unix_group_size
group_word_sizes_agree_before_letters [] u v xs ys is =
    let a : (u == 37) ≡ false = bytes_told_apart_by_test_are_unequal is_upper 37 u is.one refl in
    let b : (v == 37) ≡ false = bytes_told_apart_by_test_are_unequal is_upper 37 v is.another refl in
    rw (a, b) (zero_sizes_agree_up_to_place 0)
group_word_sizes_agree_before_letters (b ∷ q) u v xs ys is =
    choice_of_agreeing_sizes_agrees (b == 37) (suc (length q)) (size_with_prefix 1 (colon_and_word_size (q ++ u ∷ xs))) (size_with_prefix 1 (colon_and_word_size (q ++ v ∷ ys))) 0 0
    (prefix_byte_keeps_sizes_agreeing (length q) (colon_and_word_size (q ++ u ∷ xs)) (colon_and_word_size (q ++ v ∷ ys)) (colon_word_sizes_agree_before_letters q u v xs ys is))
    (zero_sizes_agree_up_to_place (suc (length q)))

-- ---- what stands behind a `#`

pub digit_start_is_same_for_letters : (q : List ℕ) (u v : ℕ) (xs ys : List ℕ) → AreUpperCaseLetters u v → begins_digit (q ++ u ∷ xs) ≡ begins_digit (q ++ v ∷ ys)
digit_start_is_same_for_letters [] u v xs ys is = upper_case_letter_is_no_digit u is.one ∙ sym (upper_case_letter_is_no_digit v is.another)
digit_start_is_same_for_letters (b ∷ q) u v xs ys is = refl

upper_case_letter_begins_path : (u : ℕ) (xs : List ℕ) → is_upper u ≡ true → has_path_after_blanks (u ∷ xs) ≡ true
upper_case_letter_begins_path u xs h =
    let a : (u == 32) ≡ false = bytes_told_apart_by_test_are_unequal is_upper 32 u h refl in
    let b : (u == 9) ≡ false = bytes_told_apart_by_test_are_unequal is_upper 9 u h refl in
    let c : (u == 35) ≡ false = bytes_told_apart_by_test_are_unequal is_upper 35 u h refl in
    let d : (u == 10) ≡ false = bytes_told_apart_by_test_are_unequal is_upper 10 u h refl in
    let e : (u == 13) ≡ false = bytes_told_apart_by_test_are_unequal is_upper 13 u h refl in
    rw (a, b, c, d, e) refl

path_after_blanks_is_same_for_letters : (q : List ℕ) (u v : ℕ) (xs ys : List ℕ) → AreUpperCaseLetters u v → has_path_after_blanks (q ++ u ∷ xs) ≡ has_path_after_blanks (q ++ v ∷ ys)
path_after_blanks_is_same_for_letters [] u v xs ys is = upper_case_letter_begins_path u xs is.one ∙ sym (upper_case_letter_begins_path v ys is.another)
path_after_blanks_is_same_for_letters (b ∷ q) u v xs ys is =
    ap (λ (t : Bool). if is_blank b then t else not (b == 35) && not (begins_line_end (b ∷ q ++ u ∷ xs))) (path_after_blanks_is_same_for_letters q u v xs ys is)
    ∙ ap (λ (t : Bool). if is_blank b then has_path_after_blanks (q ++ v ∷ ys) else not (b == 35) && not t) (line_end_start_is_same_for_letters b q u v xs ys is)

blanks_and_path_are_same_for_letters : (q : List ℕ) (u v : ℕ) (xs ys : List ℕ) → AreUpperCaseLetters u v → has_blanks_and_path (q ++ u ∷ xs) ≡ has_blanks_and_path (q ++ v ∷ ys)
blanks_and_path_are_same_for_letters [] u v xs ys is =
    let a : is_blank u ≡ false = upper_case_letter_is_no_blank u is.one in
    let b : is_blank v ≡ false = upper_case_letter_is_no_blank v is.another in
    ap (λ (t : Bool). t && has_path_after_blanks xs) a ∙ sym (ap (λ (t : Bool). t && has_path_after_blanks ys) b)
blanks_and_path_are_same_for_letters (b ∷ q) u v xs ys is = ap (λ (t : Bool). is_blank b && t) (path_after_blanks_is_same_for_letters q u v xs ys is)

-- no upper-case letter stands in the word
abbrev pub HasNoUpperCaseLetter : List ℕ → Type 0
HasNoUpperCaseLetter [] = Unit {0}
HasNoUpperCaseLetter (c ∷ cs) = (is_upper c ≡ false) × HasNoUpperCaseLetter cs

pub upper_case_letter_is_not_other_letter : (c u : ℕ) → is_upper c ≡ false → is_upper u ≡ true → nat_eq c u ≡ false
upper_case_letter_is_not_other_letter c u low h = bytes_told_apart_by_test_are_unequal (λ b. not (is_upper b)) u c (ap not low) (ap not h)

abbrev is_word_before_path : List ℕ → List ℕ → Bool
is_word_before_path word text = starts_with nat_eq text word && has_blanks_and_path (drop (length word) text)

conjunction_of_three_is_associative : (a b c : Bool) → (a && b && c) ≡ (a && (b && c))
conjunction_of_three_is_associative true b c = refl
conjunction_of_three_is_associative false b c = refl

word_before_path_is_same_for_letters : (word q : List ℕ) (u v : ℕ) (xs ys : List ℕ) → HasNoUpperCaseLetter word → AreUpperCaseLetters u v
    → is_word_before_path word (q ++ u ∷ xs) ≡ is_word_before_path word (q ++ v ∷ ys)
word_before_path_is_same_for_letters [] q u v xs ys low is = blanks_and_path_are_same_for_letters q u v xs ys is
word_before_path_is_same_for_letters (c ∷ cs) [] u v xs ys low is =
    let a : nat_eq c u ≡ false = upper_case_letter_is_not_other_letter c u low.0 is.one in
    let b : nat_eq c v ≡ false = upper_case_letter_is_not_other_letter c v low.0 is.another in
    rw (a, b) refl
word_before_path_is_same_for_letters (c ∷ cs) (b ∷ q) u v xs ys low is =
    conjunction_of_three_is_associative (nat_eq c b) (starts_with nat_eq (q ++ u ∷ xs) cs) (has_blanks_and_path (drop (length cs) (q ++ u ∷ xs)))
    ∙ ap (λ (t : Bool). nat_eq c b && t) (word_before_path_is_same_for_letters cs q u v xs ys low.1 is)
    ∙ sym (conjunction_of_three_is_associative (nat_eq c b) (starts_with nat_eq (q ++ v ∷ ys) cs) (has_blanks_and_path (drop (length cs) (q ++ v ∷ ys))))

pub include_rest_is_same_for_letters : (q : List ℕ) (u v : ℕ) (xs ys : List ℕ) → AreUpperCaseLetters u v → is_rest_of_hash_include (q ++ u ∷ xs) ≡ is_rest_of_hash_include (q ++ v ∷ ys)
include_rest_is_same_for_letters q u v xs ys is =
    ap (λ (t : Bool). t || is_word_before_path includedir_word (q ++ u ∷ xs))
    (word_before_path_is_same_for_letters include_word q u v xs ys (refl, (refl, (refl, (refl, (refl, (refl, (refl, tt))))))) is)
    ∙ ap (λ (t : Bool). is_word_before_path include_word (q ++ v ∷ ys) || t)
    (word_before_path_is_same_for_letters includedir_word q u v xs ys (refl, (refl, (refl, (refl, (refl, (refl, (refl, (refl, (refl, (refl, tt)))))))))) is)

line_end_distances_agree_before_letters : (q : List ℕ) (u v : ℕ) (xs ys : List ℕ) → AreUpperCaseLetters u v
    → AgreeUpToPlace (length q) (length (bytes_up_to_line_end (q ++ u ∷ xs))) (length (bytes_up_to_line_end (q ++ v ∷ ys)))
line_end_distances_agree_before_letters [] u v xs ys is =
    let a : (u == 10) ≡ false = bytes_told_apart_by_test_are_unequal is_upper 10 u is.one refl in
    let b : (u == 13) ≡ false = bytes_told_apart_by_test_are_unequal is_upper 13 u is.one refl in
    let c : (v == 10) ≡ false = bytes_told_apart_by_test_are_unequal is_upper 10 v is.another refl in
    let d : (v == 13) ≡ false = bytes_told_apart_by_test_are_unequal is_upper 13 v is.another refl in
    rw (a, b, c, d) (inr (omega arith, omega arith))
line_end_distances_agree_before_letters (b ∷ q) u v xs ys is =
    by_test (begins_line_end (b ∷ q ++ u ∷ xs)) (begins_line_end (b ∷ q ++ v ∷ ys)) (line_end_start_is_same_for_letters b q u v xs ys is) (line_end_distances_agree_before_letters q u v xs ys is)
  where
    by_test : (s t : Bool) → s ≡ t → AgreeUpToPlace (length q) (length (bytes_up_to_line_end (q ++ u ∷ xs))) (length (bytes_up_to_line_end (q ++ v ∷ ys)))
        → AgreeUpToPlace (suc (length q)) (length (if s then [] else b ∷ bytes_up_to_line_end (q ++ u ∷ xs)))
        (length (if t then [] else b ∷ bytes_up_to_line_end (q ++ v ∷ ys)))
    by_test true true e later = zero_sizes_agree_up_to_place (suc (length q))
    by_test false false e later = successors_of_agreeing_sizes_agree (length q) (length (bytes_up_to_line_end (q ++ u ∷ xs))) (length (bytes_up_to_line_end (q ++ v ∷ ys))) later
    by_test true false e later = absurd (cc)
    by_test false true e later = absurd (cc)

pub comment_sizes_agree_before_letters : (item first : Bool) (q : List ℕ) (u v : ℕ) (xs ys : List ℕ) → AreUpperCaseLetters u v
    → AgreeUpToPlace (length q) (comment_size_at item first (q ++ u ∷ xs)) (comment_size_at item first (q ++ v ∷ ys))
unfolding comment_size_at
comment_sizes_agree_before_letters item first [] u v xs ys is =
    let a : (u == 35) ≡ false = bytes_told_apart_by_test_are_unequal is_upper 35 u is.one refl in
    let b : (v == 35) ≡ false = bytes_told_apart_by_test_are_unequal is_upper 35 v is.another refl in
    rw (a, b) (zero_sizes_agree_up_to_place 0)
comment_sizes_agree_before_letters item first (b ∷ q) u v xs ys is =
    equal_tests_choose_agreeing_sizes (b == 35 && (not (item && begins_digit (q ++ u ∷ xs)) && not (first && is_rest_of_hash_include (q ++ u ∷ xs))))
    (b == 35 && (not (item && begins_digit (q ++ v ∷ ys)) && not (first && is_rest_of_hash_include (q ++ v ∷ ys))))
    (suc (length q)) (length (bytes_up_to_line_end (q ++ u ∷ xs)) + 1) (length (bytes_up_to_line_end (q ++ v ∷ ys)) + 1) 0 0
    (ap (λ (t : Bool). b == 35 && (not (item && t) && not (first && is_rest_of_hash_include (q ++ u ∷ xs)))) (digit_start_is_same_for_letters q u v xs ys is)
    ∙ ap (λ (t : Bool). b == 35 && (not (item && begins_digit (q ++ v ∷ ys)) && not (first && t))) (include_rest_is_same_for_letters q u v xs ys is))
    (added_byte_keeps_sizes_agreeing (length q) (length (bytes_up_to_line_end (q ++ u ∷ xs))) (length (bytes_up_to_line_end (q ++ v ∷ ys))) (line_end_distances_agree_before_letters q u v xs ys is))
    (zero_sizes_agree_up_to_place (suc (length q)))

-- The text begins with the word, or does not, whatever letter stands at the place; where it does, the word ends before it.
pub word_prefix_is_same_for_letters : (word q : List ℕ) (u v : ℕ) (xs ys : List ℕ) → HasNoUpperCaseLetter word → AreUpperCaseLetters u v
    → (starts_with nat_eq (q ++ u ∷ xs) word ≡ starts_with nat_eq (q ++ v ∷ ys) word)
    × (starts_with nat_eq (q ++ u ∷ xs) word ≡ true → length word ≤ length q)
word_prefix_is_same_for_letters [] q u v xs ys low is = (refl, λ e. omega arith)
word_prefix_is_same_for_letters (c ∷ cs) [] u v xs ys low is =
    let a : nat_eq c u ≡ false = upper_case_letter_is_not_other_letter c u low.0 is.one in
    let b : nat_eq c v ≡ false = upper_case_letter_is_not_other_letter c v low.0 is.another in
    (rw (a, b) refl, λ e. absurd (let none : starts_with nat_eq (u ∷ xs) (c ∷ cs) ≡ false = rw a refl in cc))
word_prefix_is_same_for_letters (c ∷ cs) (b ∷ q) u v xs ys low is = by_test (nat_eq c b) (word_prefix_is_same_for_letters cs q u v xs ys low.1 is)
  where
    by_test : (t : Bool)
        → (starts_with nat_eq (q ++ u ∷ xs) cs ≡ starts_with nat_eq (q ++ v ∷ ys) cs)
        × (starts_with nat_eq (q ++ u ∷ xs) cs ≡ true → length cs ≤ length q)
        → ((t && starts_with nat_eq (q ++ u ∷ xs) cs) ≡ (t && starts_with nat_eq (q ++ v ∷ ys) cs))
        × ((t && starts_with nat_eq (q ++ u ∷ xs) cs) ≡ true → suc (length cs) ≤ suc (length q))
    by_test true e = (e.0, λ h. omega (arith, e.1 h))
    by_test false e = (refl, λ h. absurd (cc))

pub hash_include_sizes_agree_before_letters : (first : Bool) (q : List ℕ) (u v : ℕ) (xs ys : List ℕ) → AreUpperCaseLetters u v
    → AgreeUpToPlace (length q) (hash_include_size_at first (q ++ u ∷ xs)) (hash_include_size_at first (q ++ v ∷ ys))
unfolding hash_include_size_at
hash_include_sizes_agree_before_letters first [] u v xs ys is =
    let a : (u == 35) ≡ false = bytes_told_apart_by_test_are_unequal is_upper 35 u is.one refl in
    let b : (v == 35) ≡ false = bytes_told_apart_by_test_are_unequal is_upper 35 v is.another refl in
    rw (a, b) (zero_sizes_agree_up_to_place 0)
hash_include_sizes_agree_before_letters first (b ∷ q) u v xs ys is =
    equal_sizes_agree_up_to_place (suc (length q)) _ _
    (ap (λ (t : Bool). if b == 35 && (first && t) then (if starts_with nat_eq (q ++ u ∷ xs) includedir_word then 11 else 8) else 0)
    (include_rest_is_same_for_letters q u v xs ys is)
    ∙ ap (λ (t : Bool). if b == 35 && (first && is_rest_of_hash_include (q ++ v ∷ ys)) then (if t then 11 else 8) else 0)
    (word_prefix_is_same_for_letters includedir_word q u v xs ys (refl, (refl, (refl, (refl, (refl, (refl, (refl, (refl, (refl, (refl, tt)))))))))) is).0)
