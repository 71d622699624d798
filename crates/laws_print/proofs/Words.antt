-- Words, as tokens and as what they stand for.
use Rattle.laws_print.proofs.Common.{◌&&◌, ◌≡◌, ℕ, suc, ◌+◌, ◌-◌, Bool, true, false, ◌||◌, not, List, [], ◌∷◌, ◌++◌, length, Some, refl, sym, ap, ◌∙◌, arith}
use Rattle.laws_print.proofs.Common.{Continuation, eqb-true}
use Rattle.laws_print.proofs.Common.{is_byte_of_include_path, is_word_byte}
use Rattle.laws_print.proofs.Common.{inl, inr, subst, ◌==◌, if◌then◌else◌, nat_lt, length-append, append_assoc, not-true, or_parts, and_parts}
use Rattle.laws_print.proofs.Common.{nat_tests, eqb_tells, LineUnit, Pair, Byte, bytes_of_unit, unit_at, is_blank, size_of_one_matching_byte, first_nonzero_number, backslash_unit_size_by, pair_size_of_unit}
use Rattle.laws_print.proofs.Common.{reach_of_units, leading_run_size, units_with_those_of_bytes, is_line_end_or_empty, token_forms_in_word_lists, token_forms_in_command_lists, kind_and_size_of_token, size_with_prefix, numeric_id_size, optional_colon_id_size}
use Rattle.laws_print.proofs.Common.{hash_id_size, non_unix_group_size, colon_and_word_size, command_path_size, hash_include_size_at, IncludeWord, text_of_units, IsClosedText, StandAsUnitsInText}
use Rattle.laws_print.proofs.Common.{HasNoNul, is_written_unit, AreWrittenUnitsOf, is_run_unit, list_all, AllByRecursion}
use Rattle.sudoers_text.specs.declared.part.ByteRunKind.TheVariants as rule
use Rattle.sudoers_text.specs.declared.token.TokenKind.TheVariants as kind
use Rattle.sudoers_text.specs.Unit.{unit_after_backslash, begins_lf, begins_line_end}
use Rattle.sudoers_text.specs.Part.{is_punct, has_given_first_byte}
use Rattle.sudoers_text.specs.Token.{units_with_those_after_skipped_bytes}
use Rattle.laws_print.proofs.Units.{units_of_plain_bytes}
use Rattle.laws_print.proofs.Lines.{appended_closed_texts_are_closed, empty_text_is_closed}
use Rattle.sudoers_text.proofs.Reach.{reach_without_first_unit_is_zero}

-- ---- single bytes

-- Bytes of which one passes the test and the other does not are two.
pub passing_byte_differs_from_failing_byte : (test : ℕ → Bool) (a b : ℕ) → test b ≡ true → test a ≡ false → (b == a) ≡ false
passing_byte_differs_from_failing_byte test a b h none =
    elim (eqb_tells b a) [
      | inl w ↦ let same : test a ≡ true = subst (λ (x : ℕ). test x ≡ true) w.1 h in absurd (cc)
      | inr w ↦ w.0
    ]

-- a byte that no run leaves out for what it begins
pub record IsBytePlainInRuns (b : ℕ) : Type 0 where
  pub nul : (b == 0) ≡ false
  pub lf : (b == 10) ≡ false
  pub cr : (b == 13) ≡ false
  pub blank : is_blank b ≡ false
  pub quote : (b == 34) ≡ false
  pub hash : (b == 35) ≡ false
  pub backslash : (b == 92) ≡ false

-- Only plain bytes pass the test.
abbrev pub PassesOnlyPlainBytes : (ℕ → Bool) → Type 0
PassesOnlyPlainBytes test = list_all (λ a. not (test a)) (0 ∷ 9 ∷ 10 ∷ 13 ∷ 32 ∷ 34 ∷ 35 ∷ 92 ∷ []) ≡ true

pub bytes_failing_test_each_fail : (test : ℕ → Bool) (bytes : List ℕ) → list_all (λ a. not (test a)) bytes ≡ true → AllByRecursion (λ a. test a ≡ false) bytes
bytes_failing_test_each_fail test [] h = tt
bytes_failing_test_each_fail test (a ∷ more) h =
    let parts = and_parts (not (test a)) (list_all (λ x. not (test x)) more) h in
    (not-true (test a) parts.0, bytes_failing_test_each_fail test more parts.1)

pub plain_test_byte_is_plain : (test : ℕ → Bool) → PassesOnlyPlainBytes test → (b : ℕ) → test b ≡ true → IsBytePlainInRuns b
plain_test_byte_is_plain test pass b h =
    let none = bytes_failing_test_each_fail test (0 ∷ 9 ∷ 10 ∷ 13 ∷ 32 ∷ 34 ∷ 35 ∷ 92 ∷ []) pass in
    record {
      nul = passing_byte_differs_from_failing_byte test 0 b h none.0;
      lf = passing_byte_differs_from_failing_byte test 10 b h none.1.1.0;
      cr = passing_byte_differs_from_failing_byte test 13 b h none.1.1.1.0;
      blank = rw (passing_byte_differs_from_failing_byte test 32 b h none.1.1.1.1.0, passing_byte_differs_from_failing_byte test 9 b h none.1.0) refl;
      quote = passing_byte_differs_from_failing_byte test 34 b h none.1.1.1.1.1.0;
      hash = passing_byte_differs_from_failing_byte test 35 b h none.1.1.1.1.1.1.0;
      backslash = passing_byte_differs_from_failing_byte test 92 b h none.1.1.1.1.1.1.1.0;
    }

pub plain_test_byte_is_include_path_byte : (test : ℕ → Bool) → PassesOnlyPlainBytes test → (b : ℕ) → test b ≡ true → is_byte_of_include_path b ≡ true
plain_test_byte_is_include_path_byte test pass b h =
    let is = plain_test_byte_is_plain test pass b h in
    rw (is.nul, is.lf, is.cr, is.blank, is.quote, is.hash, is.backslash) refl

-- Bytes that pass the test are bytes of a word.
pub word_test_byte_is_word_byte : (test : ℕ → Bool) → list_all (λ a. not (test a)) (0 ∷ 9 ∷ 10 ∷ 13 ∷ 32 ∷ 34 ∷ 35 ∷ 92 ∷ 33 ∷ 40 ∷ 41 ∷ 44 ∷ 58 ∷ 61 ∷ []) ≡ true → (b : ℕ) → test b ≡ true
    → is_word_byte b ≡ true
word_test_byte_is_word_byte test pass b h =
    let none = bytes_failing_test_each_fail test (0 ∷ 9 ∷ 10 ∷ 13 ∷ 32 ∷ 34 ∷ 35 ∷ 92 ∷ 33 ∷ 40 ∷ 41 ∷ 44 ∷ 58 ∷ 61 ∷ []) pass in
    let marks = none.1.1.1.1.1.1.1.1 in
    rw (
      passing_byte_differs_from_failing_byte test 0 b h none.0,
      passing_byte_differs_from_failing_byte test 9 b h none.1.0,
      passing_byte_differs_from_failing_byte test 10 b h none.1.1.0,
      passing_byte_differs_from_failing_byte test 13 b h none.1.1.1.0,
      passing_byte_differs_from_failing_byte test 32 b h none.1.1.1.1.0,
      passing_byte_differs_from_failing_byte test 34 b h none.1.1.1.1.1.0,
      passing_byte_differs_from_failing_byte test 35 b h none.1.1.1.1.1.1.0,
      passing_byte_differs_from_failing_byte test 92 b h none.1.1.1.1.1.1.1.0,
      passing_byte_differs_from_failing_byte test 33 b h marks.0,
      passing_byte_differs_from_failing_byte test 40 b h marks.1.0,
      passing_byte_differs_from_failing_byte test 41 b h marks.1.1.0,
      passing_byte_differs_from_failing_byte test 44 b h marks.1.1.1.0,
      passing_byte_differs_from_failing_byte test 58 b h marks.1.1.1.1.0,
      passing_byte_differs_from_failing_byte test 61 b h marks.1.1.1.1.1.0,
    ) refl

pub plain_byte_stands_as_unit : (before : List LineUnit) (b : ℕ) (rest : List ℕ) → IsBytePlainInRuns b → unit_at before (b ∷ rest) ≡ Some (Byte b)
plain_byte_stands_as_unit before b rest is =
    rw (is.lf, is.cr, is.backslash, is.quote, is.hash) refl

-- a byte behind a backslash
pub record IsNoLineEndByte (c : ℕ) : Type 0 where
  pub lf : (c == 10) ≡ false
  pub cr : (c == 13) ≡ false

pub pair_test_implies_no_line_end_byte : (c : ℕ) → not (c == 10 || c == 13) ≡ true → IsNoLineEndByte c
pair_test_implies_no_line_end_byte c h = let a = or_parts (c == 10) (c == 13) (not-true _ h) in record { lf = a.0; cr = a.1 }

-- a unit of what is written
pub written_pair_is_no_nul_nor_break : (c : ℕ) → not (c == 0 || c == 10 || c == 13) ≡ true → ((c == 0) ≡ false) × IsNoLineEndByte c
written_pair_is_no_nul_nor_break c h =
    let a = or_parts (c == 0 || c == 10) (c == 13) (not-true _ h) in
    let d = or_parts (c == 0) (c == 10) a.0 in
    (d.0, record { lf = d.1; cr = a.1 })

pub unit_after_backslash_is_pair : (c : ℕ) (more : List ℕ) → IsNoLineEndByte c → unit_after_backslash (c ∷ more) ≡ Pair c
unit_after_backslash_is_pair c more is = let lf : (c == 10) ≡ false = is.lf in let cr : (c == 13) ≡ false = is.cr in rw (lf, cr) refl

-- ---- runs

-- what a run of bytes and pairs is made of
abbrev pub size_of_matching_byte_or_pair : (ℕ → Bool) → List ℕ → ℕ
size_of_matching_byte_or_pair test bytes = first_nonzero_number (size_of_one_matching_byte test bytes) (backslash_unit_size_by pair_size_of_unit bytes)

-- how a run begins: with a byte, or with a pair
pub data BeginsRunWithByteOrPair (test : ℕ → Bool) : List ℕ → Type 0 where
  at_byte : {b : ℕ} {rest : List ℕ} → test b ≡ true → BeginsRunWithByteOrPair test (b ∷ rest)
  at_pair : {c : ℕ} {rest : List ℕ} → IsNoLineEndByte c → BeginsRunWithByteOrPair test (92 ∷ c ∷ rest)

pub positive_run_begins_with_byte_or_pair : (test : ℕ → Bool) (b : ℕ) (rest : List ℕ) (k : ℕ) → size_of_matching_byte_or_pair test (b ∷ rest) ≡ suc k → BeginsRunWithByteOrPair test (b ∷ rest)
positive_run_begins_with_byte_or_pair test b rest k e = by_test (test b) refl e
  where
    by_cr : (c : ℕ) (more : List ℕ) (t : Bool) → (c == 13) ≡ t → begins_line_end (c ∷ more) ≡ false → (if t then 0 else 2) ≡ suc k → BeginsRunWithByteOrPair test (92 ∷ c ∷ more)
    by_cr c more true h none e = absurd (omega (arith, e))
    by_cr c more false h none e = at_pair (record { lf = (or_parts (c == 10) (c == 13 && begins_lf more) none).0; cr = h })

    by_end : (c : ℕ) (more : List ℕ) (t : Bool) → begins_line_end (c ∷ more) ≡ t → pair_size_of_unit (if t then Continuation (c == 13) else Pair c) ≡ suc k → BeginsRunWithByteOrPair test (92 ∷ c ∷ more)
    by_end c more true h e = absurd (omega (arith, e))
    by_end c more false h e = by_cr c more (c == 13) refl h e

    by_rest : (rest : List ℕ) → pair_size_of_unit (unit_after_backslash rest) ≡ suc k → BeginsRunWithByteOrPair test (92 ∷ rest)
    by_rest [] e = absurd (omega (arith, e))
    by_rest (c ∷ more) e = by_end c more (begins_line_end (c ∷ more)) refl e

    by_backslash_first : (t : Bool) → (b == 92) ≡ t → (if t then pair_size_of_unit (unit_after_backslash rest) else 0) ≡ suc k → BeginsRunWithByteOrPair test (b ∷ rest)
    by_backslash_first true h e = subst (λ (x : ℕ). BeginsRunWithByteOrPair test (x ∷ rest)) (sym (eqb-true b 92 h)) (by_rest rest e)
    by_backslash_first false h e = absurd (omega (arith, e))

    by_test : (t : Bool) → test b ≡ t → first_nonzero_number (if t then 1 else 0) (backslash_unit_size_by pair_size_of_unit (b ∷ rest)) ≡ suc k → BeginsRunWithByteOrPair test (b ∷ rest)
    by_test true h e = at_byte h
    by_test false h e = by_backslash_first (b == 92) refl e

pub run_reach_passes_unit : (test : ℕ → Bool) → test 92 ≡ false → (u : LineUnit) (more : List ℕ) → is_run_unit test u ≡ true → reach_of_units (size_of_matching_byte_or_pair test) 0 (bytes_of_unit u ++ more) ≡ length (bytes_of_unit u) + reach_of_units (size_of_matching_byte_or_pair test) 0 more
run_reach_passes_unit test none (Byte b) more h = let is : test b ≡ true = h in rw is (omega arith)
run_reach_passes_unit test none (Pair c) more h =
    let is = pair_test_implies_no_line_end_byte c h in
    rw none (rw (unit_after_backslash_is_pair c more is) (rw is.cr (omega arith)))
run_reach_passes_unit test none u more h = absurd (cc)

written_unit_is_run_unit : (test : ℕ → Bool) (u : LineUnit) → is_written_unit test u ≡ true → is_run_unit test u ≡ true
written_unit_is_run_unit test (Byte b) h = h
written_unit_is_run_unit test (Pair c) h = let is = (written_pair_is_no_nul_nor_break c h).1 in let lf : (c == 10) ≡ false = is.lf in let cr : (c == 13) ≡ false = is.cr in rw (lf, cr) refl
written_unit_is_run_unit test u h = absurd (cc)

pub run_reach_passes_units : (test : ℕ → Bool) → test 92 ≡ false → (us : List LineUnit) (more : List ℕ) → AreWrittenUnitsOf test us → reach_of_units (size_of_matching_byte_or_pair test) 0 (text_of_units us ++ more) ≡ length (text_of_units us) + reach_of_units (size_of_matching_byte_or_pair test) 0 more
run_reach_passes_units test none [] more all = omega arith
run_reach_passes_units test none (u ∷ us) more all =
    ap (reach_of_units (size_of_matching_byte_or_pair test) 0) (append_assoc (bytes_of_unit u) (text_of_units us) more)
    ∙ run_reach_passes_unit test none u (text_of_units us ++ more) (written_unit_is_run_unit test u all.0)
    ∙ omega (arith, run_reach_passes_units test none us more all.1, length-append (bytes_of_unit u) (text_of_units us))

pub run_reach_of_units_is_their_length : (test : ℕ → Bool) → test 92 ≡ false → (us : List LineUnit) (more : List ℕ) → AreWrittenUnitsOf test us → size_of_matching_byte_or_pair test more ≡ 0 → reach_of_units (size_of_matching_byte_or_pair test) 0 (text_of_units us ++ more) ≡ length (text_of_units us)
run_reach_of_units_is_their_length test none us more all ends = omega (arith, run_reach_passes_units test none us more all, reach_without_first_unit_is_zero (size_of_matching_byte_or_pair test) more ends)

-- ---- what stands left

bytes_of_unit_are_closed : (test : ℕ → Bool) (u : LineUnit) → test 92 ≡ false → is_written_unit test u ≡ true → IsClosedText (bytes_of_unit u)
bytes_of_unit_are_closed test (Byte b) none h before rest = let e : (b == 92) ≡ false = passing_byte_differs_from_failing_byte test 92 b h none in rw e refl
bytes_of_unit_are_closed test (Pair c) none h before rest =
    let is = (written_pair_is_no_nul_nor_break c h).1 in
    ap (λ (u : LineUnit). units_with_those_after_skipped_bytes (length (bytes_of_unit u) - 1) (u ∷ before) (c ∷ rest)) (unit_after_backslash_is_pair c rest is)
    ∙ sym (ap (λ (u : LineUnit). units_with_those_of_bytes (units_with_those_after_skipped_bytes (length (bytes_of_unit u) - 1) (u ∷ before) (c ∷ [])) rest) (unit_after_backslash_is_pair c [] is))
bytes_of_unit_are_closed test u none h before rest = absurd (cc)

pub text_of_units_is_closed : (test : ℕ → Bool) → test 92 ≡ false → (us : List LineUnit) → AreWrittenUnitsOf test us → IsClosedText (text_of_units us)
text_of_units_is_closed test none [] all = empty_text_is_closed
text_of_units_is_closed test none (u ∷ us) all = appended_closed_texts_are_closed (bytes_of_unit u) (text_of_units us) (bytes_of_unit_are_closed test u none all.0) (text_of_units_is_closed test none us all.1)

pub text_of_units_has_no_nul : (test : ℕ → Bool) → test 0 ≡ false → (us : List LineUnit) → AreWrittenUnitsOf test us → HasNoNul (text_of_units us)
text_of_units_has_no_nul test none [] all = refl
text_of_units_has_no_nul test none (Byte b ∷ us) all = let some : (b == 0) ≡ false = passing_byte_differs_from_failing_byte test 0 b all.0 none in rw (some, text_of_units_has_no_nul test none us all.1) refl
text_of_units_has_no_nul test none (Pair c ∷ us) all = let some : (c == 0) ≡ false = (written_pair_is_no_nul_nor_break c all.0).0 in rw (some, text_of_units_has_no_nul test none us all.1) refl
text_of_units_has_no_nul test none us all = absurd (let h = all.0 in cc)

-- ---- units of the line

bytes_of_unit_stand_as_unit : (test : ℕ → Bool) → PassesOnlyPlainBytes test → (before : List LineUnit) (u : LineUnit) (rest : List ℕ) → is_written_unit test u ≡ true → unit_at before (bytes_of_unit u ++ rest) ≡ Some u
bytes_of_unit_stand_as_unit test pass before (Byte b) rest h = plain_byte_stands_as_unit before b rest (plain_test_byte_is_plain test pass b h)
bytes_of_unit_stand_as_unit test pass before (Pair c) rest h = let is = (written_pair_is_no_nul_nor_break c h).1 in rw (unit_after_backslash_is_pair c rest is) refl
bytes_of_unit_stand_as_unit test pass before u rest h = absurd (cc)

pub units_stand_in_text : (test : ℕ → Bool) → PassesOnlyPlainBytes test → (before us : List LineUnit) (rest : List ℕ) → AreWrittenUnitsOf test us → StandAsUnitsInText before us rest
units_stand_in_text test pass before [] rest all = tt
units_stand_in_text test pass before (u ∷ us) rest all = (bytes_of_unit_stand_as_unit test pass before u (text_of_units us ++ rest) all.0, units_stand_in_text test pass (u ∷ before) us rest all.1)

-- Bytes are units of a run, and units that pass one test pass another.
pub bytes_passing_test_are_units_of_it : (test : ℕ → Bool) (bytes : List ℕ) → list_all test bytes ≡ true → AreWrittenUnitsOf test (units_of_plain_bytes bytes)
bytes_passing_test_are_units_of_it test [] all = tt
bytes_passing_test_are_units_of_it test (b ∷ bytes) all = let parts = and_parts (test b) (list_all test bytes) all in (parts.0, bytes_passing_test_are_units_of_it test bytes parts.1)

pub units_of_test_pass_weaker_test : (test other : ℕ → Bool) → ((b : ℕ) → test b ≡ true → other b ≡ true) → (us : List LineUnit) → AreWrittenUnitsOf test us → AreWrittenUnitsOf other us
units_of_test_pass_weaker_test test other each [] all = tt
units_of_test_pass_weaker_test test other each (Byte b ∷ us) all = (each b all.0, units_of_test_pass_weaker_test test other each us all.1)
units_of_test_pass_weaker_test test other each (Pair c ∷ us) all = (all.0, units_of_test_pass_weaker_test test other each us all.1)
units_of_test_pass_weaker_test test other each us all = absurd (let h = all.0 in cc)

-- neither NUL nor a backslash
abbrev pub is_byte_no_nul_nor_backslash : ℕ → Bool
is_byte_no_nul_nor_backslash b = not (b == 0 || b == 92)

pub tested_byte_is_no_nul_nor_backslash : (test : ℕ → Bool) → test 0 ≡ false → test 92 ≡ false → (b : ℕ) → test b ≡ true → is_byte_no_nul_nor_backslash b ≡ true
tested_byte_is_no_nul_nor_backslash test nul backslash b h =
    rw (passing_byte_differs_from_failing_byte test 0 b h nul, passing_byte_differs_from_failing_byte test 92 b h backslash) refl

-- ---- words

pub successor_is_above_zero : (n : ℕ) → nat_lt 0 (suc n) ≡ true
successor_is_above_zero n = grind (arith, nat_tests)

-- a byte that a word can begin with; `%` where no `#` and no `:` stands behind it
pub record BeginsWordWithByte (b : ℕ) (rest : List ℕ) : Type 0 where
  pub punct : is_punct b ≡ false
  pub hash : (b == 35) ≡ false
  pub behind : (b == 37) ≡ true → (has_given_first_byte 35 rest ≡ false) × (has_given_first_byte 58 rest ≡ false)

pub word_begin_is_no_numeric_id : (i : Bool) (b : ℕ) (rest : List ℕ) → BeginsWordWithByte b rest → numeric_id_size i (b ∷ rest) ≡ 0
unfolding numeric_id_size hash_id_size optional_colon_id_size
word_begin_is_no_numeric_id i b rest is = by_percent (b == 37) refl rest is.behind
  where
    by_percent : (t : Bool) → (b == 37) ≡ t → (rest : List ℕ) → ((b == 37) ≡ true → (has_given_first_byte 35 rest ≡ false) × (has_given_first_byte 58 rest ≡ false)) → (if t then size_with_prefix 1 (optional_colon_id_size i rest) else hash_id_size i (b ∷ rest)) ≡ 0
    by_percent false e rest behind = let hash : (b == 35) ≡ false = is.hash in rw hash refl
    by_percent true e [] behind = refl
    by_percent true e (c ∷ rest) behind =
        let hash : (c == 35) ≡ false = (behind e).0 in
        let colon : (c == 58) ≡ false = (behind e).1 in
        rw (colon, hash) refl

pub word_begin_is_no_non_unix_group : (b : ℕ) (rest : List ℕ) → BeginsWordWithByte b rest → non_unix_group_size (b ∷ rest) ≡ 0
unfolding non_unix_group_size colon_and_word_size
word_begin_is_no_non_unix_group b rest is = by_percent (b == 37) refl rest is.behind
  where
    by_percent : (t : Bool) → (b == 37) ≡ t → (rest : List ℕ) → ((b == 37) ≡ true → (has_given_first_byte 35 rest ≡ false) × (has_given_first_byte 58 rest ≡ false)) → (if t then size_with_prefix 1 (colon_and_word_size rest) else 0) ≡ 0
    by_percent false e rest behind = refl
    by_percent true e [] behind = refl
    by_percent true e (c ∷ rest) behind = let colon : (c == 58) ≡ false = (behind e).1 in rw colon refl

-- the bytes begin with a word of this size
pub word_is_found_in_word_list : (i first : Bool) (b : ℕ) (rest : List ℕ) (n : ℕ) → BeginsWordWithByte b rest → leading_run_size rule.Word (b ∷ rest) ≡ suc n → kind_and_size_of_token token_forms_in_word_lists i first (b ∷ rest) ≡ (kind.Word, suc n)
word_is_found_in_word_list i first b rest n is size =
    let number : numeric_id_size i (b ∷ rest) ≡ 0 = word_begin_is_no_numeric_id i b rest is in
    let group : non_unix_group_size (b ∷ rest) ≡ 0 = word_begin_is_no_non_unix_group b rest is in
    let some : nat_lt 0 (suc n) ≡ true = successor_is_above_zero n in
    rw (is.punct, number, group, size, some) refl

-- the same where commands stand, and for a line's first token
pub word_is_found_in_command_list : (i first : Bool) (b : ℕ) (rest : List ℕ) (n : ℕ) → BeginsWordWithByte b rest → (b == 47) ≡ false → leading_run_size rule.Word (b ∷ rest) ≡ suc n → kind_and_size_of_token token_forms_in_command_lists i first (b ∷ rest) ≡ (kind.Word, suc n)
unfolding command_path_size
word_is_found_in_command_list i first b rest n is slash size = rw slash (word_is_found_in_word_list i first b rest n is size)

pub word_is_found_as_first_token : (i first : Bool) (b : ℕ) (rest : List ℕ) (n : ℕ) → BeginsWordWithByte b rest → leading_run_size rule.Word (b ∷ rest) ≡ suc n → kind_and_size_of_token (IncludeWord ∷ token_forms_in_word_lists) i first (b ∷ rest) ≡ (kind.Word, suc n)
unfolding hash_include_size_at
word_is_found_as_first_token i first b rest n is size =
    rw is.hash (word_is_found_in_word_list i first b rest n is size)

-- ---- the place of a word

-- the bytes begin with a unit of a word
pub record BeginsTokenWithoutGap (bytes : List ℕ) : Type 0 where
  pub no_gap : leading_run_size rule.Gap bytes ≡ 0
  pub more : is_line_end_or_empty bytes ≡ false

pub plain_byte_begins_token : (b : ℕ) (rest : List ℕ) → IsBytePlainInRuns b → BeginsTokenWithoutGap (b ∷ rest)
unfolding leading_run_size
plain_byte_begins_token b rest is =
    let some : (0 == length (b ∷ rest)) ≡ false = grind (arith, nat_tests) in
    record { no_gap = rw (is.blank, is.backslash) refl; more = rw (is.lf, is.cr, some) refl }

pub pair_begins_token : (c : ℕ) (rest : List ℕ) → IsNoLineEndByte c → BeginsTokenWithoutGap (92 ∷ c ∷ rest)
unfolding leading_run_size
pair_begins_token c rest is =
    let some : (0 == length (92 ∷ c ∷ rest)) ≡ false = grind (arith, nat_tests) in
    record { no_gap = rw (unit_after_backslash_is_pair c rest is) refl; more = some }
