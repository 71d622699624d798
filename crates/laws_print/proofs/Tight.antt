-- Texts of bytes and pairs alone: what words and paths are made of.
use Rattle.laws_print.proofs.Common.{◌≡◌, ◌≢◌, ℕ, zero, suc, ◌≤◌, Bool, true, false, ◌||◌, List, [], ◌∷◌, ◌++◌, length, refl, sym, ap, subst, ◌∙◌}
use Rattle.laws_print.proofs.Common.{arith, ◌==◌, if◌then◌else◌, nat_lt, not-true, or_parts, and_parts, eqb-true, LineUnit, Pair, Byte, bytes_of_unit}
use Rattle.laws_print.proofs.Common.{begins_lf, leading_run_size, is_nonempty_run, first_nonzero_number, backslash_unit_size_by, pair_size_of_unit, reach_past_first_byte, reach_of_units, is_word_byte, is_path_byte}
use Rattle.laws_print.proofs.Common.{PatternSpelling, is_dropped_backslash_before, pattern_of_remaining_bytes, pattern_of_text, has_last_byte, text_of_units, is_run_unit, AllByRecursion}
use Rattle.sudoers_text.specs.Unit.{unit_after_backslash}
use Rattle.sudoers_text.specs.declared.part.ByteRunKind.TheVariants as rule
use Rattle.laws_print.proofs.Words.{size_of_matching_byte_or_pair, pair_test_implies_no_line_end_byte}
use Rattle.laws_print.proofs.Patterns.{KeepsBytesAndBackslashes, pattern_begins_with_pair_or_its_byte, pattern_begins_with_plain_byte, last_byte_of_joined_is_of_second}
use Rattle.laws_print.proofs.Tidy.{is_tidy_byte, IsTidyText, done, byte, byte_passing_test_is_tidy}
use Rattle.laws_print.proofs.Tidy.{pair as a_pair}

-- units of a run that is read
abbrev pub AreUnitsOfRun : (ℕ → Bool) → List LineUnit → Type 0
AreUnitsOfRun test us = AllByRecursion (λ u. is_run_unit test u ≡ true) us

-- the units that a run is made of
pub record IsMadeOfRunUnits (test : ℕ → Bool) (text : List ℕ) : Type 0 where
  pub units : List LineUnit
  pub whole : text ≡ text_of_units units
  pub each : AreUnitsOfRun test units

unit_before_run_units_is_run_units : (test : ℕ → Bool) (u : LineUnit) (text : List ℕ) → is_run_unit test u ≡ true → IsMadeOfRunUnits test text → IsMadeOfRunUnits test (bytes_of_unit u ++ text)
unit_before_run_units_is_run_units test u text is run = record { units = u ∷ run.units; whole = ap (λ (t : List ℕ). bytes_of_unit u ++ t) run.whole; each = (is, run.each) }

zero_first_size_reaches_nothing : (n : ℕ) (go : ℕ → ℕ) (m : ℕ) → n ≡ 0 → reach_past_first_byte n go ≡ suc m → ⊥
zero_first_size_reaches_nothing zero go m e h = absurd (cc)
zero_first_size_reaches_nothing (suc n) go m e h = absurd (omega arith)

-- what a backslash begins before this byte
pair_size_before_lf_is_zero : (c : ℕ) (more : List ℕ) → (c == 10) ≡ true → pair_size_of_unit (unit_after_backslash (c ∷ more)) ≡ 0
pair_size_before_lf_is_zero c more e = rw e refl

pair_size_before_cr_is_zero : (c : ℕ) (more : List ℕ) → (c == 10) ≡ false → (c == 13) ≡ true → pair_size_of_unit (unit_after_backslash (c ∷ more)) ≡ 0
pair_size_before_cr_is_zero c more e f = by_lf (begins_lf more) refl
  where
    by_lf : (t : Bool) → begins_lf more ≡ t → pair_size_of_unit (unit_after_backslash (c ∷ more)) ≡ 0
    by_lf true g = rw (e, f, g) refl
    by_lf false g = rw (e, f, g) (rw f refl)

pair_size_before_other_byte_is_two : (c : ℕ) (more : List ℕ) → (c == 10) ≡ false → (c == 13) ≡ false → pair_size_of_unit (unit_after_backslash (c ∷ more)) ≡ 2
pair_size_before_other_byte_is_two c more e f = rw (e, f) (rw f refl)

reached_pair_and_rest_are_run_units : (test : ℕ → Bool) (c : ℕ) (more : List ℕ) → reach_past_first_byte (first_nonzero_number 0 (pair_size_of_unit (unit_after_backslash (c ∷ more)))) (λ k. reach_of_units (size_of_matching_byte_or_pair test) k (c ∷ more)) ≡ suc (suc (length more)) → (reach_of_units (size_of_matching_byte_or_pair test) 0 more ≡ length more → IsMadeOfRunUnits test more) → IsMadeOfRunUnits test (92 ∷ c ∷ more)
reached_pair_and_rest_are_run_units test c more all later = by_lf (c == 10) refl
  where
    go : ℕ → ℕ
    go k = reach_of_units (size_of_matching_byte_or_pair test) k (c ∷ more)

    by_cr : (t : Bool) → (c == 13) ≡ t → (c == 10) ≡ false → IsMadeOfRunUnits test (92 ∷ c ∷ more)
    by_cr true e f = absurd (zero_first_size_reaches_nothing (pair_size_of_unit (unit_after_backslash (c ∷ more))) (λ k. reach_of_units (size_of_matching_byte_or_pair test) k (c ∷ more)) (suc (length more)) (pair_size_before_cr_is_zero c more f e) all)
    by_cr false e f =
        let two : suc (suc (reach_of_units (size_of_matching_byte_or_pair test) 0 more)) ≡ suc (suc (length more)) =
        ap (λ (n : ℕ). reach_past_first_byte n (λ k. reach_of_units (size_of_matching_byte_or_pair test) k (c ∷ more))) (sym (pair_size_before_other_byte_is_two c more f e)) ∙ all in
        unit_before_run_units_is_run_units test (Pair c) more (rw (e, f) refl) (later (omega (arith, two)))

    by_lf : (t : Bool) → (c == 10) ≡ t → IsMadeOfRunUnits test (92 ∷ c ∷ more)
    by_lf true e = absurd (zero_first_size_reaches_nothing (pair_size_of_unit (unit_after_backslash (c ∷ more))) (λ k. reach_of_units (size_of_matching_byte_or_pair test) k (c ∷ more)) (suc (length more)) (pair_size_before_lf_is_zero c more e) all)
    by_lf false e = by_cr (c == 13) refl e

-- what is known of shorter texts
abbrev pub ReachedShortTextsAreRunUnits : (ℕ → Bool) → ℕ → Type 0
ReachedShortTextsAreRunUnits test n = (text : List ℕ) → length text ≤ n → reach_of_units (size_of_matching_byte_or_pair test) 0 text ≡ length text → IsMadeOfRunUnits test text

reached_backslash_text_is_run_units : (test : ℕ → Bool) (n : ℕ) → ReachedShortTextsAreRunUnits test n → (rest : List ℕ) → length (92 ∷ rest) ≤ suc n → reach_past_first_byte (first_nonzero_number 0 (pair_size_of_unit (unit_after_backslash rest))) (λ k. reach_of_units (size_of_matching_byte_or_pair test) k rest) ≡ suc (length rest) → IsMadeOfRunUnits test (92 ∷ rest)
reached_backslash_text_is_run_units test n shorter [] fits all = absurd (cc)
reached_backslash_text_is_run_units test n shorter (c ∷ more) fits all = reached_pair_and_rest_are_run_units test c more all (λ h. shorter more (omega arith) h)

reached_byte_and_rest_are_run_units : (test : ℕ → Bool) (n b : ℕ) (rest : List ℕ) → ReachedShortTextsAreRunUnits test n → length (b ∷ rest) ≤ suc n → reach_of_units (size_of_matching_byte_or_pair test) 0 (b ∷ rest) ≡ length (b ∷ rest) → (s t : Bool) → test b ≡ s → (b == 92) ≡ t → IsMadeOfRunUnits test (b ∷ rest)
reached_byte_and_rest_are_run_units test n b rest shorter fits all true t e f =
    let one : suc (reach_of_units (size_of_matching_byte_or_pair test) 0 rest) ≡ suc (length rest) =
    sym (ap (λ (h : Bool). reach_past_first_byte (first_nonzero_number (if h then 1 else 0) (backslash_unit_size_by pair_size_of_unit (b ∷ rest))) (λ k. reach_of_units (size_of_matching_byte_or_pair test) k rest)) e) ∙ all in
    unit_before_run_units_is_run_units test (Byte b) rest e (shorter rest (omega arith) (omega (arith, one)))
reached_byte_and_rest_are_run_units test n b rest shorter fits all false true e f =
    let pair : reach_past_first_byte (first_nonzero_number 0 (pair_size_of_unit (unit_after_backslash rest))) (λ k. reach_of_units (size_of_matching_byte_or_pair test) k rest) ≡ suc (length rest) =
    sym (ap (λ (h : Bool). reach_past_first_byte (first_nonzero_number (if h then 1 else 0) (backslash_unit_size_by pair_size_of_unit (b ∷ rest))) (λ k. reach_of_units (size_of_matching_byte_or_pair test) k rest)) e
    ∙ ap (λ (h : Bool). reach_past_first_byte (first_nonzero_number 0 (if h then pair_size_of_unit (unit_after_backslash rest) else 0)) (λ k. reach_of_units (size_of_matching_byte_or_pair test) k rest)) f) ∙ all in
    subst (λ (c : ℕ). IsMadeOfRunUnits test (c ∷ rest)) (sym (eqb-true b 92 f)) (reached_backslash_text_is_run_units test n shorter rest (omega arith) pair)
reached_byte_and_rest_are_run_units test n b rest shorter fits all false false e f =
    let none : 0 ≡ suc (length rest) =
    sym (ap (λ (h : Bool). reach_past_first_byte (first_nonzero_number (if h then 1 else 0) (backslash_unit_size_by pair_size_of_unit (b ∷ rest))) (λ k. reach_of_units (size_of_matching_byte_or_pair test) k rest)) e
    ∙ ap (λ (h : Bool). reach_past_first_byte (first_nonzero_number 0 (if h then pair_size_of_unit (unit_after_backslash rest) else 0)) (λ k. reach_of_units (size_of_matching_byte_or_pair test) k rest)) f) ∙ all in
    absurd (omega (arith, none))

-- A run of bytes and pairs is units.
pub reached_texts_are_run_units : (test : ℕ → Bool) (n : ℕ) → ReachedShortTextsAreRunUnits test n
reached_texts_are_run_units test n [] fits all = record { units = []; whole = refl; each = tt }
reached_texts_are_run_units test zero (b ∷ rest) fits all = absurd (omega arith)
reached_texts_are_run_units test (suc n) (b ∷ rest) fits all = reached_byte_and_rest_are_run_units test n b rest (reached_texts_are_run_units test n) fits all (test b) (b == 92) refl refl

-- ---- tight texts

-- bytes and pairs, none of them in a line end
abbrev pub IsTightText : List ℕ → Type 0
IsTightText text = IsMadeOfRunUnits is_tidy_byte text

run_units_of_tidy_test_are_tidy : (test : ℕ → Bool) → ((b : ℕ) → test b ≡ true → is_tidy_byte b ≡ true) → (us : List LineUnit) → AreUnitsOfRun test us → AreUnitsOfRun is_tidy_byte us
run_units_of_tidy_test_are_tidy test tidy [] all = tt
run_units_of_tidy_test_are_tidy test tidy (Byte b ∷ us) all = (tidy b all.0, run_units_of_tidy_test_are_tidy test tidy us all.1)
run_units_of_tidy_test_are_tidy test tidy (Pair c ∷ us) all = (all.0, run_units_of_tidy_test_are_tidy test tidy us all.1)
run_units_of_tidy_test_are_tidy test tidy us all = absurd (let h = all.0 in cc)

reached_text_of_test_is_tight : (test : ℕ → Bool) → test 10 ≡ false → test 13 ≡ false → test 92 ≡ false → (text : List ℕ) → reach_of_units (size_of_matching_byte_or_pair test) 0 text ≡ length text → IsTightText text
reached_text_of_test_is_tight test lf cr backslash text e =
    let run = reached_texts_are_run_units test (length text) text (omega arith) e in
    record { units = run.units; whole = run.whole; each = run_units_of_tidy_test_are_tidy test (byte_passing_test_is_tidy test lf cr backslash) run.units run.each }

pub word_run_is_tight : (text : List ℕ) → is_nonempty_run rule.Word text ≡ true → IsTightText text
unfolding leading_run_size
word_run_is_tight text h = reached_text_of_test_is_tight is_word_byte refl refl refl text (eqb-true (reach_of_units (size_of_matching_byte_or_pair is_word_byte) 0 text) (length text) (and_parts (nat_lt 0 (length text)) (reach_of_units (size_of_matching_byte_or_pair is_word_byte) 0 text == length text) h).1)

pub path_run_is_tight : (text : List ℕ) → is_nonempty_run rule.Path text ≡ true → IsTightText text
unfolding leading_run_size
path_run_is_tight text h = reached_text_of_test_is_tight is_path_byte refl refl refl text (eqb-true (reach_of_units (size_of_matching_byte_or_pair is_path_byte) 0 text) (length text) (and_parts (nat_lt 0 (length text)) (reach_of_units (size_of_matching_byte_or_pair is_path_byte) 0 text == length text) h).1)

pub tidy_byte_before_tight_text_is_tight : (b : ℕ) (text : List ℕ) → is_tidy_byte b ≡ true → IsTightText text → IsTightText (b ∷ text)
tidy_byte_before_tight_text_is_tight b text h t = record { units = Byte b ∷ t.units; whole = ap (λ (x : List ℕ). b ∷ x) t.whole; each = (h, t.each) }

text_of_tidy_run_units_is_tidy : (us : List LineUnit) → AreUnitsOfRun is_tidy_byte us → IsTidyText (text_of_units us)
text_of_tidy_run_units_is_tidy [] all = done
text_of_tidy_run_units_is_tidy (Byte b ∷ us) all = byte all.0 (text_of_tidy_run_units_is_tidy us all.1)
text_of_tidy_run_units_is_tidy (Pair c ∷ us) all = a_pair (pair_test_implies_no_line_end_byte c all.0) (text_of_tidy_run_units_is_tidy us all.1)
text_of_tidy_run_units_is_tidy us all = absurd (let h = all.0 in cc)

pub tight_text_is_tidy : (text : List ℕ) → IsTightText text → IsTidyText text
tight_text_is_tidy text t = subst IsTidyText (sym t.whole) (text_of_tidy_run_units_is_tidy t.units t.each)

-- ---- their patterns

-- a unit as its pattern has it
abbrev pub pattern_unit_of_text_unit : PatternSpelling → LineUnit → LineUnit
pattern_unit_of_text_unit s (Pair c) = if is_dropped_backslash_before s c then Byte c else Pair c
pattern_unit_of_text_unit s u = u

abbrev pub pattern_units_of_text_units : PatternSpelling → List LineUnit → List LineUnit
pattern_units_of_text_units s [] = []
pattern_units_of_text_units s (u ∷ us) = pattern_unit_of_text_unit s u ∷ pattern_units_of_text_units s us

tidy_byte_is_no_backslash : (b : ℕ) → is_tidy_byte b ≡ true → (b == 92) ≡ false
tidy_byte_is_no_backslash b h = (or_parts (b == 10 || b == 13) (b == 92) (not-true _ h)).1

pattern_of_text_begins_with_its_unit : (s : PatternSpelling) → KeepsBytesAndBackslashes s → (u : LineUnit) (more : List ℕ) → is_run_unit is_tidy_byte u ≡ true → pattern_of_remaining_bytes s 0 (bytes_of_unit u ++ more) ≡ bytes_of_unit (pattern_unit_of_text_unit s u) ++ pattern_of_remaining_bytes s 0 more
pattern_of_text_begins_with_its_unit s bare (Byte b) more h = pattern_begins_with_plain_byte s bare b more (tidy_byte_is_no_backslash b h)
pattern_of_text_begins_with_its_unit s bare (Pair c) more h = by_kept (is_dropped_backslash_before s c) refl
  where
    by_kept : (t : Bool) → is_dropped_backslash_before s c ≡ t → pattern_of_remaining_bytes s 0 (92 ∷ c ∷ more) ≡ bytes_of_unit (if t then Byte c else Pair c) ++ pattern_of_remaining_bytes s 0 more
    by_kept true e = pattern_begins_with_pair_or_its_byte s bare c more (pair_test_implies_no_line_end_byte c h) true e
    by_kept false e = pattern_begins_with_pair_or_its_byte s bare c more (pair_test_implies_no_line_end_byte c h) false e
pattern_of_text_begins_with_its_unit s bare u more h = absurd (cc)

run_units_have_their_pattern_units : (s : PatternSpelling) → KeepsBytesAndBackslashes s → (us : List LineUnit) → AreUnitsOfRun is_tidy_byte us → pattern_of_remaining_bytes s 0 (text_of_units us) ≡ text_of_units (pattern_units_of_text_units s us)
run_units_have_their_pattern_units s bare [] all = refl
run_units_have_their_pattern_units s bare (u ∷ us) all = pattern_of_text_begins_with_its_unit s bare u (text_of_units us) all.0 ∙ ap (λ (t : List ℕ). bytes_of_unit (pattern_unit_of_text_unit s u) ++ t) (run_units_have_their_pattern_units s bare us all.1)

pub tight_text_pattern_is_its_pattern_units : (s : PatternSpelling) → KeepsBytesAndBackslashes s → (text : List ℕ) (t : IsTightText text) → pattern_of_text s text ≡ text_of_units (pattern_units_of_text_units s t.units)
unfolding pattern_of_text
tight_text_pattern_is_its_pattern_units s bare text t = ap (pattern_of_remaining_bytes s 0) t.whole ∙ run_units_have_their_pattern_units s bare t.units t.each

nonempty_text_has_nonempty_pattern_units : (s : PatternSpelling) (us : List LineUnit) → AreUnitsOfRun is_tidy_byte us → text_of_units us ≢ [] → text_of_units (pattern_units_of_text_units s us) ≢ []
nonempty_text_has_nonempty_pattern_units s [] all some = some
nonempty_text_has_nonempty_pattern_units s (Byte b ∷ us) all some = λ e. absurd (cc)
nonempty_text_has_nonempty_pattern_units s (Pair c ∷ us) all some = by_kept (is_dropped_backslash_before s c)
  where
    by_kept : (t : Bool) → text_of_units ((if t then Byte c else Pair c) ∷ pattern_units_of_text_units s us) ≢ []
    by_kept true = λ e. absurd (cc)
    by_kept false = λ e. absurd (cc)
nonempty_text_has_nonempty_pattern_units s us all some = absurd (let h = all.0 in cc)

-- It is not empty where the text is not.
pub pattern_of_tight_text_is_not_empty : (s : PatternSpelling) → KeepsBytesAndBackslashes s → (text : List ℕ) → IsTightText text → text ≢ [] → pattern_of_text s text ≢ []
pattern_of_tight_text_is_not_empty s bare text t some e =
    nonempty_text_has_nonempty_pattern_units s t.units t.each (λ h. some (t.whole ∙ h)) (sym (tight_text_pattern_is_its_pattern_units s bare text t) ∙ e)

pattern_units_have_some_first_byte : (s : PatternSpelling) (us : List LineUnit) (b : ℕ) (rest : List ℕ) → AreUnitsOfRun is_tidy_byte us → text_of_units us ≡ b ∷ rest → (c : ℕ) × (more : List ℕ) × (text_of_units (pattern_units_of_text_units s us) ≡ c ∷ more)
pattern_units_have_some_first_byte s us b rest all e = by_text (text_of_units (pattern_units_of_text_units s us)) refl
  where
    by_text : (x : List ℕ) → text_of_units (pattern_units_of_text_units s us) ≡ x → (c : ℕ) × (more : List ℕ) × (x ≡ c ∷ more)
    by_text [] h = absurd (nonempty_text_has_nonempty_pattern_units s us all (λ none. absurd (let both = sym none ∙ e in cc)) h)
    by_text (c ∷ more) h = (c, more, refl)

last_byte_is_of_nonempty_second_text : (a : ℕ) (x y : List ℕ) (b : ℕ) (front : List ℕ) → (c : ℕ) × (more : List ℕ) × (y ≡ c ∷ more) → has_last_byte a (x ++ y) ≡ has_last_byte a y
last_byte_is_of_nonempty_second_text a x y b front there = ap (λ (t : List ℕ). has_last_byte a (x ++ t)) there.2 ∙ last_byte_of_joined_is_of_second a x there.0 there.1 ∙ ap (has_last_byte a) (sym there.2)

last_byte_of_pattern_units_is_same : (s : PatternSpelling) (a : ℕ) (us : List LineUnit) → AreUnitsOfRun is_tidy_byte us → has_last_byte a (text_of_units (pattern_units_of_text_units s us)) ≡ has_last_byte a (text_of_units us)
last_byte_of_pattern_units_is_same s a [] all = refl
last_byte_of_pattern_units_is_same s a (u ∷ us) all = by_rest (text_of_units us) refl (last_byte_of_pattern_units_is_same s a us all.1)
  where
    last_same : (u : LineUnit) → is_run_unit is_tidy_byte u ≡ true → has_last_byte a (bytes_of_unit (pattern_unit_of_text_unit s u) ++ []) ≡ has_last_byte a (bytes_of_unit u ++ [])
    last_same (Byte b) h = refl
    last_same (Pair c) h = by_kept (is_dropped_backslash_before s c)
      where
        by_kept : (t : Bool) → has_last_byte a (bytes_of_unit (if t then Byte c else Pair c) ++ []) ≡ (c == a)
        by_kept true = refl
        by_kept false = refl
    last_same u h = absurd (cc)

    no_units : (vs : List LineUnit) → AreUnitsOfRun is_tidy_byte vs → text_of_units vs ≡ [] → text_of_units (pattern_units_of_text_units s vs) ≡ []
    no_units [] all e = refl
    no_units (Byte b ∷ vs) all e = absurd (cc)
    no_units (Pair c ∷ vs) all e = absurd (cc)
    no_units vs all e = absurd (let h = all.0 in cc)

    by_rest : (x : List ℕ) → text_of_units us ≡ x → has_last_byte a (text_of_units (pattern_units_of_text_units s us)) ≡ has_last_byte a (text_of_units us) → has_last_byte a (bytes_of_unit (pattern_unit_of_text_unit s u) ++ text_of_units (pattern_units_of_text_units s us)) ≡ has_last_byte a (bytes_of_unit u ++ text_of_units us)
    by_rest [] e later =
        ap (λ (t : List ℕ). has_last_byte a (bytes_of_unit (pattern_unit_of_text_unit s u) ++ t)) (no_units us all.1 e) ∙ last_same u all.0 ∙ ap (λ (t : List ℕ). has_last_byte a (bytes_of_unit u ++ t)) (sym e)
    by_rest (b ∷ rest) e later =
        last_byte_is_of_nonempty_second_text a (bytes_of_unit (pattern_unit_of_text_unit s u)) (text_of_units (pattern_units_of_text_units s us)) b rest (pattern_units_have_some_first_byte s us b rest all.1 e) ∙ later ∙ sym (last_byte_is_of_nonempty_second_text a (bytes_of_unit u) (text_of_units us) b rest (b, rest, e))

-- It ends as the text does.
pub last_byte_of_tight_pattern_is_same : (s : PatternSpelling) → KeepsBytesAndBackslashes s → (a : ℕ) (text : List ℕ) → IsTightText text → has_last_byte a (pattern_of_text s text) ≡ has_last_byte a text
last_byte_of_tight_pattern_is_same s bare a text t = ap (has_last_byte a) (tight_text_pattern_is_its_pattern_units s bare text t) ∙ last_byte_of_pattern_units_is_same s a t.units t.each ∙ ap (has_last_byte a) (sym t.whole)
