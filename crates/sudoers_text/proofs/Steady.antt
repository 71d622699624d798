-- A unit is one whatever follows it, and so a run is the longest of its kind.
use Rattle.std.proofs.Common.{◌≡◌, ◌⊎◌, inl, inr, ℕ, zero, suc, ◌+◌, ◌-◌, ◌≤◌, ◌<◌, Bool, true, false, List, [], ◌∷◌, ◌++◌, length, take, drop, refl, sym, ap, subst, ◌∙◌, arith, append-nil}
use Rattle.std.specs.Prelude.{◌==◌, if◌then◌else◌}
use Rattle.std.proofs.lemmas.Bool.Decides.{eqb_tells}
use Rattle.sudoers_text.specs.declared.part.ByteRunKind.{ByteRunKind}
use Rattle.sudoers_text.specs.declared.part.ByteRunKind.TheVariants as rule
use Rattle.sudoers_text.specs.Unit.{LineUnit, Continuation, Pair, Byte, begins_lf, begins_line_end, unit_after_backslash, is_blank, is_digit}
use Rattle.sudoers_text.specs.Part.{size_of_one_matching_byte, first_nonzero_number, pair_size_of_unit, continuation_size_of_unit, pair_or_continuation_size_of_unit, backslash_unit_size_by, run_unit_size, reach_past_first_byte, reach_of_units, is_word_byte, is_byte_of_include_path, is_path_byte, is_value_byte, is_quoted_byte, is_quoted_byte_but_separator, is_byte_of_parameter_name, is_digest_byte}
use Rattle.sudoers_text.proofs.Reach.{IsSizeWithinBytes, one_byte_size_is_within_bytes, backslash_unit_size_is_within_bytes, pair_size_is_within_unit_bytes, continuation_size_is_within_unit_bytes, escape_size_is_within_unit_bytes, reach_of_units_includes_passed_bytes}

-- A unit stays one before any bytes, and is one by itself.
pub record IsSteadyUnitSize (unit : List ℕ → ℕ) : Type 0 where
  pub within : IsSizeWithinBytes unit
  pub stable : (p q : List ℕ) → 0 < unit p → unit (p ++ q) ≡ unit p
  pub own : (bytes : List ℕ) → unit (take (unit bytes) bytes) ≡ unit bytes

-- ---- one byte

one_byte_size_keeps_with_more_bytes : (test : ℕ → Bool) (p q : List ℕ) → 0 < size_of_one_matching_byte test p → size_of_one_matching_byte test (p ++ q) ≡ size_of_one_matching_byte test p
one_byte_size_keeps_with_more_bytes test [] q h = absurd (omega arith)
one_byte_size_keeps_with_more_bytes test (b ∷ p) q h = refl

one_byte_size_keeps_in_own_prefix : (test : ℕ → Bool) (bytes : List ℕ) → size_of_one_matching_byte test (take (size_of_one_matching_byte test bytes) bytes) ≡ size_of_one_matching_byte test bytes
one_byte_size_keeps_in_own_prefix test [] = refl
one_byte_size_keeps_in_own_prefix test (b ∷ bytes) = by_test (test b) refl
  where
    by_test : (t : Bool) → test b ≡ t → size_of_one_matching_byte test (take (size_of_one_matching_byte test (b ∷ bytes)) (b ∷ bytes)) ≡ size_of_one_matching_byte test (b ∷ bytes)
    by_test true e = rw e (rw e refl)
    by_test false e = rw e refl

pub one_byte_size_is_steady : (test : ℕ → Bool) → IsSteadyUnitSize (size_of_one_matching_byte test)
one_byte_size_is_steady test = record { within = one_byte_size_is_within_bytes test; stable = one_byte_size_keeps_with_more_bytes test; own = one_byte_size_keeps_in_own_prefix test }

-- ---- what a backslash begins

-- what may stand behind a backslash
pub bytes_after_backslash_have_five_cases : (P : List ℕ → Type 0) → P [] → ((more : List ℕ) → P (10 ∷ more)) → ((more : List ℕ) → P (13 ∷ 10 ∷ more)) → ((more : List ℕ) → begins_lf more ≡ false → P (13 ∷ more)) → ((c : ℕ) (more : List ℕ) → (c == 10) ≡ false → (c == 13) ≡ false → P (c ∷ more)) → (rest : List ℕ) → P rest
bytes_after_backslash_have_five_cases P none lf crlf cr other [] = none
bytes_after_backslash_have_five_cases P none lf crlf cr other (c ∷ more) =
    elim (eqb_tells c 10) [
      | inl w ↦ subst (λ (d : ℕ). P (d ∷ more)) (sym w.1) (lf more)
      | inr w ↦
          elim (eqb_tells c 13) [
            | inl v ↦ subst (λ (d : ℕ). P (d ∷ more)) (sym v.1) (by_cr more)
            | inr v ↦ other c more w.0 v.0
          ]
    ]
  where
    by_cr : (more : List ℕ) → P (13 ∷ more)
    by_cr [] = cr [] refl
    by_cr (d ∷ more) =
        elim (eqb_tells d 10) [
          | inl w ↦ subst (λ (e : ℕ). P (13 ∷ e ∷ more)) (sym w.1) (crlf more)
          | inr w ↦ cr (d ∷ more) w.0
        ]

-- A measure of what a backslash begins takes all of it or nothing, and nothing of a backslash alone or before a CR.
record IsBackslashUnitMeasure (size : LineUnit → ℕ) : Type 0 where
  alone : size (Byte 92) ≡ 0
  cr : size (Pair 13) ≡ 0
  lf : (size (Continuation false) ≡ 0) ⊎ (size (Continuation false) ≡ 2)
  crlf : (size (Continuation true) ≡ 0) ⊎ (size (Continuation true) ≡ 3)
  pair : (c : ℕ) → (c == 13) ≡ false → (size (Pair c) ≡ 0) ⊎ (size (Pair c) ≡ 2)
  within : IsSizeWithinBytes (backslash_unit_size_by size)

other_byte_begins_no_line_end : (c : ℕ) (more : List ℕ) → (c == 10) ≡ false → (c == 13) ≡ false → begins_line_end (c ∷ more) ≡ false
other_byte_begins_no_line_end c more e f = rw e (rw f refl)

pub backslash_before_other_byte_is_pair : (c : ℕ) (more : List ℕ) → (c == 10) ≡ false → (c == 13) ≡ false → unit_after_backslash (c ∷ more) ≡ Pair c
backslash_before_other_byte_is_pair c more e f = ap (λ (t : Bool). if t then Continuation (c == 13) else Pair c) (other_byte_begins_no_line_end c more e f)

backslash_before_lone_cr_is_pair : (more : List ℕ) → begins_lf more ≡ false → unit_after_backslash (13 ∷ more) ≡ Pair 13
backslash_before_lone_cr_is_pair more e = ap (λ (t : Bool). if t then Continuation true else Pair 13) e

escaped_unit_measure_keeps_with_more_bytes : (size : LineUnit → ℕ) → IsBackslashUnitMeasure size → (q rest : List ℕ) → 0 < size (unit_after_backslash rest) → size (unit_after_backslash (rest ++ q)) ≡ size (unit_after_backslash rest)
escaped_unit_measure_keeps_with_more_bytes size m q =
    bytes_after_backslash_have_five_cases (λ rest. 0 < size (unit_after_backslash rest) → size (unit_after_backslash (rest ++ q)) ≡ size (unit_after_backslash rest)) (λ some. absurd (omega (arith, m.alone)))
    (λ more some. refl)
    (λ more some. refl)
    (λ more none some. absurd (omega (arith, m.cr, ap size (backslash_before_lone_cr_is_pair more none))))
    (λ c more e f some. ap size (backslash_before_other_byte_is_pair c (more ++ q) e f ∙ sym (backslash_before_other_byte_is_pair c more e f)))

backslash_unit_size_keeps_with_more_bytes : (size : LineUnit → ℕ) → IsBackslashUnitMeasure size → (p q : List ℕ) → 0 < backslash_unit_size_by size p → backslash_unit_size_by size (p ++ q) ≡ backslash_unit_size_by size p
backslash_unit_size_keeps_with_more_bytes size m [] q some = absurd (omega arith)
backslash_unit_size_keeps_with_more_bytes size m (b ∷ rest) q some = by_test (b == 92) some
  where
    by_test : (t : Bool) → 0 < (if t then size (unit_after_backslash rest) else 0) → (if t then size (unit_after_backslash (rest ++ q)) else 0) ≡ (if t then size (unit_after_backslash rest) else 0)
    by_test true h = escaped_unit_measure_keeps_with_more_bytes size m q rest h
    by_test false h = refl

-- by size: all of it, or nothing
zero_or_full_measure_keeps_in_prefix : (size : LineUnit → ℕ) (u : LineUnit) (n : ℕ) (bytes : List ℕ) → (size u ≡ 0) ⊎ (size u ≡ n) → backslash_unit_size_by size (take n bytes) ≡ size u → backslash_unit_size_by size (take (size u) bytes) ≡ size u
zero_or_full_measure_keeps_in_prefix size u n bytes (inl none) is = ap (λ (k : ℕ). backslash_unit_size_by size (take k bytes)) none ∙ sym none
zero_or_full_measure_keeps_in_prefix size u n bytes (inr all) is = ap (λ (k : ℕ). backslash_unit_size_by size (take k bytes)) all ∙ is

escaped_unit_size_keeps_in_prefix : (size : LineUnit → ℕ) → IsBackslashUnitMeasure size → (rest : List ℕ) → backslash_unit_size_by size (take (size (unit_after_backslash rest)) (92 ∷ rest)) ≡ size (unit_after_backslash rest)
escaped_unit_size_keeps_in_prefix size m =
    bytes_after_backslash_have_five_cases (λ rest. backslash_unit_size_by size (take (size (unit_after_backslash rest)) (92 ∷ rest)) ≡ size (unit_after_backslash rest))
    (zero_or_full_measure_keeps_in_prefix size (Byte 92) 0 (92 ∷ []) (inl m.alone) (sym m.alone))
    (λ more. zero_or_full_measure_keeps_in_prefix size (Continuation false) 2 (92 ∷ 10 ∷ more) m.lf refl)
    (λ more. zero_or_full_measure_keeps_in_prefix size (Continuation true) 3 (92 ∷ 13 ∷ 10 ∷ more) m.crlf refl)
    (λ more none. subst (λ (u : LineUnit). backslash_unit_size_by size (take (size u) (92 ∷ 13 ∷ more)) ≡ size u) (sym (backslash_before_lone_cr_is_pair more none)) (zero_or_full_measure_keeps_in_prefix size (Pair 13) 0 (92 ∷ 13 ∷ more) (inl m.cr) (sym m.cr)))
    (λ c more e f. subst (λ (u : LineUnit). backslash_unit_size_by size (take (size u) (92 ∷ c ∷ more)) ≡ size u) (sym (backslash_before_other_byte_is_pair c more e f)) (zero_or_full_measure_keeps_in_prefix size (Pair c) 2 (92 ∷ c ∷ more) (m.pair c f) (ap size (backslash_before_other_byte_is_pair c [] e f))))

backslash_unit_size_keeps_in_own_prefix : (size : LineUnit → ℕ) → IsBackslashUnitMeasure size → (bytes : List ℕ) → backslash_unit_size_by size (take (backslash_unit_size_by size bytes) bytes) ≡ backslash_unit_size_by size bytes
backslash_unit_size_keeps_in_own_prefix size m [] = refl
backslash_unit_size_keeps_in_own_prefix size m (b ∷ rest) =
    elim (eqb_tells b 92) [
      | inl w ↦ subst (λ (c : ℕ). backslash_unit_size_by size (take (backslash_unit_size_by size (c ∷ rest)) (c ∷ rest)) ≡ backslash_unit_size_by size (c ∷ rest)) (sym w.1) (escaped_unit_size_keeps_in_prefix size m rest)
      | inr w ↦ let other : (b == 92) ≡ false = w.0 in rw other refl
    ]

backslash_unit_size_is_steady : (size : LineUnit → ℕ) → IsBackslashUnitMeasure size → IsSteadyUnitSize (backslash_unit_size_by size)
backslash_unit_size_is_steady size m = record { within = m.within; stable = backslash_unit_size_keeps_with_more_bytes size m; own = backslash_unit_size_keeps_in_own_prefix size m }

tested_size_is_zero_or_two : (n : ℕ) (t : Bool) → n ≡ (if t then 0 else 2) → (n ≡ 0) ⊎ (n ≡ 2)
tested_size_is_zero_or_two n true e = inl e
tested_size_is_zero_or_two n false e = inr e

pair_size_is_backslash_unit_measure : IsBackslashUnitMeasure pair_size_of_unit
pair_size_is_backslash_unit_measure = record { alone = refl; cr = refl; lf = inl refl; crlf = inl refl; pair = λ c f. tested_size_is_zero_or_two (pair_size_of_unit (Pair c)) (c == 13) refl; within = backslash_unit_size_is_within_bytes pair_size_of_unit pair_size_is_within_unit_bytes }

continuation_size_is_backslash_measure : IsBackslashUnitMeasure continuation_size_of_unit
continuation_size_is_backslash_measure = record { alone = refl; cr = refl; lf = inr refl; crlf = inr refl; pair = λ c f. inl refl; within = backslash_unit_size_is_within_bytes continuation_size_of_unit continuation_size_is_within_unit_bytes }

escape_size_is_backslash_unit_measure : IsBackslashUnitMeasure pair_or_continuation_size_of_unit
escape_size_is_backslash_unit_measure = record { alone = refl; cr = refl; lf = inr refl; crlf = inr refl; pair = λ c f. tested_size_is_zero_or_two (pair_or_continuation_size_of_unit (Pair c)) (c == 13) refl; within = backslash_unit_size_is_within_bytes pair_or_continuation_size_of_unit escape_size_is_within_unit_bytes }

-- ---- one unit or the other

-- Where the second begins, the first never does.
abbrev pub AreExclusiveUnitSizes : (List ℕ → ℕ) → (List ℕ → ℕ) → Type 0
AreExclusiveUnitSizes u v = (p q : List ℕ) → 0 < v p → u (p ++ q) ≡ 0

first_nonzero_of_steady_keeps_with_more : (u v : List ℕ → ℕ) → IsSteadyUnitSize u → IsSteadyUnitSize v → AreExclusiveUnitSizes u v → (p q : List ℕ) → 0 < first_nonzero_number (u p) (v p) → first_nonzero_number (u (p ++ q)) (v (p ++ q)) ≡ first_nonzero_number (u p) (v p)
first_nonzero_of_steady_keeps_with_more u v su sv apart p q = by_size (u p) refl
  where
    by_size : (n : ℕ) → u p ≡ n → 0 < first_nonzero_number n (v p) → first_nonzero_number (u (p ++ q)) (v (p ++ q)) ≡ first_nonzero_number n (v p)
    by_size zero e h = rw (apart p q h) (sv.stable p q h)
    by_size (suc n) e h = rw (su.stable p q (omega (arith, e)) ∙ e) refl

first_nonzero_of_steady_keeps_in_prefix : (u v : List ℕ → ℕ) → IsSteadyUnitSize u → IsSteadyUnitSize v → AreExclusiveUnitSizes u v → (bytes : List ℕ) → first_nonzero_number (u (take (first_nonzero_number (u bytes) (v bytes)) bytes)) (v (take (first_nonzero_number (u bytes) (v bytes)) bytes)) ≡ first_nonzero_number (u bytes) (v bytes)
first_nonzero_of_steady_keeps_in_prefix u v su sv apart bytes = by_sizes (u bytes) (v bytes) refl refl
  where
    by_sizes : (n m : ℕ) → u bytes ≡ n → v bytes ≡ m → first_nonzero_number (u (take (first_nonzero_number n m) bytes)) (v (take (first_nonzero_number n m) bytes)) ≡ first_nonzero_number n m
    by_sizes (suc n) m e f =
        let mine : u (take (suc n) bytes) ≡ suc n = ap (λ (k : ℕ). u (take k bytes)) (sym e) ∙ su.own bytes ∙ e in
        rw mine refl
    by_sizes zero zero e f =
        let none : u [] ≡ 0 = omega (arith, su.within []) in
        let nothing : v [] ≡ 0 = omega (arith, sv.within []) in
        rw none nothing
    by_sizes zero (suc m) e f =
        let mine : v (take (suc m) bytes) ≡ suc m = ap (λ (k : ℕ). v (take k bytes)) (sym f) ∙ sv.own bytes ∙ f in
        let none : u (take (suc m) bytes) ≡ 0 = ap u (sym (append-nil (take (suc m) bytes))) ∙ apart (take (suc m) bytes) [] (omega (arith, mine)) in
        rw none mine

first_nonzero_of_two_bounded_is_bounded : (n m k : ℕ) → n ≤ k → m ≤ k → first_nonzero_number n m ≤ k
first_nonzero_of_two_bounded_is_bounded zero m k p q = q
first_nonzero_of_two_bounded_is_bounded (suc n) m k p q = p

pub first_nonzero_of_steady_sizes_is_steady : (u v : List ℕ → ℕ) → IsSteadyUnitSize u → IsSteadyUnitSize v → AreExclusiveUnitSizes u v → IsSteadyUnitSize (λ bytes. first_nonzero_number (u bytes) (v bytes))
first_nonzero_of_steady_sizes_is_steady u v su sv apart = record {
  within = λ bytes. first_nonzero_of_two_bounded_is_bounded (u bytes) (v bytes) (length bytes) (su.within bytes) (sv.within bytes);
  stable = first_nonzero_of_steady_keeps_with_more u v su sv apart;
  own = first_nonzero_of_steady_keeps_in_prefix u v su sv apart;
}

byte_and_backslash_sizes_are_exclusive : (test : ℕ → Bool) (size : LineUnit → ℕ) → test 92 ≡ false → AreExclusiveUnitSizes (size_of_one_matching_byte test) (backslash_unit_size_by size)
byte_and_backslash_sizes_are_exclusive test size apart [] q some = absurd (omega arith)
byte_and_backslash_sizes_are_exclusive test size apart (b ∷ rest) q some =
    elim (eqb_tells b 92) [
      | inl w ↦ let other : test b ≡ false = ap test w.1 ∙ apart in rw other refl
      | inr w ↦ absurd (let none : 0 < (if false then size (unit_after_backslash rest) else 0) = subst (λ (t : Bool). 0 < (if t then size (unit_after_backslash rest) else 0)) w.0 some in omega arith)
    ]

byte_or_backslash_unit_size_is_steady : (test : ℕ → Bool) (size : LineUnit → ℕ) → IsBackslashUnitMeasure size → test 92 ≡ false → IsSteadyUnitSize (λ bytes. first_nonzero_number (size_of_one_matching_byte test bytes) (backslash_unit_size_by size bytes))
byte_or_backslash_unit_size_is_steady test size m apart = first_nonzero_of_steady_sizes_is_steady (size_of_one_matching_byte test) (backslash_unit_size_by size) (one_byte_size_is_steady test) (backslash_unit_size_is_steady size m) (byte_and_backslash_sizes_are_exclusive test size apart)

-- The units of all rules are steady.
pub run_unit_size_is_steady : (r : ByteRunKind) → IsSteadyUnitSize (run_unit_size r)
run_unit_size_is_steady rule.Gap = byte_or_backslash_unit_size_is_steady is_blank continuation_size_of_unit continuation_size_is_backslash_measure refl
run_unit_size_is_steady rule.Digits = one_byte_size_is_steady is_digit
run_unit_size_is_steady rule.Name = one_byte_size_is_steady is_byte_of_parameter_name
run_unit_size_is_steady rule.Digest = one_byte_size_is_steady is_digest_byte
run_unit_size_is_steady rule.Word = byte_or_backslash_unit_size_is_steady is_word_byte pair_size_of_unit pair_size_is_backslash_unit_measure refl
run_unit_size_is_steady rule.IncludePath = byte_or_backslash_unit_size_is_steady is_byte_of_include_path pair_size_of_unit pair_size_is_backslash_unit_measure refl
run_unit_size_is_steady rule.Path = byte_or_backslash_unit_size_is_steady is_path_byte pair_size_of_unit pair_size_is_backslash_unit_measure refl
run_unit_size_is_steady rule.Value = byte_or_backslash_unit_size_is_steady is_value_byte pair_size_of_unit pair_size_is_backslash_unit_measure refl
run_unit_size_is_steady rule.Quote = byte_or_backslash_unit_size_is_steady is_quoted_byte pair_or_continuation_size_of_unit escape_size_is_backslash_unit_measure refl
run_unit_size_is_steady rule.Clean = byte_or_backslash_unit_size_is_steady is_quoted_byte_but_separator pair_or_continuation_size_of_unit escape_size_is_backslash_unit_measure refl

-- ---- runs

-- by the size of the first unit
reach_splits_by_size_of_first_unit : (unit : List ℕ → ℕ) (n m : ℕ) (p q : List ℕ) (more : ℕ) → (0 < n → m ≡ n) → n ≤ suc (length p) → reach_past_first_byte n (λ k. reach_of_units unit k p) ≡ suc (length p) → ((k : ℕ) → k ≤ length p → reach_of_units unit k p ≡ length p → reach_of_units unit k q ≡ length p + more) → reach_past_first_byte m (λ k. reach_of_units unit k q) ≡ suc (length p) + more
reach_splits_by_size_of_first_unit unit zero m p q more same within is later = absurd (omega arith)
reach_splits_by_size_of_first_unit unit (suc k) m p q more same within is later = rw (same (omega arith)) (ap suc (later k (omega arith) (omega arith)) ∙ omega arith)

-- Behind what is units to its end, units go on as they would from there.
pub reach_through_run_adds_rest_reach : (unit : List ℕ → ℕ) → IsSteadyUnitSize unit → (p q : List ℕ) (k : ℕ) → k ≤ length p → reach_of_units unit k p ≡ length p → reach_of_units unit k (p ++ q) ≡ length p + reach_of_units unit 0 q
reach_through_run_adds_rest_reach unit steady [] q zero h e = omega arith
reach_through_run_adds_rest_reach unit steady [] q (suc k) h e = absurd (omega arith)
reach_through_run_adds_rest_reach unit steady (b ∷ p) q (suc k) h e = ap suc (reach_through_run_adds_rest_reach unit steady p q k (omega arith) (omega arith)) ∙ omega arith
reach_through_run_adds_rest_reach unit steady (b ∷ p) q zero h e =
    reach_splits_by_size_of_first_unit unit (unit (b ∷ p)) (unit (b ∷ p ++ q)) p (p ++ q) (reach_of_units unit 0 q) (λ some. steady.stable (b ∷ p) q some) (steady.within (b ∷ p)) e (λ k inside is. reach_through_run_adds_rest_reach unit steady p q k inside is)

-- What is units to its end is no longer than the units of more bytes.
pub entire_run_is_within_longer_reach : (unit : List ℕ → ℕ) → IsSteadyUnitSize unit → (p q : List ℕ) → reach_of_units unit 0 p ≡ length p → length p ≤ reach_of_units unit 0 (p ++ q)
entire_run_is_within_longer_reach unit steady p q is = omega (arith, reach_through_run_adds_rest_reach unit steady p q 0 (omega arith) is)

prefix_of_empty_bytes_is_empty : (n : ℕ) → take {A = ℕ} n [] ≡ []
prefix_of_empty_bytes_is_empty zero = refl
prefix_of_empty_bytes_is_empty (suc n) = refl

pub prefix_and_next_bytes_are_longer_prefix : (j r : ℕ) (bytes : List ℕ) → j ≤ r → take j bytes ++ take (r - j) (drop j bytes) ≡ take r bytes
prefix_and_next_bytes_are_longer_prefix zero r bytes h = let same : r - 0 ≡ r = omega arith in ap (λ (n : ℕ). take n bytes) same
prefix_and_next_bytes_are_longer_prefix (suc j) zero bytes h = absurd (omega arith)
prefix_and_next_bytes_are_longer_prefix (suc j) (suc r) [] h = prefix_of_empty_bytes_is_empty (suc r - suc j)
prefix_and_next_bytes_are_longer_prefix (suc j) (suc r) (b ∷ bytes) h =
    let same : suc r - suc j ≡ r - j = omega arith in
    ap (λ (t : List ℕ). b ∷ t) (ap (λ (n : ℕ). take j bytes ++ take n (drop j bytes)) same ∙ prefix_and_next_bytes_are_longer_prefix j r bytes (omega arith))

-- a unit by itself and more of the bytes behind it
first_unit_keeps_size_in_longer_prefix : (unit : List ℕ → ℕ) → IsSteadyUnitSize unit → (b : ℕ) (bytes : List ℕ) (j r : ℕ) → unit (b ∷ bytes) ≡ suc j → j ≤ r → unit (b ∷ take r bytes) ≡ suc j
first_unit_keeps_size_in_longer_prefix unit steady b bytes j r e below =
    let mine : unit (b ∷ take j bytes) ≡ suc j = ap (λ (n : ℕ). unit (take n (b ∷ bytes))) (sym e) ∙ steady.own (b ∷ bytes) ∙ e in
    let parts : take j bytes ++ take (r - j) (drop j bytes) ≡ take r bytes = prefix_and_next_bytes_are_longer_prefix j r bytes below in
    ap (λ (t : List ℕ). unit (b ∷ t)) (sym parts) ∙ steady.stable (b ∷ take j bytes) (take (r - j) (drop j bytes)) (omega (arith, mine)) ∙ mine

-- The units that begin the bytes are units to their end.
pub reach_of_own_prefix_is_same : (unit : List ℕ → ℕ) → IsSteadyUnitSize unit → (k : ℕ) (bytes : List ℕ) → k ≤ length bytes → reach_of_units unit k (take (reach_of_units unit k bytes) bytes) ≡ reach_of_units unit k bytes
reach_of_own_prefix_is_same unit steady k [] h = refl
reach_of_own_prefix_is_same unit steady (suc k) (b ∷ bytes) h = ap suc (reach_of_own_prefix_is_same unit steady k bytes (omega arith))
reach_of_own_prefix_is_same unit steady zero (b ∷ bytes) h = by_size (unit (b ∷ bytes)) refl (λ k inside. reach_of_own_prefix_is_same unit steady k bytes inside)
  where
    by_size : (n : ℕ) → unit (b ∷ bytes) ≡ n → ((k : ℕ) → k ≤ length bytes → reach_of_units unit k (take (reach_of_units unit k bytes) bytes) ≡ reach_of_units unit k bytes) → reach_of_units unit 0 (take (reach_past_first_byte n (λ k. reach_of_units unit k bytes)) (b ∷ bytes)) ≡ reach_past_first_byte n (λ k. reach_of_units unit k bytes)
    by_size zero e later = refl
    by_size (suc j) e later =
        let r = reach_of_units unit j bytes in
        let inside : j ≤ length bytes = omega (arith, steady.within (b ∷ bytes), e) in
        let mine : unit (b ∷ take r bytes) ≡ suc j = first_unit_keeps_size_in_longer_prefix unit steady b bytes j r e (reach_of_units_includes_passed_bytes unit j bytes inside) in
        ap (λ (n : ℕ). reach_past_first_byte n (λ k. reach_of_units unit k (take r bytes))) mine ∙ ap suc (later j inside)
