-- What pieces end with: no line end; and what stands behind a broken one.
use Rattle.sudoers_edit.proofs.Common.{Argument, Bool, Byte, CommandPath, LineUnit, List, Mark, NonUnixGroup, Number, Operator, QuotedPart, Run, TokenForm, TokenKind, [], and_parts, ap, argument_units_size, arith}
use Rattle.sudoers_edit.proofs.Common.{backslash_unit_size_by, closed_quote_size, drop, drop-drop, ends_in_lf, eqb-true, pair_or_continuation_size_of_unit, false, first_nonzero_number, has_given_first_byte, if◌then◌else◌, inl}
use Rattle.sudoers_edit.proofs.Common.{inr, is_argument_of_size, is_hash_id, is_id_position_after_units, is_non_unix_group_word, is_nonempty_run, is_numeric_id, is_optional_colon_id, is_piece_of_form, is_quoted_byte}
use Rattle.sudoers_edit.proofs.Common.{is_comma_colon_or_equals, leading_run_size, leb_tells, length, length-drop, ltb-true, nat_lt, nat_tests, not, plus_or_minus_equals_size, quoted_front_to_inner_separator_size, quotes_and_run_between_size}
use Rattle.sudoers_edit.proofs.Common.{reach_of_units, reach_past_first_byte, refl, run_unit_size, subst, suc, sym, take, take_all, true, unit_after_backslash, zero, ℕ, ◌&&◌, ◌+◌, ◌<◌, ◌||◌, ◌∙◌, ◌∷◌, ◌≡◌, ◌≤◌, ◌⊎◌}
use Rattle.std.specs.Prelude.{◌==◌}
use Rattle.sudoers_text.specs.declared.part.ByteRunKind.{ByteRunKind}
use Rattle.sudoers_text.specs.declared.part.ByteRunKind.TheVariants as rule
use Rattle.sudoers_edit.proofs.RunEnds.{IsPlainRunKind, digits, word, path, run_of_all_bytes_has_no_final_lf, quoted_run_has_no_final_lf, all_argument_units_have_no_final_lf}

-- ---- marks and runs

-- pieces of the form end before the LF with which the bytes end
abbrev pub EndsBeforeFinalLf : TokenForm → Type 0
EndsBeforeFinalLf form =
    (before : List LineUnit) (bytes : List ℕ) (n : ℕ) → n ≤ length bytes → is_piece_of_form form before bytes n ≡ true → ends_in_lf bytes ≡ true
    → n < length bytes

pub true_is_not_false : {A : Type 0} → (b : Bool) → b ≡ true → b ≡ false → A
true_is_not_false b truly falsely = let both : true ≡ false = sym truly ∙ falsely in absurd (cc)

-- a piece that cannot be all of such bytes
piece_unequal_to_all_bytes_is_shorter : (bytes : List ℕ) (n : ℕ) → n ≤ length bytes → (n ≡ length bytes → ⊥) → n < length bytes
piece_unequal_to_all_bytes_is_shorter bytes n inside not_all = elim (leb_tells (length bytes) n) [
  | inl all ↦ absurd (not_all (omega (arith, all.1, inside)))
  | inr less ↦ less.1
]

pub mark_ends_before_final_lf : (test : ℕ → Bool) → test 10 ≡ false → EndsBeforeFinalLf (Mark test)
mark_ends_before_final_lf test no_lf before [] n inside is ends = absurd (cc)
mark_ends_before_final_lf test no_lf before (b ∷ []) n inside is ends =
    let same : b ≡ 10 = eqb-true b 10 ends in
    true_is_not_false (test 10) (ap test (sym same) ∙ (and_parts (test b) (n == 1) is).0) no_lf
mark_ends_before_final_lf test no_lf before (b ∷ c ∷ rest) n inside is ends =
    let one : n ≡ 1 = eqb-true n 1 (and_parts (test b) (n == 1) is).1 in
    omega (arith, one)

pub operator_ends_before_final_lf : EndsBeforeFinalLf Operator
unfolding plus_or_minus_equals_size
operator_ends_before_final_lf before [] n inside is ends = absurd (cc)
operator_ends_before_final_lf before (b ∷ []) n inside is ends =
    let parts = and_parts (nat_lt 0 n) (n == 0) is in
    absurd (omega (arith, ltb-true 0 n parts.0, eqb-true n 0 parts.1))
operator_ends_before_final_lf before (b ∷ c ∷ rest) n inside is ends = by ((b == 43 || b == 45) && c == 61) refl rest refl is
  where
    by : (t : Bool) → ((b == 43 || b == 45) && c == 61) ≡ t → (more : List ℕ) → more ≡ rest
        → (nat_lt 0 n && (n == (if t then 2 else 0))) ≡ true → n < length (b ∷ c ∷ rest)
    by true cond [] none h =
        let last : ends_in_lf (b ∷ c ∷ []) ≡ true = ap (λ r. ends_in_lf (b ∷ c ∷ r)) none ∙ ends in
        let lf : c ≡ 10 = eqb-true c 10 last in
        let equals : c ≡ 61 = eqb-true c 61 (and_parts (b == 43 || b == 45) (c == 61) cond).1 in
        absurd (omega (arith, lf, equals))
    by true cond (d ∷ more) some h =
        let two : n ≡ 2 = eqb-true n 2 (and_parts (nat_lt 0 n) (n == 2) h).1 in
        omega (arith, two, ap length some)
    by false cond more same h =
        let parts = and_parts (nat_lt 0 n) (n == 0) h in
        absurd (omega (arith, ltb-true 0 n parts.0, eqb-true n 0 parts.1))

-- all of the bytes as a piece
piece_never_ended_in_lf_is_shorter : (P : List ℕ → Bool) → ((bytes : List ℕ) → P bytes ≡ true → ends_in_lf bytes ≡ false) → (bytes : List ℕ) (n : ℕ) → n ≤ length bytes
    → P (take n bytes) ≡ true
    → ends_in_lf bytes ≡ true → n < length bytes
piece_never_ended_in_lf_is_shorter P none bytes n inside is ends =
    piece_unequal_to_all_bytes_is_shorter bytes n inside (λ all.
    true_is_not_false (ends_in_lf bytes) ends (none bytes (sym (ap P (ap (λ m. take m bytes) all ∙ take_all (length bytes) bytes (omega arith))) ∙ is)))

plain_run_has_no_final_lf : (r : ByteRunKind) → IsPlainRunKind r → (bytes : List ℕ) → is_nonempty_run r bytes ≡ true → ends_in_lf bytes ≡ false
plain_run_has_no_final_lf r plain bytes is =
    let parts = and_parts (nat_lt 0 (length bytes)) (leading_run_size r bytes == length bytes) is in
    run_of_all_bytes_has_no_final_lf r plain bytes (eqb-true (leading_run_size r bytes) (length bytes) parts.1) (ltb-true 0 (length bytes) parts.0)

-- the same with a byte before it
byte_before_plain_run_has_no_final_lf : (r : ByteRunKind) → IsPlainRunKind r → (b : ℕ) (bytes : List ℕ) → is_nonempty_run r bytes ≡ true → ends_in_lf (b ∷ bytes) ≡ false
byte_before_plain_run_has_no_final_lf r plain b [] is = absurd (cc)
byte_before_plain_run_has_no_final_lf r plain b (c ∷ bytes) is = plain_run_has_no_final_lf r plain (c ∷ bytes) is

hash_id_has_no_final_lf : (before : List LineUnit) (bytes : List ℕ) → is_hash_id before bytes ≡ true → ends_in_lf bytes ≡ false
hash_id_has_no_final_lf before [] is = absurd (cc)
hash_id_has_no_final_lf before (b ∷ ds) is =
    byte_before_plain_run_has_no_final_lf rule.Digits digits b ds
    (and_parts (is_id_position_after_units before) (is_nonempty_run rule.Digits ds) (and_parts (b == 35) (is_id_position_after_units before && is_nonempty_run rule.Digits ds) is).1).1

-- one byte before
byte_before_open_bytes_keeps_them_open : (b : ℕ) (bytes : List ℕ) → ends_in_lf bytes ≡ false → 0 < length bytes → ends_in_lf (b ∷ bytes) ≡ false
byte_before_open_bytes_keeps_them_open b [] h some = absurd (omega (arith, some))
byte_before_open_bytes_keeps_them_open b (c ∷ bytes) h some = h

hash_id_is_nonempty : (before : List LineUnit) (bytes : List ℕ) → is_hash_id before bytes ≡ true → 0 < length bytes
hash_id_is_nonempty before [] is = absurd (cc)
hash_id_is_nonempty before (b ∷ ds) is = omega arith

colon_id_has_no_final_lf : (before : List LineUnit) (bytes : List ℕ) → is_optional_colon_id before bytes ≡ true → ends_in_lf bytes ≡ false
colon_id_has_no_final_lf before [] is = absurd (cc)
colon_id_has_no_final_lf before (b ∷ text) is = by (b == 58) is
  where
    by : (t : Bool) → (if t then is_hash_id (Byte 58 ∷ before) text else is_hash_id before (b ∷ text)) ≡ true → ends_in_lf (b ∷ text) ≡ false
    by true h = byte_before_open_bytes_keeps_them_open b text (hash_id_has_no_final_lf (Byte 58 ∷ before) text h) (hash_id_is_nonempty (Byte 58 ∷ before) text h)
    by false h = hash_id_has_no_final_lf before (b ∷ text) h

colon_id_is_nonempty : (before : List LineUnit) (bytes : List ℕ) → is_optional_colon_id before bytes ≡ true → 0 < length bytes
colon_id_is_nonempty before [] is = absurd (cc)
colon_id_is_nonempty before (b ∷ text) is = omega arith

numeric_id_has_no_final_lf : (before : List LineUnit) (bytes : List ℕ) → is_numeric_id before bytes ≡ true → ends_in_lf bytes ≡ false
numeric_id_has_no_final_lf before [] is = absurd (cc)
numeric_id_has_no_final_lf before (b ∷ text) is = by (b == 37) is
  where
    by : (t : Bool) → (if t then is_optional_colon_id (Byte 37 ∷ before) text else is_hash_id before (b ∷ text)) ≡ true → ends_in_lf (b ∷ text) ≡ false
    by true h = byte_before_open_bytes_keeps_them_open b text (colon_id_has_no_final_lf (Byte 37 ∷ before) text h) (colon_id_is_nonempty (Byte 37 ∷ before) text h)
    by false h = hash_id_has_no_final_lf before (b ∷ text) h

pub number_ends_before_final_lf : EndsBeforeFinalLf Number
number_ends_before_final_lf before bytes n inside is ends = piece_never_ended_in_lf_is_shorter (is_numeric_id before) (numeric_id_has_no_final_lf before) bytes n inside is ends

non_unix_group_has_no_final_lf : (bytes : List ℕ) → is_non_unix_group_word bytes ≡ true → ends_in_lf bytes ≡ false
non_unix_group_has_no_final_lf [] is = absurd (cc)
non_unix_group_has_no_final_lf (b ∷ []) is = absurd (true_is_not_false (b == 37 && false) is (nothing (b == 37)))
  where
    nothing : (t : Bool) → (t && false) ≡ false
    nothing true = refl
    nothing false = refl
non_unix_group_has_no_final_lf (b ∷ c ∷ text) is =
    let colon = (and_parts (b == 37) (c == 58 && is_nonempty_run rule.Word text) is).1 in
    byte_before_plain_run_has_no_final_lf rule.Word word c text (and_parts (c == 58) (is_nonempty_run rule.Word text) colon).1

pub non_unix_group_ends_before_final_lf : EndsBeforeFinalLf NonUnixGroup
non_unix_group_ends_before_final_lf before bytes n inside is ends = piece_never_ended_in_lf_is_shorter is_non_unix_group_word non_unix_group_has_no_final_lf bytes n inside is ends

pub plain_run_ends_before_final_lf : (k : TokenKind) (r : ByteRunKind) → IsPlainRunKind r → EndsBeforeFinalLf (Run k r)
plain_run_ends_before_final_lf k r plain before bytes n inside is ends = piece_never_ended_in_lf_is_shorter (is_nonempty_run r) (plain_run_has_no_final_lf r plain) bytes n inside is ends

pub command_path_ends_before_final_lf : EndsBeforeFinalLf CommandPath
command_path_ends_before_final_lf before bytes n inside is ends =
    piece_never_ended_in_lf_is_shorter (is_nonempty_run rule.Path) (plain_run_has_no_final_lf rule.Path path) bytes n inside
    (and_parts (has_given_first_byte 47 bytes) (is_nonempty_run rule.Path (take n bytes)) is).1 ends

pub quoted_part_ends_before_final_lf : (k : TokenKind) → EndsBeforeFinalLf (QuotedPart k)
quoted_part_ends_before_final_lf k before bytes n inside is ends =
    let parts = and_parts (nat_lt 0 n) (n == closed_quote_size bytes) is in
    let size : n ≡ closed_quote_size bytes = eqb-true n (closed_quote_size bytes) parts.1 in
    let some : 0 < n = ltb-true 0 n parts.0 in
    piece_unequal_to_all_bytes_is_shorter bytes n inside (λ all.
    true_is_not_false (ends_in_lf bytes) ends ((quoted_run_has_no_final_lf rule.Quote).ends bytes (sym size ∙ all) (omega (arith, all, some))))

-- ---- arguments

abbrev pub begins_with_separator : List ℕ → Bool
begins_with_separator [] = false
begins_with_separator (b ∷ rest) = is_comma_colon_or_equals b

-- where a part without separators stops before the quote that closes one with them
clean_part_before_quote_stops_at_separator : (k : ℕ) (xs : List ℕ) → has_given_first_byte 34 (drop (reach_of_units (run_unit_size rule.Clean) k xs) xs) ≡ false
    → has_given_first_byte 34 (drop (reach_of_units (run_unit_size rule.Quote) k xs) xs) ≡ true → begins_with_separator (drop (reach_of_units (run_unit_size rule.Clean) k xs) xs) ≡ true
clean_part_before_quote_stops_at_separator zero [] clean quote = absurd (cc)
clean_part_before_quote_stops_at_separator (suc k) [] clean quote = absurd (cc)
clean_part_before_quote_stops_at_separator (suc k) (b ∷ xs) clean quote = clean_part_before_quote_stops_at_separator k xs clean quote
clean_part_before_quote_stops_at_separator zero (b ∷ xs) clean quote = by (is_quoted_byte b) (is_comma_colon_or_equals b) refl (backslash_unit_size_by pair_or_continuation_size_of_unit (b ∷ xs)) refl clean quote (λ k. clean_part_before_quote_stops_at_separator k xs)
  where
    Goal : ℕ → ℕ → Type 0
    Goal m n =
        has_given_first_byte 34 (drop (reach_past_first_byte m (λ k. reach_of_units (run_unit_size rule.Clean) k xs)) (b ∷ xs)) ≡ false
        → has_given_first_byte 34 (drop (reach_past_first_byte n (λ k. reach_of_units (run_unit_size rule.Quote) k xs)) (b ∷ xs)) ≡ true
        → ((k : ℕ) → has_given_first_byte 34 (drop (reach_of_units (run_unit_size rule.Clean) k xs) xs) ≡ false
        → has_given_first_byte 34 (drop (reach_of_units (run_unit_size rule.Quote) k xs) xs) ≡ true → begins_with_separator (drop (reach_of_units (run_unit_size rule.Clean) k xs) xs) ≡ true)
        → begins_with_separator (drop (reach_past_first_byte m (λ k. reach_of_units (run_unit_size rule.Clean) k xs)) (b ∷ xs)) ≡ true

    by : (q s : Bool) → is_comma_colon_or_equals b ≡ s → (e : ℕ) → backslash_unit_size_by pair_or_continuation_size_of_unit (b ∷ xs) ≡ e
        → Goal (first_nonzero_number (if q && not s then 1 else 0) e) (first_nonzero_number (if q then 1 else 0) e)
    by true true is zero e clean quote later = is
    by true true is (suc e) same clean quote later = absurd (backslash b is same)
      where
        backslash : (c : ℕ) → is_comma_colon_or_equals c ≡ true → backslash_unit_size_by pair_or_continuation_size_of_unit (c ∷ xs) ≡ suc e → ⊥
        backslash c sep size = other (c == 92) refl size
          where
            other : (t : Bool) → (c == 92) ≡ t → (if t then pair_or_continuation_size_of_unit (unit_after_backslash xs) else 0) ≡ suc e → ⊥
            other true at h =
                let there : c ≡ 92 = eqb-true c 92 at in
                true_is_not_false (is_comma_colon_or_equals c) sep (subst (λ x. is_comma_colon_or_equals x ≡ false) (sym there) refl)
            other false at h = absurd (omega (arith, h))
    by true false is e same clean quote later = later 0 clean quote
    by false true is zero same clean quote later = true_is_not_false (b == 34) quote clean
    by false false is zero same clean quote later = true_is_not_false (b == 34) quote clean
    by false true is (suc e) same clean quote later = later e clean quote
    by false false is (suc e) same clean quote later = later e clean quote

drop_of_next_number_skips_first : (n b : ℕ) (xs : List ℕ) → drop (n + 1) (b ∷ xs) ≡ drop n xs
drop_of_next_number_skips_first n b xs = let same : n + 1 ≡ suc n = omega arith in rw same refl

pub broken_quote_stops_at_separator : (bytes : List ℕ) → 0 < quoted_front_to_inner_separator_size bytes → begins_with_separator (drop (quoted_front_to_inner_separator_size bytes) bytes) ≡ true
unfolding quoted_front_to_inner_separator_size quotes_and_run_between_size leading_run_size
broken_quote_stops_at_separator [] some = absurd (omega (arith, some))
broken_quote_stops_at_separator (b ∷ rest) some =
    by (b == 34) (has_given_first_byte 34 (drop (leading_run_size rule.Clean rest) rest)) (has_given_first_byte 34 (drop (leading_run_size rule.Quote rest) rest)) refl refl some
  where
    clean : ℕ
    clean = leading_run_size rule.Clean rest

    quote : ℕ
    quote = leading_run_size rule.Quote rest

    some_more : (n : ℕ) → (n + 2 == 0) ≡ false
    some_more n = grind (arith, nat_tests)

    size : Bool → Bool → Bool → ℕ
    size q c u = if ((if q && c then clean + 2 else 0) == 0) && not ((if q && u then quote + 2 else 0) == 0) then clean + 1 else 0

    by : (q c u : Bool) → has_given_first_byte 34 (drop clean rest) ≡ c → has_given_first_byte 34 (drop quote rest) ≡ u → 0 < size q c u
        → begins_with_separator (drop (size q c u) (b ∷ rest)) ≡ true
    by false c u is was h = absurd (omega (arith, h))
    by true true u is was h = absurd (none (clean + 2 == 0) (some_more clean) h)
      where
        none : (t : Bool) → t ≡ false → 0 < (if t && not ((if u then quote + 2 else 0) == 0) then clean + 1 else 0) → ⊥
        none true e h = absurd (cc)
        none false e h = omega (arith, h)
    by true false false is was h = absurd (omega (arith, h))
    by true false true is was h =
        rw (some_more quote) (ap begins_with_separator (drop_of_next_number_skips_first clean b rest) ∙ clean_part_before_quote_stops_at_separator 0 rest is was)

successive_drops_are_one_drop : (m n : ℕ) (xs : List ℕ) → drop n (drop m xs) ≡ drop (m + n) xs
successive_drops_are_one_drop m n xs = drop-drop n m xs

separator_at_number_is_within_bytes : (n : ℕ) (xs : List ℕ) → begins_with_separator (drop n xs) ≡ true → n < length xs
separator_at_number_is_within_bytes n xs h = by (drop n xs) refl h
  where
    by : (ys : List ℕ) → drop n xs ≡ ys → begins_with_separator ys ≡ true → n < length xs
    by [] is e = absurd (cc)
    by (y ∷ ys) is e = omega (arith, length-drop n xs, ap length is)

-- An argument is whole, or a separator follows.
pub argument_is_complete_or_before_separator : (bytes : List ℕ) (n : ℕ) → is_argument_of_size bytes n ≡ true
    → ((argument_units_size (take n bytes) == n) ≡ true) ⊎ (begins_with_separator (drop n bytes) ≡ true)
argument_is_complete_or_before_separator bytes n is = by (argument_units_size (take n bytes) == n) refl is
  where
    w : ℕ
    w = argument_units_size (take n bytes)

    by : (t : Bool) → (w == n) ≡ t → (t || (nat_lt 0 (quoted_front_to_inner_separator_size (drop w bytes)) && (w + quoted_front_to_inner_separator_size (drop w bytes) == n))) ≡ true
        → ((w == n) ≡ true) ⊎ (begins_with_separator (drop n bytes) ≡ true)
    by true same h = inl same
    by false same h =
        let parts = and_parts (nat_lt 0 (quoted_front_to_inner_separator_size (drop w bytes))) (w + quoted_front_to_inner_separator_size (drop w bytes) == n) h in
        let size : w + quoted_front_to_inner_separator_size (drop w bytes) ≡ n = eqb-true (w + quoted_front_to_inner_separator_size (drop w bytes)) n parts.1 in
        inr (ap (λ m. begins_with_separator (drop m bytes)) (sym size)
        ∙ ap begins_with_separator (sym (successive_drops_are_one_drop w (quoted_front_to_inner_separator_size (drop w bytes)) bytes))
        ∙ broken_quote_stops_at_separator (drop w bytes) (ltb-true 0 (quoted_front_to_inner_separator_size (drop w bytes)) parts.0))

pub argument_ends_before_final_lf : EndsBeforeFinalLf Argument
argument_ends_before_final_lf before bytes n inside is ends = by (argument_is_complete_or_before_separator bytes n parts.1)
  where
    parts : (nat_lt 0 n ≡ true) × (is_argument_of_size bytes n ≡ true)
    parts = and_parts (nat_lt 0 n) (is_argument_of_size bytes n) is

    by : ((argument_units_size (take n bytes) == n) ≡ true) ⊎ (begins_with_separator (drop n bytes) ≡ true) → n < length bytes
    by (inr behind) = separator_at_number_is_within_bytes n bytes behind
    by (inl whole) =
        piece_unequal_to_all_bytes_is_shorter bytes n inside (λ all.
        let taken : bytes ≡ take n bytes = sym (ap (λ m. take m bytes) all ∙ take_all (length bytes) bytes (omega arith)) in
        let size : argument_units_size bytes ≡ length bytes = ap argument_units_size taken ∙ eqb-true (argument_units_size (take n bytes)) n whole ∙ all in
        true_is_not_false (ends_in_lf bytes) ends (all_argument_units_have_no_final_lf bytes size (omega (arith, all, ltb-true 0 n parts.0))))
