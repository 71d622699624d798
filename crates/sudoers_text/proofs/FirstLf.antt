-- A line without a backslash before its first LF ends with that LF.
use Rattle.std.proofs.Common.{◌≡◌, ℕ, zero, suc, ◌+◌, ◌-◌, ◌<◌, ◌≤◌, Bool, true, false, cond, ◌&&◌, ◌||◌, List, [], ◌∷◌, ◌++◌, length, take, drop, get_or, refl, sym, ap, subst, ◌∙◌, arith, Some}
use Rattle.std.specs.Prelude.{◌==◌, if◌then◌else◌, slice_range}
use Rattle.std.proofs.lemmas.List.{take_rest, get_or-drop, length-append, append_assoc, append_cancel_left, drop-drop, take-append-drop, take_at, drop_at, length-take-le}
use Rattle.std.proofs.lemmas.Bool.{eqb-true}
use Rattle.sudoers_text.specs.Unit.{LineUnit, Quoted, Comment, Byte, bytes_of_unit, bytes_of_reversed_units, AreUnitsBefore, unit_at, begins_line_end, is_hash_of_comment, rest_of_quoted_part, bytes_up_to_line_end}
use Rattle.sudoers_text.specs.Line.{IsLogicalLineBefore, IsUnfinishedLine, IsLineEndingOrTextEnd, by_lf, by_crlf, at_end}
use Rattle.sudoers_text.specs.Cut.{first_line_size}
use Rattle.sudoers_text.specs.internal.Clear.{HasNoBackslashFromTo}
use Rattle.sudoers_text.proofs.Units.{true_conjunction_has_two_true_parts, untrue_disjunction_has_false_parts}
use Rattle.sudoers_text.proofs.Reading.{IsUnitAtStartOf, choice_is_one_of_its_sides}
use Rattle.sudoers_text.proofs.Computed.{first_line_prefix_is_logical_line}
use Rattle.sudoers_text.proofs.Closed.{line_before_text_ends_in_lf}

-- neither a LF nor a backslash stands in the bytes
abbrev pub HasNoLfOrBackslash : List ℕ → Type 0
HasNoLfOrBackslash [] = Unit {0}
HasNoLfOrBackslash (b ∷ xs) = ((b == 10) ≡ false) × ((b == 92) ≡ false) × HasNoLfOrBackslash xs

-- what is left of a quoted part ends before the LF
quoted_part_ends_before_first_lf : (xs r : List ℕ) → HasNoLfOrBackslash xs → (zs : List ℕ) × (xs ≡ rest_of_quoted_part false (xs ++ 10 ∷ r) ++ zs)
quoted_part_ends_before_first_lf [] r simple = ([], refl)
quoted_part_ends_before_first_lf (b ∷ xs) r simple =
    let later = quoted_part_ends_before_first_lf xs r simple.2 in
    let slash : (b == 92) ≡ false = simple.1 in
    elim (b == 34) as (λ t. (zs : List ℕ) × (b ∷ xs ≡ cond t (b ∷ []) (if begins_line_end (b ∷ (xs ++ 10 ∷ r)) then [] else b ∷ rest_of_quoted_part (b == 92) (xs ++ 10 ∷ r)) ++ zs)) [
      | true ↦ (xs, refl)
      | false ↦ elim (begins_line_end (b ∷ (xs ++ 10 ∷ r))) as (λ t. (zs : List ℕ) × (b ∷ xs ≡ cond t [] (b ∷ rest_of_quoted_part (b == 92) (xs ++ 10 ∷ r)) ++ zs)) [
        | true ↦ (b ∷ xs, refl)
        | false ↦ rw slash (later.0, ap (λ (ys : List ℕ). b ∷ ys) later.1)
      ]
    ]

-- a comment ends before it
comment_ends_before_first_lf : (xs r : List ℕ) → (zs : List ℕ) × (xs ≡ bytes_up_to_line_end (xs ++ 10 ∷ r) ++ zs)
comment_ends_before_first_lf [] r = ([], refl)
comment_ends_before_first_lf (b ∷ xs) r =
    let later = comment_ends_before_first_lf xs r in
    elim (begins_line_end (b ∷ (xs ++ 10 ∷ r))) as (λ t. (zs : List ℕ) × (b ∷ xs ≡ cond t [] (b ∷ bytes_up_to_line_end (xs ++ 10 ∷ r)) ++ zs)) [
      | true ↦ (b ∷ xs, refl)
      | false ↦ (later.0, ap (λ (ys : List ℕ). b ∷ ys) later.1)
    ]

-- a unit ends before it
unit_ends_before_first_lf : (before : List LineUnit) (xs r : List ℕ) (u : LineUnit) → HasNoLfOrBackslash xs → unit_at before (xs ++ 10 ∷ r) ≡ Some u → IsUnitAtStartOf u xs
unit_ends_before_first_lf before [] r u simple h = absurd (cc)
unit_ends_before_first_lf before (b ∷ xs) r u simple h =
    choice_is_one_of_its_sides (begins_line_end (b ∷ (xs ++ 10 ∷ r))) _ _ _ h (λ _ none. absurd (cc)) (λ _ h1.
    choice_is_one_of_its_sides (b == 92) _ _ _ h1 (λ is _. let isnt = simple.1 in absurd (cc)) (λ _ h2.
    choice_is_one_of_its_sides (b == 34) _ _ _ h2 (λ is e.
    let same : Quoted (rest_of_quoted_part false (xs ++ 10 ∷ r)) ≡ u = cc in
    let front = quoted_part_ends_before_first_lf xs r simple.2 in
    let quote : b ≡ 34 = eqb-true b 34 is in
    rw quote (subst (λ (v : LineUnit). IsUnitAtStartOf v (34 ∷ xs)) same (front.0, ap (λ (ys : List ℕ). 34 ∷ ys) front.1))) (λ _ h3.
    choice_is_one_of_its_sides (b == 35 && is_hash_of_comment before (xs ++ 10 ∷ r)) _ _ _ h3 (λ both e.
    let same : Comment (bytes_up_to_line_end (xs ++ 10 ∷ r)) ≡ u = cc in
    let front = comment_ends_before_first_lf xs r in
    let hash : b ≡ 35 = eqb-true b 35 (true_conjunction_has_two_true_parts (b == 35) (is_hash_of_comment before (xs ++ 10 ∷ r)) both).0 in
    rw hash (subst (λ (v : LineUnit). IsUnitAtStartOf v (35 ∷ xs)) same (front.0, ap (λ (ys : List ℕ). 35 ∷ ys) front.1))) (λ _ e.
    let same : Byte b ≡ u = cc in
    subst (λ (v : LineUnit). IsUnitAtStartOf v (b ∷ xs)) same (xs, refl)))))

tail_has_no_lf_or_backslash : (xs ys : List ℕ) → HasNoLfOrBackslash (xs ++ ys) → HasNoLfOrBackslash ys
tail_has_no_lf_or_backslash [] ys simple = simple
tail_has_no_lf_or_backslash (b ∷ xs) ys simple = tail_has_no_lf_or_backslash xs ys simple.2

-- Units end before the LF: what stands between them and it.
record AreUnitsEndingBeforeFirstLf (units : List LineUnit) (after xs r : List ℕ) : Type 0 where
  pub left : List ℕ
  pub simple : HasNoLfOrBackslash left
  pub front : xs ≡ bytes_of_reversed_units units ++ left
  pub behind : after ≡ left ++ 10 ∷ r

units_of_text_end_before_first_lf : (us : List LineUnit) (after xs r : List ℕ) → HasNoLfOrBackslash xs → AreUnitsBefore us after → bytes_of_reversed_units us ++ after ≡ xs ++ 10 ∷ r → AreUnitsEndingBeforeFirstLf us after xs r
units_of_text_end_before_first_lf [] after xs r simple each e = record { left = xs; simple = simple; front = refl; behind = e }
units_of_text_end_before_first_lf (u ∷ us) after xs r simple each e =
    let x = units_of_text_end_before_first_lf us (bytes_of_unit u ++ after) xs r simple each.1 (sym (append_assoc (bytes_of_reversed_units us) (bytes_of_unit u) after) ∙ e) in
    let front = unit_ends_before_first_lf us x.left r u x.simple (subst (λ (t : List ℕ). unit_at us t ≡ Some u) x.behind each.0) in
    record {
      left = front.0;
      simple = tail_has_no_lf_or_backslash (bytes_of_unit u) front.0 (subst (λ (t : List ℕ). HasNoLfOrBackslash t) front.1 x.simple);
      front = x.front ∙ ap (λ (t : List ℕ). bytes_of_reversed_units us ++ t) front.1 ∙ sym (append_assoc (bytes_of_reversed_units us) (bytes_of_unit u) front.0);
      behind = append_cancel_left (bytes_of_unit u) after (front.0 ++ 10 ∷ r)
          (x.behind ∙ ap (λ (t : List ℕ). t ++ 10 ∷ r) front.1 ∙ append_assoc (bytes_of_unit u) front.0 (10 ∷ r));
    }

-- a line end behind them ends with the LF
line_end_before_lf_ends_with_it : {us : List LineUnit} {ending rest : List ℕ} → IsLineEndingOrTextEnd us ending rest → (ys r : List ℕ) → HasNoLfOrBackslash ys → ending ++ rest ≡ ys ++ 10 ∷ r → (ending ≡ ys ++ 10 ∷ []) × (rest ≡ r)
line_end_before_lf_ends_with_it by_lf [] r simple e = (refl, cc)
line_end_before_lf_ends_with_it by_lf (y ∷ ys) r simple e =
    let lf : y ≡ 10 = cc in
    let isnt : (10 == 10) ≡ false = subst (λ (n : ℕ). (n == 10) ≡ false) lf simple.0 in
    absurd (cc)
line_end_before_lf_ends_with_it by_crlf [] r simple e = absurd (cc)
line_end_before_lf_ends_with_it by_crlf (y ∷ []) r simple e =
    let cr : 13 ≡ y = cc in
    (ap (λ (n : ℕ). n ∷ 10 ∷ []) cr, cc)
line_end_before_lf_ends_with_it by_crlf (y ∷ z ∷ ys) r simple e =
    let lf : z ≡ 10 = cc in
    let isnt : (10 == 10) ≡ false = subst (λ (n : ℕ). (n == 10) ≡ false) lf simple.2.0 in
    absurd (cc)
line_end_before_lf_ends_with_it at_end [] r simple e = absurd (cc)
line_end_before_lf_ends_with_it at_end (y ∷ ys) r simple e = absurd (cc)

-- the line that begins such a text is what stands before the LF, with the LF
first_line_ends_at_first_lf : (line rest xs r : List ℕ) → HasNoLfOrBackslash xs → IsLogicalLineBefore line rest → line ++ rest ≡ xs ++ 10 ∷ r → IsLogicalLineBefore (xs ++ 10 ∷ []) r
first_line_ends_at_first_lf line rest xs r simple is e =
    let front : line ++ rest ≡ bytes_of_reversed_units is.units ++ (is.ending ++ rest) =
    ap (λ (t : List ℕ). t ++ rest) is.text ∙ append_assoc (bytes_of_reversed_units is.units) is.ending rest in
    let x = units_of_text_end_before_first_lf is.units (is.ending ++ rest) xs r simple is.each (sym front ∙ e) in
    let ends = line_end_before_lf_ends_with_it is.ends x.left r x.simple x.behind in
    let same : line ≡ xs ++ 10 ∷ [] =
    is.text ∙ ap (λ (t : List ℕ). bytes_of_reversed_units is.units ++ t) ends.0 ∙ sym (append_assoc (bytes_of_reversed_units is.units) x.left (10 ∷ [])) ∙ ap (λ (t : List ℕ). t ++ 10 ∷ []) (sym x.front) in
    subst (λ (t : List ℕ). IsLogicalLineBefore (xs ++ 10 ∷ []) t) ends.1 (subst (λ (t : List ℕ). IsLogicalLineBefore t rest) same is)

simple_bytes_and_lf_are_logical_line : (xs r : List ℕ) → HasNoLfOrBackslash xs → IsLogicalLineBefore (xs ++ 10 ∷ []) r
simple_bytes_and_lf_are_logical_line xs r simple =
    let text : List ℕ = xs ++ 10 ∷ r in
    let size : ℕ = first_line_size text in
    first_line_ends_at_first_lf (take size text) (drop size text) xs r simple (first_line_prefix_is_logical_line text (omega (arith, length-append xs (10 ∷ r)))) (take-append-drop size text)

line_without_backslash_and_lf_is_finished : (xs : List ℕ) → HasNoLfOrBackslash xs → IsUnfinishedLine (xs ++ 10 ∷ []) → ⊥
line_without_backslash_and_lf_is_finished xs simple = (line_before_text_ends_in_lf (xs ++ 10 ∷ []) (0 ∷ []) (simple_bytes_and_lf_are_logical_line xs (0 ∷ []) simple) (λ none. absurd (cc))).1

-- the bytes before the first LF or backslash, which is a LF, and what begins with it
first_lf_splits_bytes_without_backslash : (xs : List ℕ) (k : ℕ) → k < length xs → ((i : ℕ) → i < k → (get_or xs i 0 == 10 || get_or xs i 0 == 92) ≡ true → ⊥) → get_or xs k 0 ≡ 10 → HasNoLfOrBackslash (take k xs) × (xs ≡ take k xs ++ 10 ∷ drop (suc k) xs)
first_lf_splits_bytes_without_backslash [] k inside before lf = absurd (omega arith)
first_lf_splits_bytes_without_backslash (b ∷ xs) zero inside before lf = (tt, ap (λ (n : ℕ). n ∷ xs) lf)
first_lf_splits_bytes_without_backslash (b ∷ xs) (suc k) inside before lf =
    let later = first_lf_splits_bytes_without_backslash xs k (omega arith) (λ i below. before (suc i) (omega arith)) lf in
    let here = untrue_disjunction_has_false_parts (b == 10) (b == 92) (before 0 (omega arith)) in
    ((here.0, here.1, later.0), ap (λ (t : List ℕ). b ∷ t) later.1)

-- A line that begins at a place ends with the first LF from there, where no backslash stands before that.
pub record IsClosedLineFromStartToStop (text : List ℕ) (start stop : ℕ) : Type 0 where
  pub line : IsLogicalLineBefore (slice_range text start stop) (drop stop text)
  pub closed : IsUnfinishedLine (slice_range text start stop) → ⊥

line_from_start_ends_after_first_lf : (text xs r : List ℕ) (start stop : ℕ) → HasNoLfOrBackslash xs → drop start text ≡ xs ++ 10 ∷ r → stop ≡ start + suc (length xs) → IsClosedLineFromStartToStop text start stop
line_from_start_ends_after_first_lf text xs r start stop simple whole size =
    let line : List ℕ = xs ++ 10 ∷ [] in
    let parts : drop start text ≡ line ++ r = whole ∙ sym (append_assoc xs (10 ∷ []) r) in
    let long : length line ≡ stop - start = omega (arith, length-append xs (10 ∷ [])) in
    let front : slice_range text start stop ≡ line = ap (λ (t : List ℕ). take (stop - start) t) parts ∙ take_at line r (stop - start) long in
    let same : start + length line ≡ stop = omega (arith, length-append xs (10 ∷ [])) in
    let rest : drop stop text ≡ r =
    ap (λ (n : ℕ). drop n text) (sym same) ∙ sym (drop-drop (length line) start text) ∙ ap (λ (t : List ℕ). drop (length line) t) parts ∙ drop_at line r (length line) refl in
    record {
      line = subst (λ (t : List ℕ). IsLogicalLineBefore t (drop stop text)) (sym front) (simple_bytes_and_lf_are_logical_line xs (drop stop text) simple);
      closed = λ unfinished. line_without_backslash_and_lf_is_finished xs simple (subst (λ (t : List ℕ). IsUnfinishedLine t) front unfinished);
    }

pub first_lf_without_backslash_ends_line : (text rest : List ℕ) (start k : ℕ) → rest ≡ drop start text → k < length rest → ((i : ℕ) → i < k → (get_or rest i 0 == 10 || get_or rest i 0 == 92) ≡ true → ⊥) → get_or rest k 0 ≡ 10 → IsClosedLineFromStartToStop text start (start + k + 1)
first_lf_without_backslash_ends_line text rest start k same inside before lf =
    let here = first_lf_splits_bytes_without_backslash rest k inside before lf in
    line_from_start_ends_after_first_lf text (take k rest) (drop (suc k) rest) start (start + k + 1) here.0 (sym same ∙ here.1) (omega (arith, length-take-le k rest (omega arith)))

-- ---- backslashes that are found once

byte_of_rest_is_byte_of_text : (text : List ℕ) (start k : ℕ) → start ≤ k → get_or (take (length text - start) (drop start text)) (k - start) 0 ≡ get_or text k 0
byte_of_rest_is_byte_of_text text start k from =
    let same : start + (k - start) ≡ k = omega arith in
    ap (λ (t : List ℕ). get_or t (k - start) 0) (take_rest text start) ∙ get_or-drop start text (k - start) 0 ∙ ap (λ (n : ℕ). get_or text n 0) same

-- none stands in what is left of the text, up to there
pub clear_rest_has_no_backslash : (text : List ℕ) (start to : ℕ) → ((i : ℕ) → 0 ≤ i → i < to - start → (get_or (take (length text - start) (drop start text)) i 0 == 92) ≡ true → ⊥) → HasNoBackslashFromTo text start to
clear_rest_has_no_backslash text start to nowhere = λ k from below is.
    nowhere (k - start) (omega arith) (omega arith) (ap (λ (n : ℕ). n == 92) (byte_of_rest_is_byte_of_text text start k from ∙ is))

one_of_two_tests_passes : (a b : Bool) → (a || b) ≡ true → (a ≡ true → ⊥) → (b ≡ true → ⊥) → ⊥
one_of_two_tests_passes true b h not_a not_b = not_a refl
one_of_two_tests_passes false b h not_a not_b = not_b h

-- The first LF before a backslash ends the line.
pub first_lf_before_backslash_ends_line : (text : List ℕ) (start lf backslash : ℕ) → HasNoBackslashFromTo text start backslash → lf < length (take (length text - start) (drop start text)) → ((i : ℕ) → 0 ≤ i → i < lf → (get_or (take (length text - start) (drop start text)) i 0 == 10) ≡ true → ⊥) → (get_or (take (length text - start) (drop start text)) lf 0 == 10) ≡ true → start + lf < backslash → IsClosedLineFromStartToStop text start (start + lf + 1)
first_lf_before_backslash_ends_line text start lf backslash clear inside before is below =
    let rest : List ℕ = take (length text - start) (drop start text) in
    first_lf_without_backslash_ends_line text rest start lf (take_rest text start) inside
    (λ i under either. one_of_two_tests_passes (get_or rest i 0 == 10) (get_or rest i 0 == 92) either (before i (omega arith) under) (λ slash.
    let place : start + i - start ≡ i = omega arith in
    let byte : get_or rest i 0 ≡ get_or text (start + i) 0 = ap (λ (n : ℕ). get_or rest n 0) (sym place) ∙ byte_of_rest_is_byte_of_text text start (start + i) (omega arith) in
    clear (start + i) (omega arith) (omega arith) (sym byte ∙ eqb-true (get_or rest i 0) 92 slash)))
    (eqb-true (get_or rest lf 0) 10 is)
