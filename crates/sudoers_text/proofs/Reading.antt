-- How far a line has been read.
use Rattle.std.proofs.Common.{◌≡◌, ℕ, ◌+◌, ◌-◌, ◌<◌, ◌≤◌, Bool, true, false, cond, ◌&&◌, List, [], ◌∷◌, ◌++◌, length, take, drop, get_or, refl, sym, ap, subst, ◌∙◌, arith, Option, Some, None, inl, inr, append-nil}
use Rattle.std.proofs.lemmas.List.{length-append, length-drop, drop-drop, append_assoc, take_at, drop_at, drop_more, drop_all, take_all, take_rest}
use Rattle.std.proofs.lemmas.Bool.{eqb-true}
use Rattle.std.proofs.lemmas.Bool.Decides.{eqb_tells}
use Rattle.std.specs.Prelude.{slice_range, ◌==◌, if◌then◌else◌}
use Rattle.sudoers_text.specs.declared.text_units.LeftContext.{LeftContext}
use Rattle.sudoers_text.specs.Unit.{LineUnit, bytes_of_unit, Continuation, Pair, Quoted, Comment, Byte, bytes_of_reversed_units, AreUnitsBefore, unit_at, begins_line_end, line_end_size, bytes_up_to_line_end, rest_of_quoted_part, begins_lf, unit_after_backslash, is_hash_of_comment, bytes_of_units_after_leading_gap}
use Rattle.sudoers_text.specs.internal.Left.{LeftDescribesUnits, UnitStandsAt, LeftAgreesWithUnits}
use Rattle.sudoers_text.specs.Line.{IsLogicalLineBefore, IsUnfinishedLine, IsLineEndingOrTextEnd, at_end}
use Rattle.sudoers_text.proofs.Units.{emptiness_test_is_zero_length_test, BeginsWithLineEnd, line_end_test_implies_line_end}

-- from start up to at these units have been read
pub record HasReadUnitsFromStart (text : List ℕ) (start at : ℕ) (left : LeftContext) : Type 0 where
  pub before : List LineUnit
  pub each : AreUnitsBefore before (drop at text)
  pub whole : bytes_of_reversed_units before ++ drop at text ≡ drop start text
  pub knows : LeftDescribesUnits text at left before
  pub from : start ≤ at
  pub to : at ≤ length text

true_conjunction_has_true_left_part : (a b : Bool) → (a && b) ≡ true → a ≡ true
true_conjunction_has_true_left_part true b h = refl
true_conjunction_has_true_left_part false b h = h

-- A unit that begins a text stands there.
pub bytes_up_to_line_end_are_prefix : (xs : List ℕ) → (rest : List ℕ) × (xs ≡ bytes_up_to_line_end xs ++ rest)
bytes_up_to_line_end_are_prefix [] = ([], refl)
bytes_up_to_line_end_are_prefix (b ∷ xs) =
    let later = bytes_up_to_line_end_are_prefix xs in
    elim (begins_line_end (b ∷ xs)) as (λ t. (rest : List ℕ) × (b ∷ xs ≡ cond t [] (b ∷ bytes_up_to_line_end xs) ++ rest)) [
      | true ↦ (b ∷ xs, refl)
      | false ↦ (later.0, ap (λ (ys : List ℕ). b ∷ ys) later.1)
    ]

-- the unit's bytes begin the text
abbrev pub IsUnitAtStartOf : LineUnit → List ℕ → Type 0
IsUnitAtStartOf u text = (rest : List ℕ) × (text ≡ bytes_of_unit u ++ rest)

-- what an `if` gives comes from one of its sides
pub choice_is_one_of_its_sides : {A F : Type 0} (t : Bool) (x y z : A) → (if t then x else y) ≡ z → (t ≡ true → x ≡ z → F) → (t ≡ false → y ≡ z → F) → F
choice_is_one_of_its_sides true x y z h g k = g refl h
choice_is_one_of_its_sides false x y z h g k = k refl h

pub quoted_part_is_prefix_of_bytes : (behind : Bool) (xs : List ℕ) → (rest : List ℕ) × (xs ≡ rest_of_quoted_part behind xs ++ rest)
quoted_part_is_prefix_of_bytes behind [] = ([], refl)
quoted_part_is_prefix_of_bytes true (b ∷ xs) =
    let later = quoted_part_is_prefix_of_bytes (b == 13 && begins_lf xs) xs in
    (later.0, ap (λ (ys : List ℕ). b ∷ ys) later.1)
quoted_part_is_prefix_of_bytes false (b ∷ xs) =
    let later = quoted_part_is_prefix_of_bytes (b == 92) xs in
    elim (b == 34) as (λ t. (rest : List ℕ) × (b ∷ xs ≡ cond t (b ∷ []) (if begins_line_end (b ∷ xs) then [] else b ∷ rest_of_quoted_part (b == 92) xs) ++ rest)) [
      | true ↦ (xs, refl)
      | false ↦ elim (begins_line_end (b ∷ xs)) as (λ t. (rest : List ℕ) × (b ∷ xs ≡ cond t [] (b ∷ rest_of_quoted_part (b == 92) xs) ++ rest)) [
        | true ↦ (b ∷ xs, refl)
        | false ↦ (later.0, ap (λ (ys : List ℕ). b ∷ ys) later.1)
      ]
    ]

backslash_unit_before_cr_is_prefix : (xs : List ℕ) → IsUnitAtStartOf (unit_after_backslash (13 ∷ xs)) (92 ∷ 13 ∷ xs)
backslash_unit_before_cr_is_prefix [] = ([], refl)
backslash_unit_before_cr_is_prefix (c ∷ xs) =
    elim (eqb_tells c 10) [
      | inl u ↦ subst (λ (c : ℕ). IsUnitAtStartOf (unit_after_backslash (13 ∷ c ∷ xs)) (92 ∷ 13 ∷ c ∷ xs)) (sym u.1) (xs, refl)
      | inr u ↦ rw u.0 (c ∷ xs, refl)
    ]

backslash_unit_is_prefix_of_bytes : (xs : List ℕ) → IsUnitAtStartOf (unit_after_backslash xs) (92 ∷ xs)
backslash_unit_is_prefix_of_bytes [] = ([], refl)
backslash_unit_is_prefix_of_bytes (b ∷ xs) =
    let family : ℕ → Type 0 = λ b. IsUnitAtStartOf (unit_after_backslash (b ∷ xs)) (92 ∷ b ∷ xs) in
    elim (eqb_tells b 10) [
      | inl w ↦ subst family (sym w.1) (xs, refl)
      | inr w ↦ elim (eqb_tells b 13) [
        | inl v ↦ subst family (sym v.1) (backslash_unit_before_cr_is_prefix xs)
        | inr v ↦ rw (w.0, v.0) (xs, refl)
      ]
    ]

pub unit_at_text_is_prefix_of_it : (before : List LineUnit) (text : List ℕ) (u : LineUnit) → unit_at before text ≡ Some u → IsUnitAtStartOf u text
unit_at_text_is_prefix_of_it before [] u h = cc
unit_at_text_is_prefix_of_it before (b ∷ xs) u h =
    choice_is_one_of_its_sides (begins_line_end (b ∷ xs)) _ _ _ h (λ _ none. cc) (λ _ h1.
    choice_is_one_of_its_sides (b == 92) _ _ _ h1 (λ is e.
    let same : unit_after_backslash xs ≡ u = cc in
    let slash : b ≡ 92 = eqb-true b 92 is in
    rw slash (subst (λ (v : LineUnit). IsUnitAtStartOf v (92 ∷ xs)) same (backslash_unit_is_prefix_of_bytes xs))) (λ _ h2.
    choice_is_one_of_its_sides (b == 34) _ _ _ h2 (λ is e.
    let same : Quoted (rest_of_quoted_part false xs) ≡ u = cc in
    let front = quoted_part_is_prefix_of_bytes false xs in
    let quote : b ≡ 34 = eqb-true b 34 is in
    rw quote (subst (λ (v : LineUnit). IsUnitAtStartOf v (34 ∷ xs)) same (front.0, ap (λ (ys : List ℕ). 34 ∷ ys) front.1))) (λ _ h3.
    choice_is_one_of_its_sides (b == 35 && is_hash_of_comment before xs) _ _ _ h3 (λ both e.
    let same : Comment (bytes_up_to_line_end xs) ≡ u = cc in
    let front = bytes_up_to_line_end_are_prefix xs in
    let hash : b ≡ 35 = eqb-true b 35 (true_conjunction_has_true_left_part (b == 35) (is_hash_of_comment before xs) both) in
    rw hash (subst (λ (v : LineUnit). IsUnitAtStartOf v (35 ∷ xs)) same (front.0, ap (λ (ys : List ℕ). 35 ∷ ys) front.1))) (λ _ e.
    let same : Byte b ≡ u = cc in
    subst (λ (v : LineUnit). IsUnitAtStartOf v (b ∷ xs)) same (xs, refl)))))

pub context_describing_units_agrees_with_them : (text : List ℕ) (at : ℕ) (left : LeftContext) (before : List LineUnit) → LeftDescribesUnits text at left before → LeftAgreesWithUnits left before
context_describing_units_agrees_with_them text at left before knows = record {
  item = knows.item;
  first = ap (λ (n : ℕ). n == 0) (sym knows.size) ∙ sym (emptiness_test_is_zero_length_test (bytes_of_units_after_leading_gap before));
}

pub unit_at_place_has_its_bytes : (text : List ℕ) (at : ℕ) (before : List LineUnit) (u : LineUnit) → at ≤ length text → unit_at before (drop at text) ≡ Some u → UnitStandsAt text at u
unit_at_place_has_its_bytes text at before u inside is =
    let front = unit_at_text_is_prefix_of_it before (drop at text) u is in
    let rest : drop (at + length (bytes_of_unit u)) text ≡ front.0 =
    sym (drop-drop (length (bytes_of_unit u)) at text) ∙ ap (λ (xs : List ℕ). drop (length (bytes_of_unit u)) xs) front.1 ∙ drop_at (bytes_of_unit u) front.0 (length (bytes_of_unit u)) refl in
    record {
      inside = inside;
      reads = front.1 ∙ ap (λ (xs : List ℕ). bytes_of_unit u ++ xs) (sym rest);
    }

pub reading_at_start_has_no_units : (text : List ℕ) (start : ℕ) (left : LeftContext) → start < length text → LeftDescribesUnits text start left [] → HasReadUnitsFromStart text start start left
reading_at_start_has_no_units text start left inside knows = record {
  before = [];
  each = tt;
  whole = refl;
  knows = knows;
  from = omega arith;
  to = omega arith;
}

pub reading_extends_by_unit_at_place : (text : List ℕ) (start at : ℕ) (left next : LeftContext) (reading : HasReadUnitsFromStart text start at left) (u : LineUnit) → unit_at reading.before (drop at text) ≡ Some u → LeftDescribesUnits text (at + length (bytes_of_unit u)) next (u ∷ reading.before) → HasReadUnitsFromStart text start (at + length (bytes_of_unit u)) next
reading_extends_by_unit_at_place text start at left next reading u is knows =
    let stands = unit_at_place_has_its_bytes text at reading.before u reading.to is in
    let rest = drop (at + length (bytes_of_unit u)) text in
    let unit_here : unit_at reading.before (bytes_of_unit u ++ rest) ≡ Some u = subst (λ (xs : List ℕ). unit_at reading.before xs ≡ Some u) stands.reads is in
    let each_here : AreUnitsBefore reading.before (bytes_of_unit u ++ rest) = subst (λ (xs : List ℕ). AreUnitsBefore reading.before xs) stands.reads reading.each in
    record {
      before = u ∷ reading.before;
      each = (unit_here, each_here);
      whole = append_assoc (bytes_of_reversed_units reading.before) (bytes_of_unit u) rest ∙ ap (λ (xs : List ℕ). bytes_of_reversed_units reading.before ++ xs) (sym stands.reads) ∙ reading.whole;
      knows = knows;
      from = omega (arith, reading.from);
      to = omega (arith, reading.to, ap length stands.reads, length-append (bytes_of_unit u) rest, length-drop at text, length-drop (at + length (bytes_of_unit u)) text);
    }

-- where no unit begins, a line end does, or the text ends
pub no_unit_at_byte_implies_line_end : (before : List LineUnit) (b : ℕ) (rest : List ℕ) → unit_at before (b ∷ rest) ≡ None → begins_line_end (b ∷ rest) ≡ true
no_unit_at_byte_implies_line_end before b rest h =
    choice_is_one_of_its_sides (begins_line_end (b ∷ rest)) _ _ _ h (λ is _. is) (λ _ h1.
    choice_is_one_of_its_sides (b == 92) _ _ _ h1 (λ _ e. absurd (cc)) (λ _ h2.
    choice_is_one_of_its_sides (b == 34) _ _ _ h2 (λ _ e. absurd (cc)) (λ _ h3.
    choice_is_one_of_its_sides (b == 35 && is_hash_of_comment before rest) _ _ _ h3 (λ _ e. absurd (cc)) (λ _ e. absurd (cc)))))

read_units_have_size_from_start : (text : List ℕ) (start at : ℕ) (left : LeftContext) (reading : HasReadUnitsFromStart text start at left) → length (bytes_of_reversed_units reading.before) ≡ at - start
read_units_have_size_from_start text start at left reading =
    omega (arith, reading.from, reading.to, ap length reading.whole, length-append (bytes_of_reversed_units reading.before) (drop at text), length-drop at text, length-drop start text)

-- where no unit begins before the text's end, a line end stands
pub no_unit_within_text_implies_line_end : (text : List ℕ) (at : ℕ) (before : List LineUnit) → at < length text → unit_at before (drop at text) ≡ None → BeginsWithLineEnd (drop at text)
no_unit_within_text_implies_line_end text at before inside none =
    let cut : drop at text ≡ get_or text at 0 ∷ drop (at + 1) text = drop_more text at 0 inside in
    let ends : begins_line_end (get_or text at 0 ∷ drop (at + 1) text) ≡ true =
    no_unit_at_byte_implies_line_end before (get_or text at 0) (drop (at + 1) text) (subst (λ (xs : List ℕ). unit_at before xs ≡ None) cut none) in
    line_end_test_implies_line_end (drop at text) (subst (λ (xs : List ℕ). begins_line_end xs ≡ true) (sym cut) ends)

-- the text behind a line end
pub text_after_line_end_is_rest : (text : List ℕ) (at : ℕ) (here : BeginsWithLineEnd (drop at text)) → drop (at + line_end_size (drop at text)) text ≡ here.rest
text_after_line_end_is_rest text at here =
    sym (drop-drop (line_end_size (drop at text)) at text)
    ∙ ap (λ (n : ℕ). drop n (drop at text)) (sym here.size)
    ∙ ap (λ (xs : List ℕ). drop (length here.ending) xs) here.whole
    ∙ drop_at here.ending here.rest (length here.ending) refl

-- a line end lies within the text
pub line_end_at_place_is_within_text : (text : List ℕ) (at : ℕ) → at ≤ length text → BeginsWithLineEnd (drop at text) → at + line_end_size (drop at text) ≤ length text
line_end_at_place_is_within_text text at inside here = omega (arith, here.size, ap length here.whole, length-append here.ending here.rest, length-drop at text)

pub slice_to_ending_is_units_and_ending : (text : List ℕ) (start at : ℕ) (left : LeftContext) (reading : HasReadUnitsFromStart text start at left) (here : BeginsWithLineEnd (drop at text)) → slice_range text start (at + line_end_size (drop at text)) ≡ bytes_of_reversed_units reading.before ++ here.ending
slice_to_ending_is_units_and_ending text start at left reading here =
    let stop = at + line_end_size (drop at text) in
    let whole : drop start text ≡ (bytes_of_reversed_units reading.before ++ here.ending) ++ here.rest =
    sym reading.whole ∙ ap (λ (xs : List ℕ). bytes_of_reversed_units reading.before ++ xs) here.whole ∙ sym (append_assoc (bytes_of_reversed_units reading.before) here.ending here.rest) in
    let size : length (bytes_of_reversed_units reading.before ++ here.ending) ≡ stop - start =
    omega (arith, reading.from, length-append (bytes_of_reversed_units reading.before) here.ending, read_units_have_size_from_start text start at left reading, here.size) in
    ap (λ (xs : List ℕ). take (stop - start) xs) whole ∙ take_at (bytes_of_reversed_units reading.before ++ here.ending) here.rest (stop - start) size

pub slice_to_line_end_is_logical_line : (text : List ℕ) (start at : ℕ) (left : LeftContext) (reading : HasReadUnitsFromStart text start at left) → at < length text → unit_at reading.before (drop at text) ≡ None → IsLogicalLineBefore (slice_range text start (at + line_end_size (drop at text))) (drop (at + line_end_size (drop at text)) text)
slice_to_line_end_is_logical_line text start at left reading inside none =
    let here = no_unit_within_text_implies_line_end text at reading.before inside none in
    let behind = text_after_line_end_is_rest text at here in
    record {
      units = reading.before;
      ending = here.ending;
      text = slice_to_ending_is_units_and_ending text start at left reading here;
      each = subst (λ (xs : List ℕ). AreUnitsBefore reading.before xs) (here.whole ∙ ap (λ (xs : List ℕ). here.ending ++ xs) (sym behind)) reading.each;
      ends = subst (λ (xs : List ℕ). IsLineEndingOrTextEnd reading.before here.ending xs) (sym behind) (here.ends reading.before);
    }

-- the whole rest of the text has been read
pub slice_read_to_text_end_is_units : (text : List ℕ) (start at : ℕ) (left : LeftContext) (reading : HasReadUnitsFromStart text start at left) → length text ≤ at → slice_range text start at ≡ bytes_of_reversed_units reading.before
slice_read_to_text_end_is_units text start at left reading past =
    let done : drop at text ≡ [] = drop_all at text past in
    let whole : drop start text ≡ bytes_of_reversed_units reading.before = sym reading.whole ∙ ap (λ (xs : List ℕ). bytes_of_reversed_units reading.before ++ xs) done ∙ append-nil (bytes_of_reversed_units reading.before) in
    take_all (at - start) (drop start text) (omega (arith, reading.from, length-drop start text)) ∙ whole

pub nonempty_units_have_empty_ending_at_end : (units : List LineUnit) → 0 < length (bytes_of_reversed_units units) → IsLineEndingOrTextEnd units [] []
nonempty_units_have_empty_ending_at_end [] h = absurd (omega arith)
nonempty_units_have_empty_ending_at_end (u ∷ units) h = at_end

pub line_read_to_end_is_logical_line : (text : List ℕ) (start at : ℕ) (left : LeftContext) (reading : HasReadUnitsFromStart text start at left) → start < length text → length text ≤ at → IsLogicalLineBefore (slice_range text start at) (drop at text)
line_read_to_end_is_logical_line text start at left reading inside past =
    let done : drop at text ≡ [] = drop_all at text past in
    let size = read_units_have_size_from_start text start at left reading in
    record {
      units = reading.before;
      ending = [];
      text = slice_read_to_text_end_is_units text start at left reading past ∙ sym (append-nil (bytes_of_reversed_units reading.before));
      each = reading.each;
      ends = subst (λ (xs : List ℕ). IsLineEndingOrTextEnd reading.before [] xs) (sym done) (nonempty_units_have_empty_ending_at_end reading.before (omega (arith, size)));
    }

pub continuing_text_at_end_is_unfinished : (text : List ℕ) (start at : ℕ) (left : LeftContext) (reading : HasReadUnitsFromStart text start at left) → length text ≤ at → left.continues ≡ true → IsUnfinishedLine (slice_range text start at)
continuing_text_at_end_is_unfinished text start at left reading past continues =
    let done : drop at text ≡ [] = drop_all at text past in
    record {
      units = reading.before;
      text = slice_read_to_text_end_is_units text start at left reading past;
      each = subst (λ (xs : List ℕ). AreUnitsBefore reading.before xs) done reading.each;
      last = sym (reading.knows.continues (omega (arith, reading.to))) ∙ continues;
    }

-- what the code reads of the rest of the text is the unit there
pub unit_read_from_slice_is_at_place : (text : List ℕ) (at : ℕ) (before : List LineUnit) (u : Option LineUnit) → u ≡ unit_at before (take (length text - at) (drop at text)) → unit_at before (drop at text) ≡ u
unit_read_from_slice_is_at_place text at before u h = ap (λ (xs : List ℕ). unit_at before xs) (sym (take_rest text at)) ∙ sym h

pub unit_size_is_positive : (u : LineUnit) → 0 < length (bytes_of_unit u)
unit_size_is_positive (Continuation true) = omega arith
unit_size_is_positive (Continuation false) = omega arith
unit_size_is_positive (Pair b) = omega arith
unit_size_is_positive (Quoted bytes) = omega arith
unit_size_is_positive (Comment bytes) = omega arith
unit_size_is_positive (Byte b) = omega arith
