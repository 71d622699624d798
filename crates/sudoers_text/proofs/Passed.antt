-- What stands left of a place, by what stood left of one before it.
use Rattle.std.proofs.Common.{◌≡◌, ℕ, zero, suc, ◌+◌, ◌-◌, ◌<◌, ◌≤◌, Bool, true, false, List, [], ◌∷◌, ◌++◌, length, take, drop, refl, sym, ap, subst, ◌∙◌, arith}
use Rattle.std.specs.Prelude.{◌==◌, if◌then◌else◌, slice_range}
use Rattle.std.proofs.lemmas.List.{length-append, length-drop, length-take-le, append_assoc, drop_at, drop-drop, take-append-drop, take_at}
use Rattle.std.proofs.lemmas.Bool.{eqb-true}
use Rattle.sudoers_text.specs.declared.text_units.LeftContext.{LeftContext}
use Rattle.sudoers_text.specs.Unit.{LineUnit, Byte, bytes_of_unit, unit_after_backslash}
use Rattle.sudoers_text.specs.internal.Left.{LeftDescribesUnits, UnitStandsAt}
use Rattle.sudoers_text.specs.Token.{byte_or_escape_unit, units_with_those_of_bytes, units_with_those_after_skipped_bytes}
use Rattle.sudoers_text.specs.internal.Run.{is_plain_unit_byte, plain_prefix_of_bytes}
use Rattle.sudoers_text.proofs.Reading.{unit_at_text_is_prefix_of_it, unit_size_is_positive}
use Rattle.sudoers_text.proofs.Runs.{IsOrdinaryByte, IsLeftContextAfterRun, IsCarriedByOrdinaryBytes, carried_fact_keeps_after_passed_run, context_after_ordinary_byte_describes_units, context_after_empty_run_describes_units}

-- At this place these units stand left, of which what follows up to another place makes the whole.
pub record AreUnitsLeftLeadingToUnits (text : List ℕ) (at to : ℕ) (left : LeftContext) (whole : List LineUnit) : Type 0 where
  pub units : List LineUnit
  pub knows : LeftDescribesUnits text at left units
  pub same : units_with_those_of_bytes units (slice_range text at to) ≡ whole

pub units_past_bytes_are_units_of_rest : (k : ℕ) (units : List LineUnit) (bytes : List ℕ) → units_with_those_after_skipped_bytes k units bytes ≡ units_with_those_of_bytes units (drop k bytes)
units_past_bytes_are_units_of_rest zero units bytes = refl
units_past_bytes_are_units_of_rest (suc k) units [] = refl
units_past_bytes_are_units_of_rest (suc k) units (b ∷ bytes) = units_past_bytes_are_units_of_rest k units bytes

-- what a plain unit leaves of the bytes
pub bytes_begin_with_byte_or_escape_unit : (b : ℕ) (rest : List ℕ) → (after : List ℕ) × ((b ∷ rest) ≡ bytes_of_unit (byte_or_escape_unit b rest) ++ after)
bytes_begin_with_byte_or_escape_unit b rest = by_test (b == 92) refl
  where
    by_test : (t : Bool) → (b == 92) ≡ t → (after : List ℕ) × ((b ∷ rest) ≡ bytes_of_unit (if t then unit_after_backslash rest else Byte b) ++ after)
    by_test true is =
        let front = unit_at_text_is_prefix_of_it [] (92 ∷ rest) (unit_after_backslash rest) refl in
        (front.0, ap (λ (c : ℕ). c ∷ rest) (eqb-true b 92 is) ∙ front.1)
    by_test false is = (rest, refl)

-- one unit more
pub record IsPlainUnitStepWithin (text : List ℕ) (at to : ℕ) (u : LineUnit) : Type 0 where
  pub stands : UnitStandsAt text at u
  pub inside : at + length (bytes_of_unit u) ≤ to
  pub passes : (units : List LineUnit) → units_with_those_of_bytes units (slice_range text at to) ≡ units_with_those_of_bytes (u ∷ units) (slice_range text (at + length (bytes_of_unit u)) to)

unit_has_positive_size : (u : LineUnit) → 0 < length (bytes_of_unit u)
unit_has_positive_size u = unit_size_is_positive u

byte_or_escape_unit_is_plain_step : (text : List ℕ) (at to : ℕ) (b : ℕ) (rest : List ℕ) → at < to → to ≤ length text → slice_range text at to ≡ b ∷ rest → IsPlainUnitStepWithin text at to (byte_or_escape_unit b rest)
byte_or_escape_unit_is_plain_step text at to b rest below inside is =
    let u = byte_or_escape_unit b rest in
    let n = length (bytes_of_unit u) in
    let front = bytes_begin_with_byte_or_escape_unit b rest in
    let size : length (slice_range text at to) ≡ to - at = length-take-le (to - at) (drop at text) (omega (arith, length-drop at text)) in
    let within : n ≤ to - at = omega (arith, size, ap length is, ap length front.1, length-append (bytes_of_unit u) front.0) in
    let whole : drop at text ≡ bytes_of_unit u ++ (front.0 ++ drop (to - at) (drop at text)) =
    sym (take-append-drop (to - at) (drop at text)) ∙ ap (λ (t : List ℕ). t ++ drop (to - at) (drop at text)) (is ∙ front.1)
    ∙ append_assoc (bytes_of_unit u) front.0 (drop (to - at) (drop at text)) in
    let behind : drop (at + n) text ≡ front.0 ++ drop (to - at) (drop at text) =
    sym (drop-drop n at text) ∙ ap (drop n) whole ∙ drop_at (bytes_of_unit u) (front.0 ++ drop (to - at) (drop at text)) n refl in
    let left : slice_range text (at + n) to ≡ front.0 =
    ap (λ (t : List ℕ). take (to - (at + n)) t) behind
    ∙ take_at front.0 (drop (to - at) (drop at text)) (to - (at + n)) (omega (arith, size, ap length is, ap length front.1, length-append (bytes_of_unit u) front.0)) in
    record {
      stands = record { inside = omega arith; reads = whole ∙ ap (λ (t : List ℕ). bytes_of_unit u ++ t) (sym behind) };
      inside = omega arith;
      passes = λ units.
          ap (λ (t : List ℕ). units_with_those_of_bytes units t) is
          ∙ units_past_bytes_are_units_of_rest (n - 1) (u ∷ units) rest
          ∙ ap (λ (t : List ℕ). units_with_those_of_bytes (u ∷ units) t) (left_of b rest u n front.0 front.1 refl (unit_has_positive_size u) ∙ sym left);
    }
  where
    left_of : (b : ℕ) (rest : List ℕ) (u : LineUnit) (n : ℕ) (after : List ℕ) → (b ∷ rest) ≡ bytes_of_unit u ++ after → n ≡ length (bytes_of_unit u) → 0 < n → drop (n - 1) rest ≡ after
    left_of b rest u zero after whole same some = absurd (omega arith)
    left_of b rest u (suc m) after whole same some =
        let less : suc m - 1 ≡ m = omega arith in
        ap (λ (k : ℕ). drop k rest) less ∙ ap (drop (suc m)) whole ∙ drop_at (bytes_of_unit u) after (suc m) (sym same)

slice_between_places_begins_with_byte : (text : List ℕ) (at to : ℕ) → at < to → to ≤ length text → (b : ℕ) × (rest : List ℕ) × (slice_range text at to ≡ b ∷ rest)
slice_between_places_begins_with_byte text at to below inside =
    some (slice_range text at to) (omega (arith, length-take-le (to - at) (drop at text) (omega (arith, length-drop at text))))
  where
    some : (xs : List ℕ) → 0 < length xs → (b : ℕ) × (rest : List ℕ) × (xs ≡ b ∷ rest)
    some [] h = absurd (omega arith)
    some (b ∷ rest) h = (b, rest, refl)

pub unit_of_slice_start_is_plain_step : (text : List ℕ) (at to : ℕ) (u : LineUnit) → at < to → to ≤ length text → ((b : ℕ) (rest : List ℕ) → slice_range text at to ≡ b ∷ rest → u ≡ byte_or_escape_unit b rest) → IsPlainUnitStepWithin text at to u
unit_of_slice_start_is_plain_step text at to u below inside is =
    let front = slice_between_places_begins_with_byte text at to below inside in
    subst (λ (v : LineUnit). IsPlainUnitStepWithin text at to v) (sym (is front.0 front.1 front.2)) (byte_or_escape_unit_is_plain_step text at to front.0 front.1 below inside front.2)

-- ---- plain bytes passed at once

ordinary_byte_keeps_units_leading_to : (text : List ℕ) (to : ℕ) (whole : List LineUnit) → to ≤ length text → (at : ℕ) (left next : LeftContext) (b : ℕ) (rest : List ℕ) → AreUnitsLeftLeadingToUnits text at to left whole → slice_range text at to ≡ b ∷ rest → IsOrdinaryByte b → 0 < left.begun → IsLeftContextAfterRun left (b ∷ []) next → AreUnitsLeftLeadingToUnits text (at + 1) to next whole
ordinary_byte_keeps_units_leading_to text to whole inside at left next b rest stands here is some passes =
    let below : at < to = some_below text at to b rest here in
    let unit : byte_or_escape_unit b rest ≡ Byte b = ap (λ (t : Bool). if t then unit_after_backslash rest else Byte b) is.backslash in
    let step : IsPlainUnitStepWithin text at to (Byte b) = subst (λ (u : LineUnit). IsPlainUnitStepWithin text at to u) unit (byte_or_escape_unit_is_plain_step text at to b rest below inside here) in
    record {
      units = Byte b ∷ stands.units;
      knows = context_after_ordinary_byte_describes_units text at b stands.units left next is some step.stands stands.knows passes;
      same = sym (step.passes stands.units) ∙ stands.same;
    }
  where
    some_below : (text : List ℕ) (at to b : ℕ) (rest : List ℕ) → slice_range text at to ≡ b ∷ rest → at < to
    some_below text at to b rest here = by_size (to - at) refl here
      where
        by_size : (n : ℕ) → to - at ≡ n → take n (drop at text) ≡ b ∷ rest → at < to
        by_size zero e h = absurd (cc)
        by_size (suc n) e h = omega arith

slice_after_first_byte_is_rest : (text : List ℕ) (to at b : ℕ) (rest : List ℕ) → slice_range text at to ≡ b ∷ rest → slice_range text (at + 1) to ≡ rest
slice_after_first_byte_is_rest text to at b rest here = by_size (to - at) (drop at text) refl refl here
  where
    by_size : (n : ℕ) (xs : List ℕ) → to - at ≡ n → drop at text ≡ xs → take n xs ≡ b ∷ rest → slice_range text (at + 1) to ≡ rest
    by_size zero xs e f h = absurd (cc)
    by_size (suc n) [] e f h = absurd (cc)
    by_size (suc n) (x ∷ xs) e f h =
        let less : to - (at + 1) ≡ n = omega arith in
        let behind : drop (at + 1) text ≡ xs = sym (drop-drop 1 at text) ∙ ap (drop 1) f in
        ap (λ (m : ℕ). take m (drop (at + 1) text)) less ∙ ap (take n) behind ∙ ap (drop 1) h

ordinary_bytes_carry_units_leading_to : (text : List ℕ) (to : ℕ) (whole : List LineUnit) → to ≤ length text → IsCarriedByOrdinaryBytes (λ at left. AreUnitsLeftLeadingToUnits text at to left whole) (λ at. slice_range text at to)
ordinary_bytes_carry_units_leading_to text to whole inside = record {
  behind = slice_after_first_byte_is_rest text to;
  byte = ordinary_byte_keeps_units_leading_to text to whole inside;
  none = λ at left next stands passes. record { units = stands.units; knows = context_after_empty_run_describes_units text at stands.units left next stands.knows passes; same = stands.same };
}

pub plain_run_keeps_units_leading_to : (text : List ℕ) (at to : ℕ) (left next : LeftContext) (run : List ℕ) (whole : List LineUnit) → to ≤ length text → AreUnitsLeftLeadingToUnits text at to left whole → run ≡ (if left.begun == 0 then [] else plain_prefix_of_bytes (slice_range text at to)) → IsLeftContextAfterRun left run next → AreUnitsLeftLeadingToUnits text (at + length run) to next whole
plain_run_keeps_units_leading_to text at to left next run whole inside stands is passes =
    carried_fact_keeps_after_passed_run (λ at left. AreUnitsLeftLeadingToUnits text at to left whole) (λ at. slice_range text at to) (ordinary_bytes_carry_units_leading_to text to whole inside) at left next run stands is passes

chosen_part_with_byte_is_one_longer : (t : Bool) (b n : ℕ) (xs : List ℕ) → length xs ≤ n → length (if t then b ∷ xs else []) ≤ suc n
chosen_part_with_byte_is_one_longer true b n xs h = omega arith
chosen_part_with_byte_is_one_longer false b n xs h = omega arith

plain_prefix_is_no_longer_than_bytes : (xs : List ℕ) → length (plain_prefix_of_bytes xs) ≤ length xs
plain_prefix_is_no_longer_than_bytes [] = omega arith
plain_prefix_is_no_longer_than_bytes (b ∷ xs) = chosen_part_with_byte_is_one_longer (is_plain_unit_byte b) b (length xs) (plain_prefix_of_bytes xs) (plain_prefix_is_no_longer_than_bytes xs)

-- A run lies before the end.
pub plain_run_ends_within_slice : (text : List ℕ) (at to : ℕ) (t : Bool) (run : List ℕ) → at ≤ to → to ≤ length text → run ≡ (if t then [] else plain_prefix_of_bytes (slice_range text at to)) → at + length run ≤ to
plain_run_ends_within_slice text at to true run below inside is = omega (arith, ap length is)
plain_run_ends_within_slice text at to false run below inside is =
    omega (arith, ap length is, plain_prefix_is_no_longer_than_bytes (slice_range text at to), length-take-le (to - at) (drop at text) (omega (arith, length-drop at text)))

-- all has been passed
pub context_at_end_describes_led_units : (text : List ℕ) (at to : ℕ) (left : LeftContext) (whole : List LineUnit) → to ≤ at → at ≤ to → AreUnitsLeftLeadingToUnits text at to left whole → LeftDescribesUnits text to left whole
context_at_end_describes_led_units text at to left whole past below passes =
    let here : at ≡ to = omega arith in
    let none : to - at ≡ 0 = omega arith in
    let nothing : units_with_those_of_bytes passes.units (slice_range text at to) ≡ passes.units = ap (λ (n : ℕ). units_with_those_of_bytes passes.units (take n (drop at text))) none in
    subst (λ (units : List LineUnit). LeftDescribesUnits text to left units) (sym nothing ∙ passes.same)
    (subst (λ (n : ℕ). LeftDescribesUnits text n left passes.units) here passes.knows)
