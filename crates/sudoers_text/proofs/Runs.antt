-- Runs of plain bytes, read at once.
use Rattle.std.proofs.Common.{◌≡◌, ℕ, zero, suc, ◌+◌, ◌-◌, ◌<◌, ◌≤◌, Bool, true, false, ◌&&◌, ◌||◌, List, [], ◌∷◌, length, take, drop, get_or, refl, sym, ap, subst, ◌∙◌, arith, Some, inl, inr}
use Rattle.std.specs.Prelude.{◌==◌, if◌then◌else◌}
use Rattle.std.proofs.lemmas.List.{drop-drop, take_rest}
use Rattle.std.proofs.lemmas.Bool.{not-true, or_parts, and_right, ne_eqb, cases_Bool}
use Rattle.std.proofs.lemmas.Bool.Decides.{eqb_tells}
use Rattle.sudoers_text.specs.declared.text_units.LeftContext.{LeftContext}
use Rattle.std.specs.Str.{bytes_eq}
use Rattle.sudoers_text.specs.Unit.{LineUnit, Byte, unit_at, is_id_position_after_units, bytes_of_units_after_leading_gap, defaults_word, is_comma_colon_or_equals, is_empty, is_gap_unit}
use Rattle.sudoers_text.specs.internal.Left.{LeftDescribesUnits, UnitStandsAt}
use Rattle.sudoers_text.specs.internal.Run.{is_plain_unit_byte, plain_prefix_of_bytes, is_blank_or_sign_byte, is_id_position_after_run}
use Rattle.sudoers_text.proofs.Units.{AreLastBytesBeforePlace, begun_line_extends_or_stays_empty}
use Rattle.sudoers_text.proofs.Reading.{HasReadUnitsFromStart, unit_at_place_has_its_bytes, reading_extends_by_unit_at_place}

last_byte_tells_id_position_after_run : (item : Bool) (xs : List ℕ) (n : ℕ) → n < length xs → is_id_position_after_run item (take (suc n) xs) ≡ (if is_blank_or_sign_byte (get_or xs n 0) then is_id_position_after_run item (take n xs) else is_comma_colon_or_equals (get_or xs n 0))
last_byte_tells_id_position_after_run item [] n l = absurd (omega arith)
last_byte_tells_id_position_after_run item (b ∷ xs) zero l = refl
last_byte_tells_id_position_after_run item (b ∷ xs) (suc n) l = last_byte_tells_id_position_after_run (if is_blank_or_sign_byte b then item else is_comma_colon_or_equals b) xs n (omega arith)

-- One byte more: it keeps what the others tell, or it alone tells whether an ID may begin behind it.
pub last_byte_tells_id_position_after_prefix : (item : Bool) (xs : List ℕ) (n : ℕ) → 0 < n → n ≤ length xs → is_id_position_after_run item (take n xs) ≡ (if is_blank_or_sign_byte (get_or xs (n - 1) 0) then is_id_position_after_run item (take (n - 1) xs) else is_comma_colon_or_equals (get_or xs (n - 1) 0))
last_byte_tells_id_position_after_prefix item xs zero some l = absurd (omega arith)
last_byte_tells_id_position_after_prefix item xs (suc n) some l =
    let same : n ≡ suc n - 1 = omega arith in
    subst (λ (k : ℕ). is_id_position_after_run item (take (suc n) xs) ≡ (if is_blank_or_sign_byte (get_or xs k 0) then is_id_position_after_run item (take k xs) else is_comma_colon_or_equals (get_or xs k 0))) same
    (last_byte_tells_id_position_after_run item xs n (omega arith))

-- a plain byte passes none of the tests
pub record IsOrdinaryByte (b : ℕ) : Type 0 where
  pub lf : (b == 10) ≡ false
  pub cr : (b == 13) ≡ false
  pub backslash : (b == 92) ≡ false
  pub quote : (b == 34) ≡ false
  pub hash : (b == 35) ≡ false
  pub greater : (b == 62) ≡ false

plain_unit_byte_is_ordinary_byte : (b : ℕ) → is_plain_unit_byte b ≡ true → IsOrdinaryByte b
plain_unit_byte_is_ordinary_byte b h =
    let a = or_parts (b == 10 || b == 13 || b == 92 || b == 34 || b == 35) (b == 62) (not-true _ h) in
    let c = or_parts (b == 10 || b == 13 || b == 92 || b == 34) (b == 35) a.0 in
    let d = or_parts (b == 10 || b == 13 || b == 92) (b == 34) c.0 in
    let e = or_parts (b == 10 || b == 13) (b == 92) d.0 in
    let f = or_parts (b == 10) (b == 13) e.0 in
    record {
      lf = f.0;
      cr = f.1;
      backslash = e.1;
      quote = d.1;
      hash = c.1;
      greater = a.1;
    }

-- a plain byte is a unit of its own
ordinary_byte_is_unit_of_its_own : (before : List LineUnit) (b : ℕ) (rest : List ℕ) → IsOrdinaryByte b → unit_at before (b ∷ rest) ≡ Some (Byte b)
ordinary_byte_is_unit_of_its_own before b rest is =
    let lf : (b == 10) ≡ false = is.lf in
    let cr : (b == 13) ≡ false = is.cr in
    let backslash : (b == 92) ≡ false = is.backslash in
    let quote : (b == 34) ≡ false = is.quote in
    let hash : (b == 35) ≡ false = is.hash in
    rw (lf, cr, backslash, quote, hash) refl

disjunction_with_false_conjunct_is_same : (a b c : Bool) → b ≡ false → a ≡ (a || (b && c))
disjunction_with_false_conjunct_is_same true b c is = refl
disjunction_with_false_conjunct_is_same false b c is = sym (ap (λ (t : Bool). t && c) is)

-- what stands left behind plain bytes
pub record IsLeftContextAfterRun (left : LeftContext) (run : List ℕ) (next : LeftContext) : Type 0 where
  pub item : next.item ≡ is_id_position_after_run left.item run
  pub continues : next.continues ≡ (is_empty run && left.continues)
  pub begun : next.begun ≡ left.begun + length run

pub context_after_ordinary_byte_describes_units : (text : List ℕ) (at b : ℕ) (before : List LineUnit) (left next : LeftContext) → IsOrdinaryByte b → 0 < left.begun → UnitStandsAt text at (Byte b) → LeftDescribesUnits text at left before → IsLeftContextAfterRun left (b ∷ []) next → LeftDescribesUnits text (at + 1) next (Byte b ∷ before)
context_after_ordinary_byte_describes_units text at b before left next is some stands knows passes =
    let same : (if left.begun == 0 && is_gap_unit (Byte b) then 0 else left.begun + 1) ≡ next.begun =
    ap (λ (t : Bool). if t && is_gap_unit (Byte b) then 0 else left.begun + 1) (ne_eqb left.begun 0 (λ none. omega arith)) ∙ sym passes.begun in
    let family : ℕ → Type 0 = λ m. AreLastBytesBeforePlace text (at + 1) m (bytes_of_units_after_leading_gap (Byte b ∷ before)) in
    let begins = subst family same (begun_line_extends_or_stays_empty text at left.begun (Byte b) before (knows.within, knows.size, knows.begins) stands) in
    record {
      item = passes.item
          ∙ ap (λ (t : Bool). if is_blank_or_sign_byte b then t else is_comma_colon_or_equals b) knows.item
          ∙ ap (λ (t : Bool). if is_blank_or_sign_byte b then is_id_position_after_units before else t) (disjunction_with_false_conjunct_is_same (is_comma_colon_or_equals b) (b == 62) (bytes_eq (bytes_of_units_after_leading_gap before) defaults_word) is.greater);
      continues = λ _. passes.continues ∙ sym is.backslash;
      within = begins.0;
      size = begins.1;
      begins = begins.2;
    }

-- Nothing passed tells nothing new.
pub context_after_empty_run_describes_units : (text : List ℕ) (at : ℕ) (before : List LineUnit) (left next : LeftContext) → LeftDescribesUnits text at left before → IsLeftContextAfterRun left [] next → LeftDescribesUnits text at next before
context_after_empty_run_describes_units text at before left next knows passes =
    let same : left.begun ≡ next.begun = omega (arith, passes.begun) in
    let begins = subst (λ (m : ℕ). AreLastBytesBeforePlace text at m (bytes_of_units_after_leading_gap before)) same (knows.within, knows.size, knows.begins) in
    record {
      item = passes.item ∙ knows.item;
      continues = λ all. passes.continues ∙ knows.continues all;
      within = begins.0;
      size = begins.1;
      begins = begins.2;
    }

-- What holds of a place and of what is known there, behind a plain byte and where nothing is passed. bytes: what stands at a
-- place.
pub record IsCarriedByOrdinaryBytes (P : ℕ → LeftContext → Type 0) (bytes : ℕ → List ℕ) : Type 0 where
  pub behind : (at b : ℕ) (rest : List ℕ) → bytes at ≡ b ∷ rest → bytes (at + 1) ≡ rest
  pub byte : (at : ℕ) (left next : LeftContext) (b : ℕ) (rest : List ℕ) → P at left → bytes at ≡ b ∷ rest → IsOrdinaryByte b → 0 < left.begun → IsLeftContextAfterRun left (b ∷ []) next → P (at + 1) next
  pub none : (at : ℕ) (left next : LeftContext) → P at left → IsLeftContextAfterRun left [] next → P at next

carried_fact_keeps_after_empty_run : (P : ℕ → LeftContext → Type 0) (bytes : ℕ → List ℕ) → IsCarriedByOrdinaryBytes P bytes → (at : ℕ) (left next : LeftContext) → P at left → IsLeftContextAfterRun left [] next → P (at + 0) next
carried_fact_keeps_after_empty_run P bytes carried at left next holds passes =
    let place : at ≡ at + 0 = omega arith in
    subst (λ (n : ℕ). P n next) place (carried.none at left next holds passes)

-- one plain byte, and then those behind it
carried_fact_goes_on_through_run : (P : ℕ → LeftContext → Type 0) (at : ℕ) (left next : LeftContext) (b : ℕ) (run : List ℕ) → IsLeftContextAfterRun left (b ∷ run) next → ((middle : LeftContext) → IsLeftContextAfterRun left (b ∷ []) middle → 0 < middle.begun → IsLeftContextAfterRun middle run next → P (at + 1 + length run) next) → P (at + length (b ∷ run)) next
carried_fact_goes_on_through_run P at left next b run passes read =
    let middle : LeftContext = record { item = if is_blank_or_sign_byte b then left.item else is_comma_colon_or_equals b; continues = false; begun = left.begun + 1 } in
    let place : at + 1 + length run ≡ at + length (b ∷ run) = omega arith in
    let here : IsLeftContextAfterRun left (b ∷ []) middle = record { item = refl; continues = refl; begun = refl } in
    let later : IsLeftContextAfterRun middle run next = record {
      item = passes.item;
      continues = passes.continues ∙ sym (and_right (is_empty run) false refl);
      begun = omega (arith, passes.begun);
    } in
    subst (λ (n : ℕ). P n next) place (read middle here (omega arith) later)

-- It holds behind the plain bytes at a place.
carried_fact_keeps_after_plain_prefix : (P : ℕ → LeftContext → Type 0) (bytes : ℕ → List ℕ) → IsCarriedByOrdinaryBytes P bytes → (at : ℕ) (left next : LeftContext) (xs : List ℕ) → P at left → bytes at ≡ xs → 0 < left.begun → IsLeftContextAfterRun left (plain_prefix_of_bytes xs) next → P (at + length (plain_prefix_of_bytes xs)) next
carried_fact_keeps_after_plain_prefix P bytes carried at left next [] holds here some passes = carried_fact_keeps_after_empty_run P bytes carried at left next holds passes
carried_fact_keeps_after_plain_prefix P bytes carried at left next (b ∷ rest) holds here some passes =
    let family : List ℕ → Type 0 = λ run. IsLeftContextAfterRun left run next → P (at + length run) next in
    elim (cases_Bool (is_plain_unit_byte b)) [
      | inl is ↦
          let some_part : plain_prefix_of_bytes (b ∷ rest) ≡ b ∷ plain_prefix_of_bytes rest = ap (λ (t : Bool). if t then b ∷ plain_prefix_of_bytes rest else []) is in
          subst family (sym some_part) (λ passing.
          carried_fact_goes_on_through_run P at left next b (plain_prefix_of_bytes rest) passing (λ middle first begun later.
          carried_fact_keeps_after_plain_prefix P bytes carried (at + 1) middle next rest (carried.byte at left middle b rest holds here (plain_unit_byte_is_ordinary_byte b is) some first) (carried.behind at b rest here) begun later)) passes
      | inr isnt ↦
          let no_part : plain_prefix_of_bytes (b ∷ rest) ≡ [] = ap (λ (t : Bool). if t then b ∷ plain_prefix_of_bytes rest else []) isnt in
          subst family (sym no_part) (λ passing. carried_fact_keeps_after_empty_run P bytes carried at left next holds passing) passes
    ]

-- It holds behind what is passed at a place; before the line has begun that is nothing.
pub carried_fact_keeps_after_passed_run : (P : ℕ → LeftContext → Type 0) (bytes : ℕ → List ℕ) → IsCarriedByOrdinaryBytes P bytes → (at : ℕ) (left next : LeftContext) (run : List ℕ) → P at left → run ≡ (if left.begun == 0 then [] else plain_prefix_of_bytes (bytes at)) → IsLeftContextAfterRun left run next → P (at + length run) next
carried_fact_keeps_after_passed_run P bytes carried at left next run holds is passes =
    let of : Bool → List ℕ = λ t. if t then [] else plain_prefix_of_bytes (bytes at) in
    let family : List ℕ → Type 0 = λ xs. IsLeftContextAfterRun left xs next → P (at + length xs) next in
    let cases : Bool → Type 0 = λ t. family (of t) in
    subst family (sym is)
    (elim (eqb_tells left.begun 0) [
      | inl w ↦ subst cases (sym w.0) (λ passing. carried_fact_keeps_after_empty_run P bytes carried at left next holds passing)
      | inr w ↦ subst cases (sym w.0) (λ passing. carried_fact_keeps_after_plain_prefix P bytes carried at left next (bytes at) holds refl (omega (arith, w.1)) passing)
    ]) passes

-- ---- a line read

-- one plain byte read
reading_extends_by_ordinary_byte : (text : List ℕ) (start at : ℕ) (left next : LeftContext) (b : ℕ) (rest : List ℕ) → HasReadUnitsFromStart text start at left → drop at text ≡ b ∷ rest → IsOrdinaryByte b → 0 < left.begun → IsLeftContextAfterRun left (b ∷ []) next → HasReadUnitsFromStart text start (at + 1) next
reading_extends_by_ordinary_byte text start at left next b rest reading here is some passes =
    let unit : unit_at reading.before (drop at text) ≡ Some (Byte b) = ap (λ (xs : List ℕ). unit_at reading.before xs) here ∙ ordinary_byte_is_unit_of_its_own reading.before b rest is in
    let stands = unit_at_place_has_its_bytes text at reading.before (Byte b) reading.to unit in
    reading_extends_by_unit_at_place text start at left next reading (Byte b) unit (context_after_ordinary_byte_describes_units text at b reading.before left next is some stands reading.knows passes)

-- nothing read
reading_keeps_after_empty_run : (text : List ℕ) (start at : ℕ) (left next : LeftContext) → HasReadUnitsFromStart text start at left → IsLeftContextAfterRun left [] next → HasReadUnitsFromStart text start at next
reading_keeps_after_empty_run text start at left next reading passes = record {
  before = reading.before;
  each = reading.each;
  whole = reading.whole;
  knows = context_after_empty_run_describes_units text at reading.before left next reading.knows passes;
  from = reading.from;
  to = reading.to;
}

reading_is_carried_by_ordinary_bytes : (text : List ℕ) (start : ℕ) → IsCarriedByOrdinaryBytes (λ at left. HasReadUnitsFromStart text start at left) (λ at. drop at text)
reading_is_carried_by_ordinary_bytes text start = record {
  behind = λ at b rest here. sym (drop-drop 1 at text) ∙ ap (λ (xs : List ℕ). drop 1 xs) here;
  byte = reading_extends_by_ordinary_byte text start;
  none = reading_keeps_after_empty_run text start;
}

pub reading_extends_by_plain_run : (text : List ℕ) (start at : ℕ) (left next : LeftContext) (run : List ℕ) → HasReadUnitsFromStart text start at left → run ≡ (if left.begun == 0 then [] else plain_prefix_of_bytes (take (length text - at) (drop at text))) → IsLeftContextAfterRun left run next → HasReadUnitsFromStart text start (at + length run) next
reading_extends_by_plain_run text start at left next run reading is passes =
    let whole : run ≡ (if left.begun == 0 then [] else plain_prefix_of_bytes (drop at text)) =
    is ∙ ap (λ (xs : List ℕ). if left.begun == 0 then [] else plain_prefix_of_bytes xs) (take_rest text at) in
    carried_fact_keeps_after_passed_run (λ at left. HasReadUnitsFromStart text start at left) (λ at. drop at text) (reading_is_carried_by_ordinary_bytes text start) at left next run reading whole passes
