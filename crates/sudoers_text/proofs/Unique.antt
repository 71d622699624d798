-- A text has one reading.
use Rattle.std.proofs.Common.{◌≡◌, ℕ, ◌+◌, ◌<◌, ◌≤◌, true, List, [], ◌∷◌, ◌++◌, length, refl, sym, ap, subst, ◌∙◌, arith, drop, Some, None, inl, inr, append-nil}
use Rattle.std.proofs.lemmas.List.{length-append, append_assoc, append_cancel_left, drop_all}
use Rattle.std.proofs.lemmas.Bool.{cases_lt, cases_eq}
use Rattle.sudoers_text.specs.Unit.{LineUnit, bytes_of_unit, bytes_of_reversed_units, AreUnitsBefore, unit_at, line_end_size}
use Rattle.sudoers_text.specs.Line.{IsLogicalLineBefore, IsUnfinishedLine, IsLineEndingOrTextEnd, by_lf, by_crlf, at_end, has_open_last_unit, join, AreLogicalLines, AreLinesOfText}
use Rattle.std.specs.Prelude.{slice_range}
use Rattle.sudoers_text.specs.declared.text_units.LeftContext.{LeftContext}
use Rattle.sudoers_text.proofs.Reading.{HasReadUnitsFromStart, unit_size_is_positive, no_unit_within_text_implies_line_end, slice_to_ending_is_units_and_ending, text_after_line_end_is_rest, slice_read_to_text_end_is_units}

-- as many units that spell one text are the same
equally_many_units_of_text_are_equal : (us vs : List LineUnit) (a b : List ℕ) → length us ≡ length vs → AreUnitsBefore us a → AreUnitsBefore vs b → bytes_of_reversed_units us ++ a ≡ bytes_of_reversed_units vs ++ b → (us ≡ vs) × (a ≡ b)
equally_many_units_of_text_are_equal [] [] a b n x y e = (refl, e)
equally_many_units_of_text_are_equal [] (v ∷ vs) a b n x y e = absurd (omega arith)
equally_many_units_of_text_are_equal (u ∷ us) [] a b n x y e = absurd (omega arith)
equally_many_units_of_text_are_equal (u ∷ us) (v ∷ vs) a b n x y e =
    let below = equally_many_units_of_text_are_equal us vs (bytes_of_unit u ++ a) (bytes_of_unit v ++ b) (omega arith) x.1 y.1
    (sym (append_assoc (bytes_of_reversed_units us) (bytes_of_unit u) a) ∙ e ∙ append_assoc (bytes_of_reversed_units vs) (bytes_of_unit v) b) in
    let here : unit_at us (bytes_of_unit u ++ a) ≡ unit_at vs (bytes_of_unit v ++ b) =
    ap (λ (ws : List LineUnit). unit_at ws (bytes_of_unit u ++ a)) below.0 ∙ ap (λ (xs : List ℕ). unit_at vs xs) below.1 in
    let found : Some u ≡ Some v = sym x.0 ∙ here ∙ y.0 in
    let same : u ≡ v = cc in (
      ap (λ (w : LineUnit). w ∷ us) same ∙ ap (λ (ws : List LineUnit). v ∷ ws) below.0,
      append_cancel_left (bytes_of_unit u) a b (below.1 ∙ ap (λ (w : LineUnit). bytes_of_unit w ++ b) (sym same)),
    )

-- units behind which none begins are no fewer than others that spell the text
stopped_units_are_no_fewer_than_others : (us vs : List LineUnit) (a b : List ℕ) → length us < length vs → AreUnitsBefore us a → AreUnitsBefore vs b → bytes_of_reversed_units us ++ a ≡ bytes_of_reversed_units vs ++ b → unit_at us a ≡ None → ⊥
stopped_units_are_no_fewer_than_others us [] a b lt x y e none = omega arith
stopped_units_are_no_fewer_than_others us (v ∷ vs) a b lt x y e none =
    let whole : bytes_of_reversed_units us ++ a ≡ bytes_of_reversed_units vs ++ (bytes_of_unit v ++ b) = e ∙ append_assoc (bytes_of_reversed_units vs) (bytes_of_unit v) b in
    elim (cases_eq (length us) (length vs)) [
      | inl n ↦
          let same = equally_many_units_of_text_are_equal us vs a (bytes_of_unit v ++ b) n x y.1 whole in
          let found : None ≡ Some v = sym none ∙ ap (λ (ws : List LineUnit). unit_at ws a) same.0 ∙ ap (λ (xs : List ℕ). unit_at vs xs) same.1 ∙ y.0 in
          cc
      | inr ne ↦ stopped_units_are_no_fewer_than_others us vs a (bytes_of_unit v ++ b) (omega arith) x y.1 whole none
    ]

-- units behind which none begins are the same
pub stopped_units_of_text_are_equal : (us vs : List LineUnit) (a b : List ℕ) → AreUnitsBefore us a → AreUnitsBefore vs b → bytes_of_reversed_units us ++ a ≡ bytes_of_reversed_units vs ++ b → unit_at us a ≡ None → unit_at vs b ≡ None → (us ≡ vs) × (a ≡ b)
stopped_units_of_text_are_equal us vs a b x y e none none2 =
    elim (cases_eq (length us) (length vs)) [
      | inl n ↦ equally_many_units_of_text_are_equal us vs a b n x y e
      | inr ne ↦
          let more : length us < length vs → ⊥ = λ lt. stopped_units_are_no_fewer_than_others us vs a b lt x y e none in
          let less : length vs < length us → ⊥ = λ lt. stopped_units_are_no_fewer_than_others vs us b a lt y x (sym e) none2 in
          absurd (elim (cases_lt (length us) (length vs)) [
            | inl lt ↦ more lt
            | inr ge ↦ less (omega arith)
          ])
    ]

no_unit_begins_at_line_ending : {us : List LineUnit} {ending rest : List ℕ} → IsLineEndingOrTextEnd us ending rest → unit_at us (ending ++ rest) ≡ None
no_unit_begins_at_line_ending by_lf = refl
no_unit_begins_at_line_ending by_crlf = refl
no_unit_begins_at_line_ending at_end = refl

line_ending_and_rest_are_unique : {us : List LineUnit} {ending rest ending2 rest2 : List ℕ} → IsLineEndingOrTextEnd us ending rest → IsLineEndingOrTextEnd us ending2 rest2 → ending ++ rest ≡ ending2 ++ rest2 → (ending ≡ ending2) × (rest ≡ rest2)
line_ending_and_rest_are_unique by_lf by_lf e = (refl, cc)
line_ending_and_rest_are_unique by_lf by_crlf e = absurd (cc)
line_ending_and_rest_are_unique by_lf at_end e = absurd (cc)
line_ending_and_rest_are_unique by_crlf by_lf e = absurd (cc)
line_ending_and_rest_are_unique by_crlf by_crlf e = (refl, cc)
line_ending_and_rest_are_unique by_crlf at_end e = absurd (cc)
line_ending_and_rest_are_unique at_end by_lf e = absurd (cc)
line_ending_and_rest_are_unique at_end by_crlf e = absurd (cc)
line_ending_and_rest_are_unique at_end at_end e = (refl, refl)

-- No logical line begins another.
pub logical_line_at_text_start_is_unique : (l r m s : List ℕ) → IsLogicalLineBefore l r → IsLogicalLineBefore m s → l ++ r ≡ m ++ s → (l ≡ m) × (r ≡ s)
logical_line_at_text_start_is_unique l r m s x y e =
    let front : bytes_of_reversed_units x.units ++ (x.ending ++ r) ≡ l ++ r = sym (append_assoc (bytes_of_reversed_units x.units) x.ending r) ∙ ap (λ (t : List ℕ). t ++ r) (sym x.text) in
    let front2 : bytes_of_reversed_units y.units ++ (y.ending ++ s) ≡ m ++ s = sym (append_assoc (bytes_of_reversed_units y.units) y.ending s) ∙ ap (λ (t : List ℕ). t ++ s) (sym y.text) in
    let same = stopped_units_of_text_are_equal x.units y.units (x.ending ++ r) (y.ending ++ s) x.each y.each (front ∙ e ∙ sym front2) (no_unit_begins_at_line_ending x.ends) (no_unit_begins_at_line_ending y.ends) in
    let ends2 : IsLineEndingOrTextEnd x.units y.ending s = subst (λ (us : List LineUnit). IsLineEndingOrTextEnd us y.ending s) (sym same.0) y.ends in
    let ending = line_ending_and_rest_are_unique x.ends ends2 same.1 in
    (x.text ∙ ap (λ (us : List LineUnit). bytes_of_reversed_units us ++ x.ending) same.0 ∙ ap (λ (t : List ℕ). bytes_of_reversed_units y.units ++ t) ending.0 ∙ sym y.text, ending.1)

line_with_ending_is_not_empty : {us : List LineUnit} {ending rest : List ℕ} → IsLineEndingOrTextEnd us ending rest → 0 < length (bytes_of_reversed_units us ++ ending)
line_with_ending_is_not_empty {us} by_lf = omega (arith, length-append (bytes_of_reversed_units us) (10 ∷ []))
line_with_ending_is_not_empty {us} by_crlf = omega (arith, length-append (bytes_of_reversed_units us) (13 ∷ 10 ∷ []))
line_with_ending_is_not_empty (at_end {u} {units}) = omega (arith, length-append (bytes_of_reversed_units units ++ bytes_of_unit u) [], length-append (bytes_of_reversed_units units) (bytes_of_unit u), unit_size_is_positive u)

-- a line is not empty
pub logical_line_has_positive_size : (l r : List ℕ) → IsLogicalLineBefore l r → 0 < length l
logical_line_has_positive_size l r x = omega (arith, ap length x.text, line_with_ending_is_not_empty x.ends)

logical_lines_of_join_are_unique : (ls ms : List (List ℕ)) → AreLogicalLines ls → AreLogicalLines ms → join ls ≡ join ms → ls ≡ ms
logical_lines_of_join_are_unique [] [] x y e = refl
logical_lines_of_join_are_unique [] (m ∷ ms) x y e = absurd (omega (arith, ap length e, length-append m (join ms), logical_line_has_positive_size m (join ms) y.0))
logical_lines_of_join_are_unique (l ∷ ls) [] x y e = absurd (omega (arith, ap length e, length-append l (join ls), logical_line_has_positive_size l (join ls) x.0))
logical_lines_of_join_are_unique (l ∷ ls) (m ∷ ms) x y e =
    let same = logical_line_at_text_start_is_unique l (join ls) m (join ms) x.0 y.0 e in
    ap (λ (t : List ℕ). t ∷ ls) same.0 ∙ ap (λ (ts : List (List ℕ)). m ∷ ts) (logical_lines_of_join_are_unique ls ms x.1 y.1 same.1)

-- A text has one list of logical lines.
pub lines_of_text_are_unique : (text : List ℕ) (ls ms : List (List ℕ)) → AreLinesOfText text ls → AreLinesOfText text ms → ls ≡ ms
lines_of_text_are_unique text ls ms x y = logical_lines_of_join_are_unique ls ms x.each y.each (x.joined ∙ sym y.joined)

-- A line that ends in a line end is not open.
pub line_with_line_end_is_not_unfinished : (text : List ℕ) (start at : ℕ) (left : LeftContext) (reading : HasReadUnitsFromStart text start at left) → at < length text → unit_at reading.before (drop at text) ≡ None → at + line_end_size (drop at text) ≡ length text → IsUnfinishedLine (slice_range text start (at + line_end_size (drop at text))) → ⊥
line_with_line_end_is_not_unfinished text start at left reading inside none all unfinished =
    let here = no_unit_within_text_implies_line_end text at reading.before inside none in
    let done : here.rest ≡ [] = sym (text_after_line_end_is_rest text at here) ∙ drop_all (at + line_end_size (drop at text)) text (omega arith) in
    let last : drop at text ≡ here.ending = here.whole ∙ ap (λ (t : List ℕ). here.ending ++ t) done ∙ append-nil here.ending in
    let whole : bytes_of_reversed_units unfinished.units ++ [] ≡ bytes_of_reversed_units reading.before ++ here.ending =
    append-nil (bytes_of_reversed_units unfinished.units) ∙ sym unfinished.text ∙ slice_to_ending_is_units_and_ending text start at left reading here in
    let each : AreUnitsBefore reading.before here.ending = subst (λ (t : List ℕ). AreUnitsBefore reading.before t) last reading.each in
    let stops : unit_at reading.before here.ending ≡ None = subst (λ (t : List ℕ). unit_at reading.before t ≡ None) last none in
    let same = stopped_units_of_text_are_equal unfinished.units reading.before [] here.ending unfinished.each each whole refl stops in
    absurd (omega (arith, here.some, here.size, ap length same.1))

pub unfinished_line_read_to_end_continues : (text : List ℕ) (start at : ℕ) (left : LeftContext) (reading : HasReadUnitsFromStart text start at left) → length text ≤ at → IsUnfinishedLine (slice_range text start at) → left.continues ≡ true
unfinished_line_read_to_end_continues text start at left reading past unfinished =
    let done : drop at text ≡ [] = drop_all at text past in
    let each : AreUnitsBefore reading.before [] = subst (λ (t : List ℕ). AreUnitsBefore reading.before t) done reading.each in
    let whole : bytes_of_reversed_units unfinished.units ++ [] ≡ bytes_of_reversed_units reading.before ++ [] =
    append-nil (bytes_of_reversed_units unfinished.units) ∙ sym unfinished.text ∙ slice_read_to_text_end_is_units text start at left reading past ∙ sym (append-nil (bytes_of_reversed_units reading.before)) in
    let same = stopped_units_of_text_are_equal unfinished.units reading.before [] [] unfinished.each each whole refl refl in
    reading.knows.continues (omega (arith, reading.to)) ∙ ap (λ (us : List LineUnit). has_open_last_unit us) (sym same.0) ∙ unfinished.last
