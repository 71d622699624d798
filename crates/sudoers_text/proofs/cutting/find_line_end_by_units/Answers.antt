use Rattle.std.proofs.Common.{◌≡◌, ◌+◌, ◌-◌, ◌∙◌, ℕ, List, length, take, drop, Some, None, arith, sym, subst, ap}
use Rattle.std.specs.Prelude.{slice_range}
use Rattle.std.proofs.lemmas.List.{take_rest}
use Rattle.sudoers_text.specs.Unit.{line_end_size}
use Rattle.sudoers_text.specs.Line.{IsLogicalLineBefore, IsUnfinishedLine}
use Rattle.sudoers_text.specs.internal.Left.{model_of_unit}
use Rattle.sudoers_text.proofs.Reading.{HasReadUnitsFromStart, context_describing_units_agrees_with_them, unit_at_place_has_its_bytes, unit_read_from_slice_is_at_place, unit_size_is_positive, reading_at_start_has_no_units, reading_extends_by_unit_at_place, no_unit_within_text_implies_line_end, line_end_at_place_is_within_text, slice_to_line_end_is_logical_line, line_read_to_end_is_logical_line, continuing_text_at_end_is_unfinished}
use Rattle.sudoers_text.proofs.Runs.{reading_extends_by_plain_run}
use Rattle.sudoers_text.proofs.Unique.{line_with_line_end_is_not_unfinished, unfinished_line_read_to_end_continues}
use Rattle.sudoers_text.proofs.cutting.find_line_end_by_units.Goals as goal
use Rattle.sudoers_text.proofs.cutting.find_line_end_by_units.Goals.{After-len-at, After-pass_plain_run-left}

pub loop-unit-init : goal.loop-unit-init
loop-unit-init c = reading_at_start_has_no_units c.args.text.now c.args.start _ c.requires (c.left_of_line_start-left.ensures c.args.text.now c.args.start)

pub pass_unit-left-requires-clause-stands : goal.pass_unit-left-requires-clause-stands
pass_unit-left-requires-clause-stands c =
    let reading = c.loop-unit.invariant in
    unit_at_place_has_its_bytes c.args.text.now c.loop-unit.at reading.before (model_of_unit c.in-Some.unit) reading.to
    (unit_read_from_slice_is_at_place c.args.text.now c.loop-unit.at reading.before (Some (model_of_unit c.in-Some.unit)) (c.in-Some.ensures reading.before (context_describing_units_agrees_with_them _ _ _ _ reading.knows)))

-- the reading behind the unit
behind_unit : (c : goal.After-len-at) → HasReadUnitsFromStart c.args.text.now c.args.start (c.loop-unit.at + c.len-at.result) c.pass_unit-left.result
behind_unit c =
    let reading = c.loop-unit.invariant in
    let unit = model_of_unit c.in-Some.unit in
    let here = unit_read_from_slice_is_at_place c.args.text.now c.loop-unit.at reading.before (Some unit) (c.in-Some.ensures reading.before (context_describing_units_agrees_with_them _ _ _ _ reading.knows)) in
    let family : ℕ → Type 0 = λ n. HasReadUnitsFromStart c.args.text.now c.args.start (c.loop-unit.at + n) c.pass_unit-left.result in
    subst family (sym c.len-at.ensures)
    (reading_extends_by_unit_at_place c.args.text.now c.args.start c.loop-unit.at c.loop-unit.left c.pass_unit-left.result reading unit here (c.pass_unit-left.ensures reading.before reading.knows))

-- the reading behind the run
behind_run : (c : goal.After-pass_plain_run-left) → HasReadUnitsFromStart c.args.text.now c.args.start (c.loop-unit.at + c.len-at.result + length c.find_plain_run_to_pass-run.result.now) c.pass_plain_run-left.result
behind_run c =
    reading_extends_by_plain_run c.args.text.now c.args.start (c.loop-unit.at + c.len-at.result) c.pass_unit-left.result c.pass_plain_run-left.result c.find_plain_run_to_pass-run.result.now
    (behind_unit (goal.at.loop-unit-preserved c).After-len-at)
    c.find_plain_run_to_pass-run.ensures
    (record { item = c.pass_plain_run-left.ensures.item; continues = c.pass_plain_run-left.ensures.continues; begun = c.pass_plain_run-left.ensures.begun })

pub slice_bounds-find_plain_run_to_pass-count : goal.slice_bounds-find_plain_run_to_pass-count
slice_bounds-find_plain_run_to_pass-count c =
    let reading = behind_unit (goal.at.slice_bounds-find_plain_run_to_pass-count c).After-len-at in
    reading.to

pub slice_bounds-find_plain_run_to_pass-start : goal.slice_bounds-find_plain_run_to_pass-start
slice_bounds-find_plain_run_to_pass-start c =
    let reading = behind_unit (goal.at.slice_bounds-find_plain_run_to_pass-start c).After-len-at in
    reading.to

pub loop-unit-smaller : goal.loop-unit-smaller
loop-unit-smaller c =
    let reading = c.loop-unit.invariant in
    let more = behind_run c in
    omega (arith, more.to, unit_size_is_positive (model_of_unit c.in-Some.unit), c.len-at.ensures)

pub loop-unit-preserved : goal.loop-unit-preserved
loop-unit-preserved c = behind_run c

-- how many bytes the line end has
end_size : (text : List ℕ) (at n : ℕ) → n ≡ line_end_size (take (length text - at) (drop at text)) → n ≡ line_end_size (drop at text)
end_size text at n h = h ∙ ap line_end_size (take_rest text at)

pub returns-then-at-text-clause-line : goal.returns-then-at-text-clause-line
returns-then-at-text-clause-line c =
    let reading = c.loop-unit.invariant in
    let text : List ℕ = c.args.text.now in
    let family : ℕ → Type 0 = λ n. IsLogicalLineBefore (slice_range text c.args.start (c.loop-unit.at + n)) (drop (c.loop-unit.at + n) text) in
    subst family (sym (end_size text c.loop-unit.at c.line_end_len.result c.line_end_len.ensures))
    (slice_to_line_end_is_logical_line c.args.text.now c.args.start c.loop-unit.at c.loop-unit.left reading c.if-at-text.true
    (unit_read_from_slice_is_at_place c.args.text.now c.loop-unit.at reading.before None (c.in_default.ensures reading.before (context_describing_units_agrees_with_them _ _ _ _ reading.knows))))

pub returns-else-at-text-clause-line : goal.returns-else-at-text-clause-line
returns-else-at-text-clause-line c = line_read_to_end_is_logical_line c.args.text.now c.args.start c.loop-unit.at c.loop-unit.left c.loop-unit.invariant c.requires c.if-at-text.false

pub returns-then-at-text-clause-later : goal.returns-then-at-text-clause-later
returns-then-at-text-clause-later c =
    let reading = c.loop-unit.invariant in
    let text : List ℕ = c.args.text.now in
    let here = no_unit_within_text_implies_line_end text c.loop-unit.at reading.before c.if-at-text.true
    (unit_read_from_slice_is_at_place c.args.text.now c.loop-unit.at reading.before None (c.in_default.ensures reading.before (context_describing_units_agrees_with_them _ _ _ _ reading.knows))) in
    omega (arith, here.some, reading.from, end_size text c.loop-unit.at c.line_end_len.result c.line_end_len.ensures)

pub returns-then-at-text-clause-inside : goal.returns-then-at-text-clause-inside
returns-then-at-text-clause-inside c =
    let reading = c.loop-unit.invariant in
    let text : List ℕ = c.args.text.now in
    let here = no_unit_within_text_implies_line_end text c.loop-unit.at reading.before c.if-at-text.true
    (unit_read_from_slice_is_at_place c.args.text.now c.loop-unit.at reading.before None (c.in_default.ensures reading.before (context_describing_units_agrees_with_them _ _ _ _ reading.knows))) in
    omega (arith, line_end_at_place_is_within_text text c.loop-unit.at reading.to here, end_size text c.loop-unit.at c.line_end_len.result c.line_end_len.ensures)

pub returns-then-at-text-clause-open_text : goal.returns-then-at-text-clause-open_text
returns-then-at-text-clause-open_text c = λ all. (
  λ e. cc,
  λ unfinished.
      let reading = c.loop-unit.invariant in
      let text : List ℕ = c.args.text.now in
      let size : c.line_end_len.result ≡ line_end_size (drop c.loop-unit.at text) = end_size text c.loop-unit.at c.line_end_len.result c.line_end_len.ensures in
      let family : ℕ → Type 0 = λ n. IsUnfinishedLine (slice_range text c.args.start (c.loop-unit.at + n)) in
      absurd (line_with_line_end_is_not_unfinished text c.args.start c.loop-unit.at c.loop-unit.left reading c.if-at-text.true
      (unit_read_from_slice_is_at_place text c.loop-unit.at reading.before None (c.in_default.ensures reading.before (context_describing_units_agrees_with_them _ _ _ _ reading.knows)))
      (omega (arith, all, size)) (subst family size unfinished)),
)

pub returns-else-at-text-clause-open_text : goal.returns-else-at-text-clause-open_text
returns-else-at-text-clause-open_text c = λ all. (
  continuing_text_at_end_is_unfinished c.args.text.now c.args.start c.loop-unit.at c.loop-unit.left c.loop-unit.invariant c.if-at-text.false,
  unfinished_line_read_to_end_continues c.args.text.now c.args.start c.loop-unit.at c.loop-unit.left c.loop-unit.invariant c.if-at-text.false,
)
