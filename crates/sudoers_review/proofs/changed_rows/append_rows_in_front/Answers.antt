use Rattle.std.proofs.Common.{◌+◌, ◌≤◌, true, drop, get_or, length, ◌∙◌, arith}
use Rattle.sudoers_compare.specs.FlatSpecs.{placed_row_of_view}
use Rattle.sudoers_review.specs.ChangedText.{line_of_new_row}
use Rattle.sudoers_review.specs.Views.{marked_rows_of_view}
use Rattle.sudoers_review.proofs.ShownRows.{held_row_stands, held_row_without_mark_stands, last_row_ends_lines_in_front, marked_line_in_front_is_appended, no_held_row_stands_behind_last, no_row_is_behind_last, rows_behind_marked_row_are_same, rows_behind_unmarked_row_are_rest, unmarked_row_ends_lines_in_front}
use Rattle.sudoers_review.proofs.changed_rows.append_rows_in_front.Goals.{then-loop-number-test+else-is_marked, else-loop-number-test}
use Rattle.sudoers_review.proofs.changed_rows.append_rows_in_front.Goals as goal

pub loop-number-preserved : goal.loop-number-preserved
loop-number-preserved c =
    let new = c.args.new.now in
    let rows = marked_rows_of_view new in
    let number = c.loop-number.number in
    let line = line_of_new_row c.args.counted new.policy.now in
    let row = placed_row_of_view (get_or new.rows.now number c.index-new-number.result) in
    let stands = held_row_stands new number c.index-new-number.result true c.is_marked.result c.loop-number-test.true c.if-is_marked.true c.is_marked.ensures in (
      marked_line_in_front_is_appended line c.loop-number.out.text.items c.append_new_row.new.out.text.items (drop number rows) (drop (number + 1) rows) row stands c.in_ok-append_new_row.ensures.line
          ∙ c.loop-number.invariant.0,
      rows_behind_marked_row_are_same (drop number rows) (drop (number + 1) rows) row stands ∙ c.loop-number.invariant.1,
    )

pub returns-then-number-new-clause-lines : goal.returns-then-number-new-clause-lines
returns-then-number-new-clause-lines c =
    let new = c.args.new.now in
    let rows = marked_rows_of_view new in
    let number = c.loop-number.number in
    elim c.loop-number-test.branch [
      | then-loop-number-test+else-is_marked w ↦
          let found = held_row_without_mark_stands new number w.is_marked.result c.if-number-new.true w.if-is_marked.false w.is_marked.ensures in
          unmarked_row_ends_lines_in_front (line_of_new_row c.args.counted new.policy.now) c.loop-number.out.text.items (drop number rows) (drop (number + 1) rows) found.0 found.1
          ∙ c.loop-number.invariant.0
      | else-loop-number-test w ↦ absurd (omega (arith, w.loop-number-test.false, c.if-number-new.true))
    ]

pub returns-then-number-new-clause-behind : goal.returns-then-number-new-clause-behind
returns-then-number-new-clause-behind c =
    let new = c.args.new.now in
    let rows = marked_rows_of_view new in
    let number = c.loop-number.number in
    elim c.loop-number-test.branch [
      | then-loop-number-test+else-is_marked w ↦
          let found = held_row_without_mark_stands new number w.is_marked.result c.if-number-new.true w.if-is_marked.false w.is_marked.ensures in
          rows_behind_unmarked_row_are_rest (drop number rows) (drop (number + 1) rows) found.0 found.1 ∙ c.loop-number.invariant.1
      | else-loop-number-test w ↦ absurd (omega (arith, w.loop-number-test.false, c.if-number-new.true))
    ]

pub returns-else-number-new-clause-lines : goal.returns-else-number-new-clause-lines
returns-else-number-new-clause-lines c =
    let new = c.args.new.now in
    let number = c.loop-number.number in
    let end : length new.rows.now ≤ number = omega (arith, c.if-number-new.false) in
    last_row_ends_lines_in_front (line_of_new_row c.args.counted new.policy.now) c.loop-number.out.text.items (drop number (marked_rows_of_view new)) (no_held_row_stands_behind_last new number end)
    ∙ c.loop-number.invariant.0

pub returns-else-number-new-clause-behind : goal.returns-else-number-new-clause-behind
returns-else-number-new-clause-behind c =
    let new = c.args.new.now in
    let number = c.loop-number.number in
    let end : length new.rows.now ≤ number = omega (arith, c.if-number-new.false) in
    no_row_is_behind_last (drop number (marked_rows_of_view new)) (no_held_row_stands_behind_last new number end) ∙ c.loop-number.invariant.1
