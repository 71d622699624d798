use Rattle.std.proofs.Common.{◌+◌, ◌≤◌, true, drop, get_or, length, ap, ◌∙◌, arith}
use Rattle.sudoers_compare.specs.FlatSpecs.{placed_row_of_view}
use Rattle.sudoers_review.specs.ChangedText.{line_of_new_row}
use Rattle.sudoers_review.specs.Views.{marked_rows_of_view}
use Rattle.sudoers_review.proofs.ShownRows.{held_row_stands, held_row_without_mark_stands, marked_line_is_appended, no_held_row_stands_behind_last, no_line_is_left, unmarked_row_has_no_line}
use Rattle.sudoers_review.proofs.changed_rows.append_marked_rows.Goals.{then-is_marked+in_ok-append_new_row, else-is_marked}
use Rattle.sudoers_review.proofs.changed_rows.append_marked_rows.Goals as goal

pub loop-number-preserved : goal.loop-number-preserved
loop-number-preserved c =
    let new = c.args.new.now in
    let rows = marked_rows_of_view new in
    let number = c.loop-number.number in
    let o = c.loop-number.out.text.items in
    let line = line_of_new_row c.args.counted new.policy.now in
    elim c.if-is_marked.branch [
      | then-is_marked+in_ok-append_new_row w ↦
          let row = placed_row_of_view (get_or new.rows.now number w.index-new-number.result) in
          let stands = held_row_stands new number w.index-new-number.result true c.is_marked.result c.loop-number-test.true w.if-is_marked.true c.is_marked.ensures in
          marked_line_is_appended line o c.if-is_marked.out.text.items (drop number rows) (drop (number + 1) rows) row stands
          (ap (λ (v : _). v.text.items) w.out-is ∙ w.in_ok-append_new_row.ensures.line)
          ∙ c.loop-number.invariant
      | else-is_marked w ↦
          let found = held_row_without_mark_stands new number c.is_marked.result c.loop-number-test.true w.if-is_marked.false c.is_marked.ensures in
          unmarked_row_has_no_line line o c.if-is_marked.out.text.items (drop number rows) (drop (number + 1) rows) found.0 found.1 (ap (λ (v : _). v.text.items) w.out-is)
          ∙ c.loop-number.invariant
    ]

pub returns-clause-lines : goal.returns-clause-lines
returns-clause-lines c =
    let new = c.args.new.now in
    let number = c.loop-number.number in
    let end : length new.rows.now ≤ number = omega (arith, c.loop-number-test.false) in
    no_line_is_left (line_of_new_row c.args.counted new.policy.now) c.loop-number.out.text.items (drop number (marked_rows_of_view new)) (no_held_row_stands_behind_last new number end)
    ∙ c.loop-number.invariant
