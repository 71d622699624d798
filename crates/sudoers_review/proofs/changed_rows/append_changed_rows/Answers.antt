use Rattle.std.proofs.Common.{◌+◌, ◌≤◌, true, ℕ, drop, get_or, length, ap, ◌∙◌, arith}
use Rattle.std.proofs.lemmas.Result.{on_ok_weaker}
use Rattle.sudoers_compare.specs.FlatSpecs.{placed_row_of_view}
use Rattle.sudoers_review.specs.Views.{marked_rows_of_view}
use Rattle.sudoers_review.proofs.ShownRows.{held_row_stands, held_row_without_mark_stands, line_of_old_row_is_appended, lines_of_last_new_rows_are_left, lines_of_new_rows_are_appended, no_held_row_stands_behind_last}
use Rattle.sudoers_review.proofs.changed_rows.append_changed_rows.Goals.{then-is_marked+in_ok-append_old_row, else-is_marked+in_ok-reached}
use Rattle.sudoers_review.proofs.changed_rows.append_changed_rows.Goals as goal

pub loop-number-preserved : goal.loop-number-preserved
loop-number-preserved c =
    let old = c.args.old.now in
    let new = c.args.new.now in
    let olds = marked_rows_of_view old in
    let news = marked_rows_of_view new in
    let number = c.loop-number.number in
    let reached = c.loop-number.reached in
    let o = c.loop-number.out.text.items in
    elim c.if-is_marked.branch [
      | then-is_marked+in_ok-append_old_row w ↦
          let row = placed_row_of_view (get_or old.rows.now number w.index-old-number.result) in
          let stands = held_row_stands old number w.index-old-number.result true c.is_marked.result c.loop-number-test.true w.if-is_marked.true c.is_marked.ensures in
          line_of_old_row_is_appended c.args.counted old.policy.now new.policy.now o c.if-is_marked.out.text.items (drop number olds) (drop (number + 1) olds) (drop reached news)
          (drop c.if-is_marked.reached news) row stands (ap (λ (v : _). v.text.items) w.out-is ∙ w.in_ok-append_old_row.ensures.line) (ap (λ (n : ℕ). drop n news) w.reached-is)
          ∙ c.loop-number.invariant
      | else-is_marked+in_ok-reached w ↦
          let found = held_row_without_mark_stands old number c.is_marked.result c.loop-number-test.true w.if-is_marked.false c.is_marked.ensures in
          lines_of_new_rows_are_appended c.args.counted old.policy.now new.policy.now o c.if-is_marked.out.text.items (drop number olds) (drop (number + 1) olds) (drop reached news)
          (drop c.if-is_marked.reached news) found.0 found.1 (ap (λ (v : _). v.text.items) w.out-is ∙ w.in_ok-reached.ensures.lines)
          (ap (λ (n : ℕ). drop n news) w.reached-is ∙ w.in_ok-reached.ensures.behind)
          ∙ c.loop-number.invariant
    ]

pub returns-clause-lines : goal.returns-clause-lines
returns-clause-lines c =
    let old = c.args.old.now in
    let new = c.args.new.now in
    let number = c.loop-number.number in
    let o = c.loop-number.out.text.items in
    let end : length old.rows.now ≤ number = omega (arith, c.loop-number-test.false) in
    on_ok_weaker c.append_marked_rows.result (λ e.
    e ∙ lines_of_last_new_rows_are_left c.args.counted old.policy.now new.policy.now o (drop number (marked_rows_of_view old)) (drop c.loop-number.reached (marked_rows_of_view new))
    (no_held_row_stands_behind_last old number end)
    ∙ c.loop-number.invariant) c.append_marked_rows.ensures.lines
