use Rattle.sudoers_edit.proofs.Common.{List, Some, ap, arith, length, line_texts_of_file, not, slice_get, sym, ℕ, ◌-◌, ◌∙◌, ◌≡◌, ◌≤◌}
use Rattle.sudoers_edit.proofs.EditLemmas.{move_to_same_place_keeps_ended_lines, read_moved_line_decides_open_line, read_last_line_decides_open_line}
use Rattle.sudoers_edit.proofs.LineLemmas.{missing_item_is_at_or_past_end}
use Rattle.sudoers_edit.proofs.line_edits.leaves_open_line_after_move.Goals as goal
use Rattle.sudoers_edit.proofs.line_edits.leaves_open_line_after_move.Goals.{then-to-last, else-to-last}

pub returns-then-from-to : goal.returns-then-from-to
returns-then-from-to c =
    move_to_same_place_keeps_ended_lines (line_texts_of_file c.args.policy.now c.args.file) c.args.from c.args.to c.if-from-to.true c.requires.from c.line_count-last.ensures.ended

pub returns-in-Some : goal.returns-in-Some
returns-in-Some c =
    let ls : List (List ℕ) = line_texts_of_file c.args.policy.now c.args.file in
    let ended = c.line_count-last.ensures.ended in
    let line : List ℕ = c.in-Some.line.now in
    let before : ℕ = c.if-to-last.before in
    let here : slice_get ls before ≡ Some line = sym c.in-Some.ensures in
    let last : c.line_count-last.result - 1 ≡ length ls - 1 = omega (arith, c.line_count-last.ensures.count) in
    ap not c.ends_in_lf.ensures
    ∙ elim c.if-to-last.branch [
      | then-to-last w ↦ read_moved_line_decides_open_line ls c.args.from c.args.to before (c.line_count-last.result - 1) line c.requires.from last w.if-to-last.true w.before-is here ended
      | else-to-last w ↦ read_last_line_decides_open_line ls c.args.from c.args.to before (c.line_count-last.result - 1) line c.requires.from c.requires.to c.if-from-to.false last w.if-to-last.false w.before-is here ended
    ]

pub returns-in-None : goal.returns-in-None
returns-in-None c =
    let ls : List (List ℕ) = line_texts_of_file c.args.policy.now c.args.file in
    let past : length ls ≤ c.if-to-last.before = missing_item_is_at_or_past_end ls c.if-to-last.before c.in-None.ensures in
    elim c.if-to-last.branch [
      | then-to-last w ↦ absurd (omega (arith, past, c.requires.from, w.before-is))
      | else-to-last w ↦ absurd (omega (arith, past, c.requires.from, c.line_count-last.ensures.count, w.before-is))
    ]
