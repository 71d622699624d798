use Rattle.sudoers_edit.proofs.Common.{LineChange, ap, arith, file_number_of_change, inl, inr, length, line_number_of_change, lines_of_numbered_file, lines_put_count_of_change, lines_taken_count_of_change}
use Rattle.sudoers_edit.proofs.Common.{slice_index_or, subst, sym, ℕ, ◌+◌, ◌∙◌, ◌≡◌, ◌≤◌}
use Rattle.sudoers_edit.proofs.BackLemmas.{AreLineCountsAtChange, inverse_of_next_change_continues_inverse, line_number_of_change_is_within_file, change_moves_at_most_one_line}
use Rattle.sudoers_edit.proofs.LawsApplied.{loaded_file_lines_are_within_text_limit}
use Rattle.sudoers_edit.proofs.edit_reversal.inverse_of_line_changes.Goals as goal
use Rattle.sudoers_edit.proofs.edit_reversal.inverse_of_line_changes.Goals.{then-file-last, else-file-last, in-Put, in-Swap, in-Take}

pub inverse_of_line_change-requires : goal.inverse_of_line_change-requires
inverse_of_line_change-requires c =
    let change : LineChange = c.change-item.result in
    let count : ℕ → ℕ = λ f. length (lines_of_numbered_file c.args.policy.now.files f) in
    let item : LineChange = slice_index_or c.args.changes.now c.loop-change.change-index change in
    let within : line_number_of_change item ≤ count (file_number_of_change item) =
    line_number_of_change_is_within_file c.args.changes.now c.loop-change.change-index change 0 (count (file_number_of_change item)) c.loop-change-test.true (c.requires.order (file_number_of_change item)) in
    let here : line_number_of_change change ≤ count (file_number_of_change change) = subst (λ (x : LineChange). line_number_of_change x ≤ count (file_number_of_change x)) (sym c.change-item.is) within in
    omega (arith, here, loaded_file_lines_are_within_text_limit c.args.policy.now c.allocator_of-alloc.ensures (file_number_of_change change), put_few, c.loop-change-test.true)
  where
    put_few : c.if-file-last.put ≤ c.loop-change.change-index
    put_few = elim c.if-file-last.branch [
      | then-file-last w ↦ omega (arith, w.put-is)
      | else-file-last w ↦ omega (arith, w.put-is, c.loop-change.invariant.0)
    ]

pub loop-change-preserved : goal.loop-change-preserved
loop-change-preserved c = (
  omega (arith, few.0, puts, (change_moves_at_most_one_line change).0),
  omega (arith, few.1, takes, (change_moves_at_most_one_line change).1),
  inverse_of_next_change_continues_inverse c.args.policy.now.files c.args.changes.now c.loop-change.back.items c.push.new.self.items
      c.loop-change.last c.loop-change.put c.loop-change.taken c.if-file-last.last c.if-file-last.put c.if-file-last.taken c.match-change.put c.match-change.taken c.loop-change.change-index
      change c.in_ok-inverse_of_line_change.field-0 change c.loop-change.invariant.2 c.loop-change-test.true c.change-item.is counts c.in_ok-inverse_of_line_change.ensures puts takes c.in_ok-push.ensures.items,
)
  where
    change : LineChange
    change = c.change-item.result

    counts : AreLineCountsAtChange (file_number_of_change change) c.loop-change.last c.loop-change.put c.loop-change.taken c.if-file-last.last c.if-file-last.put c.if-file-last.taken
    counts = elim c.if-file-last.branch [
      | then-file-last w ↦ inl (λ is. w.if-file-last.true (c.file_number_of_line_change-file.ensures ∙ is), w.last-is ∙ c.file_number_of_line_change-file.ensures, w.put-is, w.taken-is)
      | else-file-last w ↦ inr (sym c.file_number_of_line_change-file.ensures ∙ w.if-file-last.false, w.last-is, w.put-is, w.taken-is)
    ]

    few : (c.if-file-last.put ≤ c.loop-change.change-index) × (c.if-file-last.taken ≤ c.loop-change.change-index)
    few = elim counts [
      | inl w ↦ (omega (arith, w.2), omega (arith, w.3))
      | inr w ↦ (omega (arith, w.2, c.loop-change.invariant.0), omega (arith, w.3, c.loop-change.invariant.1))
    ]

    puts : c.match-change.put ≡ c.if-file-last.put + lines_put_count_of_change change
    puts = elim c.match-change.branch [
      | in-Put v ↦ omega (arith, v.put-is, ap lines_put_count_of_change v.in-Put.is)
      | in-Swap v ↦ omega (arith, v.put-is, ap lines_put_count_of_change v.in-Swap.is)
      | in-Take v ↦ omega (arith, v.put-is, ap lines_put_count_of_change v.in-Take.is)
    ]

    takes : c.match-change.taken ≡ c.if-file-last.taken + lines_taken_count_of_change change
    takes = elim c.match-change.branch [
      | in-Put v ↦ omega (arith, v.taken-is, ap lines_taken_count_of_change v.in-Put.is)
      | in-Swap v ↦ omega (arith, v.taken-is, ap lines_taken_count_of_change v.in-Swap.is)
      | in-Take v ↦ omega (arith, v.taken-is, ap lines_taken_count_of_change v.in-Take.is)
    ]
