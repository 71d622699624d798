use Rattle.sudoers_edit.proofs.Common.{List, ap, ap₂, arith, drop, drop_more, line_replaced_at_offsets, slice_index_or, sym, take, ℕ, ◌++◌, ◌+◌, ◌-◌, ◌∙◌, ◌≡◌}
use Rattle.sudoers_edit.proofs.RenameLemmas.{replacement_continues_at_next_offset}
use Rattle.sudoers_edit.proofs.rename_plan.replace_bytes_at_offsets.Goals as goal

pub loop-start-preserved : goal.loop-start-preserved
loop-start-preserved c =
    let line : List ℕ = c.args.line.now in
    let i : ℕ = c.loop-start.start-index in
    let start : ℕ = slice_index_or c.args.starts.now i 0 in
    let kept : c.take_first_bytes.result.now ≡ take (start - c.loop-start.from) (drop c.loop-start.from line) =
    c.take_first_bytes.ensures ∙ ap₂ take c.saturating_sub.ensures c.drop_leading_bytes.ensures in
    let text : c.extend_from_slice-in-loop-start.new.self.items ≡ (c.loop-start.text.items ++ take (start - c.loop-start.from) (drop c.loop-start.from line)) ++ c.args.others.now =
    c.in_ok-extend_from_slice-2.ensures.items
    ∙ ap (λ z. z ++ c.args.others.now) (c.in_ok-extend_from_slice.ensures.items ∙ ap (λ z. c.loop-start.text.items ++ z) kept) in
    replacement_continues_at_next_offset c.loop-start.text.items c.extend_from_slice-in-loop-start.new.self.items c.loop-start.from c.saturating_add-from.result start c.args.size 18446744073709551615
    c.args.others.now (drop (i + 1) c.args.starts.now) line text c.saturating_add-from.ensures (omega arith)
    ∙ ap (λ z. c.loop-start.text.items ++ line_replaced_at_offsets c.loop-start.from c.args.size c.args.others.now z line) (sym (drop_more c.args.starts.now i 0 c.loop-start-test.true))
    ∙ c.loop-start.invariant
