use Rattle.sudoers_edit.proofs.Common.{drop, line_replaced_at_offsets, ◌++◌, ◌≡◌}
use Rattle.sudoers_edit.proofs.rename_plan.replace_bytes_at_offsets.Given as goal

abbrev pub invariant-loop-start : goal.invariant-loop-start
invariant-loop-start l =
    l.text.items ++ line_replaced_at_offsets l.from l.size l.others (drop l.start-index l.starts) l.line ≡ line_replaced_at_offsets 0 l.size l.others l.starts l.line
