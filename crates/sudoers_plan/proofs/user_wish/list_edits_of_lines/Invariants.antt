use Rattle.std.proofs.Common.{◌≡◌, ◌++◌, length, map}
use Rattle.sudoers_tree.specs.Line.{line_of_row}
use Rattle.sudoers_plan.specs.User.{edits_of_user_lines}
use Rattle.sudoers_plan.proofs.user_wish.list_edits_of_lines.Given as goal

abbrev pub invariant-loop-row : goal.invariant-loop-row
invariant-loop-row l =
    l.edits ++ edits_of_user_lines l.leaving.user.now l.leaving.policy.now.walk l.leaving.emptied.now 0 (map (line_of_row l.lines.tables.now) l.left)
    ≡ edits_of_user_lines l.leaving.user.now l.leaving.policy.now.walk l.leaving.emptied.now 0 l.leaving.policy.now.walk.lines

abbrev pub decreases-loop-row : goal.decreases-loop-row
decreases-loop-row l = length l.left
