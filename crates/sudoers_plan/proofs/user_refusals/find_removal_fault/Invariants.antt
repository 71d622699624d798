use Rattle.std.proofs.Common.{◌≡◌, drop, map}
use Rattle.sudoers_tree.specs.Line.{line_of_row}
use Rattle.sudoers_plan.specs.User.{first_removal_fault}
use Rattle.sudoers_plan.proofs.user_refusals.find_removal_fault.Given as goal

abbrev pub invariant-loop-number : goal.invariant-loop-number
invariant-loop-number l =
    first_removal_fault l.even_denials l.leaving.user.now l.leaving.policy.now.walk l.his l.leaving.emptied.now l.number (map (line_of_row l.lines.tables.now) (drop l.number l.lines.rows.now))
    ≡ first_removal_fault l.even_denials l.leaving.user.now l.leaving.policy.now.walk l.his l.leaving.emptied.now 0 l.leaving.policy.now.walk.lines
