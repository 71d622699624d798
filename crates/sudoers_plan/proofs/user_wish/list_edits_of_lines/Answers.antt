use Rattle.std.proofs.Common.{rules, ◌≡◌, ◌++◌, ◌∷◌, [], length}
use Rattle.sudoers_tree.specs.Line.{line_of_row}
use Rattle.sudoers_tree.specs.Walk.{spot_of_walk_line}
use Rattle.sudoers_plan.specs.User.{edits_of_user_node}
use Rattle.sudoers_plan.proofs.UserEdits.{step_of_lines}
use Rattle.sudoers_plan.proofs.user_wish.list_edits_of_lines.Goals as goal

pub loop-row-preserved : goal.loop-row-preserved
loop-row-preserved c =
    let user = c.args.leaving.now.user.now in
    let walk = c.args.leaving.now.policy.now.walk in
    let emptied = c.args.leaving.now.emptied.now in
    let read = line_of_row c.lines-lines.result.tables.now in
    let left = c.loop-row.left.now in
    let before = c.in-Some.before.now in
    let row = c.in-Some.row.now in
    let new = c.append_edits_of_line.new.edits in
    let cut : left ≡ before ++ row ∷ [] = search rules in
    let made : new ≡ c.loop-row.edits ++ edits_of_user_node user walk.lines emptied (spot_of_walk_line walk (length before)) (read row).text (read row).node = search rules in
    step_of_lines read user walk emptied left before row c.loop-row.edits new _ cut made c.loop-row.invariant
