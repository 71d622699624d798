use Rattle.std.proofs.Common.{rules, ◌≡◌, ◌++◌, ◌∷◌, [], length}
use Rattle.sudoers_line_rows.specs.Tables.{alias_definition_in_tables}
use Rattle.sudoers_plan.specs.User.{edits_of_user_definition}
use Rattle.sudoers_plan.proofs.UserEdits.{step_of_definitions}
use Rattle.sudoers_plan.proofs.user_lines.LeavingUser.append_edits_of_alias_line.Goals as goal

pub loop-row-preserved : goal.loop-row-preserved
loop-row-preserved c =
    let user = c.args.self.now.user.now in
    let lines = c.args.self.now.policy.now.walk.lines in
    let emptied = c.args.self.now.emptied.now in
    let read = alias_definition_in_tables c.args.defs.now.tables.now in
    let left = c.loop-row.left.now in
    let before = c.in-Some.before.now in
    let row = c.in-Some.row.now in
    let new = c.append_edits_of_definition.new.edits in
    let cut : left ≡ before ++ row ∷ [] = search rules in
    let made : new ≡ c.loop-row.edits ++ edits_of_user_definition user lines emptied c.args.at (length before) (read row) = search rules in
    step_of_definitions read user lines emptied c.args.at left before row c.loop-row.edits new _ cut made c.loop-row.invariant
