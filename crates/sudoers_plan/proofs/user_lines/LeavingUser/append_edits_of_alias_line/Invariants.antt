use Rattle.std.proofs.Common.{◌≡◌, ◌++◌, length, map}
use Rattle.sudoers_line_rows.specs.Tables.{alias_definition_in_tables}
use Rattle.sudoers_plan.specs.User.{edits_of_user_definitions}
use Rattle.sudoers_plan.proofs.user_lines.LeavingUser.append_edits_of_alias_line.Given as goal

abbrev pub invariant-loop-row : goal.invariant-loop-row
invariant-loop-row l =
    l.edits ++ edits_of_user_definitions l.self.user.now l.self.policy.now.walk.lines l.self.emptied.now l.at 0 (map (alias_definition_in_tables l.defs.tables.now) l.left)
    ≡ l.initial.edits ++ edits_of_user_definitions l.self.user.now l.self.policy.now.walk.lines l.self.emptied.now l.at 0 (map (alias_definition_in_tables l.defs.tables.now) l.defs.rows.now)

abbrev pub decreases-loop-row : goal.decreases-loop-row
decreases-loop-row l = length l.left
