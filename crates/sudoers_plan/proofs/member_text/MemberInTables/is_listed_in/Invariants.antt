use Rattle.std.proofs.Common.{◌≡◌, length, map}
use Rattle.sudoers_line_rows.specs.Tables.{member_in_tables}
use Rattle.sudoers_plan.specs.GivenText.{is_member_listed}
use Rattle.sudoers_plan.proofs.member_text.MemberInTables.is_listed_in.Given as goal

abbrev pub invariant-loop-row : goal.invariant-loop-row
invariant-loop-row l =
    is_member_listed (member_in_tables l.self.tables.now l.self.row.now) (map (member_in_tables l.members.tables.now) l.left)
    ≡ is_member_listed (member_in_tables l.self.tables.now l.self.row.now) (map (member_in_tables l.members.tables.now) l.members.rows.now)

abbrev pub decreases-loop-row : goal.decreases-loop-row
decreases-loop-row l = length l.left
