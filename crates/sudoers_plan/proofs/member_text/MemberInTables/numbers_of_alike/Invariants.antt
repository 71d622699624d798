use Rattle.std.proofs.Common.{◌≡◌, ◌++◌, drop, map}
use Rattle.sudoers_line_rows.specs.Alike.{is_same_member}
use Rattle.sudoers_line_rows.specs.Tables.{member_in_tables}
use Rattle.sudoers_plan.specs.Numbers.{numbers_of_passing}
use Rattle.sudoers_plan.proofs.member_text.MemberInTables.numbers_of_alike.Given as goal

abbrev pub invariant-loop-number : goal.invariant-loop-number
invariant-loop-number l =
    l.numbers.items
    ++ numbers_of_passing (is_same_member (member_in_tables l.self.tables.now l.self.row.now)) l.number (map (member_in_tables l.members.tables.now) (drop l.number l.members.rows.now))
    ≡ numbers_of_passing (is_same_member (member_in_tables l.self.tables.now l.self.row.now)) 0 (map (member_in_tables l.members.tables.now) l.members.rows.now)
