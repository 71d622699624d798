use Rattle.std.proofs.Common.{◌≡◌, ◌++◌, drop, map}
use Rattle.std.specs.Option.{option_copied}
use Rattle.sudoers_line_rows.specs.Tables.{member_in_tables}
use Rattle.sudoers_plan.specs.Numbers.{numbers_of_passing}
use Rattle.sudoers_plan.specs.User.{is_member_of_user}
use Rattle.sudoers_plan.proofs.user_members.UserMembers.list_numbers.Given as goal

abbrev pub invariant-loop-number : goal.invariant-loop-number
invariant-loop-number l =
    l.numbers.items
    ++ numbers_of_passing (is_member_of_user (option_copied l.self.user) l.self.policy.now.walk.lines l.self.aliases.now) l.number (map (member_in_tables l.members.tables.now) (drop l.number l.members.rows.now))
    ≡ numbers_of_passing (is_member_of_user (option_copied l.self.user) l.self.policy.now.walk.lines l.self.aliases.now) 0 (map (member_in_tables l.members.tables.now) l.members.rows.now)
