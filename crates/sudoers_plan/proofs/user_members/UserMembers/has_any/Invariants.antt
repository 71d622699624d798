use Rattle.std.proofs.Common.{◌≡◌, length, map}
use Rattle.std.specs.List.{list_any}
use Rattle.std.specs.Option.{option_copied}
use Rattle.sudoers_line_rows.specs.Tables.{member_in_tables}
use Rattle.sudoers_plan.specs.User.{is_member_of_user}
use Rattle.sudoers_plan.proofs.user_members.UserMembers.has_any.Given as goal

abbrev pub invariant-loop-row : goal.invariant-loop-row
invariant-loop-row l =
    list_any (is_member_of_user (option_copied l.self.user) l.self.policy.now.walk.lines l.self.aliases.now) (map (member_in_tables l.members.tables.now) l.left)
    ≡ list_any (is_member_of_user (option_copied l.self.user) l.self.policy.now.walk.lines l.self.aliases.now) (map (member_in_tables l.members.tables.now) l.members.rows.now)

abbrev pub decreases-loop-row : goal.decreases-loop-row
decreases-loop-row l = length l.left
