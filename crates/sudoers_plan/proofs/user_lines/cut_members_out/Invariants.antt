use Rattle.std.proofs.Common.{◌≡◌, ◌++◌, length, map}
use Rattle.std.specs.Option.{option_copied}
use Rattle.sudoers_line_rows.specs.Tables.{member_in_tables}
use Rattle.sudoers_plan.specs.User.{bytes_without_members, is_member_of_user, line_without_members}
use Rattle.sudoers_plan.proofs.user_lines.cut_members_out.Given as goal

abbrev pub invariant-loop-row : goal.invariant-loop-row
invariant-loop-row l =
    l.line ++ bytes_without_members (is_member_of_user (option_copied l.going.user) l.going.policy.now.walk.lines l.going.aliases.now) l.text l.has_stayed l.from (map (member_in_tables l.members.tables.now) l.left)
    ≡ line_without_members (is_member_of_user (option_copied l.going.user) l.going.policy.now.walk.lines l.going.aliases.now) l.text (map (member_in_tables l.members.tables.now) l.members.rows.now)

abbrev pub decreases-loop-row : goal.decreases-loop-row
decreases-loop-row l = length l.left
