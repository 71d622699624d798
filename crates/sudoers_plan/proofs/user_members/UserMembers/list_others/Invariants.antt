use Rattle.std.proofs.Common.{◌≡◌, ◌++◌, drop, map, not}
use Rattle.std.specs.List.{filter}
use Rattle.std.specs.Option.{option_copied}
use Rattle.sudoers_line_rows.specs.Tables.{member_in_tables}
use Rattle.sudoers_plan.specs.User.{is_member_of_user}
use Rattle.sudoers_plan.proofs.user_members.UserMembers.list_others.Given as goal

abbrev pub invariant-loop-row : goal.invariant-loop-row
invariant-loop-row l =
    map (member_in_tables l.members.tables.now) l.others.items
    ++ filter (λ m. not (is_member_of_user (option_copied l.self.user) l.self.policy.now.walk.lines l.self.aliases.now m)) (map (member_in_tables l.members.tables.now) (drop l.row-index l.members.rows.now))
    ≡ filter (λ m. not (is_member_of_user (option_copied l.self.user) l.self.policy.now.walk.lines l.self.aliases.now m)) (map (member_in_tables l.members.tables.now) l.members.rows.now)
