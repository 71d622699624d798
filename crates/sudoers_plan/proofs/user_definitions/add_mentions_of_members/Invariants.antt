use Rattle.std.proofs.Common.{◌≡◌, ℕ, List, drop, map}
use Rattle.sudoers_line_rows.specs.Tables.{member_in_tables}
use Rattle.sudoers_names.specs.Numbers.{numbers_of_name}
use Rattle.sudoers_plan.specs.Mentions.{numbers_with_mentions}
use Rattle.sudoers_plan.proofs.user_definitions.add_mentions_of_members.Given as goal

abbrev pub invariant-loop-row : goal.invariant-loop-row
invariant-loop-row l =
    (name : List ℕ) → numbers_with_mentions name l.number (map (member_in_tables l.members.tables.now) (drop l.row-index l.members.rows.now)) (numbers_of_name name l.mentions)
    ≡ numbers_with_mentions name l.number (map (member_in_tables l.members.tables.now) l.members.rows.now) (numbers_of_name name l.initial.mentions)
