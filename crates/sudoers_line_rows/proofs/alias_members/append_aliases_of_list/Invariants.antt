use Rattle.std.proofs.Common.{◌≡◌, ◌++◌, drop, map}
use Rattle.sudoers_grammar.specs.Listed.{aliases_among_listed, members_listed_as_kind}
use Rattle.sudoers_line_rows.specs.Tables.{member_in_tables}
use Rattle.sudoers_line_rows.proofs.alias_members.append_aliases_of_list.Given as goal

abbrev pub invariant-loop-row : goal.invariant-loop-row
invariant-loop-row l =
    l.found.items ++ aliases_among_listed (members_listed_as_kind l.kind (map (member_in_tables l.members.tables.now) (drop l.row-index l.members.rows.now)))
    ≡ l.initial.found.items ++ aliases_among_listed (members_listed_as_kind l.kind (map (member_in_tables l.members.tables.now) l.members.rows.now))
