use Rattle.std.proofs.Common.{◌≡◌, ◌++◌, drop, flat_map, map}
use Rattle.sudoers_grammar.specs.Listed.{aliases_among_listed, listed_members_of_command}
use Rattle.sudoers_line_rows.specs.Tables.{command_in_tables}
use Rattle.sudoers_line_rows.proofs.alias_members.append_aliases_of_commands.Given as goal

abbrev pub invariant-loop-row : goal.invariant-loop-row
invariant-loop-row l =
    l.found.items ++ aliases_among_listed (flat_map listed_members_of_command (map (command_in_tables l.commands.tables.now) (drop l.row-index l.commands.rows.now)))
    ≡ l.initial.found.items ++ aliases_among_listed (flat_map listed_members_of_command (map (command_in_tables l.commands.tables.now) l.commands.rows.now))
