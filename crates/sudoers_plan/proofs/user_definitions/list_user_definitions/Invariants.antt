use Rattle.std.proofs.Common.{◌≡◌, ◌++◌, drop, map}
use Rattle.sudoers_line_rows.specs.Tables.{alias_definition_in_tables}
use Rattle.sudoers_tree.specs.Line.{line_of_row}
use Rattle.sudoers_plan.specs.User.{user_definitions_of_lines}
use Rattle.sudoers_plan.proofs.user_definitions.list_user_definitions.Given as goal

abbrev pub invariant-loop-line : goal.invariant-loop-line
invariant-loop-line l =
    map (alias_definition_in_tables l.lines.tables.now) l.rows.items ++ user_definitions_of_lines (map (line_of_row l.lines.tables.now) (drop l.line-index l.lines.rows.now))
    ≡ user_definitions_of_lines (map (line_of_row l.lines.tables.now) l.lines.rows.now)
