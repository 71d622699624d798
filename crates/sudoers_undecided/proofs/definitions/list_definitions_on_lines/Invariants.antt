use Rattle.std.proofs.Common.{◌≡◌, ◌++◌, map, drop}
use Rattle.sudoers_tree.specs.Definition.{definitions_from_line_number}
use Rattle.sudoers_tree.specs.Line.{line_of_row}
use Rattle.sudoers_undecided.specs.internal.Definitions.{kind_and_members_held, kind_and_members_of_definition}
use Rattle.sudoers_undecided.proofs.definitions.list_definitions_on_lines.Given as goal

abbrev pub invariant-loop-line : goal.invariant-loop-line
invariant-loop-line l =
    map kind_and_members_held l.definitions.items ++ map kind_and_members_of_definition (definitions_from_line_number l.line (map (line_of_row l.lines.tables.now) (drop l.line l.lines.rows.now)))
    ≡ map kind_and_members_of_definition (definitions_from_line_number 0 (map (line_of_row l.lines.tables.now) l.lines.rows.now))
