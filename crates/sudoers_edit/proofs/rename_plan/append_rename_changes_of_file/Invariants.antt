use Rattle.sudoers_edit.proofs.Common.{drop, line_of_row, lines_of_rows, map, rename_changes_in_file, ◌++◌, ◌≡◌}
use Rattle.sudoers_edit.proofs.rename_plan.append_rename_changes_of_file.Given as goal

abbrev pub invariant-loop-at : goal.invariant-loop-at
invariant-loop-at l =
    l.changes.items ++ rename_changes_in_file l.file l.at l.kind l.name l.fresh (map (line_of_row l.lines.tables.now) (drop l.at l.lines.rows.now))
    ≡ l.initial.changes.items ++ rename_changes_in_file l.file 0 l.kind l.name l.fresh (lines_of_rows l.lines)
