use Rattle.sudoers_match.proofs.Common.{[], line_of_row, map, runas_defaults_of_lines, take, ◌≡◌}
use Rattle.sudoers_match.proofs.runas_default_user.has_runas_default.Given as goal

abbrev pub invariant-loop-row : goal.invariant-loop-row
invariant-loop-row l = runas_defaults_of_lines (take l.row-index (map (line_of_row l.lines.tables.now) l.lines.rows.now)) ≡ []
