use Rattle.std.proofs.Common.{◌≡◌, ◌++◌, drop, map}
use Rattle.sudoers_tree.specs.Line.{line_of_row}
use Rattle.sudoers_forms.specs.SudoRs.{rs_forms_of_lines}
use Rattle.sudoers_forms.proofs.sudo_rs_refusal.list_forms_for_sudo_rs.Given as goal

abbrev pub invariant-loop-number : goal.invariant-loop-number
invariant-loop-number l =
    l.refused.items ++ rs_forms_of_lines l.number (map (line_of_row l.lines.tables.now) (drop l.number l.lines.rows.now))
    ≡ rs_forms_of_lines 0 (map (line_of_row l.lines.tables.now) l.lines.rows.now)
