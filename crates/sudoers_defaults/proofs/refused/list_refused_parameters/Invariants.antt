use Rattle.std.proofs.Common.{◌≡◌, ◌++◌, drop, map}
use Rattle.sudoers_tree.specs.Line.{line_of_row}
use Rattle.sudoers_defaults.specs.Refused.{refusals_of_lines}
use Rattle.sudoers_defaults.proofs.refused.list_refused_parameters.Given as goal

abbrev pub invariant-loop-number : goal.invariant-loop-number
invariant-loop-number l =
    l.refused.items ++ refusals_of_lines l.known l.number (map (line_of_row l.lines.tables.now) (drop l.number l.lines.rows.now))
    ≡ refusals_of_lines l.known 0 (map (line_of_row l.lines.tables.now) l.lines.rows.now)
