use Rattle.std.proofs.Common.{◌≡◌, ◌++◌, drop, map}
use Rattle.sudoers_text.specs.Found.{tokens_of_line}
use Rattle.sudoers_text.specs.LineMode.{line_mode}
use Rattle.sudoers_line_rows.specs.Tables.{parameter_in_tables}
use Rattle.sudoers_defaults.specs.Refused.{refusals_of_parameters}
use Rattle.sudoers_defaults.proofs.refused.append_refusals_of_parameters.Given as goal

abbrev pub invariant-loop-row : goal.invariant-loop-row
invariant-loop-row l =
    l.refused.items ++ refusals_of_parameters l.known l.number l.text (map (parameter_in_tables l.parameters.tables.now) (drop l.row-index l.parameters.rows.now)) l.rest
    ≡ l.initial.refused.items
    ++ refusals_of_parameters l.known l.number l.text (map (parameter_in_tables l.parameters.tables.now) l.parameters.rows.now) (tokens_of_line (line_mode l.text) l.text)
