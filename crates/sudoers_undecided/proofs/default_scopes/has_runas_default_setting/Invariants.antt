use Rattle.std.proofs.Common.{◌≡◌, drop, map}
use Rattle.sudoers_line_rows.specs.Tables.{parameter_in_tables}
use Rattle.sudoers_match.specs.Default.{runas_defaults_in_params}
use Rattle.sudoers_undecided.proofs.default_scopes.has_runas_default_setting.Given as goal

abbrev pub invariant-loop-row : goal.invariant-loop-row
invariant-loop-row l = runas_defaults_in_params (map (parameter_in_tables l.params.tables.now) l.params.rows.now) ≡ runas_defaults_in_params (map (parameter_in_tables l.params.tables.now) (drop l.row-index l.params.rows.now))
