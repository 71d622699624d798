use Rattle.std.proofs.Common.{◌≡◌, ◌++◌, drop, map}
use Rattle.std.specs.Option.{option_map}
use Rattle.sudoers_line_rows.specs.Tables.{parameter_in_tables, scope_in_tables}
use Rattle.sudoers_compare.specs.FlatDefaults.{flat_runas_default_in_tables, flat_runas_defaults_in_params}
use Rattle.sudoers_compare.proofs.flat_defaults.append_flat_defaults_of_params.Given as goal

-- The settings so far, and those of the parameters still to come.
abbrev pub invariant-loop-row : goal.invariant-loop-row
invariant-loop-row l =
    map (flat_runas_default_in_tables l.source.lines.tables.now) l.settings.items
    ++ flat_runas_defaults_in_params l.source.policy.now (option_map (scope_in_tables l.source.lines.tables.now) l.scope) (map (parameter_in_tables l.source.lines.tables.now) (drop l.row-index l.rows))
    ≡ map (flat_runas_default_in_tables l.source.lines.tables.now) l.initial.settings.items
    ++ flat_runas_defaults_in_params l.source.policy.now (option_map (scope_in_tables l.source.lines.tables.now) l.scope) (map (parameter_in_tables l.source.lines.tables.now) l.rows)
