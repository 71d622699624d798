use Rattle.std.proofs.Common.{◌+◌, ◌++◌, ◌∙◌, List, ap, drop, map}
use Rattle.std.specs.Option.{option_map}
use Rattle.sudoers_line_rows.specs.Tables.{parameter_in_tables, scope_in_tables}
use Rattle.laws_compare.specs.Content.{FlatRunasDefault}
use Rattle.sudoers_compare.specs.FlatDefaults.{flat_runas_default_in_tables, flat_runas_defaults_in_params}
use Rattle.sudoers_compare.proofs.FlatSettings.{one_more_param_is_flat}
use Rattle.sudoers_compare.proofs.flat_defaults.append_flat_defaults_of_params.Goals as goal

pub loop-row-preserved : goal.loop-row-preserved
loop-row-preserved c =
    let t = c.args.source.now.lines.tables.now in
    let lines = c.args.source.now.policy.now in
    let scope = option_map (scope_in_tables t) c.args.scope in
    let rows = c.rows_in-rows.result.now in
    let i = c.loop-row.row-index in
    ap (λ (settings : List FlatRunasDefault). settings ++ flat_runas_defaults_in_params lines scope (map (parameter_in_tables t) (drop (i + 1) rows))) c.in_ok-append_flat_default_of_param.ensures
    ∙ one_more_param_is_flat (parameter_in_tables t) lines scope rows i _ (map (flat_runas_default_in_tables t) c.loop-row.settings.items) c.loop-row-test.true
    ∙ c.loop-row.invariant
