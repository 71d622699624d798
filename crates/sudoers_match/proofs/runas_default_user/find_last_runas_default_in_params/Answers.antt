use Rattle.sudoers_match.proofs.Common.{Bor, List, ap, drop, last_item_of, map, option_map, option_or, parameter_in_tables, runas_default_in_param, runas_defaults_in_params, sym, ℕ, ◌+◌, ◌∙◌}
use Rattle.sudoers_match.proofs.Lasts.{option_or_none_is_option, option_map_distributes_over_option_or, last_more, last_all}
use Rattle.sudoers_match.proofs.runas_default_user.find_last_runas_default_in_params.Goals as goal

abbrev now : Bor (List ℕ) → List ℕ
now name = name.now

pub loop-row-init : goal.loop-row-init
loop-row-init c = option_or_none_is_option (last_item_of (runas_defaults_in_params (map (parameter_in_tables c.args.params.now.tables.now) c.args.params.now.rows.now)))

pub loop-row-preserved : goal.loop-row-preserved
loop-row-preserved c =
    let t = c.args.params.now.tables.now in
    let rows = c.args.params.now.rows.now in
    let rest = last_item_of (runas_defaults_in_params (map (parameter_in_tables t) (drop (c.loop-row.row-index + 1) rows))) in
    ap (λ z. option_or rest (option_map now z)) c.or-latest.ensures
    ∙ ap (option_or rest) (option_map_distributes_over_option_or now c.read_runas_default_param.result c.loop-row.latest)
    ∙ ap (λ z. option_or rest (option_or z (option_map now c.loop-row.latest))) (c.read_runas_default_param.ensures ∙ ap runas_default_in_param c.parameter_of_row.ensures)
    ∙ last_more (parameter_in_tables t) runas_default_in_param rows c.loop-row.row-index _ (option_map now c.loop-row.latest) c.loop-row-test.true
    ∙ c.loop-row.invariant

pub returns : goal.returns
returns c = sym (last_all (parameter_in_tables c.args.params.now.tables.now) runas_default_in_param c.args.params.now.rows.now c.loop-row.row-index (option_map now c.loop-row.latest) c.loop-row-test.false) ∙ c.loop-row.invariant
