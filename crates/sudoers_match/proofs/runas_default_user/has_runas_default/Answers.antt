use Rattle.sudoers_match.proofs.Common.{[], ap, line_of_row, map, runas_defaults_in_node, runas_defaults_of_lines, sym, take, ◌++◌, ◌∙◌, ◌≡◌}
use Rattle.sudoers_match.proofs.Passed.{line, line_at}
use Rattle.sudoers_match.proofs.Settings.{defaults_of_one_more_line}
use Rattle.sudoers_match.proofs.runas_default_user.has_runas_default.Goals as goal

pub loop-row-preserved : goal.loop-row-preserved
loop-row-preserved c =
    let t = c.lines-lines.result.tables.now in
    let rows = c.lines-lines.result.rows.now in
    let i = c.loop-row.row-index in
    let none : runas_defaults_in_node (line t rows i _ c.loop-row-test.true c.node_of_row.result c.node_of_row.ensures).node ≡ [] =
    ap runas_defaults_in_node (sym c.node_of_row.ensures) ∙ c.sets_runas_default.ensures c.if-sets_runas_default.false in
    defaults_of_one_more_line (map (line_of_row t) rows) i _ (line_at t rows i _ c.loop-row-test.true c.node_of_row.result c.node_of_row.ensures)
    ∙ ap (λ ds. runas_defaults_of_lines (take i (map (line_of_row t) rows)) ++ ds) none
    ∙ ap (λ ds. ds ++ []) c.loop-row.invariant
