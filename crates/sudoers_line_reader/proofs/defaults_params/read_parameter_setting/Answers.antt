use Rattle.std.proofs.Common.{◌≡◌, ℕ, List, Some, false, rules, ap₂}
use Rattle.sudoers_grammar.specs.Node.{Param}
use Rattle.sudoers_grammar.specs.Seen.{model_of_token_part}
use Rattle.sudoers_line_rows.specs.declared.rows.ParamRow.{ParamRow}
use Rattle.sudoers_line_reader.specs.Reader.{Read}
use Rattle.sudoers_line_reader.specs.Descent.{set_parameter, parameter_setting_reader}
use Rattle.sudoers_line_rows.specs.Tables.{parameter_in_tables}
use Rattle.sudoers_line_rows.proofs.Growth.{table_growth_is_transitive}
use Rattle.sudoers_line_reader.proofs.TokenRows.{lasting_row_is_read_for_good}
use Rattle.sudoers_line_reader.proofs.defaults_params.read_parameter_setting.Goals as goal

pub returns-clause-reads : goal.returns-clause-reads
unfolding parameter_setting_reader
returns-clause-reads c =
    let n = model_of_token_part c.args.part.now in
    let says = set_parameter n c.in_ok-operator.operator (model_of_token_part c.in_ok-written.written) in
    let made : List ℕ → List ℕ → Param = λ name value. record { negated = false; name = name; setting = Some (record { operator = c.in_ok-operator.operator; value = value }) } in
    let row : ParamRow = record { negated = false; name = c.in_ok-name.name; setting = Some (record { operator = c.in_ok-operator.operator; value = c.in_ok-value.value }) } in
    let read : parameter_setting_reader n c.args.cursor.now ≡ Read says c.expect_parameter_value.new.self = search rules in
    lasting_row_is_read_for_good parameter_in_tables c.store_parameter_value.new.tables row says (parameter_setting_reader n c.args.cursor.now) c.expect_parameter_value.new.self
    (λ u g. ap₂ made (c.in_ok-name.ensures.keeps u (table_growth_is_transitive _ _ _ c.in_ok-value.ensures.grown g)) (c.in_ok-value.ensures.keeps u g)) read
