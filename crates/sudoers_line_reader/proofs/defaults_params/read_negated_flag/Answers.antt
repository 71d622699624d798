use Rattle.std.proofs.Common.{◌≡◌, rules}
use Rattle.sudoers_grammar.specs.Seen.{model_of_token_part}
use Rattle.sudoers_line_reader.specs.Reader.{Read}
use Rattle.sudoers_line_reader.specs.Descent.{flag_parameter, negatable_flag_reader}
use Rattle.sudoers_line_rows.specs.Tables.{parameter_in_tables}
use Rattle.sudoers_line_reader.proofs.TokenRows.{lasting_row_is_read_for_good}
use Rattle.sudoers_line_reader.proofs.defaults_params.read_negated_flag.Goals as goal

pub returns-clause-reads : goal.returns-clause-reads
unfolding negatable_flag_reader
returns-clause-reads c =
    let says = flag_parameter c.read_negation_signs-negated.result (model_of_token_part c.in_ok-part.part) in
    let read : negatable_flag_reader c.args.cursor.now ≡ Read says c.expect_parameter_name.new.self = search rules in
    lasting_row_is_read_for_good parameter_in_tables c.store_flag_parameter.new.tables c.in_ok-row.row says (negatable_flag_reader c.args.cursor.now) c.expect_parameter_name.new.self c.in_ok-row.ensures.keeps read
