use Rattle.std.proofs.Common.{◌≡◌, rules, false}
use Rattle.sudoers_grammar.specs.Seen.{model_of_token_part}
use Rattle.sudoers_line_reader.specs.Reader.{Read}
use Rattle.sudoers_line_reader.specs.Descent.{flag_parameter, named_parameter_reader}
use Rattle.sudoers_line_rows.specs.Tables.{parameter_in_tables}
use Rattle.sudoers_line_reader.proofs.TokenRows.{lasting_row_is_read_for_good}
use Rattle.sudoers_line_reader.proofs.defaults_params.read_named_parameter.Goals as goal

pub returns-in_ok-row-clause-reads : goal.returns-in_ok-row-clause-reads
unfolding named_parameter_reader
returns-in_ok-row-clause-reads c =
    let says = flag_parameter false (model_of_token_part c.in_ok-part.part) in
    let read : named_parameter_reader c.args.cursor.now ≡ Read says c.expect_parameter_name.new.self = search rules in
    lasting_row_is_read_for_good parameter_in_tables c.store_flag_parameter.new.tables c.in_ok-row.row says (named_parameter_reader c.args.cursor.now) c.expect_parameter_name.new.self c.in_ok-row.ensures.keeps read
