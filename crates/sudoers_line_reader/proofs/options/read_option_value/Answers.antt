use Rattle.std.proofs.Common.{◌≡◌, rules, ◌∙◌}
use Rattle.sudoers_grammar.specs.Atom.{option_value_of_token}
use Rattle.sudoers_line_reader.specs.Reader.{Read, one_token_reader}
use Rattle.sudoers_line_rows.specs.Tables.{text_in_tables}
use Rattle.sudoers_line_reader.proofs.TokenRows.{lasting_row_is_read_for_good}
use Rattle.sudoers_line_reader.proofs.options.read_option_value.Goals as goal

pub returns-clause-reads : goal.returns-clause-reads
returns-clause-reads c =
    let read : one_token_reader (option_value_of_token c.args.name) c.args.cursor.now ≡ Read c.in_ok-value.value c.pass_token_with_meaning_or_halt.new.self = search rules in
    lasting_row_is_read_for_good text_in_tables c.store_text.new.tables c.in_ok-store_text.field-0 c.in_ok-value.value _ c.pass_token_with_meaning_or_halt.new.self (λ u g. c.in_ok-store_text.ensures.keeps u g ∙ c.as_slice.ensures) read
