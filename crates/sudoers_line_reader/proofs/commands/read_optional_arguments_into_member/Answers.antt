use Rattle.std.proofs.Common.{◌≡◌, true, false, Option, rules, sym, ap, subst, ◌∙◌}
use Rattle.sudoers_grammar.specs.Node.{Member}
use Rattle.sudoers_grammar.specs.declared.command_arguments.ArglessCommand.{ArglessCommand}
use Rattle.sudoers_grammar.specs.Arguments.{argless_command_of_atom}
use Rattle.sudoers_line_reader.specs.Reader.{ReadOutcome}
use Rattle.sudoers_line_rows.specs.Tables.{atom_in_tables, member_in_tables}
use Rattle.sudoers_line_reader.specs.internal.Answer.{RowReadsAsOutcome, command_start_of_word_row}
use Rattle.sudoers_line_reader.proofs.WordRows.{closed_command_is_read_without_arguments, command_before_no_argument_is_read_alone, open_command_is_read_with_arguments, program_under_condition_is_some}
use Rattle.sudoers_line_reader.proofs.commands.read_optional_arguments_into_member.Goals as goal

pub returns-then-not-may_have_arguments-clause-reads : goal.returns-then-not-may_have_arguments-clause-reads
returns-then-not-may_have_arguments-clause-reads c =
    let none : c.may_have_arguments.result ≡ false = search rules in (
      closed_command_is_read_without_arguments (command_start_of_word_row c.args.tables.now c.args.word) c.args.cursor.now (sym (c.may_have_arguments.ensures c.args.tables.now) ∙ none),
      λ u g. ap (λ (w : Option ArglessCommand × Member). w.1) (c.requires u g),
    )

pub returns-then-not-is_at_argument-clause-reads : goal.returns-then-not-is_at_argument-clause-reads
returns-then-not-is_at_argument-clause-reads c =
    let none : c.is_at_argument.result ≡ false = search rules in (
      command_before_no_argument_is_read_alone (command_start_of_word_row c.args.tables.now c.args.word) c.args.cursor.now (sym c.is_at_argument.ensures ∙ none),
      λ u g. ap (λ (w : Option ArglessCommand × Member). w.1) (c.requires u g),
    )

pub returns-clause-reads : goal.returns-clause-reads
returns-clause-reads c =
    let has : c.may_have_arguments.result ≡ true = search rules in
    let comes_it : c.is_at_argument.result ≡ true = search rules in
    let word = command_start_of_word_row c.args.tables.now c.args.word in
    let found = program_under_condition_is_some c.args.word.has_room (argless_command_of_atom (atom_in_tables c.args.tables.now c.args.word.member.atom)) (sym (c.may_have_arguments.ensures c.args.tables.now) ∙ has) in
    subst (λ (o : ReadOutcome Member). RowReadsAsOutcome o member_in_tables c.read_arguments_into_member.new.tables c.read_arguments_into_member.result c.read_arguments_into_member.new.cursor)
    (sym (open_command_is_read_with_arguments word found.0 c.args.cursor.now found.2 (sym c.is_at_argument.ensures ∙ comes_it))) (c.read_arguments_into_member.ensures.reads found.0 found.1)
