use Rattle.std.proofs.Common.{Option, Some, option_map, not, rules, sym, ap, ◌∙◌}
use Rattle.sudoers_grammar.specs.Node.{Member}
use Rattle.sudoers_grammar.specs.declared.command_arguments.ArglessCommand.{ArglessCommand}
use Rattle.sudoers_grammar.specs.Seen.{model_of_token_part}
use Rattle.sudoers_grammar.specs.Atom.{atom_of_token, command_atom_without_args}
use Rattle.sudoers_line_reader.specs.Descent.{command_start_of_token}
use Rattle.sudoers_line_rows.specs.Tables.{atom_in_tables, digests_of_range_in_tables}
use Rattle.sudoers_line_rows.proofs.Growth.{absent_row_means_none, given_row_means_its_view, meaning_of_given_row_lasts}
use Rattle.sudoers_line_reader.proofs.TokenRows.{first_token_without_meaning_is_halted_at, first_token_with_meaning_is_read}
use Rattle.sudoers_line_reader.proofs.WordRows.{token_without_atom_is_no_command_start, command_not_allowing_digests_is_refused, command_allowing_digests_is_command_start, command_start_is_that_of_its_row, command_start_row_lasts_in_grown_tables}
use Rattle.sudoers_line_reader.proofs.command_words.read_command_word.Goals as goal

pub returns-in_default-2-clause-reads : goal.returns-in_default-2-clause-reads
unfolding atom_of_token
returns-in_default-2-clause-reads c =
    let t = model_of_token_part c.in-Some.part in
    let ds = digests_of_range_in_tables c.args.tables.now c.args.digests in
    first_token_without_meaning_is_halted_at (command_start_of_token c.args.negated ds) c.args.cursor.now t (ap (option_map model_of_token_part) (sym c.in-Some.is) ∙ c.peek.ensures)
    (token_without_atom_is_no_command_start c.args.negated ds t (absent_row_means_none atom_in_tables c.store_atom_of_member_token.new.tables c.in_ok-atom.field-0 (command_atom_without_args t.kind t.text) c.in_ok-atom.ensures.keeps c.in_default-2.is))

pub returns-then-not-may_follow_digests-clause-reads : goal.returns-then-not-may_follow_digests-clause-reads
unfolding atom_of_token
returns-then-not-may_follow_digests-clause-reads c =
    let t = model_of_token_part c.in-Some.part in
    let ds = digests_of_range_in_tables c.args.tables.now c.args.digests in
    let new = c.store_atom_of_member_token.new.tables in
    first_token_without_meaning_is_halted_at (command_start_of_token c.args.negated ds) c.args.cursor.now t (ap (option_map model_of_token_part) (sym c.in-Some.is) ∙ c.peek.ensures)
    (command_not_allowing_digests_is_refused c.args.negated ds t (atom_in_tables new c.in-Some-2.atom)
    (given_row_means_its_view atom_in_tables new c.in_ok-atom.field-0 (command_atom_without_args t.kind t.text) c.in-Some-2.atom c.in_ok-atom.ensures.keeps c.in-Some-2.is)
    (sym (c.may_follow_digests.ensures new ds c.requires.tells) ∙ search rules))

pub returns-clause-reads : goal.returns-clause-reads
unfolding atom_of_token
returns-clause-reads c =
    let t = model_of_token_part c.in-Some.part in
    let ds = digests_of_range_in_tables c.args.tables.now c.args.digests in
    let new = c.store_atom_of_member_token.new.tables in
    let atom = c.in-Some-2.atom in
    let grown = c.in_ok-atom.ensures.grown in (
      first_token_with_meaning_is_read (command_start_of_token c.args.negated ds) c.args.cursor.now c.pass_next_token.new.self t _ (ap (option_map model_of_token_part) (sym c.in-Some.is) ∙ c.peek.ensures)
          (command_allowing_digests_is_command_start c.args.negated ds t (atom_in_tables new atom)
          (given_row_means_its_view atom_in_tables new c.in_ok-atom.field-0 (command_atom_without_args t.kind t.text) atom c.in_ok-atom.ensures.keeps c.in-Some-2.is)
          (sym (c.may_follow_digests.ensures new ds c.requires.tells) ∙ search rules)
          ∙ ap (λ (w : Option ArglessCommand × Member). Some w) (command_start_is_that_of_its_row c.args.tables.now new c.args.negated c.args.digests t atom c.in_ok-stop.stop _ grown c.requires.lasts c.in_ok-stop.ensures (ap not c.ends_with_byte.ensures)))
          c.pass_next_token.ensures,
      command_start_row_lasts_in_grown_tables c.args.tables.now new c.args.negated c.args.digests atom c.in_ok-stop.stop _ grown c.requires.lasts
          (meaning_of_given_row_lasts atom_in_tables new c.in_ok-atom.field-0 (command_atom_without_args t.kind t.text) atom c.in_ok-atom.ensures.keeps c.in-Some-2.is),
    )
