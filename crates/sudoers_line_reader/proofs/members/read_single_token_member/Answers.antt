use Rattle.std.proofs.Common.{ap, sym, ◌∙◌, option_map, Some}
use Rattle.sudoers_grammar.specs.Node.{Member}
use Rattle.sudoers_grammar.specs.Seen.{model_of_token_part}
use Rattle.sudoers_line_reader.specs.Descent.{member_of_single_token}
use Rattle.sudoers_line_rows.proofs.Growth.{tables_have_grown_from_themselves}
use Rattle.sudoers_line_reader.proofs.TokenRows.{first_token_without_meaning_is_halted_at, first_token_with_meaning_is_read, token_without_atom_row_is_no_member, token_with_atom_row_is_member, atom_row_is_same_in_grown_tables, member_of_token_is_that_of_its_row, member_row_keeps_meaning_with_its_atom}
use Rattle.sudoers_line_reader.proofs.members.read_single_token_member.Goals as goal

pub returns-in_default-2-clause-reads : goal.returns-in_default-2-clause-reads
returns-in_default-2-clause-reads c =
    first_token_without_meaning_is_halted_at (member_of_single_token c.args.kind c.args.negated) c.args.cursor.now (model_of_token_part c.in-Some.part) (ap (option_map model_of_token_part) (sym c.in-Some.is) ∙ c.peek.ensures)
    (token_without_atom_row_is_no_member c.args.kind c.args.negated (model_of_token_part c.in-Some.part) c.store_atom_of_member_token.new.tables c.in_ok-atom.field-0 c.in_ok-atom.ensures.keeps c.in_default-2.is)

pub returns-clause-reads : goal.returns-clause-reads
returns-clause-reads c = (
  first_token_with_meaning_is_read (member_of_single_token c.args.kind c.args.negated) c.args.cursor.now c.pass_next_token.new.self (model_of_token_part c.in-Some.part) _ (ap (option_map model_of_token_part) (sym c.in-Some.is) ∙ c.peek.ensures)
      (token_with_atom_row_is_member c.args.kind c.args.negated (model_of_token_part c.in-Some.part) c.store_atom_of_member_token.new.tables c.store_atom_of_member_token.new.tables c.in_ok-atom.field-0 c.in-Some-2.atom c.in_ok-atom.ensures.keeps c.in-Some-2.is (tables_have_grown_from_themselves c.store_atom_of_member_token.new.tables) ∙ ap (λ (m : Member). Some m) (member_of_token_is_that_of_its_row c.store_atom_of_member_token.new.tables c.args.negated (model_of_token_part c.in-Some.part) c.in-Some-2.atom c.in_ok-stop.stop c.in_ok-stop.ensures)) c.pass_next_token.ensures,
  λ u g. member_row_keeps_meaning_with_its_atom c.store_atom_of_member_token.new.tables u c.args.negated c.in-Some-2.atom c.in_ok-stop.stop (atom_row_is_same_in_grown_tables c.args.kind (model_of_token_part c.in-Some.part) c.store_atom_of_member_token.new.tables u c.in_ok-atom.field-0 c.in-Some-2.atom c.in_ok-atom.ensures.keeps c.in-Some-2.is g),
)
