use Rattle.std.proofs.Common.{◌≡◌, ℕ, List, rules, sym, ◌∙◌}
use Rattle.sudoers_grammar.specs.Node.{Def, Member}
use Rattle.sudoers_grammar.specs.Grammar.{stop_of_last_member}
use Rattle.sudoers_grammar.specs.Seen.{model_of_token_part}
use Rattle.sudoers_line_reader.specs.Reader.{Read}
use Rattle.sudoers_line_reader.specs.Descent.{alias_definition_reader, definition_of_name_and_list}
use Rattle.sudoers_line_rows.specs.Tables.{members_of_range_in_tables}
use Rattle.sudoers_line_rows.proofs.Growth.{table_growth_is_transitive}
use Rattle.sudoers_line_reader.proofs.alias_lines.AliasDefinitionReaderRowReader.read.Goals as goal

pub returns-clause-reads : goal.returns-clause-reads
unfolding alias_definition_reader
returns-clause-reads c =
    let name = c.in_ok-name.ensures.keeps in
    let members = c.in_ok-members.ensures.reads.1 in
    let new = c.read_alias_member_list.new.tables in
    let left = c.read_alias_member_list.new.cursor in
    let grown = c.in_ok-members.ensures.grown in
    let made : List ℕ → ℕ → List Member → Def = λ text start ms. record { name = text; start = start; stop = stop_of_last_member ms; members = ms } in
    let said = name new grown in
    let read : alias_definition_reader c.args.self.kind c.args.cursor.now ≡ Read (definition_of_name_and_list (model_of_token_part c.in_ok-part.part) (members_of_range_in_tables new c.in_ok-members.members)) left = search rules in (
      read ∙ (λ i. Read (made (sym said i) (sym c.in_ok-start.ensures i) (members_of_range_in_tables new c.in_ok-members.members)) left),
      λ u g i. made ((name u (table_growth_is_transitive _ _ _ grown g) ∙ sym said) i) c.in_ok-start.start (members u g i),
    )

pub returns-clause-grown : goal.returns-clause-grown
returns-clause-grown c = table_growth_is_transitive _ _ _ c.in_ok-name.ensures.grown c.in_ok-members.ensures.grown
