use Rattle.std.proofs.Common.{◌≡◌, ℕ, Bool, List, Option, rules, sym, ◌∙◌}
use Rattle.sudoers_grammar.specs.Node.{CmdSpec, Member, RunasSpec}
use Rattle.sudoers_grammar.specs.declared.node.OptionName.{OptionName}
use Rattle.sudoers_grammar.specs.declared.node.Tag.{Tag}
use Rattle.sudoers_line_reader.specs.Reader.{Read}
use Rattle.sudoers_line_reader.specs.Descent.{cmd_spec_reader}
use Rattle.sudoers_line_rows.specs.Tables.{member_in_tables, options_of_range_in_tables, optional_runas_in_tables, tags_of_range_in_tables}
use Rattle.sudoers_line_rows.proofs.Growth.{table_growth_is_transitive}
use Rattle.sudoers_line_reader.proofs.specs_of_users.CmdSpecReaderRowReader.read.Goals as goal

pub returns-clause-reads : goal.returns-clause-reads
unfolding cmd_spec_reader
returns-clause-reads c =
    let runas = c.in_ok-runas.ensures.reads.1 in
    let options = c.in_ok-options.ensures.reads.1 in
    let tags = c.in_ok-tags.ensures.reads.1 in
    let member = c.in_ok-member.ensures.reads.1 in
    let new = c.read.new.tables in
    let left = c.read.new.cursor in
    let by_command = c.in_ok-member.ensures.grown in
    let by_tags = table_growth_is_transitive _ _ _ c.in_ok-tags.ensures.grown by_command in
    let by_options = table_growth_is_transitive _ _ _ c.in_ok-options.ensures.grown by_tags in
    let made : Option RunasSpec → List (OptionName × List ℕ) → List (Tag × Bool) → Member → CmdSpec = λ r os gs m. record { runas = r; options = os; tags = gs; member = m } in
    let read : cmd_spec_reader c.args.cursor.now
    ≡ Read (made (optional_runas_in_tables c.read_optional_runas.new.tables c.in_ok-runas.runas) (options_of_range_in_tables c.read_command_options.new.tables c.in_ok-options.options) (tags_of_range_in_tables c.read_command_tags.new.tables c.in_ok-tags.tags) (member_in_tables new c.in_ok-member.member)) left = search rules in (
      read ∙ (λ i. Read (made (sym (runas new by_options) i) (sym (options new by_tags) i) (sym (tags new by_command) i) (member_in_tables new c.in_ok-member.member)) left),
      λ u g i. made ((runas u (table_growth_is_transitive _ _ _ by_options g) ∙ sym (runas new by_options)) i) ((options u (table_growth_is_transitive _ _ _ by_tags g) ∙ sym (options new by_tags)) i)
          ((tags u (table_growth_is_transitive _ _ _ by_command g) ∙ sym (tags new by_command)) i) (member u g i),
    )
