use Rattle.sudoers_tree.proofs.Common.{Line, Tables, line_of_row, subst, sym, ◌∙◌, ◌≡◌}
use Rattle.sudoers_tree.specs.Standing.{IsAliasNameAbsent}
use Rattle.sudoers_tree.proofs.AbsentBits.{row_without_name_bits_has_no_such_alias}
use Rattle.sudoers_tree.proofs.files.FilesInTables.may_have_alias_in_file_line.Goals as goal

pub returns-in-Some : goal.returns-in-Some
returns-in-Some c = λ name says is lacks there.
    let t : Tables = c.args.self.now.tables.now in
    let held : line_of_row t c.in-Some.row.now ≡ says = cc (c.in-Some.ensures.line, there) in
    subst (λ (line : Line). IsAliasNameAbsent name line.node) held
    (row_without_name_bits_has_no_such_alias t c.in-Some.row.now c.args.bits.set name (c.in-Some.ensures.stands c.requires) is (sym c.may_have_alias_with_bits.ensures ∙ lacks))
