use Rattle.sudoers_edit.proofs.Common.{None, Some, definitions_of_alias_line, inr, reading_of_single_line, refl, sym, ◌∙◌, ◌≡◌}
use Rattle.sudoers_edit.proofs.PruneCut.{drop_without_definitions_is_no_alias, line_of_equal_text_has_read_node}
use Rattle.sudoers_edit.proofs.line_being_cut.read_line_to_cut.Goals as goal

pub returns-in-None-clause-known : goal.returns-in-None-clause-known
returns-in-None-clause-known c = λ n at lines line known here same.
    let told : Some c.in-Some.reading ≡ reading_of_single_line c.args.text.now = sym c.in-Some.is ∙ c.in_ok-reading.ensures.said in
    let none : definitions_of_alias_line c.in-Some.reading ≡ None = c.in-None.ensures.none refl in
    inr (drop_without_definitions_is_no_alias lines n at (record { text = c.args.text.now; node = c.in-Some.reading })
    (line_of_equal_text_has_read_node lines n line c.args.text.now c.in-Some.reading (Some c.in-Some.reading) known here same told refl) none)
