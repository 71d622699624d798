use Rattle.sudoers_edit.proofs.Common.{line_cut_as_itself_is_logical_line, computed_logical_line_is_logical_line, lines_of_cut_text_are_cut_alone, sym, ◌∙◌}
use Rattle.std.proofs.Common.{eqb-true}
use Rattle.sudoers_edit.proofs.PolicyLemmas.{text_with_one_line_is_single_line}
use Rattle.sudoers_edit.proofs.line_edits.is_single_logical_line.Goals as goal

pub returns-in-Ok-clause-alone : goal.returns-in-Ok-clause-alone
returns-in-Ok-clause-alone c = λ one.
    text_with_one_line_is_single_line lines_of_cut_text_are_cut_alone c.args.text.now c.in-Ok.lines c.in-Ok.ensures.outcome (sym c.len.ensures ∙ eqb-true c.len.result 1 one)

pub returns-in-Ok-clause-whole : goal.returns-in-Ok-clause-whole
returns-in-Ok-clause-whole c = λ one.
    computed_logical_line_is_logical_line c.args.text.now (line_cut_as_itself_is_logical_line c.args.text.now
    (text_with_one_line_is_single_line lines_of_cut_text_are_cut_alone c.args.text.now c.in-Ok.lines c.in-Ok.ensures.outcome (sym c.len.ensures ∙ eqb-true c.len.result 1 one)))
