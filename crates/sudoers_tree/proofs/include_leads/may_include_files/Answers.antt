use Rattle.sudoers_tree.proofs.Common.{sym, ◌∙◌}
use Rattle.sudoers_tree.proofs.Included.{found_needle_implies_word_include, text_searched_in_vain_has_no_include_lead}
use Rattle.sudoers_tree.proofs.Known.{computed_line_outcome_is_line_outcome}
use Rattle.sudoers_tree.proofs.include_leads.may_include_files.Goals as goal

pub returns-clause-nowhere : goal.returns-clause-nowhere
returns-clause-nowhere c = λ lacks name before line after is.
    text_searched_in_vain_has_no_include_lead c.args.text.now c.find.result c.find.ensures (sym c.is_some.ensures ∙ lacks) name before line after is (computed_line_outcome_is_line_outcome line)

pub returns-clause-held : goal.returns-clause-held
returns-clause-held c = λ has. found_needle_implies_word_include c.args.text.now c.find.result c.find.ensures (sym c.is_some.ensures ∙ has)
