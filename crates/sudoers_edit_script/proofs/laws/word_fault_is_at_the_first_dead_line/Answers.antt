use Rattle.sudoers_edit_script.proofs.FrontLemmas.{bad_word_line_is_bad_or_incomplete, bad_number_line_is_first_bad_line}
use Rattle.sudoers_edit_script.proofs.laws.word_fault_is_at_the_first_dead_line.Goals as goal

pub returns-clause-word : goal.returns-clause-word
returns-clause-word c = bad_word_line_is_bad_or_incomplete

pub returns-clause-number : goal.returns-clause-number
returns-clause-number c = bad_number_line_is_first_bad_line
