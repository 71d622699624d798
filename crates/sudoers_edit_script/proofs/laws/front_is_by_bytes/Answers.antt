use Rattle.sudoers_edit_script.proofs.FrontLemmas.{bytes_of_script_prefix_begin_a_spelling, lines_beginning_a_spelling_are_prefix}
use Rattle.sudoers_edit_script.proofs.laws.front_is_by_bytes.Goals as goal

pub returns-clause-bytes : goal.returns-clause-bytes
returns-clause-bytes c = bytes_of_script_prefix_begin_a_spelling

pub returns-clause-lines : goal.returns-clause-lines
returns-clause-lines c = lines_beginning_a_spelling_are_prefix
