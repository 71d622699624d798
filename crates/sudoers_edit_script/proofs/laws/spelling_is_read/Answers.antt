use Rattle.sudoers_edit_script.proofs.SpellingLemmas.{spelling_of_edits_is_read_back}
use Rattle.sudoers_edit_script.proofs.laws.spelling_is_read.Goals as goal

pub returns : goal.returns
returns c = spelling_of_edits_is_read_back
