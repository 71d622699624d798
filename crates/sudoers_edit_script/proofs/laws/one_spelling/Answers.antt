use Rattle.sudoers_edit_script.proofs.OneSpelling.{spelling_of_edits_is_injective}
use Rattle.sudoers_edit_script.proofs.laws.one_spelling.Goals as goal

pub returns : goal.returns
returns c = spelling_of_edits_is_injective
