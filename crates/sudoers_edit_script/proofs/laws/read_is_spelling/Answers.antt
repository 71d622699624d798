use Rattle.sudoers_edit_script.proofs.ScriptLemmas.{text_read_as_edits_is_their_spelling}
use Rattle.sudoers_edit_script.proofs.laws.read_is_spelling.Goals as goal

pub returns : goal.returns
returns c = text_read_as_edits_is_their_spelling
