use Rattle.sudoers_edit_script.proofs.WritingLemmas.{written_script_is_read_back, script_of_read_edits_is_text}
use Rattle.sudoers_edit_script.proofs.laws.written_is_read.Goals as goal

pub returns-clause-read : goal.returns-clause-read
returns-clause-read c = written_script_is_read_back

pub returns-clause-written : goal.returns-clause-written
returns-clause-written c = script_of_read_edits_is_text
