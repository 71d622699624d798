use Rattle.sudoers_edit_script.proofs.FrontLemmas.{physical_lines_join_to_text}
use Rattle.sudoers_edit_script.proofs.laws.physical_lines_join.Goals as goal

pub returns : goal.returns
returns c = physical_lines_join_to_text
