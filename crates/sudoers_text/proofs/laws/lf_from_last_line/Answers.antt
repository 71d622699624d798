use Rattle.sudoers_text.proofs.LastLine.{removing_last_lf_keeps_cut_lines}
use Rattle.sudoers_text.proofs.laws.lf_from_last_line.Goals as goal

pub returns : goal.returns
returns c = removing_last_lf_keeps_cut_lines
