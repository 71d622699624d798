use Rattle.sudoers_text.proofs.LastLine.{adding_last_lf_keeps_cut_lines}
use Rattle.sudoers_text.proofs.laws.lf_behind_last_line.Goals as goal

pub returns : goal.returns
returns c = adding_last_lf_keeps_cut_lines
