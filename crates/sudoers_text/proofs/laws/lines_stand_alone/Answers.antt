use Rattle.sudoers_text.proofs.Alone.{lines_of_cut_text_are_cut_alone}
use Rattle.sudoers_text.proofs.laws.lines_stand_alone.Goals as goal

pub returns : goal.returns
returns c = lines_of_cut_text_are_cut_alone
