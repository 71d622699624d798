use Rattle.sudoers_text.proofs.Alone.{join_is_cut_into_its_lines}
use Rattle.sudoers_text.proofs.laws.lines_of_join.Goals as goal

pub returns : goal.returns
returns c = join_is_cut_into_its_lines
