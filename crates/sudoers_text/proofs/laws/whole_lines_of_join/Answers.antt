use Rattle.sudoers_text.proofs.WholeAlone.{logical_lines_are_lines_of_their_join}
use Rattle.sudoers_text.proofs.laws.whole_lines_of_join.Goals as goal

pub returns : goal.returns
returns c = logical_lines_are_lines_of_their_join c.closed_line_anywhere.ensures
