use Rattle.sudoers_text.proofs.LastLine.{line_cut_to_itself_is_within_limit}
use Rattle.sudoers_text.proofs.laws.line_alone_size.Goals as goal

pub returns : goal.returns
returns c = line_cut_to_itself_is_within_limit
