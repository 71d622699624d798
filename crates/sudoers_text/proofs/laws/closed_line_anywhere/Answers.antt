use Rattle.sudoers_text.proofs.Closed.{closed_line_is_line_anywhere}
use Rattle.sudoers_text.proofs.laws.closed_line_anywhere.Goals as goal

pub returns : goal.returns
returns c = closed_line_is_line_anywhere
