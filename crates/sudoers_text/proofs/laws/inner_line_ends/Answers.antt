use Rattle.sudoers_text.proofs.Closed.{line_before_text_ends_in_lf}
use Rattle.sudoers_text.proofs.laws.inner_line_ends.Goals as goal

pub returns : goal.returns
returns c = line_before_text_ends_in_lf
