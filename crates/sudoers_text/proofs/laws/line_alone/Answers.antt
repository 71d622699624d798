use Rattle.sudoers_text.proofs.Local.{line_before_text_is_line_alone}
use Rattle.sudoers_text.proofs.laws.line_alone.Goals as goal

pub returns : goal.returns
returns c = line_before_text_is_line_alone
