use Rattle.sudoers_text.proofs.Local.{inner_line_is_line_anywhere}
use Rattle.sudoers_text.proofs.laws.line_anywhere.Goals as goal

pub returns : goal.returns
returns c = inner_line_is_line_anywhere
