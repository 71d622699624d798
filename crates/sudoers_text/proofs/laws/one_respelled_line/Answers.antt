use Rattle.sudoers_text.proofs.Respelling.{respelled_line_is_unique}
use Rattle.sudoers_text.proofs.laws.one_respelled_line.Goals as goal

pub returns : goal.returns
returns c = respelled_line_is_unique
