use Rattle.sudoers_text.proofs.Respelling.{computed_line_is_respelled}
use Rattle.sudoers_text.proofs.laws.respelled_line_is.Goals as goal

pub returns : goal.returns
returns c = computed_line_is_respelled
