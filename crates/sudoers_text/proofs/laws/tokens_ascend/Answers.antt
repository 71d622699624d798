use Rattle.sudoers_text.proofs.Ascending.{tokens_of_line_are_ordered}
use Rattle.sudoers_text.proofs.laws.tokens_ascend.Goals as goal

pub returns : goal.returns
returns c = tokens_of_line_are_ordered
