use Rattle.sudoers_text.proofs.Unique.{lines_of_text_are_unique}
use Rattle.sudoers_text.proofs.laws.one_list.Goals as goal

pub returns : goal.returns
returns c = lines_of_text_are_unique
