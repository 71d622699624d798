use Rattle.sudoers_text.proofs.TokenLists.{tokens_of_line_are_unique}
use Rattle.sudoers_text.proofs.laws.one_token_list.Goals as goal

pub returns : goal.returns
returns c = tokens_of_line_are_unique
