use Rattle.sudoers_text.proofs.TokenLists.{computed_tokens_are_tokens_of_line}
use Rattle.sudoers_text.proofs.laws.tokens_are.Goals as goal

pub returns : goal.returns
returns c = computed_tokens_are_tokens_of_line
