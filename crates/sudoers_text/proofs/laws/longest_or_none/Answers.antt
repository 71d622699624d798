use Rattle.sudoers_text.specs.Context.{token_forms_in_context}
use Rattle.sudoers_text.proofs.TokenLists.{token_is_longest_piece_or_bad}
use Rattle.sudoers_text.proofs.laws.longest_or_none.Goals as goal

pub returns : goal.returns
returns c = λ here. token_is_longest_piece_or_bad (token_forms_in_context here)
