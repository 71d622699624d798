use Rattle.std.proofs.Common.{refl}
use Rattle.sudoers_text.specs.Found.{tokens_of_line}
use Rattle.sudoers_text.proofs.line_tokens.LineTokens.from_line.Goals as goal

pub returns : goal.returns
unfolding tokens_of_line
returns c = refl
