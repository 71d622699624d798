use Rattle.std.proofs.Common.{refl}
use Rattle.sudoers_text.proofs.tokenizing.LeftContextAtOffset.start_of_line.Goals as goal

pub returns-clause-knows : goal.returns-clause-knows
returns-clause-knows c = λ line. record { knows = c.left_of_line_start.ensures line 0; apart = refl }
