use Rattle.sudoers_text.proofs.LogicalLine.{logical_line_test_decides_logical_line}
use Rattle.sudoers_text.proofs.laws.whole_line_is.Goals as goal

pub returns-clause-tells : goal.returns-clause-tells
returns-clause-tells c = λ text. (logical_line_test_decides_logical_line text).0

pub returns-clause-told : goal.returns-clause-told
returns-clause-told c = λ text. (logical_line_test_decides_logical_line text).1
