-- Texts that are one logical line.
use Rattle.std.proofs.Common.{◌≡◌, ℕ, true, List}
use Rattle.sudoers_text.specs.Whole.{IsLogicalLine, is_logical_line}
use Rattle.sudoers_text.proofs.LogicalLine.{logical_line_test_decides_logical_line}

-- What is computed tells it.
pub logical_line_test_implies_logical_line : (text : List ℕ) → is_logical_line text ≡ true → IsLogicalLine text
logical_line_test_implies_logical_line text = (logical_line_test_decides_logical_line text).0
