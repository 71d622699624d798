use Rattle.sudoers_check.proofs.Common.{arith}
use Rattle.sudoers_check.proofs.physical_line_cursor.PhysicalLineCursor.find_line_and_column.Goals as goal

pub overflow_add-result-2 : goal.overflow_add-result-2
overflow_add-result-2 c = omega (arith, c.move_forward_to.new.self.most, c.move_forward_to.new.self.within, c.move_forward_to.new.self.small)
