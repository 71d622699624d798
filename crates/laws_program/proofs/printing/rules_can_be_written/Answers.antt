use Rattle.laws_program.proofs.RuleLines.{rules_of_walk_lines_are_writable}
use Rattle.laws_program.proofs.printing.rules_can_be_written.Goals as goal

pub returns : goal.returns
returns c = rules_of_walk_lines_are_writable c.read_can_be_written.ensures
