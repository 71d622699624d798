use Rattle.laws_program.proofs.WalkOrder.{cut_law_gives_logical_lines, walk_order_is_gathered_order}
use Rattle.laws_program.proofs.gathered_files_on_walk.gathered_files_are_walked.Goals as goal

pub returns : goal.returns
returns c = walk_order_is_gathered_order c.reads_is.ensures.is (cut_law_gives_logical_lines c.lines_stand_alone.ensures c.line_alone_is_whole.ensures.whole)
