use Rattle.laws_print.proofs.WholeLines.{printed_text_is_cut_into_its_lines}
use Rattle.laws_print.proofs.laws.printed_lines_are_cut.Goals as goal

pub returns : goal.returns
returns c = printed_text_is_cut_into_its_lines
