use Rattle.laws_print.proofs.GivenNodes.{node_of_line_without_nul_is_readable}
use Rattle.laws_print.proofs.laws.read_can_be_written.Goals as goal

pub returns : goal.returns
returns c = node_of_line_without_nul_is_readable c.words_agree.ensures.includes
