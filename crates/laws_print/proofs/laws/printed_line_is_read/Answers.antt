use Rattle.laws_print.proofs.Cutting.{line_of_cut_tokens_has_placed_tokens, line_cut_from_start_has_placed_tokens}
use Rattle.laws_print.proofs.AllLines.{printed_line_of_any_node_reads_back}
use Rattle.laws_print.proofs.laws.printed_line_is_read.Goals as goal

pub returns : goal.returns
returns c = printed_line_of_any_node_reads_back (line_of_cut_tokens_has_placed_tokens c.tokens_are.ensures) (line_cut_from_start_has_placed_tokens c.tokens_are.ensures)
