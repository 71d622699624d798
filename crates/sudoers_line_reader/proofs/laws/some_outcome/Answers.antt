use Rattle.sudoers_line_reader.proofs.Contract.{line_has_node_or_syntax_fault}
use Rattle.sudoers_line_reader.proofs.laws.some_outcome.Goals as goal

pub returns : goal.returns
returns c = line_has_node_or_syntax_fault c.tokens_are.ensures
