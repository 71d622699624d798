use Rattle.sudoers_grammar.proofs.Lines.{line_read_as_node_has_no_fault}
use Rattle.sudoers_grammar.proofs.laws.no_fault.Goals as goal

pub returns : goal.returns
returns c = line_read_as_node_has_no_fault c.one_token_list.ensures
