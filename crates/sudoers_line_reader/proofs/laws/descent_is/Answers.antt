use Rattle.sudoers_line_reader.proofs.First.{read_tokens_are_entire_line, tokens_of_node_are_read_as_node, halt_is_first_syntax_fault}
use Rattle.sudoers_line_reader.proofs.laws.descent_is.Goals as goal

pub returns : goal.returns
returns c = record { sound = read_tokens_are_entire_line; complete = tokens_of_node_are_read_as_node; fault = halt_is_first_syntax_fault }
