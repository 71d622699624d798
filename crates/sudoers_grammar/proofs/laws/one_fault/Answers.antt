use Rattle.sudoers_grammar.proofs.Lines.{syntax_fault_of_line_is_unique}
use Rattle.sudoers_grammar.proofs.laws.one_fault.Goals as goal

pub returns : goal.returns
returns c = syntax_fault_of_line_is_unique c.one_token_list.ensures
