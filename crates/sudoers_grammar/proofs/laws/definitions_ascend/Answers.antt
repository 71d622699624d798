use Rattle.sudoers_grammar.proofs.Ascending.{alias_definitions_of_line_are_ordered}
use Rattle.sudoers_grammar.proofs.laws.definitions_ascend.Goals as goal

pub returns : goal.returns
returns c = alias_definitions_of_line_are_ordered c.tokens_ascend.ensures
