use Rattle.sudoers_line_reader.proofs.Contract.{node_of_line_is_unique}
use Rattle.sudoers_line_reader.proofs.laws.one_reading.Goals as goal

pub returns : goal.returns
returns c = node_of_line_is_unique c.one_token_list.ensures
