use Rattle.sudoers_tree.proofs.SaidLines.{parsed_lines_of_equal_texts_are_equal}
use Rattle.sudoers_tree.proofs.laws.texts_tell_lines.Goals as goal

pub returns : goal.returns
returns c = parsed_lines_of_equal_texts_are_equal c.one_reading.ensures
