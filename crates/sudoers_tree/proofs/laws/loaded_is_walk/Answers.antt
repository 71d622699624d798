use Rattle.sudoers_tree.proofs.Known.{loaded_walk_lines_are_valid}
use Rattle.sudoers_tree.proofs.laws.loaded_is_walk.Goals as goal

pub returns : goal.returns
returns c = loaded_walk_lines_are_valid
