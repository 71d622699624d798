use Rattle.sudoers_tree.proofs.Known.{loaded_walk_lines_are_at_their_spots}
use Rattle.sudoers_tree.proofs.laws.loaded_lines_stand.Goals as goal

pub returns : goal.returns
returns c = loaded_walk_lines_are_at_their_spots
