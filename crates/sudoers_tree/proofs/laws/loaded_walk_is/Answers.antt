use Rattle.sudoers_tree.proofs.WalkSound.{loaded_policy_is_load_of_files}
use Rattle.sudoers_tree.proofs.laws.loaded_walk_is.Goals as goal

pub returns : goal.returns
returns c = λ files policy is. (loaded_policy_is_load_of_files files policy is).walks
