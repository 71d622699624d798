use Rattle.sudoers_tree.proofs.WalkSound.{numbered_file_has_correct_lines, loaded_files_have_correct_lines}
use Rattle.sudoers_tree.proofs.laws.loaded_lines_are_said.Goals as goal

pub returns : goal.returns
returns c = λ files policy is f. numbered_file_has_correct_lines policy.files f (loaded_files_have_correct_lines c.outcome_is.ensures files policy is)
