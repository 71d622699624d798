use Rattle.sudoers_tree.proofs.Common.{map, named_file_of_parsed, take, ◌≡◌}
use Rattle.sudoers_tree.proofs.policy.Policy.copy_named_files.Given as goal

abbrev pub invariant-loop-file : goal.invariant-loop-file
invariant-loop-file l = l.files.items ≡ map named_file_of_parsed (take l.file l.self.files)
