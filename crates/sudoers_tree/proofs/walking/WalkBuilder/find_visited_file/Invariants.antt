use Rattle.sudoers_tree.proofs.Common.{drop, first_file_on_walk, walk_state_of_builder, ◌≡◌}
use Rattle.sudoers_tree.proofs.walking.WalkBuilder.find_visited_file.Given as goal

abbrev pub invariant-loop-file : goal.invariant-loop-file
invariant-loop-file l = first_file_on_walk (walk_state_of_builder l.files.tables.now l.self) (drop l.file-index l.inner) ≡ first_file_on_walk (walk_state_of_builder l.files.tables.now l.self) l.inner
