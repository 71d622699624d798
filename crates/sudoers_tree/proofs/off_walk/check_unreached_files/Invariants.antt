use Rattle.sudoers_tree.proofs.Common.{WalkState, drop, parsed_files_of_view, walk_or_unreached_file_fault, ◌≡◌}
use Rattle.sudoers_tree.proofs.off_walk.check_unreached_files.Given as goal

abbrev pub invariant-loop-file : goal.invariant-loop-file
invariant-loop-file l = (w : WalkState) → w.on ≡ l.on
    → walk_or_unreached_file_fault w l.file (drop l.file (parsed_files_of_view l.files)) ≡ walk_or_unreached_file_fault w 0 (parsed_files_of_view l.files)
