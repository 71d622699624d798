use Rattle.sudoers_tree.proofs.Common.{drop, number_of_first_file_named, parsed_files_of_view, ◌≡◌}
use Rattle.sudoers_tree.proofs.include_targets.number_of_file_named.Given as goal

abbrev pub invariant-loop-number : goal.invariant-loop-number
invariant-loop-number l = number_of_first_file_named l.name l.number (drop l.number (parsed_files_of_view l.files)) ≡ number_of_first_file_named l.name 0 (parsed_files_of_view l.files)
