use Rattle.sudoers_tree.proofs.Common.{drop, included_files_of_folder, length, parsed_files_of_view, ◌≡◌, ◌≤◌}
use Rattle.sudoers_tree.proofs.include_targets.find_files_included_from_folder.Given as goal

-- The wanted ones among the last files are found.
abbrev pub invariant-loop-number : goal.invariant-loop-number
invariant-loop-number l =
    (l.number ≤ length (parsed_files_of_view l.files))
    × (l.inner.items ≡ included_files_of_folder (parsed_files_of_view l.files) l.folder l.number (drop l.number (parsed_files_of_view l.files)))

abbrev pub decreases-loop-number : goal.decreases-loop-number
decreases-loop-number l = l.number
