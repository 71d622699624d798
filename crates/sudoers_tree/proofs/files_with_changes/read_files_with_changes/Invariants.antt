use Rattle.sudoers_tree.proofs.Common.{All, AreFileNumbersOfChangesInOrder, HasSoundFileRows, TablesHaveGrown, [], changed_files_from_number, changes_of_file, drop, files_after_changes, length, map, parsed_file_of_rows}
use Rattle.sudoers_tree.proofs.Common.{parsed_files_or_cut_fault, ℕ, ◌≡◌, ◌≤◌}
use Rattle.sudoers_tree.proofs.files_with_changes.read_files_with_changes.Given as goal

-- The first files are read, and the changes of the others are left.
abbrev pub invariant-loop-number : goal.invariant-loop-number
invariant-loop-number l =
    TablesHaveGrown l.fn.tables l.tables
    × All (HasSoundFileRows l.tables) l.new.items
    × (parsed_files_or_cut_fault (map (parsed_file_of_rows l.tables) l.new.items) (changed_files_from_number l.number l.changes (map (parsed_file_of_rows l.fn.tables) (drop l.number l.files)))
    ≡ parsed_files_or_cut_fault [] (files_after_changes l.changes (map (parsed_file_of_rows l.fn.tables) l.files)))
    × ((g : ℕ) → l.number ≤ g → changes_of_file g l.rest ≡ changes_of_file g l.changes)
    × AreFileNumbersOfChangesInOrder l.number l.rest (length l.files)
