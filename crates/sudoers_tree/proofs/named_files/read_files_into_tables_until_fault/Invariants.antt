use Rattle.sudoers_tree.proofs.Common.{All, HasSoundFileRows, [], drop, map, parsed_file_of_rows, parsed_files_or_cut_fault, ◌≡◌}
use Rattle.sudoers_tree.proofs.named_files.read_files_into_tables_until_fault.Given as goal

abbrev pub invariant-loop-file : goal.invariant-loop-file
invariant-loop-file l =
    All (HasSoundFileRows l.tables) l.read.items
    × (parsed_files_or_cut_fault (map (parsed_file_of_rows l.tables) l.read.items) (drop l.file-index l.files) ≡ parsed_files_or_cut_fault [] l.files)
