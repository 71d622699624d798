use Rattle.sudoers_tree.proofs.Common.{All, KeepsLineCountWithoutFault, parsed_files_of_view, take}
use Rattle.sudoers_tree.proofs.in_place_update.are_line_counts_kept_without_fault.Given as goal

abbrev pub invariant-loop-file : goal.invariant-loop-file
invariant-loop-file l = All (KeepsLineCountWithoutFault (parsed_files_of_view l.old) (parsed_files_of_view l.new)) (take l.file-index l.on)
