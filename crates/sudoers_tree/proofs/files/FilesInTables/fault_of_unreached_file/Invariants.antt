use Rattle.sudoers_tree.proofs.Common.{drop, lines_of_numbered_file, parsed_files_of_view, reserved_name_fault_in_lines, ◌≡◌}
use Rattle.sudoers_tree.proofs.files.FilesInTables.fault_of_unreached_file.Given as goal

abbrev pub invariant-loop-line : goal.invariant-loop-line
invariant-loop-line l = reserved_name_fault_in_lines (drop l.line (lines_of_numbered_file (parsed_files_of_view l.self) l.file)) ≡ reserved_name_fault_in_lines (lines_of_numbered_file (parsed_files_of_view l.self) l.file)
