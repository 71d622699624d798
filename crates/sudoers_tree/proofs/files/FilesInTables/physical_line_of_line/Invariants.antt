use Rattle.sudoers_tree.proofs.Common.{lines_of_numbered_file, parsed_files_of_view, physical_line_of_file_line, ◌≡◌}
use Rattle.sudoers_tree.proofs.files.FilesInTables.physical_line_of_line.Given as goal

abbrev pub invariant-loop-line : goal.invariant-loop-line
invariant-loop-line l = l.row ≡ physical_line_of_file_line (lines_of_numbered_file (parsed_files_of_view l.self) l.file) l.line
