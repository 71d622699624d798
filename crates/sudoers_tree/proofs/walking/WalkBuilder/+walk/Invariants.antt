use Rattle.sudoers_tree.proofs.Common.{IsSoundWalkBuilder, drop, include_site_of_line, lines_of_numbered_file, parsed_files_of_view, physical_line_of_file_line, walk_after_file_lines, walk_after_file_visit}
use Rattle.sudoers_tree.proofs.Common.{walk_after_file_visits, walk_state_of_builder, walk_with_file_entered, ◌*◌, ◌+◌, ◌≡◌}
use Rattle.sudoers_tree.proofs.walking.WalkBuilder.+walk.Given as goal

abbrev pub decreases-walk_lines_of_file : goal.decreases-walk_lines_of_file
decreases-walk_lines_of_file l = 3 * l.left + 2

abbrev pub decreases-follow_include_at : goal.decreases-follow_include_at
decreases-follow_include_at l = 3 * l.left + 1

abbrev pub decreases-visit_included_file : goal.decreases-visit_included_file
decreases-visit_included_file l = 3 * l.left

-- The walk over the rest has the outcome of the whole walk.
abbrev pub invariant-walk_lines_of_file-loop-line : goal.invariant-walk_lines_of_file-loop-line
invariant-walk_lines_of_file-loop-line l =
    IsSoundWalkBuilder l.files l.known l.self
    × (walk_after_file_lines (walk_after_file_visit l.left (parsed_files_of_view l.files)) (parsed_files_of_view l.files) l.file l.line (drop l.line (lines_of_numbered_file (parsed_files_of_view l.files) l.file)) (walk_state_of_builder l.files.tables.now l.self)
    ≡ walk_after_file_lines (walk_after_file_visit l.left (parsed_files_of_view l.files)) (parsed_files_of_view l.files) l.file 0 (lines_of_numbered_file (parsed_files_of_view l.files) l.file) (walk_with_file_entered l.file (walk_state_of_builder l.files.tables.now l.fn.self)))
    × (l.row ≡ physical_line_of_file_line (lines_of_numbered_file (parsed_files_of_view l.files) l.file) l.line)

abbrev pub invariant-follow_include_at-loop-file : goal.invariant-follow_include_at-loop-file
invariant-follow_include_at-loop-file l =
    IsSoundWalkBuilder l.files l.known l.self
    × (walk_after_file_visits (walk_after_file_visit l.left (parsed_files_of_view l.files)) (parsed_files_of_view l.files) (include_site_of_line (parsed_files_of_view l.files) l.at.file l.at.line) (drop l.file-index l.file-items) (walk_state_of_builder l.files.tables.now l.self)
    ≡ walk_after_file_visits (walk_after_file_visit l.left (parsed_files_of_view l.files)) (parsed_files_of_view l.files) (include_site_of_line (parsed_files_of_view l.files) l.at.file l.at.line) l.file-items (walk_state_of_builder l.files.tables.now l.fn.self))
