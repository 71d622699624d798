use Rattle.std.proofs.Common.{◌≡◌, ◌*◌, ◌+◌, List, drop, Some}
use Rattle.sudoers_tree.specs.declared.named_files.NamedFile.{NamedFile}
use Rattle.sudoers_files.specs.Folder.{sorted_file_names_in_folder}
use Rattle.sudoers_files.specs.Gather.{gathered_with_file_and_includes, gathered_after_file_visit, gathered_after_file_visits}
use Rattle.sudoers_files.specs.Included.{file_names_included_by_lines}
use Rattle.sudoers_files.specs.Shelf.{included_base_names_in}
use Rattle.sudoers_files.specs.internal.Gathering.{AreFilesOfFoldersFoundOrMissing}
use Rattle.sudoers_files.proofs.gathering.+gather.Given as goal

abbrev pub decreases-gather_file_and_includes : goal.decreases-gather_file_and_includes
decreases-gather_file_and_includes g l = 4 * l.left + 3

abbrev pub decreases-gather_includes_of_line : goal.decreases-gather_includes_of_line
decreases-gather_includes_of_line g l = 4 * l.left + 2

abbrev pub decreases-gather_included_folder : goal.decreases-gather_included_folder
decreases-gather_included_folder g l = 4 * l.left + 1

abbrev pub decreases-gather_named_file : goal.decreases-gather_named_file
decreases-gather_named_file g l = 4 * l.left

-- The visits that are left have the outcome of all visits.
abbrev pub invariant-gather_file_and_includes-loop-line : goal.invariant-gather_file_and_includes-loop-line
invariant-gather_file_and_includes-loop-line g l =
    (g.F.Files.shelf l.files ≡ g.F.Files.shelf l.fn.files)
    × ((known : List NamedFile) → (g.F.Files.shelf l.fn.files).files ≡ Some known → AreFilesOfFoldersFoundOrMissing known l.fn.gathered.found.items l.fn.gathered.folders
    → (gathered_after_file_visits (gathered_after_file_visit l.left known) l.gathered.found.items (file_names_included_by_lines known l.name (drop l.line-index l.line-items))
    ≡ gathered_with_file_and_includes (gathered_after_file_visit l.left known) known l.fn.gathered.found.items (record { name = l.name; bytes = l.fn.bytes }))
    × AreFilesOfFoldersFoundOrMissing known l.gathered.found.items l.gathered.folders)

abbrev pub invariant-gather_included_folder-loop-name : goal.invariant-gather_included_folder-loop-name
invariant-gather_included_folder-loop-name g l =
    (g.F.Files.shelf l.files ≡ g.F.Files.shelf l.fn.files)
    × ((known : List NamedFile) → (g.F.Files.shelf l.fn.files).files ≡ Some known → AreFilesOfFoldersFoundOrMissing known l.fn.gathered.found.items l.fn.gathered.folders
    → (gathered_after_file_visits (gathered_after_file_visit l.left known) l.gathered.found.items (drop l.name-index l.name-items)
    ≡ gathered_after_file_visits (gathered_after_file_visit l.left known) l.fn.gathered.found.items (sorted_file_names_in_folder l.dir (included_base_names_in l.dir known)))
    × AreFilesOfFoldersFoundOrMissing known l.gathered.found.items l.gathered.folders)
