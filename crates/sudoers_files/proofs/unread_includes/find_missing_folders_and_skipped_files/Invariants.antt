use Rattle.std.proofs.Common.{◌≡◌, ℕ, List, ◌++◌, length, map, Some}
use Rattle.std.specs.List.{flat_map}
use Rattle.sudoers_tree.specs.declared.named_files.NamedFile.{NamedFile}
use Rattle.sudoers_files.specs.Shelf.{unread_base_names_in}
use Rattle.sudoers_files.specs.Unread.{unread_includes_of_files, unread_includes_of_folder_listing}
use Rattle.sudoers_files.proofs.Ordered.{bytes_of_name}
use Rattle.sudoers_files.proofs.unread_includes.find_missing_folders_and_skipped_files.Given as goal

-- What is found so far and what the folders still to come give are the outcome for all folders.
abbrev pub invariant-loop-dir : goal.invariant-loop-dir
invariant-loop-dir g l =
    (g.F.Files.shelf l.files ≡ g.F.Files.shelf l.fn.files)
    × ((known : List NamedFile) → (g.F.Files.shelf l.fn.files).files ≡ Some known
    → l.all.items ++ flat_map (λ (dir : List ℕ). unread_includes_of_folder_listing dir (unread_base_names_in dir known)) (map bytes_of_name l.order.keys) ≡ unread_includes_of_files known l.found)

abbrev pub decreases-loop-dir : goal.decreases-loop-dir
decreases-loop-dir g l = length l.order.keys
