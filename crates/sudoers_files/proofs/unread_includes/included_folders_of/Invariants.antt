use Rattle.std.proofs.Common.{◌≡◌, ◌++◌, drop}
use Rattle.sudoers_files.specs.Unread.{folders_included_by_files}
use Rattle.sudoers_files.proofs.unread_includes.included_folders_of.Given as goal

abbrev pub invariant-loop-file : goal.invariant-loop-file
invariant-loop-file l = l.folders.items ++ folders_included_by_files (drop l.file-index l.found) ≡ folders_included_by_files l.found
