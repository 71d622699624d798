use Rattle.std.proofs.Common.{◌≡◌, ◌++◌, drop}
use Rattle.sudoers_files.specs.Shelf.{base_names_in_folder}
use Rattle.sudoers_files.proofs.files_in_memory.list_base_names_in_folder.Given as goal

abbrev pub invariant-loop-file : goal.invariant-loop-file
invariant-loop-file l = l.names.items ++ base_names_in_folder l.dir (drop l.file-index l.files) ≡ base_names_in_folder l.dir l.files
