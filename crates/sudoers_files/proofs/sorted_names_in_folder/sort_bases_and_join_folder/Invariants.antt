use Rattle.std.proofs.Common.{◌≡◌, [], ◌++◌, length, map}
use Rattle.sudoers_files.specs.Folder.{sorted_names_with_names_inserted, file_name_of_base_in_folder}
use Rattle.sudoers_files.proofs.Ordered.{bytes_of_name}
use Rattle.sudoers_files.proofs.sorted_names_in_folder.sort_bases_and_join_folder.Given as goal

abbrev pub invariant-loop-base : goal.invariant-loop-base
invariant-loop-base l = l.names.items ++ map (file_name_of_base_in_folder l.dir) (map bytes_of_name l.order.keys) ≡ map (file_name_of_base_in_folder l.dir) (sorted_names_with_names_inserted [] l.bases)

abbrev pub decreases-loop-base : goal.decreases-loop-base
decreases-loop-base l = length l.order.keys
