use Rattle.std.proofs.Common.{◌≡◌, [], drop, map}
use Rattle.sudoers_files.specs.Folder.{sorted_names_with_names_inserted}
use Rattle.sudoers_files.proofs.Ordered.{bytes_of_name}
use Rattle.sudoers_files.proofs.sorted_names_in_folder.sort_unique_names.Given as goal

-- The names that are still to come, inserted into those so far, give the outcome for all names.
abbrev pub invariant-loop-name : goal.invariant-loop-name
invariant-loop-name l = sorted_names_with_names_inserted (map bytes_of_name l.order.keys) (drop l.name-index l.names) ≡ sorted_names_with_names_inserted [] l.names
