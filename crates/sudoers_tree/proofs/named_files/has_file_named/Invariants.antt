use Rattle.sudoers_tree.proofs.Common.{drop, has_file_with_name, ◌≡◌}
use Rattle.sudoers_tree.proofs.named_files.has_file_named.Given as goal

abbrev pub invariant-loop-file : goal.invariant-loop-file
invariant-loop-file l = has_file_with_name l.name (drop l.file-index l.files) ≡ has_file_with_name l.name l.files
