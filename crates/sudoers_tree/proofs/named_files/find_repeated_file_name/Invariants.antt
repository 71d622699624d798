use Rattle.sudoers_tree.proofs.Common.{NamedFile, [], drop, first_repeated_file_name, map, take, ◌≡◌}
use Rattle.sudoers_tree.proofs.named_files.find_repeated_file_name.Given as goal

abbrev pub invariant-loop-number : goal.invariant-loop-number
invariant-loop-number l =
    first_repeated_file_name (map (λ (file : NamedFile). file.name) (take l.number l.files)) (drop l.number l.files) ≡ first_repeated_file_name [] l.files
