use Rattle.std.proofs.Common.{◌≡◌, ◌++◌, drop}
use Rattle.std.specs.List.{flat_map}
use Rattle.sudoers_tree.specs.declared.named_files.NamedFile.{NamedFile}
use Rattle.sudoers_run.proofs.edit.append_bytes_of_all_files.Given as goal

abbrev pub invariant-loop-file : goal.invariant-loop-file
invariant-loop-file l =
    l.out.items ++ flat_map (λ (file : NamedFile). file.bytes) (drop l.file-index l.files)
    ≡ l.initial.out.items ++ flat_map (λ (file : NamedFile). file.bytes) l.files
