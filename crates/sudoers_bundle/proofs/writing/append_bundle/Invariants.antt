use Rattle.std.proofs.Common.{◌≡◌, ◌++◌, drop}
use Rattle.sudoers_bundle.specs.Bundle.{bundle_of_files}
use Rattle.sudoers_bundle.proofs.writing.append_bundle.Given as goal

abbrev pub invariant-loop-file : goal.invariant-loop-file
invariant-loop-file l = l.out.items ++ bundle_of_files (drop l.file-index l.files) ≡ l.initial.out.items ++ bundle_of_files l.files
