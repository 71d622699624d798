use Rattle.std.proofs.Common.{◌≡◌, ◌++◌, drop}
use Rattle.sudoers_bundle.specs.Bundle.{bundle_of_files}
use Rattle.sudoers_dialect.specs.Output.{changed_files}
use Rattle.sudoers_dialect.proofs.output.make_bundle_of_changed_files.Given as goal

-- The bundle so far, and that of the files still to come.
abbrev pub invariant-loop-file : goal.invariant-loop-file
invariant-loop-file l = l.out.items ++ bundle_of_files (changed_files (drop l.file-index l.files)) ≡ bundle_of_files (changed_files l.files)
