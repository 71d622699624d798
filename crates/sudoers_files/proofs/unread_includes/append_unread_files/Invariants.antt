use Rattle.std.proofs.Common.{◌≡◌, ◌++◌, map}
use Rattle.sudoers_files.specs.declared.unread_includes.MissingFolderOrSkippedFile.TheVariants.{File}
use Rattle.sudoers_files.proofs.unread_includes.append_unread_files.Given as goal

abbrev pub invariant-loop-name : goal.invariant-loop-name
invariant-loop-name l = l.all.items ≡ l.fn.all.items ++ map File l.yielded
