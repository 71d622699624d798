use Rattle.std.proofs.Common.{◌≡◌, ◌++◌, ◌+◌, drop}
use Rattle.sudoers_run.specs.Shown.{shown_files_with_headings}
use Rattle.sudoers_run.proofs.show.make_shown_policy_text.Given as goal

abbrev pub invariant-loop-file : goal.invariant-loop-file
invariant-loop-file l = l.out.items ++ shown_files_with_headings (l.file + 1) (drop l.file l.policy.files) ≡ shown_files_with_headings 1 l.policy.files
