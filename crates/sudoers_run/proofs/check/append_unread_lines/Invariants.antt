use Rattle.std.proofs.Common.{◌≡◌, ◌++◌, drop}
use Rattle.sudoers_run.specs.Check.{unread_lines_text}
use Rattle.sudoers_run.proofs.check.append_unread_lines.Given as goal

-- What is written, and the lines on what is left.
abbrev pub invariant-loop-one : goal.invariant-loop-one
invariant-loop-one l = l.out.items ++ unread_lines_text l.found (drop l.one-index l.all) ≡ l.fn.out.items ++ unread_lines_text l.found l.all
