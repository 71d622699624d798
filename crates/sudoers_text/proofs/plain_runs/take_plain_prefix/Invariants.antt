use Rattle.std.proofs.Common.{◌≡◌, ◌++◌, take, drop}
use Rattle.sudoers_text.specs.internal.Run.{plain_prefix_of_bytes}
use Rattle.sudoers_text.proofs.plain_runs.take_plain_prefix.Given as goal

-- what has been passed and what is left of the part are the part
abbrev pub invariant-loop-i : goal.invariant-loop-i
invariant-loop-i l = take l.i l.text ++ plain_prefix_of_bytes (drop l.i l.text) ≡ plain_prefix_of_bytes l.text
