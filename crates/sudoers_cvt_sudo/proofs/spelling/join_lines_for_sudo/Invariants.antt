use Rattle.std.proofs.Common.{◌≡◌, ◌++◌, drop}
use Rattle.std.specs.Prelude.{map}
use Rattle.sudoers_text.specs.Line.{join}
use Rattle.sudoers_cvt_sudo.specs.Printed.{line_for_sudo}
use Rattle.sudoers_cvt_sudo.proofs.spelling.join_lines_for_sudo.Given as goal

-- What is so far, and the lines still to come.
abbrev pub invariant-loop-number : goal.invariant-loop-number
invariant-loop-number l = l.spelled.items ++ join (map line_for_sudo (drop l.number l.lines)) ≡ join (map line_for_sudo l.lines)
