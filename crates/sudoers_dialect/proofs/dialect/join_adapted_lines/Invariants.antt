use Rattle.std.proofs.Common.{◌≡◌, ◌++◌, drop}
use Rattle.std.specs.Prelude.{map}
use Rattle.sudoers_text.specs.Line.{join}
use Rattle.sudoers_text.specs.Adapted.{adapted_line}
use Rattle.sudoers_dialect.proofs.dialect.join_adapted_lines.Given as goal

-- What is so far, and the lines still to come.
abbrev pub invariant-loop-number : goal.invariant-loop-number
invariant-loop-number l = l.adapted.items ++ join (map adapted_line (drop l.number l.lines)) ≡ join (map adapted_line l.lines)
