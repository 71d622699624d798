use Rattle.std.proofs.Common.{◌≡◌, ◌++◌, drop}
use Rattle.sudoers_cvt_sudo.specs.Names.{rest_with_spelled_names}
use Rattle.sudoers_cvt_sudo.proofs.names.join_spelled_names.Given as goal

-- What is so far, and what is still to come.
abbrev pub invariant-loop-refused : goal.invariant-loop-refused
invariant-loop-refused l = l.spelled.items ++ rest_with_spelled_names l.spelling l.line l.at (drop l.refused-index l.forms) ≡ rest_with_spelled_names l.spelling l.line 0 l.forms
