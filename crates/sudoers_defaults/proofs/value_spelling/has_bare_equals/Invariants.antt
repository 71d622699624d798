use Rattle.std.proofs.Common.{◌≡◌, drop, false}
use Rattle.sudoers_defaults.specs.Parameter.{has_bare_equals}
use Rattle.sudoers_defaults.proofs.value_spelling.has_bare_equals.Given as goal

abbrev pub invariant-loop-byte : goal.invariant-loop-byte
invariant-loop-byte l = has_bare_equals l.is_escaped (drop l.byte-index l.text) ≡ has_bare_equals false l.text
