use Rattle.std.proofs.Common.{◌≡◌, drop, false}
use Rattle.sudoers_forms.specs.Answers.{has_escape_of}
use Rattle.sudoers_forms.proofs.host_cause.has_escape_of.Given as goal

abbrev pub invariant-loop-byte : goal.invariant-loop-byte
invariant-loop-byte l = has_escape_of l.wanted l.is_escaped (drop l.byte-index l.text) ≡ has_escape_of l.wanted false l.text
