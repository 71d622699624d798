use Rattle.std.proofs.Common.{◌≡◌, drop, false}
use Rattle.sudoers_forms.specs.SudoRs.{has_escape_beside}
use Rattle.sudoers_forms.proofs.sudo_rs_command.has_escape_beside.Given as goal

abbrev pub invariant-loop-byte : goal.invariant-loop-byte
invariant-loop-byte l = has_escape_beside l.known l.is_escaped (drop l.byte-index l.text) ≡ has_escape_beside l.known false l.text
