use Rattle.std.proofs.Common.{◌≡◌, drop, false}
use Rattle.sudoers_forms.specs.SudoRs.{has_other_byte_of_name}
use Rattle.sudoers_forms.proofs.sudo_rs_name.has_other_byte_of_name.Given as goal

abbrev pub invariant-loop-byte : goal.invariant-loop-byte
invariant-loop-byte l = has_other_byte_of_name l.is_escaped (drop l.byte-index l.text) ≡ has_other_byte_of_name false l.text
