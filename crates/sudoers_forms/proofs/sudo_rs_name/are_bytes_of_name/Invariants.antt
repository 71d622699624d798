use Rattle.std.proofs.Common.{◌≡◌, drop}
use Rattle.std.specs.List.{list_all}
use Rattle.sudoers_forms.specs.SudoRs.{is_byte_of_rs_name}
use Rattle.sudoers_forms.proofs.sudo_rs_name.are_bytes_of_name.Given as goal

abbrev pub invariant-loop-byte : goal.invariant-loop-byte
invariant-loop-byte l = list_all is_byte_of_rs_name (drop l.byte-index l.text) ≡ list_all is_byte_of_rs_name l.text
