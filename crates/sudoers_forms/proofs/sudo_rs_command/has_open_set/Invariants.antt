use Rattle.std.proofs.Common.{◌≡◌, drop}
use Rattle.sudoers_forms.specs.declared.sudo_rs_command.SetPlace.TheVariants as place
use Rattle.sudoers_forms.specs.SudoRs.{has_open_set}
use Rattle.sudoers_forms.proofs.sudo_rs_command.has_open_set.Given as goal

abbrev pub invariant-loop-byte : goal.invariant-loop-byte
invariant-loop-byte l = has_open_set l.place (drop l.byte-index l.text) ≡ has_open_set place.Outside l.text
