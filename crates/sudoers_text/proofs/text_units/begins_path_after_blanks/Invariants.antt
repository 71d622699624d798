use Rattle.std.proofs.Common.{◌≡◌, drop}
use Rattle.sudoers_text.specs.Unit.{has_path_after_blanks}
use Rattle.sudoers_text.proofs.text_units.begins_path_after_blanks.Given as goal

-- what is left is read as the whole is
abbrev pub invariant-loop-i : goal.invariant-loop-i
invariant-loop-i l = has_path_after_blanks (drop l.i l.text) ≡ has_path_after_blanks l.text
