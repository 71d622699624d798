use Rattle.std.proofs.Common.{◌≡◌, drop}
use Rattle.sudoers_defaults.specs.Numbers.{text_after_spaces}
use Rattle.sudoers_defaults.proofs.number_values.skip_spaces.Given as goal

abbrev pub invariant-loop-at : goal.invariant-loop-at
invariant-loop-at l = text_after_spaces (drop l.at l.text) ≡ text_after_spaces l.text
