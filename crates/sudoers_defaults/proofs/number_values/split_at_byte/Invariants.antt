use Rattle.std.proofs.Common.{◌≡◌, drop, take, option_map}
use Rattle.sudoers_grammar.specs.Number.{parts_around_first_byte}
use Rattle.sudoers_grammar.proofs.Numbers.{parts_with_front_prepended}
use Rattle.sudoers_defaults.proofs.number_values.split_at_byte.Given as goal

abbrev pub invariant-loop-at : goal.invariant-loop-at
invariant-loop-at l = option_map (parts_with_front_prepended (take l.at l.text)) (parts_around_first_byte l.byte (drop l.at l.text)) ≡ parts_around_first_byte l.byte l.text
