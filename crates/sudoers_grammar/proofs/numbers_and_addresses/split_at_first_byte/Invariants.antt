use Rattle.std.proofs.Common.{◌≡◌, drop, take, option_map}
use Rattle.sudoers_grammar.specs.Number.{parts_around_first_byte}
use Rattle.sudoers_grammar.proofs.Numbers.{parts_with_front_prepended}
use Rattle.sudoers_grammar.proofs.numbers_and_addresses.split_at_first_byte.Given as goal

abbrev pub invariant-loop-i : goal.invariant-loop-i
invariant-loop-i l = option_map (parts_with_front_prepended (take l.i l.text)) (parts_around_first_byte l.byte (drop l.i l.text)) ≡ parts_around_first_byte l.byte l.text
