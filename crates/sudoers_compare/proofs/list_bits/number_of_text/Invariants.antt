use Rattle.std.proofs.Common.{◌≡◌, ◌<◌, drop}
use Rattle.sudoers_compare.specs.AtomNumbers.{text_number_after}
use Rattle.sudoers_compare.proofs.list_bits.number_of_text.Given as goal

abbrev pub invariant-loop-byte : goal.invariant-loop-byte
invariant-loop-byte l = (l.number < 36028797018963913) × (text_number_after l.number (drop l.byte-index l.text) ≡ text_number_after l.first l.text)
