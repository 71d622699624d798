use Rattle.std.proofs.Common.{◌≡◌, ◌+◌, drop}
use Rattle.sudoers_text.specs.Value.{leading_blanks_size}
use Rattle.sudoers_text.proofs.word_value.leading_blanks_len.Given as goal

-- what has been passed are blanks, and what is left begins with the others
abbrev pub invariant-loop-i : goal.invariant-loop-i
invariant-loop-i l = l.i + leading_blanks_size (drop l.i l.bytes) ≡ leading_blanks_size l.bytes
