use Rattle.std.proofs.Common.{◌≡◌, drop, false}
use Rattle.sudoers_text.specs.Adapted.{ends_with_argument_word}
use Rattle.sudoers_text.proofs.adapting.ends_with_argument_word.Given as goal

-- what is left ends as the whole does
abbrev pub invariant-loop-byte : goal.invariant-loop-byte
invariant-loop-byte l = ends_with_argument_word l.is_escaped l.is_joined (drop l.byte-index l.text) ≡ ends_with_argument_word false false l.text
