use Rattle.std.proofs.Common.{◌≡◌, ◌++◌, ◌-◌, ◌≤◌, length, drop}
use Rattle.sudoers_text.specs.Value.{value_of_remaining_bytes, value_of_word}
use Rattle.sudoers_text.proofs.word_value.value.Given as goal

-- what has been taken and what is left stand for the whole
abbrev pub invariant-loop-at : goal.invariant-loop-at
invariant-loop-at l = record {
  within : l.at ≤ length l.word;
  so_far : l.value.items ++ value_of_remaining_bytes 0 l.quoted (drop l.at l.word) ≡ value_of_word l.word;
}

abbrev pub decreases-loop-at : goal.decreases-loop-at
decreases-loop-at l = length l.word - l.at
