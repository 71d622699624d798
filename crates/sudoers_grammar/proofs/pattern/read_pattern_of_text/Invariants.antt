use Rattle.std.proofs.Common.{◌≡◌, ◌++◌, ◌-◌, ◌≤◌, length, drop}
use Rattle.sudoers_grammar.specs.Pattern.{pattern_of_remaining_bytes, pattern_of_text}
use Rattle.sudoers_grammar.proofs.pattern.read_pattern_of_text.Given as goal

-- what has been appended and what is left are the whole
abbrev pub invariant-loop-at : goal.invariant-loop-at
invariant-loop-at l = record {
  within : l.at ≤ length l.text;
  so_far : l.pattern.items ++ pattern_of_remaining_bytes l.fn.spelling 0 (drop l.at l.text) ≡ pattern_of_text l.fn.spelling l.text;
}

abbrev pub decreases-loop-at : goal.decreases-loop-at
decreases-loop-at l = length l.text - l.at
