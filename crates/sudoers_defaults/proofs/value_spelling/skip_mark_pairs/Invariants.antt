use Rattle.std.proofs.Common.{◌≡◌, length}
use Rattle.sudoers_defaults.specs.Parameter.{text_behind_mark_pairs}
use Rattle.sudoers_defaults.proofs.value_spelling.skip_mark_pairs.Given as goal

abbrev pub invariant-loop-rest : goal.invariant-loop-rest
invariant-loop-rest l = text_behind_mark_pairs l.rest ≡ text_behind_mark_pairs l.text

abbrev pub decreases-loop-rest : goal.decreases-loop-rest
decreases-loop-rest l = length l.rest
