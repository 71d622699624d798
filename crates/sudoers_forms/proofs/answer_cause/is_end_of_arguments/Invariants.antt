use Rattle.std.proofs.Common.{◌≡◌, length}
use Rattle.sudoers_forms.specs.Answers.{is_end_of_arguments}
use Rattle.sudoers_forms.proofs.answer_cause.is_end_of_arguments.Given as goal

abbrev pub invariant-loop-first : goal.invariant-loop-first
invariant-loop-first l = is_end_of_arguments l.rest ≡ is_end_of_arguments l.bytes

abbrev pub decreases-loop-first : goal.decreases-loop-first
decreases-loop-first l = length l.rest
