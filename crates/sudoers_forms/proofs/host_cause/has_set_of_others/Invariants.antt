use Rattle.std.proofs.Common.{◌≡◌, length, false}
use Rattle.sudoers_forms.specs.Answers.{has_set_of_others}
use Rattle.sudoers_forms.proofs.host_cause.has_set_of_others.Given as goal

abbrev pub invariant-loop-first : goal.invariant-loop-first
invariant-loop-first l = has_set_of_others l.is_escaped l.rest ≡ has_set_of_others false l.text

abbrev pub decreases-loop-first : goal.decreases-loop-first
decreases-loop-first l = length l.rest
