use Rattle.std.proofs.Common.{◌≡◌, length, false}
use Rattle.sudoers_forms.specs.Forms.{has_second_odd_run}
use Rattle.sudoers_forms.proofs.token_form.has_second_odd_run.Given as goal

abbrev pub invariant-loop-first : goal.invariant-loop-first
invariant-loop-first l = has_second_odd_run l.is_found l.is_odd l.rest ≡ has_second_odd_run false false l.bytes

abbrev pub decreases-loop-first : goal.decreases-loop-first
decreases-loop-first l = length l.rest
