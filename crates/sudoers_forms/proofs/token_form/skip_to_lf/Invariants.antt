use Rattle.std.proofs.Common.{◌≡◌, length}
use Rattle.sudoers_forms.specs.Forms.{rest_from_lf}
use Rattle.sudoers_forms.proofs.token_form.skip_to_lf.Given as goal

abbrev pub invariant-loop-first : goal.invariant-loop-first
invariant-loop-first l = rest_from_lf l.rest ≡ rest_from_lf l.gap

abbrev pub decreases-loop-first : goal.decreases-loop-first
decreases-loop-first l = length l.rest
