use Rattle.std.proofs.Common.{◌≡◌, length}
use Rattle.sudoers_forms.specs.Forms.{bytes_behind_marks}
use Rattle.sudoers_forms.proofs.token_form.skip_marks.Given as goal

abbrev pub invariant-loop-first : goal.invariant-loop-first
invariant-loop-first l = bytes_behind_marks l.rest ≡ bytes_behind_marks l.bytes

abbrev pub decreases-loop-first : goal.decreases-loop-first
decreases-loop-first l = length l.rest
