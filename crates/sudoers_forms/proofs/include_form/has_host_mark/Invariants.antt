use Rattle.std.proofs.Common.{◌≡◌, length}
use Rattle.sudoers_forms.specs.HostMark.{has_host_mark}
use Rattle.sudoers_forms.proofs.include_form.has_host_mark.Given as goal

abbrev pub invariant-loop-first : goal.invariant-loop-first
invariant-loop-first l = has_host_mark l.rest ≡ has_host_mark l.path

abbrev pub decreases-loop-first : goal.decreases-loop-first
decreases-loop-first l = length l.rest
