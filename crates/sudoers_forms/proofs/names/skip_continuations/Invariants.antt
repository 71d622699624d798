use Rattle.std.proofs.Common.{◌≡◌, length, false}
use Rattle.sudoers_forms.specs.Names.{bytes_behind_continuations}
use Rattle.sudoers_forms.proofs.names.skip_continuations.Given as goal

abbrev pub invariant-loop-first : goal.invariant-loop-first
invariant-loop-first l = bytes_behind_continuations l.is_within l.rest ≡ bytes_behind_continuations false l.content

abbrev pub decreases-loop-first : goal.decreases-loop-first
decreases-loop-first l = length l.rest
