use Rattle.std.proofs.Common.{length}
use Rattle.sudoers_bundle.specs.internal.{IsUnreadBundleRest}
use Rattle.sudoers_bundle.proofs.reading.read_bundle.Given as goal

abbrev pub invariant-loop-rest : goal.invariant-loop-rest
invariant-loop-rest l = IsUnreadBundleRest l.text l.files.items l.rest

abbrev pub decreases-loop-rest : goal.decreases-loop-rest
decreases-loop-rest l = length l.rest
