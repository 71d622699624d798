use Rattle.std.proofs.Common.{◌≡◌, length}
use Rattle.sudoers_defaults.specs.Refused.{tokens_from_name}
use Rattle.sudoers_defaults.proofs.refused.skip_to_name.Given as goal

abbrev pub invariant-loop-first : goal.invariant-loop-first
invariant-loop-first l = tokens_from_name l.rest ≡ tokens_from_name l.tokens

abbrev pub decreases-loop-first : goal.decreases-loop-first
decreases-loop-first l = length l.rest
