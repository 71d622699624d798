use Rattle.std.proofs.Common.{take}
use Rattle.sudoers_match_member.specs.internal.LookedUp.{AreLowerNamesOf}
use Rattle.sudoers_match_member.proofs.groups.collect_lower_names.Given as goal

abbrev pub invariant-loop-group : goal.invariant-loop-group
invariant-loop-group l = AreLowerNamesOf (take l.group-index l.groups) l.names
