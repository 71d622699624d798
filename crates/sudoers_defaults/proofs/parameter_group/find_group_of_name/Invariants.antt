use Rattle.std.proofs.Common.{◌≡◌, drop}
use Rattle.sudoers_defaults.specs.Parameter.{group_of_name}
use Rattle.sudoers_defaults.proofs.parameter_group.find_group_of_name.Given as goal

abbrev pub invariant-loop-group : goal.invariant-loop-group
invariant-loop-group l = group_of_name l.name (drop l.group-index l.known) ≡ group_of_name l.name l.known
