use Rattle.std.proofs.Common.{◌≡◌, drop}
use Rattle.std.specs.List.{list_any}
use Rattle.std.specs.Str.{bytes_eq}
use Rattle.sudoers_defaults.specs.Parameter.{is_name_in_group}
use Rattle.sudoers_defaults.proofs.parameter_group.ParameterGroup.has_name.Given as goal

abbrev pub invariant-loop-known : goal.invariant-loop-known
invariant-loop-known l = list_any (λ n. bytes_eq n.now l.name) (drop l.known-index l.self.names.now) ≡ is_name_in_group l.name l.self
