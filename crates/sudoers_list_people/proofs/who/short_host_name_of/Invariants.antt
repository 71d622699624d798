use Rattle.std.proofs.Common.{◌≡◌, ◌+◌, ◌==◌, drop}
use Rattle.std.specs.List.{position_or_len}
use Rattle.sudoers_list_people.proofs.who.short_host_name_of.Given as goal

abbrev pub invariant-loop-at : goal.invariant-loop-at
invariant-loop-at l = l.at + position_or_len (λ b. b == 46) (drop l.at l.host) ≡ position_or_len (λ b. b == 46) l.host
