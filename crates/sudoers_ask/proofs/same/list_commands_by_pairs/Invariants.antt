use Rattle.std.proofs.Common.{drop, ◌++◌, ◌≡◌}
use Rattle.sudoers_ask.specs.Same.{commands_by_pairs}
use Rattle.sudoers_ask.proofs.same.list_commands_by_pairs.Given as goal

abbrev pub invariant-loop-pair : goal.invariant-loop-pair
invariant-loop-pair l = l.others ++ commands_by_pairs l.path l.args (drop l.pair-index l.pairs) ≡ commands_by_pairs l.path l.args l.pairs
