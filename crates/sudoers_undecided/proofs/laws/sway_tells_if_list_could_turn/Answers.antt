use Rattle.std.proofs.Common.{refl}
use Rattle.sudoers_undecided.specs.ListSway.{is_bare_and_undecided}
use Rattle.sudoers_undecided.proofs.Sways.{sway_of_appended, sway_has_last_hit, sway_then_turning_atom, sway_of_negated, turning_atom_then_sway}
use Rattle.sudoers_undecided.proofs.laws.sway_tells_if_list_could_turn.Goals as goal

pub returns-clause-hit : goal.returns-clause-hit
returns-clause-hit c undecided test flat = sway_has_last_hit (is_bare_and_undecided undecided) test flat

pub returns-clause-appended : goal.returns-clause-appended
returns-clause-appended c undecided test flat others = sway_of_appended (is_bare_and_undecided undecided) test flat others

pub returns-clause-turned : goal.returns-clause-turned
returns-clause-turned c undecided test negated flat = sway_of_negated (is_bare_and_undecided undecided) test (λ n s. refl) negated flat

pub returns-clause-turns : goal.returns-clause-turns
returns-clause-turns c undecided test allowed flat = ((λ e. sway_then_turning_atom undecided test allowed flat e), (λ w. turning_atom_then_sway undecided test allowed flat w.0 w.1))
