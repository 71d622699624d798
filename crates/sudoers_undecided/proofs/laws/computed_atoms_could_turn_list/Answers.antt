use Rattle.sudoers_undecided.proofs.TurningAtoms.{computed_atom_could_turn, turning_atom_is_computed}
use Rattle.sudoers_undecided.proofs.laws.computed_atoms_could_turn_list.Goals as goal

pub returns : goal.returns
returns c undecided test v fs t = ((λ h. computed_atom_could_turn undecided test v fs t h), (λ w. turning_atom_is_computed undecided test v fs t w))
