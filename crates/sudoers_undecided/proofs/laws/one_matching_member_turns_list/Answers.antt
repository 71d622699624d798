use Rattle.sudoers_undecided.proofs.TurningAtoms.{matching_atom_turns_list}
use Rattle.sudoers_undecided.proofs.laws.one_matching_member_turns_list.Goals as goal

pub returns : goal.returns
returns c undecided test also own v fs t w hits none = matching_atom_turns_list undecided test also own v fs t w hits none
