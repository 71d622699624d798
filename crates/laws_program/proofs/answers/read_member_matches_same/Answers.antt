use Rattle.laws_program.proofs.ReadBack.{reading_back_keeps_atom_matches}
use Rattle.laws_program.proofs.answers.read_member_matches_same.Goals as goal

pub returns : goal.returns
returns c = reading_back_keeps_atom_matches c.plain_first_is.ensures.host
