use Rattle.sudoers_match_list.specs.Alike.{unchanged_atom}
use Rattle.sudoers_match.proofs.Alike.{unchanged_atoms_keep_atom_matches}
use Rattle.laws_compare.proofs.SameContents.{policies_of_same_flat_runas_defaults_are_alike}
use Rattle.laws_compare.proofs.SameEffects.{policies_of_same_effect_answer_same}
use Rattle.laws_compare.proofs.laws.same_effect_answers_same.Goals as goal

pub returns-clause-answer : goal.returns-clause-answer
returns-clause-answer c = policies_of_same_effect_answer_same c.one_flat.ensures c.same_flat_lists_are_alike.ensures c.alike_rows_answer.ensures.alike

pub returns-clause-default : goal.returns-clause-default
returns-clause-default c lines others content f g =
    c.alike_defaults_are_same.ensures unchanged_atom lines others unchanged_atoms_keep_atom_matches
    (policies_of_same_flat_runas_defaults_are_alike c.same_flat_lists_are_alike.ensures lines others content.runas_defaults f.runas_defaults g.runas_defaults)
