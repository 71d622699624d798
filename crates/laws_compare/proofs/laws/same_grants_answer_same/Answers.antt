use Rattle.laws_compare.proofs.SameGrants.{policies_of_same_grants_answer_same}
use Rattle.laws_compare.proofs.laws.same_grants_answer_same.Goals as goal

pub returns : goal.returns
returns c = policies_of_same_grants_answer_same c.one_flat.ensures c.one_runas_default.ensures
