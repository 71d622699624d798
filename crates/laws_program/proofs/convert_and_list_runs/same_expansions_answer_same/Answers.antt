use Rattle.laws_program.proofs.SameTexts.{policies_of_same_expansion_answer_same}
use Rattle.laws_program.proofs.convert_and_list_runs.same_expansions_answer_same.Goals as goal

pub returns : goal.returns
returns c prune other_prune root known other_root other_known out first second =
    policies_of_same_expansion_answer_same root known other_root other_known out
    (c.expanded_policy_is_printed.ensures prune root known out first) (c.expanded_policy_is_printed.ensures other_prune other_root other_known out second)
