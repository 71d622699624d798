use Rattle.sudoers_edit.proofs.Common.{file_number_of_change, rules}
use Rattle.std.proofs.lemmas.List.Sorted.{IsNonDecreasingBy-from_sort_by_key, answers_always}
use Rattle.sudoers_edit.proofs.PruneSort.{stable_sort_by_file_is_file_order}
use Rattle.sudoers_edit.proofs.prune_plan.sort_changes_by_file.Goals as goal

pub returns : goal.returns
returns c =
    stable_sort_by_file_is_file_order _ _ c.sort_by_key.ensures.permutation
    (IsNonDecreasingBy-from_sort_by_key file_number_of_change _ c.in_ok-sort_by_key.ensures.sorted (λ a r q k. search rules))
    (c.sort_by_key.ensures.stable file_number_of_change (answers_always _ _ _ (λ f a r g h. search rules)))
