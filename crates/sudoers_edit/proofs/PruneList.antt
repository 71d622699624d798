-- Prune is the edits of its list, one after another.
use Rattle.sudoers_edit.proofs.Common.{EditFault, Err, List, LoadedPolicy, Ok, Prune, PruneRemoval, Result, [], ap, edit_of_removal, edit_result_and_then, edit_undoing_removal, edits_of_prune, edits_undoing_removals}
use Rattle.sudoers_edit.proofs.Common.{inv, inv_run, map, next_or_placed_refusal, policy_after_removal, policy_after_removals, policy_or_first_refusal, prune_removals_of_walk, refl, result_unwrap_or}
use Rattle.sudoers_edit.proofs.Common.{run_result_without_place, step, ℕ, ◌++◌, ◌+◌, ◌∷◌, ◌≡◌}
use Rattle.sudoers_edit.specs.declared.prune_removals.PruneRemoval.TheVariants as removal

removals_after_first_are_run_of_edits : (rs : List PruneRemoval) (place : ℕ) → ((policy : LoadedPolicy) → policy_after_removals rs policy ≡ run_result_without_place (policy_or_first_refusal (place + 1) (map edit_of_removal rs) policy))
    → (r : Result LoadedPolicy EditFault) → edit_result_and_then r (policy_after_removals rs) ≡ run_result_without_place (next_or_placed_refusal (policy_or_first_refusal (place + 1) (map edit_of_removal rs)) place r)
removals_after_first_are_run_of_edits rs place more (Ok policy) = more policy
removals_after_first_are_run_of_edits rs place more (Err fault) = refl

policy_after_removals_is_run_of_edits : (rs : List PruneRemoval) (place : ℕ) (policy : LoadedPolicy) → policy_after_removals rs policy ≡ run_result_without_place (policy_or_first_refusal place (map edit_of_removal rs) policy)
policy_after_removals_is_run_of_edits [] place policy = refl
policy_after_removals_is_run_of_edits (removal.Line file at ∷ rs) place policy = removals_after_first_are_run_of_edits rs place (policy_after_removals_is_run_of_edits rs (place + 1)) (policy_after_removal (removal.Line file at) policy)
policy_after_removals_is_run_of_edits (removal.Def file line at ∷ rs) place policy = removals_after_first_are_run_of_edits rs place (policy_after_removals_is_run_of_edits rs (place + 1)) (policy_after_removal (removal.Def file line at) policy)

edits_undoing_removals_are_inverse_run : (rs : List PruneRemoval) (policy : LoadedPolicy) → edits_undoing_removals rs policy ≡ inv_run (map edit_of_removal rs) policy
edits_undoing_removals_are_inverse_run [] policy = refl
edits_undoing_removals_are_inverse_run (removal.Line file at ∷ rs) policy =
    let one : PruneRemoval = removal.Line file at in
    ap (λ edits. edits ++ edit_undoing_removal one policy ∷ []) (edits_undoing_removals_are_inverse_run rs (result_unwrap_or (policy_after_removal one policy) policy))
edits_undoing_removals_are_inverse_run (removal.Def file line at ∷ rs) policy =
    let one : PruneRemoval = removal.Def file line at in
    ap (λ edits. edits ++ edit_undoing_removal one policy ∷ []) (edits_undoing_removals_are_inverse_run rs (result_unwrap_or (policy_after_removal one policy) policy))

pub prune_step_is_run_of_its_edits : (policy : LoadedPolicy) → step Prune policy ≡ run_result_without_place (policy_or_first_refusal 0 (edits_of_prune policy) policy)
prune_step_is_run_of_its_edits policy = policy_after_removals_is_run_of_edits (prune_removals_of_walk policy.walk) 0 policy

pub prune_inverse_is_inverse_of_its_edits : (policy : LoadedPolicy) → inv Prune policy ≡ inv_run (edits_of_prune policy) policy
prune_inverse_is_inverse_of_its_edits policy = edits_undoing_removals_are_inverse_run (prune_removals_of_walk policy.walk) policy
