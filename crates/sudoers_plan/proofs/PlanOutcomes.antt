-- What a plan is, once the edits of all wishes are made.
use Rattle.std.proofs.Common.{◌≡◌, ◌∙◌, ◌⊎◌, ℕ, List, [], Some, None, Result, Ok, Err, inl, inr, sym, ap, subst}
use Rattle.sudoers_tree.specs.Load.{LoadedPolicy}
use Rattle.sudoers_edit_script.specs.declared.edit.Edit.{Edit}
use Rattle.sudoers_edit.specs.Editing.{policy_or_first_refusal}
use Rattle.sudoers_plan.specs.declared.fault.PlanFault.{PlanFault}
use Rattle.sudoers_plan.specs.declared.fault.PlanFault.TheVariants.{NoMemory, NotMet}
use Rattle.sudoers_plan.specs.declared.wish.Wish.{Wish}
use Rattle.sudoers_plan.specs.Plan.{LeadsToAllWishes, MeetsAllWishes, edits_if_all_met, edits_unless_unmet, first_unmet_wish, plan_of_wishes, planned_for_wishes}
use Rattle.sudoers_plan.proofs.NothingWanted.{all_met_if_none_unmet, none_unmet_if_all_met, nothing_planned_if_all_met}

-- a refusal on the way is the plan's, unless memory ran out
pub refusal_of_plan : (wishes : List Wish) (policy : LoadedPolicy) (n : ℕ) (fault : PlanFault)
    → (fault ≡ NoMemory) ⊎ (planned_for_wishes 0 [] wishes policy ≡ Err (n, fault)) → (fault ≡ NoMemory) ⊎ (plan_of_wishes wishes policy ≡ Err (n, fault))
unfolding plan_of_wishes
refusal_of_plan wishes policy n fault (inl memory) = inl memory
refusal_of_plan wishes policy n fault (inr planned) = inr (ap (edits_if_all_met wishes) planned)

-- the edits are the plan, if each wish is met then
pub plan_if_all_met : (wishes : List Wish) (policy new : LoadedPolicy) (edits : List Edit) → planned_for_wishes 0 [] wishes policy ≡ Ok (edits, new)
    → first_unmet_wish 0 wishes new ≡ None → plan_of_wishes wishes policy ≡ Ok edits
unfolding plan_of_wishes
plan_if_all_met wishes policy new edits planned met = ap (edits_if_all_met wishes) planned ∙ ap (edits_unless_unmet edits) met

-- else the first that is not met is the plan's refusal
pub plan_if_unmet : (wishes : List Wish) (policy new : LoadedPolicy) (edits : List Edit) (n : ℕ) → planned_for_wishes 0 [] wishes policy ≡ Ok (edits, new)
    → first_unmet_wish 0 wishes new ≡ Some n → plan_of_wishes wishes policy ≡ Err (n, NotMet)
unfolding plan_of_wishes
plan_if_unmet wishes policy new edits n planned unmet = ap (edits_if_all_met wishes) planned ∙ ap (edits_unless_unmet edits) unmet

abbrev edits_or_none : Result (List Edit × LoadedPolicy) (ℕ × PlanFault) → List Edit
edits_or_none (Ok planned) = planned.0
edits_or_none (Err refused) = []

abbrev policy_or : LoadedPolicy → Result (List Edit × LoadedPolicy) (ℕ × PlanFault) → LoadedPolicy
policy_or policy (Ok planned) = planned.1
policy_or policy (Err refused) = policy

-- where all wishes are met, no edit is planned, and none is refused
pub no_refusal_if_all_met : (wishes : List Wish) (policy : LoadedPolicy) (n : ℕ) (fault : PlanFault) → MeetsAllWishes policy wishes
    → (fault ≡ NoMemory) ⊎ (planned_for_wishes 0 [] wishes policy ≡ Err (n, fault)) → fault ≡ NoMemory
no_refusal_if_all_met wishes policy n fault met (inl memory) = memory
no_refusal_if_all_met wishes policy n fault met (inr planned) = absurd (let t = sym (nothing_planned_if_all_met 0 [] wishes policy met) ∙ planned in cc)

pub no_edit_if_all_met : (wishes : List Wish) (policy new : LoadedPolicy) (edits : List Edit) → MeetsAllWishes policy wishes
    → planned_for_wishes 0 [] wishes policy ≡ Ok (edits, new) → edits ≡ []
no_edit_if_all_met wishes policy new edits met planned = ap edits_or_none (sym planned ∙ nothing_planned_if_all_met 0 [] wishes policy met)

pub none_unmet_of_plan : (wishes : List Wish) (policy new : LoadedPolicy) (edits : List Edit) (n : ℕ) → MeetsAllWishes policy wishes
    → planned_for_wishes 0 [] wishes policy ≡ Ok (edits, new) → first_unmet_wish 0 wishes new ≡ Some n → ⊥
none_unmet_of_plan wishes policy new edits n met planned unmet =
    let same : policy ≡ new = ap (policy_or policy) (sym (nothing_planned_if_all_met 0 [] wishes policy met) ∙ planned) in
    let still : first_unmet_wish 0 wishes new ≡ None = subst (λ (p : LoadedPolicy). first_unmet_wish 0 wishes p ≡ None) same (none_unmet_if_all_met 0 wishes policy met) in
    let u = sym unmet ∙ still in cc

-- the edits lead to what the editor holds, which meets all wishes
pub leads_to_all_wishes : (wishes : List Wish) (policy new : LoadedPolicy) (edits : List Edit) → policy_or_first_refusal 0 edits policy ≡ Ok new
    → first_unmet_wish 0 wishes new ≡ None → LeadsToAllWishes edits policy wishes
leads_to_all_wishes wishes policy new edits leads met = record { new = new; leads = leads; meets = all_met_if_none_unmet 0 wishes new met }
