use Rattle.std.proofs.Common.{◌≡◌, [], None, Some, Ok, inr, arith}
use Rattle.std.proofs.lemmas.Grind.{common_steps}
use Rattle.sudoers_edit.specs.Editing.{policy_or_first_refusal}
use Rattle.sudoers_plan.specs.Plan.{first_unmet_wish, planned_for_wishes}
use Rattle.sudoers_plan.proofs.PlanOutcomes.{leads_to_all_wishes, no_edit_if_all_met, no_refusal_if_all_met, none_unmet_of_plan, plan_if_all_met, plan_if_unmet, refusal_of_plan}
use Rattle.sudoers_plan.proofs.planning.plan.Goals as goal

pub returns-in_err-edits-clause-outcome : goal.returns-in_err-edits-clause-outcome
returns-in_err-edits-clause-outcome c =
    let r = refusal_of_plan c.args.wishes.now c.args.policy.now c.in_err-edits.field-0.0.wish c.in_err-edits.field-0.0.fault in
    grind (arith, common_steps, r)

pub returns-in_err-edits-clause-nothing : goal.returns-in_err-edits-clause-nothing
returns-in_err-edits-clause-nothing c = λ met.
    let r = no_refusal_if_all_met c.args.wishes.now c.args.policy.now c.in_err-edits.field-0.0.wish c.in_err-edits.field-0.0.fault met in
    grind (arith, common_steps, r)

pub returns-in-None-clause-outcome : goal.returns-in-None-clause-outcome
returns-in-None-clause-outcome c =
    let planned : planned_for_wishes 0 [] c.args.wishes.now c.args.policy.now ≡ Ok (c.in_ok-edits.edits, c.policy.result.now) = grind (arith, common_steps) in
    let met : first_unmet_wish 0 c.args.wishes.now c.policy.result.now ≡ None = grind (arith, common_steps) in
    plan_if_all_met c.args.wishes.now c.args.policy.now c.policy.result.now c.in_ok-edits.edits planned met

pub returns-in-None-clause-met : goal.returns-in-None-clause-met
returns-in-None-clause-met c =
    let leads : policy_or_first_refusal 0 c.in_ok-edits.edits c.args.policy.now ≡ Ok c.policy.result.now = grind (arith, common_steps) in
    let met : first_unmet_wish 0 c.args.wishes.now c.policy.result.now ≡ None = grind (arith, common_steps) in
    leads_to_all_wishes c.args.wishes.now c.args.policy.now c.policy.result.now c.in_ok-edits.edits leads met

pub returns-in-None-clause-nothing : goal.returns-in-None-clause-nothing
returns-in-None-clause-nothing c = λ all_met.
    let planned : planned_for_wishes 0 [] c.args.wishes.now c.args.policy.now ≡ Ok (c.in_ok-edits.edits, c.policy.result.now) = grind (arith, common_steps) in
    no_edit_if_all_met c.args.wishes.now c.args.policy.now c.policy.result.now c.in_ok-edits.edits all_met planned

pub returns-clause-outcome : goal.returns-clause-outcome
returns-clause-outcome c =
    let planned : planned_for_wishes 0 [] c.args.wishes.now c.args.policy.now ≡ Ok (c.in_ok-edits.edits, c.policy.result.now) = grind (arith, common_steps) in
    let unmet : first_unmet_wish 0 c.args.wishes.now c.policy.result.now ≡ Some c.in-Some.wish = grind (arith, common_steps) in
    inr (plan_if_unmet c.args.wishes.now c.args.policy.now c.policy.result.now c.in_ok-edits.edits c.in-Some.wish planned unmet)

pub returns-clause-nothing : goal.returns-clause-nothing
returns-clause-nothing c = λ all_met.
    let planned : planned_for_wishes 0 [] c.args.wishes.now c.args.policy.now ≡ Ok (c.in_ok-edits.edits, c.policy.result.now) = grind (arith, common_steps) in
    let unmet : first_unmet_wish 0 c.args.wishes.now c.policy.result.now ≡ Some c.in-Some.wish = grind (arith, common_steps) in
    absurd (none_unmet_of_plan c.args.wishes.now c.args.policy.now c.policy.result.now c.in_ok-edits.edits c.in-Some.wish all_met planned unmet)
