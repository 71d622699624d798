use Rattle.std.proofs.Common.{◌≡◌, ◌⊎◌, [], ◌∷◌, List, length, Ok, Err, MatchResult, refl, sym, ap, subst, rules, arith}
use Rattle.sudoers_list_people.specs.People.{people_read_result}
use Rattle.sudoers_match_list.specs.declared.verdict.AskFault.{AskFault}
use Rattle.sudoers_run.specs.declared.fault.LayerFault.TheVariants.{NoMemory}
use Rattle.sudoers_run.specs.internal.LayerOf.{layer_fault_of_ask}
use Rattle.sudoers_run.specs.List.{IsListOutcomeForPolicy}
use Rattle.sudoers_run.proofs.ListLemmas.{listing_fault_is_outcome_for_policy, answer_result_is_outcome_for_policy}
use Rattle.sudoers_run.proofs.list.make_list_output.Goals as goal

pub returns-clause-outcome : goal.returns-clause-outcome
returns-clause-outcome c =
    let w = c.args.words.now in
    let some : w.words.now ≡ [] → ⊥ = λ e. let none : length w.words.now ≡ 0 = ap length e in search (rules, none, c.is_empty.ensures, c.if-is_empty.false) in
    let read : c.args.policy ≡ Ok c.in_ok-policy.policy = search rules in
    answer_result_is_outcome_for_policy w c.args.policy c.args.passwd.now c.args.group.now c.in_ok-policy.policy c.in_ok-people.people c.in_ok-who.who c.make_list_output_for_command.result
    read c.in_ok-people.ensures.people c.in_ok-who.ensures.who some c.make_list_output_for_command.ensures.asked

nothing : {X : Type 0} (xs : List X) → length xs ≡ 0 → xs ≡ []
nothing [] is = refl
nothing (x ∷ xs) is = absurd (omega (arith, is))

pub returns-in_err-text-clause-outcome : goal.returns-in_err-text-clause-outcome
returns-in_err-text-clause-outcome c =
    let w = c.args.words.now in
    let people = people_read_result c.args.passwd.now c.args.group.now in
    let fault : AskFault = c.in_err-text.field-0.0 in
    let told : c.from_residual-in_err-text.result ≡ Err (layer_fault_of_ask fault) = search rules in
    let size : length w.words.now ≡ 0 = search (rules, c.is_empty.ensures, c.if-is_empty.true) in
    let none : w.words.now ≡ [] = nothing w.words.now size in
    let read : c.args.policy ≡ Ok c.in_ok-policy.policy = search rules in
    subst (λ r. MatchResult r (λ output. IsListOutcomeForPolicy w people c.args.policy (Ok (output.text.items, output.status)))
    (λ e. (e ≡ NoMemory) ⊎ IsListOutcomeForPolicy w people c.args.policy (Err e))) (sym told)
    (listing_fault_is_outcome_for_policy w c.args.policy c.args.passwd.now c.args.group.now c.in_ok-policy.policy c.in_ok-people.people c.in_ok-who.who fault
    read c.in_ok-people.ensures.people c.in_ok-who.ensures.who none c.in_err-text.ensures.fault)
