use Rattle.std.proofs.Common.{◌≡◌, ◌⊎◌, inl, inr, ℕ, true, List, Ok, Err, ap, rules, subst, sym, ◌∙◌}
use Rattle.std.specs.Borrow.{Bor}
use Rattle.std.specs.Option.{is_some}
use Rattle.sudoers_tree.specs.Line.{Line}
use Rattle.sudoers_check.specs.Chains.{HasCyclicAliasReachedFromSpecOrDefaults}
use Rattle.sudoers_match_member.specs.declared.people_and_commands.Who.{Who}
use Rattle.sudoers_match_list.specs.declared.verdict.AskFault.{AskFault}
use Rattle.sudoers_match_list.specs.declared.verdict.AskFault.TheVariants as ask
use Rattle.sudoers_match.specs.Default.{IsRunasDefault}
use Rattle.sudoers_list_people.specs.Asked.{request_or_who_fault}
use Rattle.sudoers_run.specs.declared.fault.LayerFault.{LayerFault}
use Rattle.sudoers_run.specs.internal.LayerOf.{layer_fault_of_ask}
use Rattle.sudoers_run.specs.List.{optional_text_of_view}
use Rattle.sudoers_run.proofs.ListLemmas.{Told, cyclic, default_answered, default_refused, error_is_fault, first_request_of_words, named_answered, option_that_is_not_some_is_none, given_view_has_optional_text, request_of_who_keeps_who}
use Rattle.sudoers_run.proofs.list.make_list_output_for_command.Goals as goal
use Rattle.sudoers_run.proofs.list.make_list_output_for_command.Goals.{then-is_some-via-then-is_some, then-is_some-via-else-is_some+then-is_some-2}

-- what is known of a walk holds of its policy
acyclic_of : (lines walk : List Line) → walk ≡ lines → (HasCyclicAliasReachedFromSpecOrDefaults walk → ⊥) → HasCyclicAliasReachedFromSpecOrDefaults lines → ⊥
acyclic_of lines walk same straight = subst (λ ls. HasCyclicAliasReachedFromSpecOrDefaults ls → ⊥) same straight

pub returns-then-is_some-clause-asked : goal.returns-then-is_some-clause-asked
returns-then-is_some-clause-asked c =
    let w = c.args.words.now in
    let people = c.args.people.now in
    let who = c.args.who in
    let first = c.in_ok-first.first in
    let told : first_request_of_words w people who w.target ≡ Ok first =
    ap (λ (n : Bor (List ℕ)). request_or_who_fault people who n.now (optional_text_of_view w.group) w.words.now w.moment.now) (sym c.unwrap_or-named.ensures) ∙ c.in_ok-first.ensures.told in
    let one : (is_some w.target ≡ true) ⊎ (is_some (optional_text_of_view w.group) ≡ true) =
    elim c.then-is_some.branch [
      | then-is_some-via-then-is_some v ↦ inl (sym c.is_some.ensures ∙ v.if-is_some.true)
      | then-is_some-via-else-is_some+then-is_some-2 v ↦ inr (given_view_has_optional_text w.group (sym v.is_some-else-is_some.ensures ∙ v.if-is_some-2.true))
    ] in
    named_answered w c.args.policy.now people who one first told c.make_list_output_for_request.result
    c.make_list_output_for_request.ensures.answered

pub returns-in_err-acyclic-clause-asked : goal.returns-in_err-acyclic-clause-asked
returns-in_err-acyclic-clause-asked c =
    let w = c.args.words.now in
    let p = c.args.policy.now in
    let people = c.args.people.now in
    let who = c.args.who in
    let first = c.in_ok-first.first in
    let told : first_request_of_words w people who w.target ≡ Ok first =
    ap (λ (n : Bor (List ℕ)). request_or_who_fault people who n.now (optional_text_of_view w.group) w.words.now w.moment.now) (sym c.unwrap_or-named.ensures) ∙ c.in_ok-first.ensures.told in
    let fault : AskFault = c.in_err-acyclic.field-0.0 in
    let same : c.from_residual-in_err-acyclic.result ≡ Err (layer_fault_of_ask fault) = error_is_fault c.from_residual-in_err-acyclic.result (layer_fault_of_ask fault) c.from_residual-in_err-acyclic.ensures.1 in
    subst (Told w p people who) (sym same)
    (cyclic w p people who first told fault (subst (λ (ls : List Line). (fault ≡ ask.NoMemory) ⊎ ((fault ≡ ask.Cycle) × HasCyclicAliasReachedFromSpecOrDefaults ls)) c.walk.ensures c.in_err-acyclic.ensures.fault))

pub returns-in_err-request-clause-asked : goal.returns-in_err-request-clause-asked
returns-in_err-request-clause-asked c =
    let w = c.args.words.now in
    let p = c.args.policy.now in
    let people = c.args.people.now in
    let who = c.args.who in
    let first = c.in_ok-first.first in
    let user = c.in_ok-default.default.now in
    let told : first_request_of_words w people who w.target ≡ Ok first =
    ap (λ (n : Bor (List ℕ)). request_or_who_fault people who n.now (optional_text_of_view w.group) w.words.now w.moment.now) (sym c.unwrap_or-named.ensures) ∙ c.in_ok-first.ensures.told in
    let fault : LayerFault = c.in_err-request.field-0.0 in
    let same : c.from_residual-in_err-request.result ≡ Err fault = search rules in
    subst (Told w p people who) (sym same)
    (default_refused w p people who (option_that_is_not_some_is_none w.target (sym c.is_some.ensures ∙ c.if-is_some.false)) (option_that_is_not_some_is_none w.group (sym c.is_some-else-is_some.ensures ∙ c.if-is_some-2.false))
    first told (acyclic_of c.args.policy.now.walk.lines c.walk.result c.walk.ensures c.in_ok-acyclic.ensures.straight) user (subst (λ (ls : List Line). IsRunasDefault ls first.who user) (c.in_ok-acyclic.ensures.walk ∙ c.walk.ensures) c.in_ok-default.ensures)
    fault c.in_err-request.ensures.told)

pub make_list_output_for_request-requires-2-clause-default : goal.make_list_output_for_request-requires-2-clause-default
make_list_output_for_request-requires-2-clause-default c =
    let w = c.args.words.now in
    let user = c.in_ok-default.default.now in
    subst (λ (asks : Who). IsRunasDefault c.args.policy.now.walk.lines asks user)
    (sym (request_of_who_keeps_who c.args.people.now c.in_ok-first.first.who user (optional_text_of_view w.group) w.words.now w.moment.now c.in_ok-request.request c.in_ok-request.ensures.told))
    (subst (λ (ls : List Line). IsRunasDefault ls c.in_ok-first.first.who user) (c.in_ok-acyclic.ensures.walk ∙ c.walk.ensures) c.in_ok-default.ensures)

pub returns-clause-asked : goal.returns-clause-asked
returns-clause-asked c =
    let w = c.args.words.now in
    let p = c.args.policy.now in
    let people = c.args.people.now in
    let who = c.args.who in
    let first = c.in_ok-first.first in
    let request = c.in_ok-request.request in
    let user = c.in_ok-default.default.now in
    let told : first_request_of_words w people who w.target ≡ Ok first =
    ap (λ (n : Bor (List ℕ)). request_or_who_fault people who n.now (optional_text_of_view w.group) w.words.now w.moment.now) (sym c.unwrap_or-named.ensures) ∙ c.in_ok-first.ensures.told in
    default_answered w p people who (option_that_is_not_some_is_none w.target (sym c.is_some.ensures ∙ c.if-is_some.false)) (option_that_is_not_some_is_none w.group (sym c.is_some-else-is_some.ensures ∙ c.if-is_some-2.false))
    first told (acyclic_of c.args.policy.now.walk.lines c.walk.result c.walk.ensures c.in_ok-acyclic.ensures.straight) user (subst (λ (ls : List Line). IsRunasDefault ls first.who user) (c.in_ok-acyclic.ensures.walk ∙ c.walk.ensures) c.in_ok-default.ensures)
    request c.in_ok-request.ensures.told c.make_list_output_for_request-2.result
    c.make_list_output_for_request-2.ensures.answered
