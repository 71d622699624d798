use Rattle.std.proofs.Common.{◌≡◌, List, Err, MatchBool, rules, subst, sym}
use Rattle.std.specs.Option.{option_map}
use Rattle.sudoers_tree.specs.Line.{Line}
use Rattle.sudoers_check.specs.Chains.{HasCyclicAliasReachedFromSpecOrDefaults}
use Rattle.sudoers_match_list.specs.declared.verdict.AskFault.{AskFault}
use Rattle.sudoers_match.specs.Answer.{IsAnswerToRequest}
use Rattle.sudoers_match.specs.Found.{answer_without_member_and_settings}
use Rattle.sudoers_list.specs.Reason.{IsReasonText}
use Rattle.sudoers_run.specs.internal.LayerOf.{layer_fault_of_ask}
use Rattle.sudoers_run.specs.List.{text_of_allowed_command}
use Rattle.sudoers_run.proofs.ListLemmas.{IsAnswerOutcomeOrNoMemory, refused_answer_is_answer_outcome}
use Rattle.sudoers_run.proofs.list.make_list_output_for_request.Goals as goal

-- What is acyclic on a walk is so in its policy.
straight_of : (walk lines : List Line) → walk ≡ lines → (HasCyclicAliasReachedFromSpecOrDefaults walk → ⊥) → HasCyclicAliasReachedFromSpecOrDefaults lines → ⊥
straight_of walk lines same straight = subst (λ ls. HasCyclicAliasReachedFromSpecOrDefaults ls → ⊥) same straight

pub returns-in_err-found-clause-answered : goal.returns-in_err-found-clause-answered
returns-in_err-found-clause-answered c =
    let w = c.args.words.now in
    let p = c.args.policy.now in
    let r = c.args.request.now in
    let fault : AskFault = c.in_err-found.field-0.0 in
    let same : c.from_residual.result ≡ Err (layer_fault_of_ask fault) = search rules in
    subst (IsAnswerOutcomeOrNoMemory w p r) (sym same) (refused_answer_is_answer_outcome w p r (straight_of c.args.acyclic.now p.walk.lines c.requires.walk c.is_acyclic.ensures.straight) fault c.in_err-found.ensures.fault)

pub explain_found_answer-requires-clause-answer : goal.explain_found_answer-requires-clause-answer
explain_found_answer-requires-clause-answer c =
    let answer = option_map answer_without_member_and_settings c.in_ok-found.found in
    subst (λ (ls : List Line). IsAnswerToRequest ls c.args.request.now answer) c.requires.walk c.in_ok-found.ensures.answer

pub returns-then-words-clause-answered : goal.returns-then-words-clause-answered
returns-then-words-clause-answered c =
    let w = c.args.words.now in
    let answer = option_map answer_without_member_and_settings c.in_ok-found.found in
    let text = c.in_ok-text.text.items in
    record {
      straight = straight_of c.args.acyclic.now c.args.policy.now.walk.lines c.requires.walk c.is_acyclic.ensures.straight;
      short = c.in_ok-found.ensures.short;
      answer = answer;
      is_answer = subst (λ (ls : List Line). IsAnswerToRequest ls c.args.request.now answer) c.requires.walk c.in_ok-found.ensures.answer;
      text = subst (λ b. MatchBool b (IsReasonText c.args.policy.now c.args.request.now answer text) (text ≡ text_of_allowed_command w.words.now answer)) (sym c.if-words.true) c.in_ok-text.ensures;
      status = c.choose_allowed_status-status.ensures;
    }

pub returns-clause-answered : goal.returns-clause-answered
returns-clause-answered c =
    let w = c.args.words.now in
    let answer = option_map answer_without_member_and_settings c.in_ok-found.found in
    let text = c.in_ok-text-2.text.items in
    record {
      straight = straight_of c.args.acyclic.now c.args.policy.now.walk.lines c.requires.walk c.is_acyclic.ensures.straight;
      short = c.in_ok-found.ensures.short;
      answer = answer;
      is_answer = subst (λ (ls : List Line). IsAnswerToRequest ls c.args.request.now answer) c.requires.walk c.in_ok-found.ensures.answer;
      text = subst (λ b. MatchBool b (IsReasonText c.args.policy.now c.args.request.now answer text) (text ≡ text_of_allowed_command w.words.now answer)) (sym c.if-words.false) c.in_ok-text-2.ensures;
      status = c.choose_allowed_status-status.ensures;
    }
