use Rattle.std.proofs.Common.{◌∙◌, List, Option, subst}
use Rattle.std.specs.Option.{option_map}
use Rattle.sudoers_tree.specs.Line.{Line}
use Rattle.sudoers_match.specs.Answer.{Answer, IsAnswerToRequest, answer_of_view}
use Rattle.sudoers_match.specs.Found.{answer_without_member_and_settings}
use Rattle.sudoers_match_list.proofs.Unique.{one_flat}
use Rattle.sudoers_match.proofs.OneAnswer.{answer_to_request_is_unique}
use Rattle.sudoers_list.specs.Reason.{IsReasonText}
use Rattle.sudoers_list.proofs.answer_reason.explain.Goals as goal

pub returns-clause-text : goal.returns-clause-text
returns-clause-text c =
    let policy = c.args.policy.now in
    let r = c.args.request.now in
    let same = c.in_ok-acyclic.ensures.walk ∙ c.walk.ensures in
    let found = option_map answer_without_member_and_settings c.in_ok-found.found in
    subst (λ (a : Option Answer). IsReasonText policy r a c.in_ok-text.text.items)
    (answer_to_request_is_unique one_flat policy.walk.lines r found (option_map answer_of_view c.args.answer) (subst (λ (ls : List Line). IsAnswerToRequest ls r found) same c.in_ok-found.ensures.answer) c.requires)
    c.in_ok-text.ensures

pub explain_found_answer-requires-clause-answer : goal.explain_found_answer-requires-clause-answer
explain_found_answer-requires-clause-answer c =
    let found = option_map answer_without_member_and_settings c.in_ok-found.found in
    subst (λ (ls : List Line). IsAnswerToRequest ls c.args.request.now found) (c.in_ok-acyclic.ensures.walk ∙ c.walk.ensures) c.in_ok-found.ensures.answer
