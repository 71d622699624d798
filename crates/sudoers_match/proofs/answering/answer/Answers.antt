use Rattle.sudoers_match.proofs.Common.{Answer, IsAnswerToRequest, Line, List, Option, answer_without_member_and_settings, option_map, subst, sym, ◌∙◌}
use Rattle.sudoers_match.proofs.answering.answer.Goals as goal

pub returns-clause-answer : goal.returns-clause-answer
returns-clause-answer c =
    let answer : Option Answer = option_map answer_without_member_and_settings c.in_ok-found.found in
    subst (IsAnswerToRequest c.args.policy.now.walk.lines c.args.request.now) (sym c.take_answer_without_member_and_settings.ensures)
    (subst (λ (lines : List Line). IsAnswerToRequest lines c.args.request.now answer) (c.in_ok-policy.ensures.walk ∙ c.walk.ensures) c.in_ok-found.ensures.answer)
