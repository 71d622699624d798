use Rattle.std.proofs.Common.{List, Option, ap, subst, ◌∙◌, ◌≡◌}
use Rattle.std.specs.Option.{option_map}
use Rattle.sudoers_tree.specs.Line.{Line}
use Rattle.sudoers_tree.specs.Load.{LoadedPolicy}
use Rattle.sudoers_match.specs.Answer.{Answer, IsAnswerToRequest}
use Rattle.sudoers_match.specs.declared.answer_of_row.AnswerWithMemberAndSettings.{AnswerWithMemberAndSettings}
use Rattle.sudoers_match.specs.Found.{answer_without_member_and_settings}
use Rattle.laws_edit.proofs.answers.answer_of_editor_policy.Goals as goal

-- the answer on the walk is that of the policy
answer_of_walk : (walk lines : List Line) → walk ≡ lines → (r : _) → (found is : Option AnswerWithMemberAndSettings) → found ≡ is → IsAnswerToRequest walk r (option_map answer_without_member_and_settings found)
    → IsAnswerToRequest lines r (option_map answer_without_member_and_settings is)
answer_of_walk walk lines same r found is e told =
    subst (λ (ls : List Line). IsAnswerToRequest ls r (option_map answer_without_member_and_settings is)) same
    (subst (λ (o : Option AnswerWithMemberAndSettings). IsAnswerToRequest walk r (option_map answer_without_member_and_settings o)) e told)

pub returns-in-Some-clause-answer : goal.returns-in-Some-clause-answer
returns-in-Some-clause-answer c =
    answer_of_walk c.in_ok-acyclic.acyclic c.args.editor.now.policy.walk.lines
    (c.in_ok-acyclic.ensures.walk ∙ c.walk.ensures ∙ ap (λ (p : LoadedPolicy). p.walk.lines) c.policy-policy.ensures.policy)
    c.args.request.now c.in_ok-found.field-0 _ c.in-Some.is c.in_ok-found.ensures.answer

pub returns-clause-answer : goal.returns-clause-answer
returns-clause-answer c =
    answer_of_walk c.in_ok-acyclic.acyclic c.args.editor.now.policy.walk.lines
    (c.in_ok-acyclic.ensures.walk ∙ c.walk.ensures ∙ ap (λ (p : LoadedPolicy). p.walk.lines) c.policy-policy.ensures.policy)
    c.args.request.now c.in_ok-found.field-0 _ c.in-None.is c.in_ok-found.ensures.answer
