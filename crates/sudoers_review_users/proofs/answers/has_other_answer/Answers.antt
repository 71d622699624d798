use Rattle.std.proofs.Common.{List, subst, sym, ◌∙◌}
use Rattle.std.specs.Option.{option_map}
use Rattle.sudoers_tree.specs.Line.{Line}
use Rattle.sudoers_match.specs.Answer.{IsAnswerToRequest}
use Rattle.sudoers_match.specs.Default.{IsRunasDefault}
use Rattle.sudoers_match.specs.Found.{answer_without_member_and_settings}
use Rattle.sudoers_review_users.proofs.SameAnswers.{not_true_is_not_true, same_answers_are_found}
use Rattle.sudoers_review_users.proofs.answers.has_other_answer.Goals as goal

pub find_answer_without_args_limit-requires : goal.find_answer_without_args_limit-requires
find_answer_without_args_limit-requires c =
    subst (λ (lines : List Line). IsRunasDefault lines c.args.request.now.who c.args.review.now.old_default.now) (sym c.requires.policies.old_walk) c.requires.old_default

pub find_answer_without_args_limit-requires-2 : goal.find_answer_without_args_limit-requires-2
find_answer_without_args_limit-requires-2 c =
    subst (λ (lines : List Line). IsRunasDefault lines c.args.request.now.who c.args.review.now.new_default.now) (sym c.requires.policies.new_walk) c.requires.new_default

pub returns : goal.returns
returns c has = record {
  answer = option_map answer_without_member_and_settings c.in_ok-found.found;
  is_answer = subst (λ (lines : List Line). IsAnswerToRequest lines c.args.request.now (option_map answer_without_member_and_settings c.in_ok-found.found)) c.requires.policies.old_walk c.in_ok-found.ensures.answer;
  other = option_map answer_without_member_and_settings c.in_ok-other.other;
  is_other = subst (λ (lines : List Line). IsAnswerToRequest lines c.args.request.now (option_map answer_without_member_and_settings c.in_ok-other.other)) c.requires.policies.new_walk c.in_ok-other.ensures.answer;
  differ = λ same. not_true_is_not_true c.is_same_answer.result has (c.is_same_answer.ensures ∙ same_answers_are_found (option_map answer_without_member_and_settings c.in_ok-found.found) (option_map answer_without_member_and_settings c.in_ok-other.other) same);
}
