use Rattle.std.proofs.Common.{Bool, IfOk, subst, sym}
use Rattle.std.specs.Option.{option_map}
use Rattle.sudoers_grammar.specs.declared.node.Atom.{Atom}
use Rattle.sudoers_match.specs.Answer.{IsAnswerByCommandTest}
use Rattle.sudoers_match.specs.Found.{answer_without_member_and_settings}
use Rattle.sudoers_match.proofs.Spelled.{sole_spelling_is_request_command}
use Rattle.sudoers_list.specs.Reason.{IsReasonTextByTest}
use Rattle.sudoers_list.proofs.answer_reason.explain_found_answer.Goals as goal

pub explain_spelled_answer-requires-clause-answer : goal.explain_spelled_answer-requires-clause-answer
explain_spelled_answer-requires-clause-answer c =
    let r = c.args.request.now in
    subst (λ (test : Atom → Bool). IsAnswerByCommandTest c.args.policy.now.walk.lines test r (option_map answer_without_member_and_settings c.args.found))
    (sym (sole_spelling_is_request_command c.in_ok-command.command r c.in_ok-command.ensures.command c.in_ok-command.ensures.others)) c.requires.answer

pub returns : goal.returns
returns c =
    let r = c.args.request.now in
    subst (λ (test : Atom → Bool). IfOk c.explain_spelled_answer.result (λ text. IsReasonTextByTest c.args.policy.now test r (option_map answer_without_member_and_settings c.args.found) text.items))
    (sole_spelling_is_request_command c.in_ok-command.command r c.in_ok-command.ensures.command c.in_ok-command.ensures.others) c.explain_spelled_answer.ensures
