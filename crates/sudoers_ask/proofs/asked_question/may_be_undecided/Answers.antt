use Rattle.std.proofs.Common.{◌≡◌, ◌∙◌, ap, sym}
use Rattle.sudoers_match.specs.declared.spellings.CommandSpellings.{CommandSpellings}
use Rattle.sudoers_match.specs.Answer.{command_with_joined_arguments_of_request, words_joined_with_spaces}
use Rattle.sudoers_list_people.specs.Person.{interfaces_of_text}
use Rattle.sudoers_ask.specs.Same.{spelled_command_of_question}
use Rattle.sudoers_ask.proofs.Requests.{same_result, user_request_is_for_question, who_has_interfaces}
use Rattle.sudoers_ask.proofs.asked_question.may_be_undecided.Goals as goal

pub returns : goal.returns
returns c _ user r default u =
    let people = c.args.people.now in
    let q = c.args.question.now in
    let is = user_request_is_for_question c.args.policy.now people q user r default u in
    let who = c.in-Ok.who in
    let asked : command_with_joined_arguments_of_request r ≡ (spelled_command_of_question q).command =
    ap (λ path. record { path = path; args = words_joined_with_spaces r.args }) is.command
    ∙ ap (λ args. record { path = (spelled_command_of_question q).command.path; args = words_joined_with_spaces args }) is.args in
    c.may_have_undecided_members.ensures c.if-may_have_undecided_members.false r
    (same_result (interfaces_of_text q.interfaces.now) r.who.interfaces who.interfaces is.interfaces (who_has_interfaces people c.as_slice-user.result.now q.host.now q.interfaces.now who c.in-Ok.ensures.who))
    (asked ∙ ap (λ (s : CommandSpellings). s.command) (sym c.requires))
