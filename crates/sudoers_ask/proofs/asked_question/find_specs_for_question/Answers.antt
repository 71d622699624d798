use Rattle.std.proofs.Common.{subst, sym}
use Rattle.sudoers_match.specs.declared.spellings.CommandSpellings.{CommandSpellings}
use Rattle.sudoers_match.specs.ForRequest.{AreRequestsOfTwoUsers, AreSpecsForRequest}
use Rattle.sudoers_match.specs.Spellings.{is_spelled_command_match}
use Rattle.sudoers_match.proofs.ForUsers.{specs_that_all_matter}
use Rattle.sudoers_ask.specs.Same.{spelled_command_of_question}
use Rattle.sudoers_ask.proofs.Parts.{ok_then, ok_then_both}
use Rattle.sudoers_ask.proofs.Requests.{specs_of_request_serve_question}
use Rattle.sudoers_ask.proofs.asked_question.find_specs_for_question.Goals as goal

pub returns-in-Ok : goal.returns-in-Ok
returns-in-Ok c =
    let lines = c.args.policy.now in
    let q = c.args.question.now in
    let asked = c.in-Ok.asked in
    ok_then _ _ c.find_specs_for_users.result
    (λ specs are. specs_of_request_serve_question lines c.args.people.now q c.args.has_default c.requires.default c.as_slice-user.result.now asked.request asked.default.now c.in-Ok.ensures.request specs.items
    (λ other both. subst (λ (command : CommandSpellings). AreSpecsForRequest lines (is_spelled_command_match command) other specs.items) c.requires.command
    (are other (subst (λ b. AreRequestsOfTwoUsers b asked.request other) (sym c.is_target_common.ensures) both))))
    c.find_specs_for_users.ensures

pub returns-in-Err : goal.returns-in-Err
returns-in-Err c =
    ok_then_both _ _ _ c.list_specs_with_lines-in-Err.result
    (λ specs all matter. λ user r default asked. specs_that_all_matter c.args.policy.now (is_spelled_command_match (spelled_command_of_question c.args.question.now)) r specs.items all matter)
    c.list_specs_with_lines-in-Err.ensures.all c.list_specs_with_lines-in-Err.ensures.matter
