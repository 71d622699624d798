use Rattle.std.proofs.Common.{◌≡◌, ℕ, List, ◌++◌, Option, Some, sym, ap, subst, ◌∙◌, append-nil, Vec, Global}
use Rattle.std.specs.Option.{option_map}
use Rattle.sudoers_tree.specs.Line.{Line}
use Rattle.sudoers_match.specs.Spellings.{is_spelled_command_match}
use Rattle.sudoers_match.specs.Answer.{Answer}
use Rattle.sudoers_match.specs.Found.{answer_without_member_and_settings}
use Rattle.sudoers_list.specs.declared.deciding_member.DecidingAliasMember.{DecidingAliasMember as InnerHeld}
use Rattle.sudoers_list.specs.Inner.{InnerAliasMember, IsDecidingAliasMember, MemberMatchesCommand}
use Rattle.sudoers_list.specs.internal.Inside.{alias_member_of_view, deciding_rule_of_held_and_settings}
use Rattle.sudoers_list.specs.Reason.{alias_member_reason_text, place_verdict_and_command_text}
use Rattle.sudoers_list.specs.Rule.{DecidingRuleOnLine}
use Rattle.sudoers_list.proofs.Ruled.{deciding_rule_text_is_reason, deciding_rule_member_matches_command}
use Rattle.sudoers_list.proofs.answer_reason.make_reason_text_of_found_answer.Goals as goal
use Rattle.sudoers_list.proofs.answer_reason.make_reason_text_of_found_answer.Goals.{in-Some+in_ok-append_alias_member_reason, in_default}

pub find_deciding_alias_member-requires : goal.find_deciding_alias_member-requires
find_deciding_alias_member-requires c =
    let a : Answer = answer_without_member_and_settings c.args.found.now in
    let held = c.deciding_rule_of_found_answer-rule.ensures.rule in
    let rule : DecidingRuleOnLine = deciding_rule_of_held_and_settings c.deciding_rule_of_found_answer-rule.result held.0 in
    subst (λ (ls : List Line). MemberMatchesCommand ls (is_spelled_command_match c.args.command.now) rule.command.member) (sym c.requires.same)
    (deciding_rule_member_matches_command c.args.policy.now.walk.lines (is_spelled_command_match c.args.command.now) c.args.request.now a rule c.requires.answer held.2)

pub returns : goal.returns
returns c =
    let policy = c.args.policy.now in
    let user = c.args.names.now.user.now in
    let d = c.args.names.now.default.now in
    let r = c.args.request.now in
    let a : Answer = answer_without_member_and_settings c.args.found.now in
    let held = c.deciding_rule_of_found_answer-rule.ensures.rule in
    let rule : DecidingRuleOnLine = deciding_rule_of_held_and_settings c.deciding_rule_of_found_answer-rule.result held.0 in
    let first : c.in_ok-text.text.items ≡ place_verdict_and_command_text policy user d a.allow rule = c.in_ok-text.ensures held.0 held.1 in
    let inner : Option InnerAliasMember = option_map alias_member_of_view c.in_ok-inner.field-0 in
    deciding_rule_text_is_reason policy (is_spelled_command_match c.args.command.now) r user d c.match-branch-3.text.items a rule inner c.requires.user held.2
    (subst (λ (ls : List Line). IsDecidingAliasMember ls (is_spelled_command_match c.args.command.now) rule.command.member inner) c.requires.same c.in_ok-inner.ensures)
    (elim c.match-branch-3.branch [
      | in-Some+in_ok-append_alias_member_reason w ↦ ap (λ (v : Vec ℕ Global). v.items) w.text-is
          ∙ w.in_ok-append_alias_member_reason.ensures
          ∙ ap (λ (t : List ℕ). t ++ alias_member_reason_text policy (Some (alias_member_of_view w.in-Some.inner))) first
          ∙ ap (λ (o : Option InnerHeld). place_verdict_and_command_text policy user d a.allow rule ++ alias_member_reason_text policy (option_map alias_member_of_view o)) (sym w.in-Some.is)
      | in_default w ↦ ap (λ (v : Vec ℕ Global). v.items) w.text-is
          ∙ first
          ∙ sym (append-nil (place_verdict_and_command_text policy user d a.allow rule))
          ∙ ap (λ (o : Option InnerHeld). place_verdict_and_command_text policy user d a.allow rule ++ alias_member_reason_text policy (option_map alias_member_of_view o)) (sym w.in_default.is)
    ])
