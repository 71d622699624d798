use Rattle.std.proofs.Common.{ap, sym, ◌∙◌}
use Rattle.std.specs.List.{list_any}
use Rattle.sudoers_undecided.specs.MatchTests.{match_tests_of_request}
use Rattle.sudoers_undecided.specs.internal.Open.{is_line_open}
use Rattle.sudoers_undecided.proofs.ClosedAnswers.{nothing_is_undecided_in_answer}
use Rattle.sudoers_undecided.proofs.open_members.may_have_undecided_members.Goals as goal

pub returns : goal.returns
returns c closed r interfaces command =
    let who = c.args.who.now in
    let asked = c.args.command.now in
    nothing_is_undecided_in_answer who asked c.args.policy.now (sym (c.has_open_line.ensures ∙ ap (list_any (is_line_open who asked)) c.lines.ensures) ∙ closed) r (match_tests_of_request r) interfaces command
