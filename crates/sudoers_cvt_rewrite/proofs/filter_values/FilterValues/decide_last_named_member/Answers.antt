use Rattle.sudoers_cvt_rewrite.proofs.Common.{sym, ◌∙◌}
use Rattle.std.proofs.lemmas.Bool.{not-false, not-true}
use Rattle.sudoers_line_rows.specs.View.{member_of_view}
use Rattle.sudoers_cvt_rewrite.proofs.LastMembers.{allowing_name_that_was_denied, allowing_name_that_was_not_denied, denying_name_is_added}
use Rattle.sudoers_cvt_rewrite.proofs.filter_values.FilterValues.decide_last_named_member.Goals as goal

pub returns-then-not-hit : goal.returns-then-not-hit
returns-then-not-hit c =
    denying_name_is_added c.args.kind c.args.policy.now c.args.self.now.key c.args.self.now.names.items c.args.denied.now (member_of_view c.args.member.now) c.in-Some.name.now c.as_slice.result.now c.in-Some.ensures
    (c.as_slice.ensures.value ∙ c.in_ok-folded.ensures.ok) c.args.hit c.requires (not-true c.args.hit.allow c.if-not-hit.true) c.add.new.self c.in_ok-add.ensures.added

pub returns-then-has : goal.returns-then-has
returns-then-has c =
    allowing_name_that_was_denied c.args.kind c.args.policy.now c.args.self.now.key c.args.self.now.names.items c.args.denied.now (member_of_view c.args.member.now) c.in-Some.name.now c.as_slice-2.result.now c.in-Some.ensures
    (c.as_slice-2.ensures.value ∙ c.in_ok-folded.ensures.ok) c.args.hit c.requires (sym c.has.ensures ∙ c.if-has.true)

pub returns : goal.returns
returns c =
    allowing_name_that_was_not_denied c.args.kind c.args.policy.now c.args.self.now.key c.args.self.now.names.items c.args.denied.now (member_of_view c.args.member.now) c.in-Some.name.now c.as_slice-2.result.now c.in-Some.ensures
    (c.as_slice-2.ensures.value ∙ c.in_ok-folded.ensures.ok) c.args.hit c.requires (not-false c.args.hit.allow c.if-not-hit.false) (sym c.has.ensures ∙ c.if-has.false)
