use Rattle.std.proofs.Common.{refl, subst, sym, ◌∙◌}
use Rattle.sudoers_match_member.specs.declared.people_and_commands.Who.{Who}
use Rattle.sudoers_compare.specs.declared.flat_rows.PlacedFlatRow.{PlacedFlatRow}
use Rattle.sudoers_compare.specs.FlatSpecs.{placed_row_of_view}
use Rattle.sudoers_review.specs.ChangedText.{sign_of_change}
use Rattle.sudoers_review_users.specs.Ready.{IsReadyReview}
use Rattle.sudoers_review_users.specs.Reviewed.{IsRowLineOfReview}
use Rattle.sudoers_review_users.proofs.UserLines.{all_item_lines, no_item_line_so_far, one_more_item_line}
use Rattle.sudoers_review_users.proofs.user_lines.append_user_row_lines.Goals as goal

pub loop-placed-init : goal.loop-placed-init
loop-placed-init c = (refl, no_item_line_so_far _ _ _)

pub append_user_row_line-requires : goal.append_user_row_line-requires
append_user_row_line-requires c = subst (λ (who : Who). IsReadyReview who c.args.review.now) (sym c.loop-placed.invariant.0) c.requires

pub loop-placed-preserved : goal.loop-placed-preserved
loop-placed-preserved c =
    let review = c.args.review.now in
    let sign = sign_of_change c.args.change in
    let policy = c.args.policy.now in
    let line = c.in_ok-append_user_row_line.ensures.line in
    let is = subst (λ (who : Who). IsRowLineOfReview review who sign policy (placed_row_of_view c.placed-item.result) line.0) c.loop-placed.invariant.0 line.2 in (
      c.append_user_row_line.ensures.user ∙ c.loop-placed.invariant.0,
      one_more_item_line (IsRowLineOfReview review c.args.request.now.who sign policy) placed_row_of_view c.args.rows.now c.loop-placed.placed-index c.placed-item.result
          c.args.out.now.text.items c.loop-placed.out.text.items c.append_user_row_line.new.out.text.items line.0 c.loop-placed-test.true line.1
          (subst (λ (row : PlacedFlatRow). IsRowLineOfReview review c.args.request.now.who sign policy (placed_row_of_view row) line.0) c.placed-item.is is) c.loop-placed.invariant.1,
    )

pub returns-clause-lines : goal.returns-clause-lines
returns-clause-lines c =
    all_item_lines (IsRowLineOfReview c.args.review.now c.args.request.now.who (sign_of_change c.args.change) c.args.policy.now) placed_row_of_view c.args.rows.now c.loop-placed.placed-index
    c.args.out.now.text.items c.loop-placed.out.text.items c.loop-placed-test.false c.loop-placed.invariant.1
