use Rattle.sudoers_cvt_rewrite.proofs.Common.{Global, MemberRow, Vec, ap, is_list_matching_any_filter_value, is_member_kept_by_filter, map, member_in_tables, sym, ◌∙◌}
use Rattle.sudoers_cvt_rewrite.proofs.Matchers.{row_of_acyclic_list_is_acyclic, row_stays, row_falls}
use Rattle.sudoers_cvt_rewrite.proofs.matching.FilterMatcher.prune_members.Goals as goal
use Rattle.sudoers_cvt_rewrite.proofs.matching.FilterMatcher.prune_members.Goals.{then-branch+in_ok-push, else-branch}

pub matches_any_filter_value-requires-clause-straight : goal.matches_any_filter_value-requires-clause-straight
matches_any_filter_value-requires-clause-straight c =
    let ms = c.args.members.now in
    row_of_acyclic_list_is_acyclic c.args.kind c.args.asked.now.policy.now (member_in_tables ms.tables.now) ms.rows.now c.loop-row.row-index _ c.from_ref-rows.result.now c.loop-row-test.true
    c.from_ref-rows.ensures.value c.requires.straight

pub loop-row-preserved : goal.loop-row-preserved
loop-row-preserved c =
    let lines = c.args.asked.now.policy.now in
    let f = c.args.asked.now.filter.now in
    let shown = member_in_tables c.args.members.now.tables.now in
    let rows = c.args.members.now.rows.now in
    let n = c.loop-row.row-index in
    let so_far = c.loop-row.invariant.left in
    let kept = c.in_ok-matches_any_filter_value.ensures.kept in
    let same = sym (c.in_ok-matches_any_filter_value.ensures.keeps ∙ ap (λ rs. is_list_matching_any_filter_value c.args.kind lines f (map shown rs)) c.from_ref-rows.ensures.value) in
    elim c.if-branch.branch [
      | then-branch+in_ok-push w ↦ record {
        kept = kept;
        left = row_stays shown (is_member_kept_by_filter c.args.kind lines f) rows n _ c.loop-row-test.true c.loop-row.left.items c.if-branch.left.items
            (ap (λ (v : Vec MemberRow Global). v.items) w.left-is ∙ w.in_ok-push.ensures.items) (same ∙ w.if-branch.true) so_far;
      }
      | else-branch w ↦ record {
        kept = kept;
        left = row_falls shown (is_member_kept_by_filter c.args.kind lines f) rows n _ c.loop-row-test.true c.loop-row.left.items c.if-branch.left.items
            (ap (λ (v : Vec MemberRow Global). v.items) w.left-is) (same ∙ w.if-branch.false) so_far;
      }
    ]
