use Rattle.sudoers_cvt_rewrite.proofs.Common.{IfOk, List, Member, ap, map, member_in_tables, members_pruned_if_wanted, subst, sym, ◌∙◌, ◌≡◌}
use Rattle.sudoers_line_rows.specs.View.{members_of_view}
use Rattle.sudoers_cvt_rewrite.proofs.Matchers.{pruned_is}
use Rattle.sudoers_cvt_rewrite.proofs.selecting.prune_members_if_wanted.Goals as goal

pub returns-then-asked-clause-left : goal.returns-then-asked-clause-left
returns-then-asked-clause-left c =
    let k = c.args.kind in
    let lines = c.args.asked.now.policy.now in
    let f = c.args.asked.now.filter.now in
    let ms = members_of_view c.args.members.now in
    subst (λ (left : List Member). IfOk c.prune_members.result (λ rows. map (member_in_tables c.args.members.now.tables.now) rows.items ≡ left))
    (pruned_is lines f k ms ∙ ap (λ b. members_pruned_if_wanted k lines f b ms) (sym c.if-asked.true)) c.prune_members.ensures.left
