use Rattle.std.proofs.Common.{◌∷◌, ◌++◌, [], sym, subst, take}
use Rattle.sudoers_check.proofs.Lists.{Has_at}
use Rattle.sudoers_line_rows.specs.Tables.{member_in_tables}
use Rattle.sudoers_line_rows.specs.View.{member_of_view, members_of_view}
use Rattle.sudoers_match_list.proofs.Places.{mapped_row_is_at_its_index}
use Rattle.sudoers_undecided.specs.internal.Decided.{IsSwayOfList, matched_by, undecided_by}
use Rattle.sudoers_undecided.proofs.Deciding.{appended_lists_have_sway, empty_list_has_sway, listed_to_decide, taken_one_more}
use Rattle.sudoers_undecided.proofs.decided_aliases.DecidedAliases.sway_of_list.Goals as goal

pub loop-row-init : goal.loop-row-init
loop-row-init c =
    let d = c.args.self.now in
    subst (IsSwayOfList d.kind c.args.numbers.now.walk (undecided_by d) (matched_by d) []) (sym c.make_empty-sway.ensures) (empty_list_has_sway c.args.numbers.now.walk d)

pub returns-in-None : goal.returns-in-None
returns-in-None c =
    let ms = c.args.members.now in
    let m = member_of_view c.member_of_row-member.result in
    listed_to_decide c.args.numbers.now.walk c.args.self.now (members_of_view ms) m
    (Has_at (members_of_view ms) c.loop-row.row-index m (mapped_row_is_at_its_index (member_in_tables ms.tables.now) ms.rows.now c.loop-row.row-index _ c.loop-row-test.true m c.member_of_row-member.ensures)) c.in-None.ensures

pub loop-row-preserved : goal.loop-row-preserved
loop-row-preserved c =
    let d = c.args.self.now in
    let lines = c.args.numbers.now.walk in
    let ms = c.args.members.now in
    let i = c.loop-row.row-index in
    let m = member_of_view c.member_of_row-member.result in
    let at = mapped_row_is_at_its_index (member_in_tables ms.tables.now) ms.rows.now i _ c.loop-row-test.true m c.member_of_row-member.ensures in
    subst (λ xs. IsSwayOfList d.kind lines (undecided_by d) (matched_by d) xs c.join_with-sway.result) (sym (taken_one_more (members_of_view ms) i m at))
    (subst (IsSwayOfList d.kind lines (undecided_by d) (matched_by d) (take i (members_of_view ms) ++ m ∷ [])) (sym c.join_with-sway.ensures)
    (appended_lists_have_sway lines d (take i (members_of_view ms)) (m ∷ []) c.loop-row.sway c.in-Some.next c.loop-row.invariant c.in-Some.ensures))
