use Rattle.std.proofs.Common.{List, map, ap, ◌∙◌}
use Rattle.std.proofs.lemmas.Result.{IfOk-weaker}
use Rattle.sudoers_compare.specs.declared.flat_rows.PlacedFlatRow.{PlacedFlatRow}
use Rattle.sudoers_compare.specs.declared.overruled.Overruling.{Overruling}
use Rattle.sudoers_compare.specs.FlatSpecs.{placed_row_of_view, placed_rows_of_flat_specs, row_of_placed_view}
use Rattle.sudoers_compare.specs.Overruled.{overrulings_of_rows}
use Rattle.sudoers_review_users.specs.UserRows.{rows_not_overruled}
use Rattle.sudoers_review_users.proofs.OwnRows.{own_rows_are_rows_for_user}
use Rattle.sudoers_review_users.proofs.UntouchedUser.{found_rows_may_decide}
use Rattle.sudoers_review_users.proofs.deciding_rows.list_deciding_rows.Goals as goal

pub returns : goal.returns
returns c =
    let who = c.args.who.now in
    let t = c.args.tables.now in
    let held = c.in_ok-rows.rows.items in
    let found = c.in_ok-found.found.items in
    IfOk-weaker c.list_rows_not_overruled.result _ _ (λ left e.
    e ∙ ap (λ (rows : List PlacedFlatRow). rows_not_overruled (map placed_row_of_view rows) c.as_slice-3.result.now) c.as_slice-2.ensures.value
    ∙ ap (λ (ones : List Overruling). rows_not_overruled (map placed_row_of_view held) ones) c.as_slice-3.ensures.value
    ∙ found_rows_may_decide who (placed_rows_of_flat_specs t c.args.specs.now) held found
    (c.in_ok-rows.ensures ∙ own_rows_are_rows_for_user who t c.args.specs.now)
    (c.in_ok-found.ensures ∙ ap (λ (rows : List PlacedFlatRow). overrulings_of_rows 0 (map row_of_placed_view rows)) c.as_slice.ensures.value))
    c.list_rows_not_overruled.ensures
