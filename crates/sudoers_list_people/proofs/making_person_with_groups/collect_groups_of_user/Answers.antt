use Rattle.std.proofs.Common.{◌≡◌, ◌∷◌, ◌+◌, ◌∙◌, ap, sym, drop, map, Some, List}
use Rattle.std.specs.List.{filter}
use Rattle.std.proofs.lemmas.List.{drop_more}
use Rattle.sudoers_list_people.specs.declared.account_and_group_row_types.GroupFileRow.{GroupFileRow}
use Rattle.sudoers_list_people.specs.Person.{group_of_row, groups_of_user, is_user_in_group_row, has_same_group_number}
use Rattle.sudoers_list_people.specs.Rows.{with_item_if_new}
use Rattle.sudoers_list_people.proofs.Firsts.{kept_with_first_of_others, passing_group_row_keeps_wanted_groups, failing_group_row_keeps_wanted_groups}
use Rattle.sudoers_list_people.proofs.making_person_with_groups.collect_groups_of_user.Goals as goal
use Rattle.sudoers_list_people.proofs.making_person_with_groups.collect_groups_of_user.Goals.{then-branch+in_ok-add_group_if_number_new-2, else-branch}

pub loop-row-preserved : goal.loop-row-preserved
loop-row-preserved c =
    let rows : List GroupFileRow = c.groups-row-items.result.now in
    let i = c.loop-row.row-index in
    let row : GroupFileRow = c.row-item.result in
    let wanted = groups_of_user c.args.people.now c.args.user.now in
    let name = c.args.user.now.name in
    let split : drop i rows ≡ row ∷ drop (i + 1) rows = drop_more rows i row c.loop-row-test.true ∙ ap (λ r. r ∷ drop (i + 1) rows) (sym c.row-item.is) in
    let told : c.in_ok-has_group_member.field-0 ≡ is_user_in_group_row name row = c.in_ok-has_group_member.ensures ∙ ap (λ n. is_user_in_group_row n row) c.as_slice.ensures in
    elim c.if-branch.branch [
      | then-branch+in_ok-add_group_if_number_new-2 w ↦ (
        w.seen-is ∙ w.in_ok-add_group_if_number_new-2.ensures.seen ∙ ap (λ gs. map (λ g. g.gid) gs.items) (sym w.groups-is),
        passing_group_row_keeps_wanted_groups (is_user_in_group_row name) (drop i rows) (drop (i + 1) rows) row c.loop-row.groups.items c.if-branch.groups.items wanted split c.loop-row.invariant.1
            (sym told ∙ w.if-branch.true)
            (ap (λ gs. gs.items) w.groups-is ∙ w.in_ok-add_group_if_number_new-2.ensures.added
            ∙ ap (λ n. with_item_if_new has_same_group_number (Some (record { gid = row.gid; name = n })) c.loop-row.groups.items) w.as_slice-then-branch.ensures),
      )
      | else-branch w ↦ (
        w.seen-is ∙ c.loop-row.invariant.0 ∙ ap (λ gs. map (λ g. g.gid) gs.items) (sym w.groups-is),
        ap (λ gs. kept_with_first_of_others has_same_group_number gs.items (map group_of_row (filter (is_user_in_group_row name) (drop (i + 1) rows)))) w.groups-is
            ∙ failing_group_row_keeps_wanted_groups (is_user_in_group_row name) (drop i rows) (drop (i + 1) rows) row c.loop-row.groups.items wanted split c.loop-row.invariant.1
            (sym told ∙ w.if-branch.false),
      )
    ]
