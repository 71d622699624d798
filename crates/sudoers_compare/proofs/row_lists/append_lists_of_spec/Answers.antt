use Rattle.std.proofs.Common.{◌≡◌, ◌∙◌, ◌<◌, List, Some, ap, get_or, length, map, subst, sym}
use Rattle.std.specs.Prelude.{slice_get}
use Rattle.std.proofs.lemmas.Option.{slice_get-get_or}
use Rattle.sudoers_line_rows.specs.declared.rows.MemberRow.{MemberRow}
use Rattle.sudoers_compare.specs.declared.flat_specs.FlatHostGroup.{FlatHostGroup}
use Rattle.sudoers_compare.specs.AtomNumbers.{given_bits, needed_bits}
use Rattle.sudoers_compare.specs.FlatSpecs.{placed_rows_of_flat_host_group, signed_atoms_in_tables}
use Rattle.sudoers_compare.specs.RowLists.{hosts_of_optional_group, lists_of_kept}
use Rattle.sudoers_compare.proofs.KeptLists.{lists_of_one_more}
use Rattle.sudoers_compare.proofs.row_lists.append_lists_of_spec.Goals as goal

pub loop-group-preserved : goal.loop-group-preserved
loop-group-preserved c = λ all users hosts.
    let t = c.args.tables.now in
    let groups = c.args.spec.now.groups.items in
    let said = signed_atoms_in_tables t c.args.spec.now.users.items in
    let number = c.loop-group.group in
    let row = c.row-item.result in
    let below : number < length groups = subst (λ (xs : List FlatHostGroup). number < length xs) c.as_slice-row-items.ensures.value c.loop-group-test.true in
    let is : row ≡ get_or groups number row = c.row-item.is ∙ ap (λ (xs : List FlatHostGroup). get_or xs number row) c.as_slice-row-items.ensures.value in
    let stands : slice_get groups number ≡ Some row = slice_get-get_or groups number row below ∙ ap Some (sym is) in
    lists_of_one_more (placed_rows_of_flat_host_group t c.args.spec.now.line said) groups number row (map (lists_of_kept all) c.loop-group.out.items) (map (lists_of_kept all) c.append_lists_of_host_group.new.out.items) _ below is
    (c.in_ok-append_lists_of_host_group.ensures all c.args.spec.now.line said users
    (c.bits_of_rows-users.ensures.needed ∙ ap (λ (rows : List MemberRow). needed_bits (signed_atoms_in_tables t rows)) c.as_slice.ensures.value)
    (c.bits_of_rows-users.ensures.given ∙ ap (λ (rows : List MemberRow). given_bits (signed_atoms_in_tables t rows)) c.as_slice.ensures.value)
    (hosts number ∙ ap (hosts_of_optional_group t) stands)) (c.loop-group.invariant all users hosts)
