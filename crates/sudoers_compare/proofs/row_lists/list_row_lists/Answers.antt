use Rattle.std.proofs.Common.{◌≡◌, ◌∙◌, Option, Some, ap, map, sym}
use Rattle.std.specs.Prelude.{slice_get}
use Rattle.std.proofs.lemmas.Option.{slice_get-get_or}
use Rattle.sudoers_compare.specs.declared.flat_specs.FlatSpec.{FlatSpec}
use Rattle.sudoers_compare.specs.FlatSpecs.{placed_rows_of_flat_spec}
use Rattle.sudoers_compare.specs.RowLists.{hosts_of_optional_spec, lists_of_kept, numbered_lists_of_specs, users_of_optional_spec}
use Rattle.sudoers_compare.proofs.KeptLists.{lists_of_one_more}
use Rattle.sudoers_compare.proofs.row_lists.list_row_lists.Goals as goal

pub loop-number-preserved : goal.loop-number-preserved
loop-number-preserved c =
    let t = c.args.tables.now in
    let specs = c.args.specs.now in
    let number = c.loop-number.number in
    let spec = c.index-specs-number.result in
    let all = numbered_lists_of_specs t specs in
    let stands : slice_get specs number ≡ Some spec = slice_get-get_or specs number spec c.loop-number-test.true ∙ ap Some (sym c.index-specs-number.is) in
    lists_of_one_more (placed_rows_of_flat_spec t) specs number spec (map (lists_of_kept all) c.loop-number.lists.items) (map (lists_of_kept all) c.append_lists_of_spec.new.out.items) _ c.loop-number-test.true c.index-specs-number.is
    (c.in_ok-append_lists_of_spec.ensures all (ap (users_of_optional_spec t) stands) (λ group. ap (λ (o : Option FlatSpec). hosts_of_optional_spec t o group) stands)) c.loop-number.invariant
