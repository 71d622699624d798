use Rattle.std.proofs.Common.{List, ap, length, map, ◌∙◌}
use Rattle.sudoers_compare.specs.declared.row_lists.RowLists.{RowLists}
use Rattle.sudoers_compare.specs.FlatSpecs.{placed_rows_of_flat_specs}
use Rattle.sudoers_compare.specs.RowLists.{lists_of_kept, numbered_lists_of_specs}
use Rattle.sudoers_compare.proofs.KeptLists.{lists_of_rows_are_kept}
use Rattle.sudoers_compare.proofs.KnownLists.{no_answers_are_right}
use Rattle.sudoers_compare.proofs.overruled.find_overrulings_of_specs.Goals as goal

pub returns : goal.returns
returns c =
    let t = c.args.given.tables.now in
    let specs = c.args.given.specs.now in
    let all = numbered_lists_of_specs t specs in
    c.find_overrulings_by_lists.ensures all
    (lists_of_rows_are_kept all c.as_slice.result.now c.args.given.rows.now (placed_rows_of_flat_specs t specs)
    (ap (λ (kept : List RowLists). map (lists_of_kept all) kept) c.as_slice.ensures.value ∙ c.in_ok-lists.ensures) c.requires)
    (no_answers_are_right all (length specs) c.as_mut_slice.result.now (c.as_mut_slice.ensures.value ∙ c.in_ok-answers.ensures.items_if_clones_equal (λ y e. e)))
