use Rattle.std.proofs.Common.{◌+◌, ◌∙◌, List, Option, ℕ, ap, ap₂, map, subst, sym}
use Rattle.std.specs.Prelude.{slice_get}
use Rattle.sudoers_compare.specs.FlatRow.{flat_row_of_view}
use Rattle.sudoers_compare.specs.Overruled.{is_row_of_all, is_row_of_same_command}
use Rattle.sudoers_compare.specs.FlatSpecs.{row_of_placed_view}
use Rattle.sudoers_compare.specs.NextRows.{AreNextNumbers, is_next_row_of_all, overruling_of_two}
use Rattle.sudoers_compare.proofs.NextNumbers.{next_number_of_row, next_numbers_of_all_are_next, next_numbers_of_same_command_are_next, two_searches_find_overruling}
use Rattle.sudoers_compare.proofs.overruled.find_overruling.Goals as goal

pub returns : goal.returns
returns c = λ all kept right same of_all stands.
    let rows = map row_of_placed_view c.args.rows.rows.now in
    let row = flat_row_of_view c.args.row.now in
    let number = c.args.number in
    let own = c.find_lists_of_row-lists.ensures all rows row kept stands in
    let first = c.find_on_chain-same.ensures all kept own right in
    let second = c.find_on_chain-of_all.ensures all kept own first.0 in
    let found_same = first.1 (is_row_of_same_command row) (number + 1)
    (subst (AreNextNumbers (is_row_of_same_command row) rows) (sym same) (next_numbers_of_same_command_are_next row rows))
    (c.find_next_row.ensures _ (ap (λ (next : List (Option ℕ)). slice_get next number) same ∙ next_number_of_row is_row_of_same_command rows number row stands)) in
    let found_all = second.1 is_row_of_all (number + 1)
    (subst (AreNextNumbers is_row_of_all rows) (sym of_all) (next_numbers_of_all_are_next rows))
    (c.find_next_row-2.ensures _ (ap (λ (next : List (Option ℕ)). slice_get next number) of_all ∙ next_number_of_row is_next_row_of_all rows number row stands)) in
    (second.0, c.overruling_of_two.ensures ∙ ap₂ overruling_of_two found_same found_all ∙ two_searches_find_overruling row (number + 1) _)
