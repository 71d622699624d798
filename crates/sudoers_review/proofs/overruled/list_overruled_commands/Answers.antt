use Rattle.std.proofs.Common.{◌≡◌, ◌++◌, List, ℕ, length, map, sym, ap, ap₂, ◌∙◌}
use Rattle.sudoers_compare.specs.declared.flat_rows.PlacedFlatRow.{PlacedFlatRow}
use Rattle.sudoers_compare.specs.declared.overruled.Overruling.{Overruling}
use Rattle.sudoers_compare.specs.FlatSpecs.{placed_row_of_view, row_of_placed_view}
use Rattle.sudoers_compare.specs.Overruled.{overrulings_of_rows}
use Rattle.sudoers_review.specs.OverruledText.{overruled_lines, undecided_rows, undecided_rows_line}
use Rattle.sudoers_review.proofs.OverruledRows.{found_are_as_many, text_of_found_rows}
use Rattle.sudoers_review.proofs.overruled.list_overruled_commands.Goals as goal

pub append_undecided_rows_line-requires : goal.append_undecided_rows_line-requires
append_undecided_rows_line-requires c =
    let rows = c.in_ok-rows.rows.items in
    let found = c.in_ok-found.found.items in
    ap length c.as_slice-6.ensures.value
    ∙ found_are_as_many rows found (c.in_ok-found.ensures ∙ ap (λ (held : List PlacedFlatRow). overrulings_of_rows 0 (map row_of_placed_view held)) c.as_slice-2.ensures.value)
    ∙ sym (ap length c.as_slice-5.ensures.value)

pub returns-clause-text : goal.returns-clause-text
returns-clause-text c =
    let policy = c.args.policy.now in
    let rows = c.in_ok-rows.rows.items in
    let found = c.in_ok-found.found.items in
    let lines : List PlacedFlatRow → List Overruling → List ℕ = λ (held : List PlacedFlatRow) (ones : List Overruling). overruled_lines policy (map placed_row_of_view held) (map placed_row_of_view held) ones in
    let line : List PlacedFlatRow → List Overruling → List ℕ = λ (held : List PlacedFlatRow) (ones : List Overruling). undecided_rows_line policy (undecided_rows (map placed_row_of_view held) ones) in
    let first : c.append_overruled_lines.new.out.text.items ≡ lines rows found =
    c.in_ok-append_overruled_lines.ensures.lines ∙ ap₂ (λ (o text : List ℕ). o ++ text) c.new-out.ensures (ap₂ lines c.as_slice-3.ensures.value c.as_slice-4.ensures.value) in
    let second : c.append_undecided_rows_line.new.out.text.items ≡ lines rows found ++ line rows found =
    c.in_ok-append_undecided_rows_line.ensures ∙ ap₂ (λ (o text : List ℕ). o ++ text) first (ap₂ line c.as_slice-5.ensures.value c.as_slice-6.ensures.value) in
    second
    ∙ text_of_found_rows policy rows found (c.in_ok-rows.ensures ∙ c.in_ok-flat.ensures.rows)
    (c.in_ok-found.ensures ∙ ap (λ (held : List PlacedFlatRow). overrulings_of_rows 0 (map row_of_placed_view held)) c.as_slice-2.ensures.value)
