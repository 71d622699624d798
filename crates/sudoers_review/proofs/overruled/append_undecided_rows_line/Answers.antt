use Rattle.std.proofs.Common.{◌≡◌, ◌++◌, List, ℕ, Some, codes, map, sym, ap, ◌∙◌}
use Rattle.std.proofs.lemmas.List.{length-map}
use Rattle.std.specs.Fmt.{decimal}
use Rattle.sudoers_compare.specs.FlatSpecs.{PlacedRow, placed_row_of_view}
use Rattle.sudoers_review.specs.OverruledText.{command_text_of_row, place_text_of_row, undecided_rows}
use Rattle.sudoers_review.proofs.OverruledRows.{row_read_stands, undecided_line_is_appended}
use Rattle.sudoers_review.proofs.overruled.append_undecided_rows_line.Goals as goal

pub returns : goal.returns
returns c =
    let o = c.args.out.now.text.items in
    let policy = c.args.policy.now in
    let rows = c.args.rows.now in
    let all : List PlacedRow = map placed_row_of_view rows in
    let counted = c.count_undecided_rows-undecided.result in
    let row : PlacedRow = placed_row_of_view c.in-Some.first.now in
    let place : List ℕ = place_text_of_row policy row in
    let command : List ℕ = command_text_of_row row in
    let held = c.count_undecided_rows-undecided.ensures all (length-map rows placed_row_of_view ∙ sym c.requires) in
    let first : c.append_place_of_row.new.out.items ≡ o ++ place = c.in_ok-append_place_of_row.ensures in
    let second : c.extend_from_slice.new.self.items ≡ (o ++ place) ++ codes ": not decided: " = c.in_ok-extend_from_slice.ensures.items ∙ ap (λ (x : List ℕ). x ++ codes ": not decided: ") first in
    let third : c.append_command_text.new.out.items ≡ ((o ++ place) ++ codes ": not decided: ") ++ command = c.in_ok-append_command_text.ensures ∙ ap (λ (x : List ℕ). x ++ command) second in
    let fourth : c.extend_from_slice-2.new.self.items ≡ (((o ++ place) ++ codes ": not decided: ") ++ command) ++ codes "; commands with more than 64 later rows: " =
    c.in_ok-extend_from_slice-2.ensures.items ∙ ap (λ (x : List ℕ). x ++ codes "; commands with more than 64 later rows: ") third in
    let fifth : c.append_decimal_number.new.out.items ≡ ((((o ++ place) ++ codes ": not decided: ") ++ command) ++ codes "; commands with more than 64 later rows: ") ++ decimal counted.count =
    c.in_ok-append_decimal_number.ensures.appended ∙ ap (λ (x : List ℕ). x ++ decimal counted.count) fourth in
    undecided_line_is_appended policy all (undecided_rows all c.args.found.now) counted row o c.extend_from_slice-3.new.self.items held c.if-undecided-eq0.false
    (sym (row_read_stands placed_row_of_view rows counted.first (Some c.in-Some.first) c.in-Some.ensures.lookup))
    (c.in_ok-extend_from_slice-3.ensures.items ∙ ap (λ (x : List ℕ). x ++ codes "\n") fifth)
