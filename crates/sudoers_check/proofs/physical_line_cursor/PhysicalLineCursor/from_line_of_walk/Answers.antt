use Rattle.sudoers_check.proofs.Common.{Line, List, Some, ap, line_of_view, option_map, slice_get, sym, ℕ, ◌∙◌, ◌≡◌}
use Rattle.sudoers_check.proofs.Noted.{found_row_holds_line_at_number}
use Rattle.sudoers_check.proofs.physical_line_cursor.PhysicalLineCursor.from_line_of_walk.Goals as goal

pub make_cursor_at_line-requires : goal.make_cursor_at_line-requires
make_cursor_at_line-requires c =
    found_row_holds_line_at_number _ c.lines-lines.result c.args.number _ _ c.lines-lines.ensures c.in_ok-row.ensures.lookup.0 c.in_ok-row.ensures.lookup.1 c.from_line_row-line.ensures

pub returns : goal.returns
returns c =
    let stands : slice_get c.args.policy.now.walk.lines c.args.number ≡ Some (line_of_view c.from_line_row-line.result) =
    found_row_holds_line_at_number _ c.lines-lines.result c.args.number _ _ c.lines-lines.ensures c.in_ok-row.ensures.lookup.0 c.in_ok-row.ensures.lookup.1 c.from_line_row-line.ensures in
    record {
      text_is = ap (option_map (λ (line : Line). line.text)) stands ∙ ap (λ (text : List ℕ). Some text) (sym c.make_cursor_at_line.ensures.text);
      spot_is = c.make_cursor_at_line.ensures.spot;
    }
