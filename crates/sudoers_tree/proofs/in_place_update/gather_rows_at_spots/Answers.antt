use Rattle.sudoers_tree.proofs.Common.{All-push, All-same, IsLastingLineRow, Line, LineRow, List, Tables, [], ap, length, length-map, line_of_row, map, map-append, parsed_files_of_view, rules, slice_get, sym, ◌++◌}
use Rattle.sudoers_tree.proofs.Common.{◌∙◌, ◌∷◌, ◌≡◌}
use Rattle.sudoers_tree.proofs.KeptRows.{next_line_keeps_lines_replaced_at_spots}
use Rattle.sudoers_tree.proofs.in_place_update.gather_rows_at_spots.Goals as goal

pub loop-number-preserved : goal.loop-number-preserved
loop-number-preserved c =
    let t : Tables = c.args.files.now.tables.now in
    let before : List LineRow = c.loop-number.rows.items in
    let row : LineRow = c.in-Some.row.now in
    let olds : List Line = map (line_of_row t) c.args.lines.now in
    let news : List Line = map (line_of_row t) before in
    let more : c.push.new.self.items ≡ before ++ row ∷ [] = c.in_ok-push.ensures.items in
    let count : length news ≡ c.loop-number.number = length-map before (line_of_row t) ∙ c.loop-number.invariant.1 in (
      All-same (IsLastingLineRow t) c.push.new.self.items (before ++ row ∷ []) more (All-push (IsLastingLineRow t) before row c.loop-number.invariant.0 (c.in-Some.ensures.stands)),
      search rules,
      next_line_keeps_lines_replaced_at_spots (parsed_files_of_view c.args.files.now) olds c.args.spots.now news (map (line_of_row t) c.push.new.self.items) (line_of_row t row)
          (ap (map (line_of_row t)) more ∙ map-append (line_of_row t) before (row ∷ []))
          c.loop-number.invariant.2
          (λ at old there was. c.in-Some.ensures.stays at old (ap (slice_get c.args.spots.now) (sym count) ∙ there) (ap (slice_get olds) (sym count) ∙ was)),
    )
