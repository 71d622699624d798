use Rattle.sudoers_check.proofs.Common.{Bool, Line, List, Note, WalkState, [], ap, append-nil, append_assoc, ap₂, arith, definition_count_in_node, definitions_of_lines, drop, drop_more, drop_of_length-le, get_or, length, length-drop, line_of_row}
use Rattle.sudoers_check.proofs.Common.{line_of_view, lines_of_rows, list_any, map, note_of_definition, notes_of_definitions_in_line_node_with_mark, notes_of_definitions_in_lines_with_mark, spot_of_walk_line, sym, take, ℕ, ◌++◌, ◌+◌, ◌∙◌, ◌∷◌, ◌≡◌}
use mathlib.Core.Bool.{beq}
use Rattle.sudoers_line_rows.specs.declared.rows.NodeRow.TheVariants as row
use Rattle.sudoers_line_rows.specs.View.{node_of_view}
use Rattle.sudoers_tree.specs.declared.line.LineRow.{LineRow}
use Rattle.sudoers_check.proofs.Located.{definition_count_in_lines, definitions_from_lines_have_total_count}
use Rattle.sudoers_check.proofs.Noted.{row_at_number_holds_line_at_number, notes_in_all_lines_are_of_picked, unwanted_marks_have_no_notes, unwanted_marks_pick_no_definitions}
use Rattle.sudoers_check.proofs.notes.make_notes_of_definitions.Goals.{then-contains+in_ok-append_notes_of_line, else-contains}
use Rattle.sudoers_check.proofs.notes.make_notes_of_definitions.Goals as goal

pub make_cursor_at_line-cursor-requires : goal.make_cursor_at_line-cursor-requires
make_cursor_at_line-cursor-requires c =
    row_at_number_holds_line_at_number c.args.policy.now.walk.lines c.lines-lines.result c.loop-number.number _ (line_of_view c.from_line_row-line.result) c.lines-lines.ensures c.loop-number-test.true c.from_line_row-line.ensures

pub loop-number-init : goal.loop-number-init
loop-number-init c =
    let walk : WalkState = c.args.policy.now.walk in (
      ap (λ xs. xs ++ notes_of_definitions_in_lines_with_mark c.args.wanted walk 0 c.args.marks.now (lines_of_rows c.lines-lines.result)) c.new-notes.ensures.items,
      c.requires ∙ definitions_from_lines_have_total_count 0 walk.lines ∙ ap definition_count_in_lines (sym c.lines-lines.ensures),
    )

pub returns-then-not-contains : goal.returns-then-not-contains
returns-then-not-contains c =
    c.from_vec.ensures ∙ c.new-notes.ensures.items ∙ ap (map (note_of_definition c.args.policy.now.walk)) (sym (unwanted_marks_pick_no_definitions c.args.wanted c.args.marks.now (definitions_of_lines c.args.policy.now.walk.lines) (sym c.contains.ensures.value ∙ c.if-not-contains.true)))

pub loop-number-preserved : goal.loop-number-preserved
loop-number-preserved c =
    let l = c.loop-number in
    let walk : WalkState = c.args.policy.now.walk in
    let wanted = c.args.wanted in
    let t = c.lines-lines.result.tables.now in
    let rows : List LineRow = c.lines-lines.result.rows.now in
    let none : LineRow = record { text = record { from = 0; to = 0 }; node = row.Blank; lfs = 0; bits = 0 } in
    let line : Line = line_of_row t (get_or rows l.number none) in
    let left : List Line = map (line_of_row t) (drop (l.number + 1) rows) in
    let next : map (line_of_row t) (drop l.number rows) ≡ line ∷ left = ap (map (line_of_row t)) (drop_more rows l.number none c.loop-number-test.true) in
    let many : ℕ = definition_count_in_node line.node in
    let here : List Bool = take many l.rest.now in
    let behind : List Bool = drop many l.rest.now in
    let front : c.split_at.result.0.now ≡ here = c.split_at.ensures.front ∙ ap (λ n. take n l.rest.now) c.count_definitions_in_row.ensures in
    let back : c.split_at.result.1.now ≡ behind = c.split_at.ensures.back ∙ ap (λ n. drop n l.rest.now) c.count_definitions_in_row.ensures in
    let notes : List Note = l.notes.items in
    let first : List Note = notes_of_definitions_in_line_node_with_mark wanted (spot_of_walk_line walk l.number) line.text here line.node in
    let more : List Note = notes_of_definitions_in_lines_with_mark wanted walk (l.number + 1) behind left in
    let old : notes ++ (first ++ more) ≡ _ = ap (λ ls. notes ++ notes_of_definitions_in_lines_with_mark wanted walk l.number l.rest.now ls) (sym next) ∙ l.invariant.0 in
    let size : length behind ≡ definition_count_in_lines left = omega (arith, l.invariant.1, ap definition_count_in_lines next, length-drop many l.rest.now) in
    elim c.if-contains.branch [
      | then-contains+in_ok-append_notes_of_line w ↦
          let cursor = w.make_cursor_at_line-cursor in
          let added : w.append_notes_of_line.new.notes.items ≡ notes ++ first =
          w.in_ok-append_notes_of_line.ensures
          ∙ ap₂ (λ at marks. notes ++ notes_of_definitions_in_line_node_with_mark wanted at cursor.result.text.now marks (node_of_view w.from_line_row-line.result.node)) cursor.ensures.spot front
          ∙ ap (λ text. notes ++ notes_of_definitions_in_line_node_with_mark wanted (spot_of_walk_line walk l.number) text here (node_of_view w.from_line_row-line.result.node)) cursor.ensures.text
          ∙ ap (λ (x : Line). notes ++ notes_of_definitions_in_line_node_with_mark wanted (spot_of_walk_line walk l.number) x.text here x.node) w.from_line_row-line.ensures in (
            ap₂ (λ v r. v.items ++ notes_of_definitions_in_lines_with_mark wanted walk (l.number + 1) r.now left) w.notes-is w.rest-is
                ∙ ap₂ (λ xs r. xs ++ notes_of_definitions_in_lines_with_mark wanted walk (l.number + 1) r left) added back
                ∙ append_assoc notes first more ∙ old,
            ap (λ r. length r.now) w.rest-is ∙ ap length back ∙ size,
          )
      | else-contains w ↦
          let nothing : first ≡ [] = unwanted_marks_have_no_notes wanted (spot_of_walk_line walk l.number) line.text here line.node (ap (list_any (λ m. beq m wanted)) (sym front) ∙ sym c.contains-in-loop-number.ensures.value ∙ w.if-contains.false) in (
            ap₂ (λ v r. v.items ++ notes_of_definitions_in_lines_with_mark wanted walk (l.number + 1) r.now left) w.notes-is w.rest-is
                ∙ ap (λ r. notes ++ notes_of_definitions_in_lines_with_mark wanted walk (l.number + 1) r left) back
                ∙ ap (λ xs. notes ++ (xs ++ more)) (sym nothing) ∙ old,
            ap (λ r. length r.now) w.rest-is ∙ ap length back ∙ size,
          )
    ]

pub returns : goal.returns
returns c =
    let l = c.loop-number in
    let walk : WalkState = c.args.policy.now.walk in
    let held = c.lines-lines.result in
    let none = drop_of_length-le held.rows.now c.loop-number-test.false in
    c.from_vec-2.ensures ∙ sym (append-nil l.notes.items)
    ∙ ap (λ rows. l.notes.items ++ notes_of_definitions_in_lines_with_mark c.args.wanted walk l.number l.rest.now (map (line_of_row held.tables.now) rows)) (sym none) ∙ l.invariant.0
    ∙ ap (notes_of_definitions_in_lines_with_mark c.args.wanted walk 0 c.args.marks.now) c.lines-lines.ensures ∙ notes_in_all_lines_are_of_picked c.args.wanted c.args.marks.now walk
