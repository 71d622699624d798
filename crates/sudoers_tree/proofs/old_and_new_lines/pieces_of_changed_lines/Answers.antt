use Rattle.sudoers_tree.proofs.Common.{All, AreChangesInOrder, AreKeptPieces, IsKeptRow, LineChange, LineRow, List, Old, [], ap, arith, drop, drop_all, length, line_of_row, line_texts_of_pieces}
use Rattle.sudoers_tree.proofs.Common.{lines_changed_from_number, map, subst, sym, texts_of_lines, ℕ, ◌++◌, ◌+◌, ◌-◌, ◌∙◌, ◌∷◌, ◌≡◌}
use Rattle.sudoers_tree.proofs.ChangedLines.{no_changes_leave_lines_unchanged}
use Rattle.sudoers_tree.proofs.PieceLines.{part_of_kept_rows_is_kept, appended_piece_keeps_pieces_kept, texts_of_taken_rows_are_texts_from_number, appended_change_keeps_changed_lines, drop_is_item_and_next_drop, line_number_after_change_is_within_count, remaining_changes_stay_in_order, lines_of_pieces_with_last_are_appended, line_number_of_change_is_within_count, texts_of_rows_from_number}
use Rattle.sudoers_tree.proofs.old_and_new_lines.pieces_of_changed_lines.Goals as goal

pub append_pieces_of_change-requires-clause-within : goal.append_pieces_of_change-requires-clause-within
append_pieces_of_change-requires-clause-within c =
    let order = remaining_changes_stay_in_order c.args.changes.now c.loop-change.change-index c.change-item.result c.loop-change.from (length c.args.rows.now) c.loop-change-test.true c.change-item.is c.loop-change.invariant.0 in
    line_number_of_change_is_within_count c.loop-change.from c.change-item.result (drop (c.loop-change.change-index + 1) c.args.changes.now) (length c.args.rows.now) order

pub append_pieces_of_change-requires-clause-order : goal.append_pieces_of_change-requires-clause-order
append_pieces_of_change-requires-clause-order c =
    (remaining_changes_stay_in_order c.args.changes.now c.loop-change.change-index c.change-item.result c.loop-change.from (length c.args.rows.now) c.loop-change-test.true c.change-item.is c.loop-change.invariant.0).0

pub min_next_line_number-from-requires : goal.min_next_line_number-from-requires
min_next_line_number-from-requires c =
    let order = remaining_changes_stay_in_order c.args.changes.now c.loop-change.change-index c.change-item.result c.loop-change.from (length c.args.rows.now) c.loop-change-test.true c.change-item.is c.loop-change.invariant.0 in
    omega (arith, c.row_count-count.ensures.is, c.row_count-count.ensures.fits, line_number_after_change_is_within_count c.loop-change.from c.change-item.result (drop (c.loop-change.change-index + 1) c.args.changes.now) (length c.args.rows.now) order)

pub loop-change-preserved : goal.loop-change-preserved
loop-change-preserved c =
    let changes : List LineChange = c.args.changes.now in
    let rows : List LineRow = c.args.rows.now in
    let i : ℕ = c.loop-change.change-index in
    let n : ℕ = c.loop-change.from in
    let change : LineChange = c.change-item.result in
    let order : AreChangesInOrder n (change ∷ drop (i + 1) changes) (length rows) =
    remaining_changes_stay_in_order changes i change n (length rows) c.loop-change-test.true c.change-item.is c.loop-change.invariant.0 in (
      subst (λ k. AreChangesInOrder k (drop (i + 1) changes) (length rows)) (sym c.min_next_line_number-from.ensures) order.1,
      λ t.
          ap (λ k. line_texts_of_pieces t c.append_pieces_of_change.new.pieces.items ++ lines_changed_from_number k (drop (i + 1) changes) (texts_of_rows_from_number t rows k)) c.min_next_line_number-from.ensures
          ∙ appended_change_keeps_changed_lines t rows n change (drop (i + 1) changes) c.loop-change.pieces.items c.append_pieces_of_change.new.pieces.items order (c.in_ok-append_pieces_of_change.ensures.lines t)
          ∙ ap (λ cs. line_texts_of_pieces t c.loop-change.pieces.items ++ lines_changed_from_number n cs (texts_of_rows_from_number t rows n)) (sym (drop_is_item_and_next_drop changes i change c.loop-change-test.true c.change-item.is))
          ∙ c.loop-change.invariant.1 t,
      λ t kept. c.in_ok-append_pieces_of_change.ensures.kept t kept (c.loop-change.invariant.2 t kept),
    )

pub returns-clause-lines : goal.returns-clause-lines
returns-clause-lines c = λ t.
    let rows : List LineRow = c.args.rows.now in
    let n : ℕ = c.loop-change.from in
    let none : drop c.loop-change.change-index c.args.changes.now ≡ [] = drop_all c.loop-change.change-index c.args.changes.now (omega (arith, c.loop-change-test.false)) in
    ap (line_texts_of_pieces t) c.in_ok-push.ensures.items
    ∙ lines_of_pieces_with_last_are_appended t c.loop-change.pieces.items _
    ∙ ap (λ rs. line_texts_of_pieces t c.loop-change.pieces.items ++ texts_of_lines (map (line_of_row t) rs)) c.slice_of_rows.ensures
    ∙ ap (λ ls. line_texts_of_pieces t c.loop-change.pieces.items ++ ls) (texts_of_taken_rows_are_texts_from_number t rows n c.row_count-count.result c.row_count-count.ensures.is)
    ∙ ap (λ ls. line_texts_of_pieces t c.loop-change.pieces.items ++ ls) (sym (no_changes_leave_lines_unchanged n (texts_of_rows_from_number t rows n)))
    ∙ ap (λ cs. line_texts_of_pieces t c.loop-change.pieces.items ++ lines_changed_from_number n cs (texts_of_rows_from_number t rows n)) (sym none)
    ∙ c.loop-change.invariant.1 t

pub returns-clause-kept : goal.returns-clause-kept
returns-clause-kept c = λ t kept.
    let rows : List LineRow = c.args.rows.now in
    let n : ℕ = c.loop-change.from in
    subst (AreKeptPieces t) (sym c.in_ok-push.ensures.items)
    (appended_piece_keeps_pieces_kept t c.loop-change.pieces.items (Old c.slice_of_rows.result) (c.loop-change.invariant.2 t kept)
    (subst (All (IsKeptRow t)) (sym c.slice_of_rows.ensures) (part_of_kept_rows_is_kept t rows n (c.row_count-count.result - n) kept)))
