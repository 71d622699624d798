use Rattle.sudoers_tree.proofs.Common.{All, AreKeptPieces, IsKeptRow, New, Old, [], ap, subst, sym, ◌++◌, ◌-◌, ◌∙◌, ◌∷◌}
use Rattle.sudoers_tree.proofs.PieceLines.{part_of_kept_rows_is_kept, appended_piece_keeps_pieces_kept}
use Rattle.sudoers_tree.proofs.old_and_new_lines.append_pieces_of_change.Goals as goal

pub returns-in_ok-push-2-clause-kept : goal.returns-in_ok-push-2-clause-kept
returns-in_ok-push-2-clause-kept c = λ t kept before.
    let old = c.args.pieces.now.items in
    subst (AreKeptPieces t) (sym (c.in_ok-push-2.ensures.items ∙ ap (λ ps. ps ++ New c.in-Some.text ∷ []) c.in_ok-push.ensures.items))
    (appended_piece_keeps_pieces_kept t (old ++ Old c.slice_of_rows.result ∷ []) (New c.in-Some.text)
    (appended_piece_keeps_pieces_kept t old (Old c.slice_of_rows.result) before (subst (All (IsKeptRow t)) (sym c.slice_of_rows.ensures) (part_of_kept_rows_is_kept t c.args.rows.now c.args.from (c.changed_line_number.result - c.args.from) kept))) tt)

pub returns-in_default-clause-kept : goal.returns-in_default-clause-kept
returns-in_default-clause-kept c = λ t kept before.
    let old = c.args.pieces.now.items in
    subst (AreKeptPieces t) (sym c.in_ok-push.ensures.items)
    (appended_piece_keeps_pieces_kept t old (Old c.slice_of_rows.result) before (subst (All (IsKeptRow t)) (sym c.slice_of_rows.ensures) (part_of_kept_rows_is_kept t c.args.rows.now c.args.from (c.changed_line_number.result - c.args.from) kept)))
