use Rattle.sudoers_check.proofs.Common.{Line, AreKeysOfUndefinedMentions, Some, ap, arith, definitions_of_lines, length, line_of_row, line_of_view, mentions_in_node}
use Rattle.sudoers_check.proofs.Common.{slice_get, subst, sym, ◌++◌, ◌<◌, ◌∙◌, ◌≡◌}
use Rattle.std.proofs.lemmas.List.{length-map}
use Rattle.std.proofs.lemmas.Result.{on_ok_weaker}
use Rattle.sudoers_check.proofs.Noted.{row_at_number_holds_line_at_number}
use Rattle.sudoers_check.proofs.notes.append_notes_of_undefined_in_line.Goals as goal

-- what the line with the number mentions, where it is this line
mentions_are : (c : goal.After-drop-mentions) (line : Line) → slice_get c.args.policy.now.walk.lines c.args.number ≡ Some line → (line_of_view c.from_line_row-line.result ≡ line) × (c.as_slice.result.now ≡ mentions_in_node c.args.number line.node)
mentions_are c line stands =
    let held = c.lines-lines.result in
    let within : c.args.number < length held.rows.now = omega (arith, c.requires, ap length c.lines-lines.ensures, length-map held.rows.now (line_of_row held.tables.now)) in
    let own : Line = line_of_view c.from_line_row-line.result in
    let here : slice_get c.args.policy.now.walk.lines c.args.number ≡ Some own = row_at_number_holds_line_at_number c.args.policy.now.walk.lines held c.args.number _ own c.lines-lines.ensures within c.from_line_row-line.ensures in
    let same : own ≡ line = cc in
    (same, c.as_slice.ensures.value ∙ c.in_ok-mentions.ensures ∙ ap (λ (l : Line). mentions_in_node c.args.number l.node) same)

pub returns-clause-notes : goal.returns-clause-notes
returns-clause-notes c =
    on_ok_weaker c.append_notes_of_undefined.result (λ all line stands before agrees.
    let is = mentions_are c line stands in
    let notes = all before (subst (λ ls. AreKeysOfUndefinedMentions (definitions_of_lines ls) c.args.seen.now before) (sym c.walk-walk.ensures) agrees) in
    let spot = c.make_cursor_at_line-cursor.ensures.spot in
    let text = c.make_cursor_at_line-cursor.ensures.text ∙ ap (λ (l : Line). l.text) is.0 in
    cc (notes, spot, text, is.1, c.walk-walk.ensures)) c.append_notes_of_undefined.ensures.notes

pub returns-clause-seen : goal.returns-clause-seen
returns-clause-seen c =
    on_ok_weaker c.append_notes_of_undefined.result (λ all line stands before agrees.
    subst (λ ls. AreKeysOfUndefinedMentions (definitions_of_lines ls) c.append_notes_of_undefined.new.seen (before ++ mentions_in_node c.args.number line.node)) c.walk-walk.ensures
    (subst (λ ms. AreKeysOfUndefinedMentions (definitions_of_lines c.walk-walk.result) c.append_notes_of_undefined.new.seen (before ++ ms)) (mentions_are c line stands).1
    (all before (subst (λ ls. AreKeysOfUndefinedMentions (definitions_of_lines ls) c.args.seen.now before) (sym c.walk-walk.ensures) agrees)))) c.append_notes_of_undefined.ensures.seen
