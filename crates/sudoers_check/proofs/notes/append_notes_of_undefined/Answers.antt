use Rattle.sudoers_check.proofs.Common.{List, Mention, Note, AreKeysOfUndefinedMentions, WalkLineSpot, [], ap, append-nil, append_assoc, ap₂, definitions_of_lines, drop, drop_of_length-le, new_undefined_mentions}
use Rattle.sudoers_check.proofs.Common.{note_in_line_text, notes_of_mentions, subst, sym, ℕ, ◌++◌, ◌+◌, ◌∙◌, ◌∷◌, ◌≡◌}
use Rattle.sudoers_check.proofs.Noted.{list_from_index_is_element_and_rest, first_undefined_mention_is_noted, other_mention_is_not_noted}
use Rattle.sudoers_check.proofs.notes.append_notes_of_undefined.Goals.{then-branch+in_ok-make_note_at+in_ok-push, else-branch}
use Rattle.sudoers_check.proofs.notes.append_notes_of_undefined.Goals as goal

pub loop-mention-preserved : goal.loop-mention-preserved
loop-mention-preserved c = λ before agrees.
    let was = c.loop-mention.invariant before agrees in
    let ds = definitions_of_lines c.args.walk.now in
    let m : Mention = c.mention-item.result in
    let all : List Mention = c.args.mentions.now in
    let rest : List Mention = drop (c.loop-mention.mention-index + 1) all in
    let next : drop c.loop-mention.mention-index all ≡ m ∷ rest = list_from_index_is_element_and_rest all c.loop-mention.mention-index m c.loop-mention-test.true c.mention-item.is in
    let list : (was.0 ++ m ∷ []) ++ rest ≡ before ++ all = append_assoc was.0 (m ∷ []) rest ∙ ap (λ xs. was.0 ++ xs) (sym next) ∙ was.2 in
    let is = c.in_ok-is_first_undefined_mention.ensures.is was.0 was.1 in
    let seen = c.in_ok-is_first_undefined_mention.ensures.seen was.0 was.1 in
    let old_notes : List Note = c.loop-mention.notes.items in
    let spot : WalkLineSpot = c.loop-mention.cursor.spot in
    let text : List ℕ = c.loop-mention.cursor.text.now in
    let old = ap (λ xs. old_notes ++ notes_of_mentions spot text (new_undefined_mentions ds was.0 xs)) (sym next) ∙ was.3 in
    elim c.if-branch.branch [
      | then-branch+in_ok-make_note_at+in_ok-push w ↦
          let note : Note = w.in_ok-make_note_at.field-0 in
          let new = new_undefined_mentions ds (was.0 ++ m ∷ []) rest in (
            was.0 ++ m ∷ [],
            seen,
            list,
            ap (λ v. v.items ++ notes_of_mentions c.if-branch.cursor.spot c.if-branch.cursor.text.now new) w.notes-is
                ∙ ap (λ xs. xs ++ notes_of_mentions c.if-branch.cursor.spot c.if-branch.cursor.text.now new) w.in_ok-push.ensures.items
                ∙ ap (λ x. (old_notes ++ note ∷ []) ++ notes_of_mentions x.spot x.text.now new) w.cursor-is
                ∙ ap₂ (λ r t. (old_notes ++ note ∷ []) ++ notes_of_mentions r t new) w.in_ok-make_note_at.ensures.spot w.in_ok-make_note_at.ensures.text
                ∙ first_undefined_mention_is_noted ds was.0 m rest spot text old_notes note (sym is ∙ w.if-branch.true)
                (w.in_ok-make_note_at.ensures.note ∙ ap (λ (x : Mention). note_in_line_text spot text x.kind x.name x.span.start) c.mention.view_is) ∙ old,
          )
      | else-branch w ↦
          let new = new_undefined_mentions ds (was.0 ++ m ∷ []) rest in (
            was.0 ++ m ∷ [],
            seen,
            list,
            ap (λ v. v.items ++ notes_of_mentions c.if-branch.cursor.spot c.if-branch.cursor.text.now new) w.notes-is
                ∙ ap (λ x. old_notes ++ notes_of_mentions x.spot x.text.now new) w.cursor-is
                ∙ other_mention_is_not_noted ds was.0 m rest spot text old_notes (sym is ∙ w.if-branch.false) ∙ old,
          )
    ]

pub returns-clause-seen : goal.returns-clause-seen
returns-clause-seen c = λ before agrees.
    let was = c.loop-mention.invariant before agrees in
    let none = drop_of_length-le c.args.mentions.now c.loop-mention-test.false in
    subst (AreKeysOfUndefinedMentions (definitions_of_lines c.args.walk.now) c.loop-mention.seen) (sym (append-nil was.0) ∙ ap (λ xs. was.0 ++ xs) (sym none) ∙ was.2) was.1
