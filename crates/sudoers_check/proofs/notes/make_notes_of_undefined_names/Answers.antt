use Rattle.sudoers_check.proofs.Common.{Line, List, Mention, Note, PlacedDefinition, AreKeysOfUndefinedMentions, Some, WalkState, [], ap, append-nil, append_assoc, arith, definitions_of_lines, drop, drop_more, drop_of_length-le, false}
use Rattle.sudoers_check.proofs.Common.{get_or, has_undefined_alias_in_line, length, mentions_in_node, new_undefined_mentions, notes_of_mentions, slice_get, slice_get-get_or, spot_of_walk_line, subst, sym, undefined_notes_in_lines, ◌++◌, ◌+◌, ◌<◌, ◌∙◌, ◌∷◌, ◌≡◌}
use Rattle.std.proofs.lemmas.List.{get_or-map, length-map}
use Rattle.sudoers_grammar.specs.Node as node
use Rattle.sudoers_check.proofs.Noted.{undefined_notes_of_walk_are_mapped}
use Rattle.sudoers_check.proofs.Undefined.{unmarked_line_has_no_undefined_mentions, unmarked_line_keeps_seen_keys_matching}
use Rattle.sudoers_check.proofs.notes.make_notes_of_undefined_names.Goals.{then-mark+in_ok-append_notes_of_undefined_in_line, else-mark}
use Rattle.sudoers_check.proofs.notes.make_notes_of_undefined_names.Goals as goal

pub loop-number-preserved : goal.loop-number-preserved
loop-number-preserved c =
    let l = c.loop-number in
    let walk : WalkState = c.args.policy.now.walk in
    let lines : List Line = walk.lines in
    let ds : List PlacedDefinition = definitions_of_lines lines in
    let none : Line = record { text = []; node = node.Blank } in
    let line : Line = get_or lines l.number none in
    let within : l.number < length lines = omega (arith, ap length c.requires, length-map lines (has_undefined_alias_in_line ds), c.loop-number-test.true) in
    let stands : slice_get lines l.number ≡ Some line = slice_get-get_or lines l.number none within in
    let rest : List Line = drop (l.number + 1) lines in
    let next : drop l.number lines ≡ line ∷ rest = drop_more lines l.number none within in
    let was = l.invariant in
    let ms : List Mention = mentions_in_node l.number line.node in
    let notes : List Note = l.notes.items in
    let first : List Note = notes_of_mentions (spot_of_walk_line walk l.number) line.text (new_undefined_mentions ds was.0 ms) in
    let more : List Note = undefined_notes_in_lines ds walk (was.0 ++ ms) (l.number + 1) rest in
    let old = ap (λ xs. notes ++ undefined_notes_in_lines ds walk was.0 l.number xs) (sym next) ∙ was.2 in
    elim c.if-mark.branch [
      | then-mark+in_ok-append_notes_of_undefined_in_line w ↦
          let new = w.in_ok-append_notes_of_undefined_in_line.ensures in (
            was.0 ++ ms,
            subst (λ keys. AreKeysOfUndefinedMentions ds keys (was.0 ++ ms)) (sym w.seen-is) (new.seen line stands was.0 was.1),
            ap (λ v. v.items ++ more) w.notes-is ∙ ap (λ xs. xs ++ more) (new.notes line stands was.0 was.1) ∙ append_assoc notes first more ∙ old,
          )
      | else-mark w ↦
          let unmarked : has_undefined_alias_in_line ds line ≡ false =
          sym (get_or-map (has_undefined_alias_in_line ds) lines l.number none false within) ∙ ap (λ marks. get_or marks l.number false) (sym c.requires) ∙ w.if-mark.false in (
            was.0 ++ ms,
            subst (λ keys. AreKeysOfUndefinedMentions ds keys (was.0 ++ ms)) (sym w.seen-is) (unmarked_line_keeps_seen_keys_matching ds l.number l.seen was.0 line unmarked was.1),
            ap (λ v. v.items ++ more) w.notes-is ∙ ap (λ us. notes ++ (notes_of_mentions (spot_of_walk_line walk l.number) line.text us ++ more)) (sym (unmarked_line_has_no_undefined_mentions ds l.number was.0 line unmarked)) ∙ old,
          )
    ]

pub returns : goal.returns
returns c =
    let l = c.loop-number in
    let walk : WalkState = c.args.policy.now.walk in
    let lines : List Line = walk.lines in
    let ds : List PlacedDefinition = definitions_of_lines lines in
    let none : drop l.number lines ≡ [] = drop_of_length-le lines (omega (arith, ap length c.requires, length-map lines (has_undefined_alias_in_line ds), c.loop-number-test.false)) in
    c.from_vec.ensures ∙ sym (append-nil l.notes.items) ∙ ap (λ ls. l.notes.items ++ undefined_notes_in_lines ds walk l.invariant.0 l.number ls) (sym none) ∙ l.invariant.2 ∙ undefined_notes_of_walk_are_mapped walk
