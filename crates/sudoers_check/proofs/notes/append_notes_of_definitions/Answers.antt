use Rattle.sudoers_check.proofs.Common.{alias_definition_in_tables, ap, append-nil, drop_of_length-le, map, notes_of_definitions_in_line_with_mark, sym, ◌++◌, ◌∙◌}
use Rattle.sudoers_check.proofs.Noted.{no_definitions_have_no_notes}
use Rattle.sudoers_check.proofs.notes.append_notes_of_definitions.Goals as goal

pub returns-after-loop-row : goal.returns-after-loop-row
returns-after-loop-row c =
    let defs = c.args.defs.now in
    let none = drop_of_length-le defs.rows.now c.loop-row-test.false in
    let l = c.loop-row in
    sym (append-nil l.notes.items) ∙ ap (λ xs. l.notes.items ++ xs) (sym (no_definitions_have_no_notes c.args.wanted l.cursor.spot l.cursor.text.now c.args.kind l.rest.now))
    ∙ ap (λ rows. l.notes.items ++ notes_of_definitions_in_line_with_mark c.args.wanted l.cursor.spot l.cursor.text.now c.args.kind l.rest.now (map (alias_definition_in_tables defs.tables.now) rows)) (sym none) ∙ l.invariant
