use Rattle.sudoers_check.proofs.Common.{Bool, Line, List, ap, append-nil, drop_of_length-le, length, line_of_row, lines_of_rows, map, sym, unmarked_places_in_lines, ◌++◌, ◌∙◌, ◌≡◌}
use Rattle.sudoers_check.proofs.Located.{definition_count_in_lines, definitions_from_lines_have_total_count}
use Rattle.sudoers_check.proofs.Noted.{unmarked_places_in_lines_are_of_picked}
use Rattle.sudoers_check.proofs.checking.find_unmarked_definitions.Goals as goal

pub loop-number-init : goal.loop-number-init
loop-number-init c = (
  ap (λ xs. xs ++ unmarked_places_in_lines 0 c.args.marks.now (lines_of_rows c.lines-lines.result)) c.new-places.ensures.items,
  c.requires ∙ definitions_from_lines_have_total_count 0 c.args.walk.now ∙ ap definition_count_in_lines (sym c.lines-lines.ensures),
)

pub returns : goal.returns
returns c =
    let lines : List Line = c.args.walk.now in
    let l = c.loop-number in
    let marks : List Bool = c.args.marks.now in
    let held = c.lines-lines.result in
    let none = drop_of_length-le held.rows.now c.loop-number-test.false in
    let size : length marks ≡ definition_count_in_lines lines = c.requires ∙ definitions_from_lines_have_total_count 0 lines in
    sym (append-nil l.places.items) ∙ ap (λ rows. l.places.items ++ unmarked_places_in_lines l.number l.rest.now (map (line_of_row held.tables.now) rows)) (sym none) ∙ l.invariant.0
    ∙ ap (unmarked_places_in_lines 0 marks) c.lines-lines.ensures ∙ unmarked_places_in_lines_are_of_picked 0 marks lines size
