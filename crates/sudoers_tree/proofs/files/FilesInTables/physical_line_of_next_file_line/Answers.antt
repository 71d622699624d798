use Rattle.sudoers_tree.proofs.Common.{Line, List, None, Some, ap, arith, lf_count, line_of_row, lines_of_numbered_file, parsed_files_of_view, sym, ◌∙◌, ◌≡◌}
use Rattle.sudoers_tree.proofs.FileRows.{lines_of_numbered_file_fit_text_limit}
use Rattle.sudoers_tree.proofs.LineRows.{physical_line_of_next_line_adds_lf_count, physical_line_of_next_line_is_within_limit}
use Rattle.sudoers_tree.proofs.files.FilesInTables.physical_line_of_next_file_line.Goals as goal

pub overflow_add-result : goal.overflow_add-result
overflow_add-result c =
    let lines : List Line = lines_of_numbered_file (parsed_files_of_view c.args.self.now) c.args.file in
    let here : Line = line_of_row c.args.self.now.tables.now c.in-Some.line.now in
    let within = physical_line_of_next_line_is_within_limit lines c.args.number c.args.row c.in-Some.line.now.lfs here (sym c.in-Some.ensures.line) c.requires.row
    (c.in-Some.ensures.stands c.requires.files).lfs (lines_of_numbered_file_fit_text_limit c.args.self.now.tables.now c.args.self.now.files.now c.args.file c.requires.files) in
    omega (arith, within)

pub returns-in-Some : goal.returns-in-Some
returns-in-Some c = λ line at.
    let lines : List Line = lines_of_numbered_file (parsed_files_of_view c.args.self.now) c.args.file in
    let here : Line = line_of_row c.args.self.now.tables.now c.in-Some.line.now in
    let both : Some here ≡ Some line = c.in-Some.ensures.line ∙ at in
    let same : here ≡ line = cc in
    physical_line_of_next_line_adds_lf_count lines c.args.number c.args.row c.in-Some.line.now.lfs line at c.requires.row
    ((c.in-Some.ensures.stands c.requires.files).lfs ∙ ap (λ (l : Line). lf_count l.text) same)

pub returns-in-None : goal.returns-in-None
returns-in-None c = λ line at.
    let none : None ≡ Some line = c.in-None.ensures.line ∙ at in
    absurd cc
