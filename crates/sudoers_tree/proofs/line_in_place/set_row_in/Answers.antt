use Rattle.sudoers_tree.proofs.Common.{All-get_or, HasSoundFileRows, Line, List, ap, line_of_row, map, slice_get-get_or, ◌∙◌}
use Rattle.std.proofs.Common.{get_or, set}
use Rattle.std.proofs.lemmas.List.Elements.{All-set}
use Rattle.sudoers_tree.proofs.ChangedRows.{file_with_other_row_stays_sound, file_with_other_rows_has_other_lines}
use Rattle.sudoers_tree.proofs.SplicedLists.{map_of_set_is_set_of_map}
use Rattle.sudoers_tree.proofs.line_in_place.set_row_in.Goals as goal

pub returns-clause-files : goal.returns-clause-files
returns-clause-files c = λ t.
    file_with_other_rows_has_other_lines t c.args.files.now c.args.file c.index-files-file.result c.set_row.new.self (λ (lines : List Line). set lines c.args.line (line_of_row t c.args.row)) c.requires.file
    c.set_row.ensures.name c.set_row.ensures.fault
    (ap (map (line_of_row t)) c.set_row.ensures.rows ∙ map_of_set_is_set_of_map (line_of_row t) c.args.line (get_or c.args.files.now c.args.file c.index-files-file.result).rows.items c.args.row)

pub returns-clause-sound : goal.returns-clause-sound
returns-clause-sound c = λ t are short.
    let there = slice_get-get_or c.args.files.now c.args.file c.index-files-file.result c.requires.file in
    All-set (HasSoundFileRows t) c.args.files.now c.args.file c.set_row.new.self
    (file_with_other_row_stays_sound t (get_or c.args.files.now c.args.file c.index-files-file.result) c.set_row.new.self c.args.line c.args.size c.args.row c.args.row (c.requires.line _ there) c.set_row.ensures.rows
    c.set_row.ensures.bytes (c.requires.room _ there) (All-get_or (HasSoundFileRows t) c.args.files.now c.args.file c.index-files-file.result c.requires.file are) short) are
