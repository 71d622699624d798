use Rattle.sudoers_tree.proofs.Common.{All-get_or, HasSoundFileRows, Line, List, ParsedFileRows, ap, line_of_row, map, refl, remove, slice_get-get_or, ◌<◌, ◌∙◌}
use Rattle.std.proofs.Common.{get_or, length}
use Rattle.std.proofs.lemmas.List.Elements.{All-set}
use Rattle.sudoers_tree.proofs.ChangedRows.{file_with_other_rows_has_other_lines, file_without_row_stays_sound}
use Rattle.sudoers_tree.proofs.SplicedLists.{map_of_remove_is_remove_of_map}
use Rattle.sudoers_tree.proofs.line_in_place.take_row_out.Goals as goal

pub returns-clause-files : goal.returns-clause-files
returns-clause-files c = λ t.
    file_with_other_rows_has_other_lines t c.args.files.now c.args.file c.index-files-file.result _ (λ (lines : List Line). remove lines c.args.line) c.requires.file refl refl
    (ap (map (line_of_row t)) c.remove.ensures.items ∙ map_of_remove_is_remove_of_map (line_of_row t) c.args.line (get_or c.args.files.now c.args.file c.index-files-file.result).rows.items)

pub returns-clause-sound : goal.returns-clause-sound
returns-clause-sound c = λ t are.
    let file : ParsedFileRows = get_or c.args.files.now c.args.file c.index-files-file.result in
    let less : c.args.line < length file.rows.items = c.requires.line file (slice_get-get_or c.args.files.now c.args.file c.index-files-file.result c.requires.file) in
    All-set (HasSoundFileRows t) c.args.files.now c.args.file _
    (file_without_row_stays_sound t file _ c.args.line c.remove.result less c.remove.ensures.items refl (All-get_or (HasSoundFileRows t) c.args.files.now c.args.file c.index-files-file.result c.requires.file are)) are
