use Rattle.sudoers_tree.proofs.Common.{All-get_or, Bool, HasSoundFileRows, Line, List, Tables, ap, false, if◌then◌else◌, line_of_row, map, parsed_file_of_rows, slice_get-get_or}
use Rattle.sudoers_tree.proofs.Common.{true, ◌+◌, ◌<◌, ◌∙◌, ◌≡◌}
use Rattle.std.proofs.Common.{arith, get_or, insert, is_ok, length, set}
use Rattle.std.proofs.lemmas.List.Elements.{All-set}
use Rattle.sudoers_tree.specs.internal.InPlace.{IsShortLineRow, files_with_other_lines}
use Rattle.sudoers_tree.proofs.ChangedRows.{file_with_other_rows_has_other_lines, file_with_row_stays_sound, file_with_same_rows_has_same_lines, file_with_same_rows_stays_sound}
use Rattle.sudoers_tree.proofs.SplicedLists.{map_of_insert_is_insert_of_map}
use Rattle.sudoers_tree.proofs.line_in_place.put_row_in.Goals as goal

pub returns-clause-files : goal.returns-clause-files
returns-clause-files c = λ t. by t (is_ok c.put_row.result) c.put_row.ensures.rows
  where
    by : (t : Tables) (b : Bool) → c.put_row.new.self.rows.items ≡ (if b then insert (get_or c.args.files.now c.args.file c.index-files-file.result).rows.items c.args.line c.args.row else (get_or c.args.files.now c.args.file c.index-files-file.result).rows.items)
        → map (parsed_file_of_rows t) (set c.args.files.now c.args.file c.put_row.new.self)
        ≡ (if b then files_with_other_lines c.args.file (λ (lines : List Line). insert lines c.args.line (line_of_row t c.args.row)) (map (parsed_file_of_rows t) c.args.files.now) else map (parsed_file_of_rows t) c.args.files.now)
    by t true rows =
        file_with_other_rows_has_other_lines t c.args.files.now c.args.file c.index-files-file.result c.put_row.new.self (λ (lines : List Line). insert lines c.args.line (line_of_row t c.args.row)) c.requires.file
        c.put_row.ensures.name c.put_row.ensures.fault
        (ap (map (line_of_row t)) rows ∙ map_of_insert_is_insert_of_map (line_of_row t) c.args.line (get_or c.args.files.now c.args.file c.index-files-file.result).rows.items c.args.row)
    by t false rows =
        file_with_same_rows_has_same_lines t c.args.files.now c.args.file c.index-files-file.result c.put_row.new.self c.requires.file c.put_row.ensures.name c.put_row.ensures.fault
        (ap (map (line_of_row t)) rows)

pub returns-clause-sound : goal.returns-clause-sound
returns-clause-sound c = λ t are short.
    All-set (HasSoundFileRows t) c.args.files.now c.args.file c.put_row.new.self
    (by t (is_ok c.put_row.result) c.put_row.ensures.rows c.put_row.ensures.bytes (All-get_or (HasSoundFileRows t) c.args.files.now c.args.file c.index-files-file.result c.requires.file are) short) are
  where
    by : (t : Tables) (b : Bool) → c.put_row.new.self.rows.items ≡ (if b then insert (get_or c.args.files.now c.args.file c.index-files-file.result).rows.items c.args.line c.args.row else (get_or c.args.files.now c.args.file c.index-files-file.result).rows.items)
        → c.put_row.new.self.bytes ≡ (if b then (get_or c.args.files.now c.args.file c.index-files-file.result).bytes + c.args.size else (get_or c.args.files.now c.args.file c.index-files-file.result).bytes) → HasSoundFileRows t (get_or c.args.files.now c.args.file c.index-files-file.result) → IsShortLineRow t c.args.size c.args.row → HasSoundFileRows t c.put_row.new.self
    by t true rows bytes is short =
        let there = slice_get-get_or c.args.files.now c.args.file c.index-files-file.result c.requires.file in
        let within : c.args.line < length (get_or c.args.files.now c.args.file c.index-files-file.result).rows.items = c.requires.line _ there in
        file_with_row_stays_sound t (get_or c.args.files.now c.args.file c.index-files-file.result) c.put_row.new.self c.args.line c.args.size c.args.row (omega (arith, within)) rows bytes (c.requires.room _ there) is short
    by t false rows bytes is short = file_with_same_rows_stays_sound t (get_or c.args.files.now c.args.file c.index-files-file.result) c.put_row.new.self rows bytes is
