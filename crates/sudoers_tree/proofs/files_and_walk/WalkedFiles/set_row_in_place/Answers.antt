use Rattle.sudoers_tree.proofs.Common.{All, Line, List, Tables, WalkedFiles, ap, arith, lines_of_numbered_file, map, parsed_file_of_rows, policy_of_walked_files}
use Rattle.sudoers_tree.proofs.Common.{HasSoundFileRows, Swap, line_of_row, refl, slice_get_within, subst, sym, text_in_tables, ◌+◌, ◌<◌, ◌∙◌, ◌∷◌, ◌≡◌, []}
use Rattle.std.proofs.Common.{rules, set}
use Rattle.std.proofs.lemmas.List.{places, with_items_is}
use Rattle.std.specs.Vec.{with_item, with_items}
use Rattle.sudoers_tree.specs.declared.moved_lines.LineMove.{LineMove}
use Rattle.sudoers_tree.specs.internal.InPlace.{IsShortLineRow, IsSpotWithinReach, files_with_other_lines, moved_spot}
use Rattle.sudoers_tree.proofs.LinePut.{line_set_is_change_in_place}
use Rattle.sudoers_tree.proofs.LineTaken.{walk_number_is_within}
use Rattle.sudoers_tree.proofs.OneChange.{IsChangedInPlace, files_changed_in_place_load, walked_files_changed_in_place_are_sound}
use Rattle.sudoers_tree.proofs.WithinReach.{sound_file_has_few_lines, spots_of_walked_files_are_within_reach}
use Rattle.sudoers_tree.proofs.files_and_walk.WalkedFiles.set_row_in_place.Goals as goal

pub index_mut-requires : goal.index_mut-requires
index_mut-requires c =
    omega (arith, (walk_number_is_within c.args.self.now c.args.file c.args.line c.in-Some.place c.requires.loaded c.in-Some.ensures).0, c.args.self.now.lines.ok.0)

pub overflow_add-line : goal.overflow_add-line
overflow_add-line c =
    let w : WalkedFiles = c.args.self.now in
    let small : c.args.line < 1048576 =
    omega (arith, slice_get_within (lines_of_numbered_file (policy_of_walked_files w).files c.args.file) c.args.line _ c.in-Some.ensures.is, sound_file_has_few_lines w.tables w.files.items c.args.file c.requires.walked.files) in
    omega (arith, small)

pub move_spots-requires-clause-reach : goal.move_spots-requires-clause-reach
move_spots-requires-clause-reach c =
    subst (All IsSpotWithinReach) (sym c.as_mut_slice-2.ensures.value) (spots_of_walked_files_are_within_reach c.args.self.now c.requires.walked c.requires.loaded)

-- the files with the line, as they are kept
abbrev with_line : goal.After-self-3-1 → WalkedFiles
with_line c = record {
  tables = c.args.self.now.tables;
  files = with_items c.args.self.now.files c.set_row_in.new.files;
  lines = with_item c.args.self.now.lines c.in-Some.place.number c.args.row;
  spots = with_items c.args.self.now.spots c.move_spots.new.spots;
  on = c.args.self.now.on;
  index = c.args.self.now.index;
  begun = c.args.self.now.begun;
}

abbrev by : goal.After-self-3-1 → LineMove
by c = record { up = 0; down = 0; more = c.args.row.lfs; less = c.in-Some.place.row.lfs }

files_are : (c : goal.After-self-3-1) → (with_line c).files.items ≡ c.set_row_in.new.files
files_are c = with_items_is c.args.self.now.files c.set_row_in.new.files (search (rules, places))

spots_are : (c : goal.After-self-3-1) → (with_line c).spots.items ≡ c.move_spots.new.spots
spots_are c = with_items_is c.args.self.now.spots c.move_spots.new.spots (search (rules, places))

is_short : (c : goal.After-self-3-1) → IsShortLineRow c.args.self.now.tables c.size_of_row-size.result c.args.row
is_short c = record {
  stands = c.requires.row.stands;
  logical = c.requires.can.lines.0;
  short = c.requires.row.short;
  size_is = c.size_of_row-size.ensures;
}

is_set : (c : goal.After-self-3-1)
    → IsChangedInPlace c.args.self.now (with_line c) (Swap c.args.file c.args.line (text_in_tables c.args.self.now.tables c.args.row.text)) (λ (lines : List Line). set lines c.args.line (line_of_row c.args.self.now.tables c.args.row))
    c.args.file c.args.line c.in-Some.place.number (line_of_row c.args.self.now.tables c.in-Some.place.row) (line_of_row c.args.self.now.tables c.args.row ∷ []) (c.args.line + 1) (c.in-Some.place.number + 1) (by c)
is_set c =
    let w : WalkedFiles = c.args.self.now in
    let t : Tables = w.tables in
    line_set_is_change_in_place w (with_line c) c.args.file c.args.line c.in-Some.place c.args.row (by c) c.requires.walked c.requires.loaded c.in-Some.ensures
    c.requires.row.stands (c.is_no_include-else-not-is_no_include.ensures c.if-not-is_no_include-2.false t) (c.is_no_include.ensures c.if-not-is_no_include.false t) c.in-Nothing.ensures refl refl
    (ap (map (parsed_file_of_rows t)) (files_are c) ∙ c.set_row_in.ensures.files t
    ∙ ap (λ fs. files_with_other_lines c.args.file (λ (lines : List Line). set lines c.args.line (line_of_row t c.args.row)) (map (parsed_file_of_rows t) fs)) c.as_mut_slice.ensures.value)
    (subst (All (HasSoundFileRows t)) (sym (files_are c)) (c.set_row_in.ensures.sound t (subst (All (HasSoundFileRows t)) (sym c.as_mut_slice.ensures.value) c.requires.walked.files) (is_short c)))
    refl
    (spots_are c ∙ c.move_spots.ensures ∙ ap (map (moved_spot c.args.file (c.args.line + 1) (by c))) c.as_mut_slice-2.ensures.value)
    refl refl

pub returns-clause-walked : goal.returns-clause-walked
returns-clause-walked c =
    walked_files_changed_in_place_are_sound c.args.self.now (with_line c) (Swap c.args.file c.args.line (text_in_tables c.args.self.now.tables c.args.row.text))
    (λ (lines : List Line). set lines c.args.line (line_of_row c.args.self.now.tables c.args.row)) c.args.file c.args.line c.in-Some.place.number (line_of_row c.args.self.now.tables c.in-Some.place.row)
    (line_of_row c.args.self.now.tables c.args.row ∷ []) (c.args.line + 1) (c.in-Some.place.number + 1) (by c) c.requires.walked c.requires.loaded c.requires.can (is_set c)

pub returns-clause-made : goal.returns-clause-made
returns-clause-made c =
    files_changed_in_place_load c.args.self.now (with_line c) (Swap c.args.file c.args.line (text_in_tables c.args.self.now.tables c.args.row.text))
    (λ (lines : List Line). set lines c.args.line (line_of_row c.args.self.now.tables c.args.row)) c.args.file c.args.line c.in-Some.place.number (line_of_row c.args.self.now.tables c.in-Some.place.row)
    (line_of_row c.args.self.now.tables c.args.row ∷ []) (c.args.line + 1) (c.in-Some.place.number + 1) (by c) c.requires.walked c.requires.loaded c.requires.can (is_set c)
