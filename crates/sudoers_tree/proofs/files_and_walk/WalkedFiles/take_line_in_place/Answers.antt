use Rattle.sudoers_tree.proofs.Common.{All, Line, List, Tables, WalkedFiles, ap, arith, lines_of_numbered_file, map, parsed_file_of_rows, policy_of_walked_files, refl, remove, slice_get_within}
use Rattle.sudoers_tree.proofs.Common.{HasSoundFileRows, subst, sym, ◌+◌, ◌<◌, ◌∙◌, ◌≡◌}
use Rattle.std.proofs.Common.{rules}
use Rattle.std.proofs.lemmas.List.{places, with_items_is}
use Rattle.std.specs.Vec.{with_items}
use Rattle.sudoers_tree.proofs.Common.{Take, line_of_row, []}
use Rattle.sudoers_tree.specs.declared.moved_lines.LineMove.{LineMove}
use Rattle.sudoers_tree.specs.internal.InPlace.{IsSpotWithinReach, files_with_other_lines, moved_spot}
use Rattle.sudoers_tree.proofs.LineTaken.{line_taken_is_change_in_place, walk_number_is_within}
use Rattle.sudoers_tree.proofs.OneChange.{IsChangedInPlace, files_changed_in_place_load, walked_files_changed_in_place_are_sound}
use Rattle.sudoers_tree.proofs.WithinReach.{places_of_walked_files_are_within_reach, sound_file_has_few_lines, spots_of_walked_files_are_within_reach}
use Rattle.sudoers_tree.proofs.files_and_walk.WalkedFiles.take_line_in_place.Goals as goal

pub remove-requires : goal.remove-requires
remove-requires c =
    omega (arith, (walk_number_is_within c.args.self.now c.args.file c.args.line c.in-Some.place c.requires.loaded c.in-Some.ensures).0, c.args.self.now.lines.ok.0)

pub overflow_add-line : goal.overflow_add-line
overflow_add-line c =
    let w : WalkedFiles = c.args.self.now in
    let small : c.args.line < 1048576 =
    omega (arith, slice_get_within (lines_of_numbered_file (policy_of_walked_files w).files c.args.file) c.args.line _ c.in-Some.ensures.is, sound_file_has_few_lines w.tables w.files.items c.args.file c.requires.walked.files) in
    omega (arith, small)

pub move_spots-requires-clause-reach : goal.move_spots-requires-clause-reach
move_spots-requires-clause-reach c =
    subst (All IsSpotWithinReach) (sym c.as_mut_slice-2.ensures.value) (spots_of_walked_files_are_within_reach c.args.self.now c.requires.walked c.requires.loaded)

pub remove-requires-2 : goal.remove-requires-2
remove-requires-2 c =
    omega (arith, (walk_number_is_within c.args.self.now c.args.file c.args.line c.in-Some.place c.requires.loaded c.in-Some.ensures).1, c.args.self.now.spots.ok.0)

pub move_places-requires-clause-reach : goal.move_places-requires-clause-reach
move_places-requires-clause-reach c = places_of_walked_files_are_within_reach c.args.self.now c.requires.walked c.requires.loaded

-- the files without the line, as they are kept
abbrev without_line : goal.After-move_places → WalkedFiles
without_line c = record {
  tables = c.args.self.now.tables;
  files = with_items c.args.self.now.files c.take_row_out.new.files;
  lines = c.remove.new.self;
  spots = c.remove-2.new.self;
  on = c.args.self.now.on;
  index = c.move_places.new.self;
  begun = c.args.self.now.begun;
}

abbrev by : goal.After-move_places → LineMove
by c = record { up = 0; down = 1; more = 0; less = c.in-Some.place.row.lfs }

files_are : (c : goal.After-move_places) → (without_line c).files.items ≡ c.take_row_out.new.files
files_are c = with_items_is c.args.self.now.files c.take_row_out.new.files (search (rules, places))

spots_are : (c : goal.After-move_places) → (with_items c.args.self.now.spots c.move_spots.new.spots).items ≡ c.move_spots.new.spots
spots_are c = with_items_is c.args.self.now.spots c.move_spots.new.spots (search (rules, places))

is_taken : (c : goal.After-move_places)
    → IsChangedInPlace c.args.self.now (without_line c) (Take c.args.file c.args.line) (λ (lines : List Line). remove lines c.args.line) c.args.file c.args.line c.in-Some.place.number
    (line_of_row c.args.self.now.tables c.in-Some.place.row) [] (c.args.line + 1) (c.in-Some.place.number + 1) (by c)
is_taken c =
    let w : WalkedFiles = c.args.self.now in
    let t : Tables = w.tables in
    line_taken_is_change_in_place w (without_line c) c.args.file c.args.line c.in-Some.place (by c) c.requires.walked c.requires.loaded c.in-Some.ensures
    (c.is_plain_line.ensures c.if-not-is_plain_line.false t) refl refl
    (ap (map (parsed_file_of_rows t)) (files_are c) ∙ c.take_row_out.ensures.files t ∙ ap (λ fs. files_with_other_lines c.args.file (λ (lines : List Line). remove lines c.args.line) (map (parsed_file_of_rows t) fs)) c.as_mut_slice.ensures.value)
    (subst (All (HasSoundFileRows t)) (sym (files_are c)) (c.take_row_out.ensures.sound t (subst (All (HasSoundFileRows t)) (sym c.as_mut_slice.ensures.value) c.requires.walked.files)))
    c.remove.ensures.items
    (c.remove-2.ensures.items
    ∙ ap (λ ss. remove ss c.in-Some.place.number) (spots_are c ∙ c.move_spots.ensures ∙ ap (map (moved_spot c.args.file (c.args.line + 1) (by c))) c.as_mut_slice-2.ensures.value))
    refl c.move_places.ensures

pub returns-clause-walked : goal.returns-clause-walked
returns-clause-walked c =
    walked_files_changed_in_place_are_sound c.args.self.now (without_line c) (Take c.args.file c.args.line) (λ (lines : List Line). remove lines c.args.line) c.args.file c.args.line c.in-Some.place.number
    (line_of_row c.args.self.now.tables c.in-Some.place.row) [] (c.args.line + 1) (c.in-Some.place.number + 1) (by c) c.requires.walked c.requires.loaded c.requires.can (is_taken c)

pub returns-clause-made : goal.returns-clause-made
returns-clause-made c =
    files_changed_in_place_load c.args.self.now (without_line c) (Take c.args.file c.args.line) (λ (lines : List Line). remove lines c.args.line) c.args.file c.args.line c.in-Some.place.number
    (line_of_row c.args.self.now.tables c.in-Some.place.row) [] (c.args.line + 1) (c.in-Some.place.number + 1) (by c) c.requires.walked c.requires.loaded c.requires.can (is_taken c)
