use Rattle.sudoers_tree.proofs.Common.{All, Line, List, Tables, WalkedFiles, ap, ap₂, arith, get_or_from_slice_get, insert, map, parsed_file_of_rows, refl}
use Rattle.sudoers_tree.proofs.Common.{HasSoundFileRows, Put, line_of_row, slice_get, subst, sym, text_in_tables, ◌∙◌, ◌∷◌, ◌≡◌, []}
use Rattle.std.proofs.Common.{if◌then◌else◌, is_ok, rules}
use Rattle.std.proofs.lemmas.List.{places, with_items_is}
use Rattle.std.specs.Vec.{with_items}
use Rattle.sudoers_tree.specs.declared.moved_lines.LineMove.{LineMove}
use Rattle.sudoers_tree.specs.internal.InPlace.{IsShortLineRow, IsSpotWithinReach, files_with_other_lines, moved_spot}
use Rattle.sudoers_tree.proofs.LinePut.{line_put_is_change_in_place}
use Rattle.sudoers_tree.proofs.LineTaken.{walk_number_is_within}
use Rattle.sudoers_tree.proofs.OneChange.{IsChangedInPlace, files_changed_in_place_load, walked_files_changed_in_place_are_sound}
use Rattle.sudoers_tree.proofs.WalksBefore.{kept_files_have_same_policy, kept_files_stay_sound}
use Rattle.sudoers_tree.proofs.WithinReach.{places_of_walked_files_are_within_reach, spots_of_walked_files_are_within_reach}
use Rattle.sudoers_tree.proofs.files_and_walk.WalkedFiles.put_row_in_place.Goals as goal

pub insert-requires : goal.insert-requires
insert-requires c =
    omega (arith, (walk_number_is_within c.args.self.now c.args.file c.args.line c.in-Some.place c.requires.loaded c.in-Some.ensures).0, c.args.self.now.lines.ok.0, c.reserve.ensures.len)

pub index-spot-requires : goal.index-spot-requires
index-spot-requires c =
    omega (arith, (walk_number_is_within c.args.self.now c.args.file c.args.line c.in-Some.place c.requires.loaded c.in-Some.ensures).1, c.args.self.now.spots.ok.0, c.reserve-2.ensures.len)

pub move_spots-requires-clause-reach : goal.move_spots-requires-clause-reach
move_spots-requires-clause-reach c =
    subst (All IsSpotWithinReach) (sym (c.as_mut_slice-2.ensures.value ∙ c.reserve-2.ensures.items)) (spots_of_walked_files_are_within_reach c.args.self.now c.requires.walked c.requires.loaded)

pub insert-requires-2 : goal.insert-requires-2
insert-requires-2 c =
    omega (arith, (walk_number_is_within c.args.self.now c.args.file c.args.line c.in-Some.place c.requires.loaded c.in-Some.ensures).1, c.args.self.now.spots.ok.0, c.reserve-2.ensures.len)

pub move_places-requires-clause-reach : goal.move_places-requires-clause-reach
move_places-requires-clause-reach c = places_of_walked_files_are_within_reach c.args.self.now c.requires.walked c.requires.loaded

-- the files with the line, as they are kept
abbrev with_line : goal.After-move_places → WalkedFiles
with_line c = record {
  tables = c.args.self.now.tables;
  files = with_items c.args.self.now.files c.put_row_in.new.files;
  lines = c.insert.new.self;
  spots = c.insert-2.new.self;
  on = c.args.self.now.on;
  index = c.move_places.new.self;
  begun = c.args.self.now.begun;
}

abbrev by : goal.After-move_places → LineMove
by c = record { up = 1; down = 0; more = c.args.row.lfs; less = 0 }

files_are : (c : goal.After-move_places) → (with_line c).files.items ≡ c.put_row_in.new.files
files_are c = with_items_is c.args.self.now.files c.put_row_in.new.files (search (rules, places))

spots_are : (c : goal.After-move_places) → (with_items c.reserve-2.new.self c.move_spots.new.spots).items ≡ c.move_spots.new.spots
spots_are c = with_items_is c.reserve-2.new.self c.move_spots.new.spots (search (rules, places))

spot_is : (c : goal.After-move_places) → c.index-spot.result.now ≡ c.in-Some.ensures.only.at
spot_is c =
    c.index-spot.ensures
    ∙ get_or_from_slice_get c.reserve-2.new.self.items c.in-Some.place.number c.in-Some.ensures.only.at c.index-spot.result.now (ap (λ ss. slice_get ss c.in-Some.place.number) c.reserve-2.ensures.items ∙ c.in-Some.ensures.only.there)

line_is_put : (c : goal.After-move_places) → c.insert.new.self.items ≡ insert c.reserve.new.self.items c.in-Some.place.number c.args.row
line_is_put c = subst (λ r. c.insert.new.self.items ≡ (if is_ok r then insert c.reserve.new.self.items c.in-Some.place.number c.args.row else c.reserve.new.self.items)) c.unwrap.ensures c.insert.ensures.items

spot_is_put : (c : goal.After-move_places)
    → c.insert-2.new.self.items ≡ insert (with_items c.reserve-2.new.self c.move_spots.new.spots).items c.in-Some.place.number c.index-spot.result.now
spot_is_put c =
    subst (λ r. c.insert-2.new.self.items ≡ (if is_ok r then insert (with_items c.reserve-2.new.self c.move_spots.new.spots).items c.in-Some.place.number c.index-spot.result.now else (with_items c.reserve-2.new.self c.move_spots.new.spots).items))
    c.unwrap-2.ensures c.insert-2.ensures.items

is_short : (c : goal.After-move_places) → IsShortLineRow c.args.self.now.tables c.size_of_row-size.result c.args.row
is_short c = record {
  stands = c.requires.row.stands;
  logical = c.requires.can.lines.0;
  short = c.requires.row.short;
  size_is = c.size_of_row-size.ensures;
}

is_put : (c : goal.After-move_places)
    → IsChangedInPlace c.args.self.now (with_line c) (Put c.args.file c.args.line (text_in_tables c.args.self.now.tables c.args.row.text)) (λ (lines : List Line). insert lines c.args.line (line_of_row c.args.self.now.tables c.args.row))
    c.args.file c.args.line c.in-Some.place.number (line_of_row c.args.self.now.tables c.in-Some.place.row)
    (line_of_row c.args.self.now.tables c.args.row ∷ line_of_row c.args.self.now.tables c.in-Some.place.row ∷ []) c.args.line c.in-Some.place.number (by c)
is_put c =
    let w : WalkedFiles = c.args.self.now in
    let t : Tables = w.tables in
    line_put_is_change_in_place w (with_line c) c.args.file c.args.line c.in-Some.place c.args.row (by c) c.requires.walked c.requires.loaded c.in-Some.ensures
    c.requires.row.stands (c.is_no_include.ensures c.if-not-is_no_include.false t) (c.is_plain_line.ensures c.if-not-is_plain_line.false t) refl refl
    (ap (map (parsed_file_of_rows t)) (files_are c) ∙ c.in_default-put_row_in.ensures.files t
    ∙ ap (λ fs. files_with_other_lines c.args.file (λ (lines : List Line). insert lines c.args.line (line_of_row t c.args.row)) (map (parsed_file_of_rows t) fs)) c.as_mut_slice.ensures.value)
    (subst (All (HasSoundFileRows t)) (sym (files_are c)) (c.put_row_in.ensures.sound t (subst (All (HasSoundFileRows t)) (sym c.as_mut_slice.ensures.value) c.requires.walked.files) (is_short c)))
    (line_is_put c ∙ ap (λ ls. insert ls c.in-Some.place.number c.args.row) c.reserve.ensures.items)
    (spot_is_put c
    ∙ ap₂ (λ ss s. insert ss c.in-Some.place.number s)
    (spots_are c ∙ c.move_spots.ensures ∙ ap (map (moved_spot c.args.file c.args.line (by c))) (c.as_mut_slice-2.ensures.value ∙ c.reserve-2.ensures.items)) (spot_is c))
    refl c.move_places.ensures

pub returns-clause-walked : goal.returns-clause-walked
returns-clause-walked c =
    walked_files_changed_in_place_are_sound c.args.self.now (with_line c) (Put c.args.file c.args.line (text_in_tables c.args.self.now.tables c.args.row.text))
    (λ (lines : List Line). insert lines c.args.line (line_of_row c.args.self.now.tables c.args.row)) c.args.file c.args.line c.in-Some.place.number (line_of_row c.args.self.now.tables c.in-Some.place.row)
    (line_of_row c.args.self.now.tables c.args.row ∷ line_of_row c.args.self.now.tables c.in-Some.place.row ∷ []) c.args.line c.in-Some.place.number (by c) c.requires.walked c.requires.loaded c.requires.can (is_put c)

pub returns-clause-made : goal.returns-clause-made
returns-clause-made c =
    files_changed_in_place_load c.args.self.now (with_line c) (Put c.args.file c.args.line (text_in_tables c.args.self.now.tables c.args.row.text))
    (λ (lines : List Line). insert lines c.args.line (line_of_row c.args.self.now.tables c.args.row)) c.args.file c.args.line c.in-Some.place.number (line_of_row c.args.self.now.tables c.in-Some.place.row)
    (line_of_row c.args.self.now.tables c.args.row ∷ line_of_row c.args.self.now.tables c.in-Some.place.row ∷ []) c.args.line c.in-Some.place.number (by c) c.requires.walked c.requires.loaded c.requires.can (is_put c)

-- the files as they are kept where memory ran out
abbrev without_line : goal.In-Err → WalkedFiles
without_line c = record {
  tables = c.args.self.now.tables;
  files = with_items c.args.self.now.files c.put_row_in.new.files;
  lines = c.reserve.new.self;
  spots = c.reserve-2.new.self;
  on = c.args.self.now.on;
  index = c.args.self.now.index;
  begun = c.args.self.now.begun;
}

files_without_are : (c : goal.In-Err) → (without_line c).files.items ≡ c.put_row_in.new.files
files_without_are c = with_items_is c.args.self.now.files c.put_row_in.new.files (search (rules, places))

row_is_short : (c : goal.In-Err) → IsShortLineRow c.args.self.now.tables c.size_of_row-size.result c.args.row
row_is_short c = record {
  stands = c.requires.row.stands;
  logical = c.requires.can.lines.0;
  short = c.requires.row.short;
  size_is = c.size_of_row-size.ensures;
}

pub returns-in-Err-clause-walked : goal.returns-in-Err-clause-walked
returns-in-Err-clause-walked c =
    kept_files_stay_sound c.args.self.now (without_line c) refl c.reserve.ensures.items refl
    (subst (All (HasSoundFileRows c.args.self.now.tables)) (sym (files_without_are c))
    (c.put_row_in.ensures.sound c.args.self.now.tables (subst (All (HasSoundFileRows c.args.self.now.tables)) (sym c.as_mut_slice.ensures.value) c.requires.walked.files) (row_is_short c)))
    c.requires.walked

pub returns-in-Err-clause-made : goal.returns-in-Err-clause-made
returns-in-Err-clause-made c =
    kept_files_have_same_policy c.args.self.now (without_line c) refl c.reserve.ensures.items c.reserve-2.ensures.items refl
    (ap (map (parsed_file_of_rows c.args.self.now.tables)) (files_without_are c) ∙ c.in-Err.ensures.files c.args.self.now.tables ∙ ap (map (parsed_file_of_rows c.args.self.now.tables)) c.as_mut_slice.ensures.value)
