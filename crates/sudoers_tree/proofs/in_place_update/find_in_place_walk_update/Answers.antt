use Rattle.sudoers_tree.proofs.Common.{All, ChangesDefinedNames, IfSome, IsAcceptedNamesChange, IsInPlaceWalkUpdate, IsLastingLineRow, KeepsLineCountWithoutFault, LineRow, List, None, Option, ParsedFile, ReplaceLinesAtSpots}
use Rattle.sudoers_tree.proofs.Common.{Some, Tables, ap, definitions_of_lines, files_before_change, length, line_of_row, map, parsed_files_of_view, rules, walk_lines_before_change, ◌≡◌}
use Rattle.sudoers_tree.specs.declared.in_place_update.InPlaceWalkUpdate.{InPlaceWalkUpdate}
use Rattle.sudoers_tree.proofs.KeptNames.{kept_lines_make_in_place_walk_update}
use Rattle.sudoers_tree.proofs.in_place_update.find_in_place_walk_update.Goals as goal

pub returns : goal.returns
returns c = by c.in_ok-into_walk_update_with_names.field-0 c.in_ok-into_walk_update_with_names.ensures.lines c.in_ok-into_walk_update_with_names.ensures.names
  where
    t : Tables
    t = c.args.files.now.tables.now

    others : List ParsedFile
    others = parsed_files_of_view c.args.files.now

    rows : List LineRow
    rows = c.in-Some.lines.items

    counts : All (KeepsLineCountWithoutFault (files_before_change t c.args.before.now) others) c.args.before.now.on.now
    counts = search rules

    stand : All (IsLastingLineRow t) rows
    stand = search rules

    count : length rows ≡ length c.args.before.now.spots.now
    count = search rules

    along : ReplaceLinesAtSpots others (walk_lines_before_change t c.args.before.now) c.args.before.now.spots.now (map (line_of_row t) rows)
    along = search rules

    changes : ChangesDefinedNames t c.change_of_defined_names-change.result (definitions_of_lines (walk_lines_before_change t c.args.before.now)) (definitions_of_lines (map (line_of_row t) rows))
    changes = search rules

    by : (o : Option InPlaceWalkUpdate) → IfSome o (λ walk. walk.lines ≡ c.in-Some.lines)
        → IfSome o (λ walk. IsAcceptedNamesChange t c.args.before.now.index.now c.change_of_defined_names-change.result walk.fresh)
        → IfSome o (IsInPlaceWalkUpdate t c.args.before.now others)
    by None lines names = tt
    by (Some walk) lines names =
        kept_lines_make_in_place_walk_update t c.args.before.now others rows c.change_of_defined_names-change.result walk c.requires.before c.requires.names counts stand count along changes names
        (ap (λ v. v.items) lines)
