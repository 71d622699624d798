use Rattle.sudoers_edit.proofs.Common.{All-drop, All-filter, All-map, All-same, Kind, Line, LineRow, List, Node, Place, PlacedDefinition, PruneRemoval, WalkLineSpot, WalkState, [], ap, append-nil, ap₂}
use Rattle.sudoers_edit.proofs.Common.{definitions_in_line, definitions_of_lines, drop, drop_all, drop_more, is_unused, length, line_of_row, lines_of_rows, map, removals_along_places, removals_of_spot_and_places}
use Rattle.sudoers_edit.proofs.Common.{reverse, slice_index_or, spot_of_walk_line, subst, sym, unused_definitions_of_lines, ℕ, ◌++◌, ◌+◌, ◌<◌, ◌^◌, ◌∙◌, ◌∷◌, ◌≡◌}
use Rattle.sudoers_line_rows.specs.declared.rows.NodeRow.TheVariants as node_row
use Rattle.sudoers_edit.proofs.PrunePlaces.{kind_and_place_of_definition}
use Rattle.sudoers_edit.proofs.PruneOrder.{removals_of_next_line_continue_along_places, prune_removals_are_reversed_along_places}
use Rattle.sudoers_edit.proofs.LawsApplied.{definition_numbers_of_walk_fit_u32, file_number_of_walk_line_fits_u32, line_number_of_walk_line_fits_u32}
use Rattle.sudoers_edit.proofs.prune_removals.list_prune_removals.Goals as goal

pub loop-number-init : goal.loop-number-init
loop-number-init c =
    let w : WalkState = c.args.policy.now.walk in
    let policy : List Line = w.lines in
    let places : c.as_slice-rest.result.now ≡ map kind_and_place_of_definition (unused_definitions_of_lines policy) = c.as_slice-rest.ensures.value ∙ c.in_ok-places.ensures ∙ ap (λ lines. map kind_and_place_of_definition (unused_definitions_of_lines lines)) c.walk.ensures in (
      ap (λ xs. xs ++ removals_along_places w 0 (lines_of_rows c.lines-lines.result) c.as_slice-rest.result.now) c.new-removals.ensures.items,
      All-same (λ (p : Kind × Place). p.1.def < 2 ^ 32) c.as_slice-rest.result.now (map kind_and_place_of_definition (unused_definitions_of_lines policy)) places
          (All-map (λ (p : Kind × Place). p.1.def < 2 ^ 32) kind_and_place_of_definition (unused_definitions_of_lines policy)
          (All-filter (is_unused policy) (λ (d : PlacedDefinition). d.place.def < 2 ^ 32) (definitions_of_lines policy)
          (definition_numbers_of_walk_fit_u32 c.args.policy.now c.is_loaded.ensures))),
    )

pub append_removals_of_line-requires-clause-file : goal.append_removals_of_line-requires-clause-file
append_removals_of_line-requires-clause-file c =
    subst (λ (at : WalkLineSpot). at.file < 2 ^ 32) (sym c.policy_walk_spot_at.ensures) (file_number_of_walk_line_fits_u32 c.args.policy.now c.loop-number.number c.is_loaded.ensures)

pub append_removals_of_line-requires-clause-line : goal.append_removals_of_line-requires-clause-line
append_removals_of_line-requires-clause-line c =
    subst (λ (at : WalkLineSpot). at.line < 2 ^ 32) (sym c.policy_walk_spot_at.ensures) (line_number_of_walk_line_fits_u32 c.args.policy.now c.loop-number.number c.is_loaded.ensures)

pub loop-number-preserved : goal.loop-number-preserved
loop-number-preserved c =
    let w : WalkState = c.args.policy.now.walk in
    let says : LineRow → Line = line_of_row c.lines-lines.result.tables.now in
    let items : List LineRow = c.lines-lines.result.rows.now in
    let i : ℕ = c.loop-number.number in
    let none : LineRow = record { text = record { from = 0; to = 0 }; node = node_row.Blank; bits = 0; lfs = 0 } in
    let row : LineRow = slice_index_or items i none in
    let line : Line = says row in
    let rest : List (Kind × Place) = c.loop-number.rest.now in
    let gone : List PruneRemoval = c.loop-number.removals.items in
    let count : ℕ = c.definition_count_of_node.result in
    let later : c.append_removals_of_line.new.removals.items ≡ gone ++ removals_of_spot_and_places (spot_of_walk_line w i) count c.split_at.result.0.now =
    c.in_ok-append_removals_of_line.ensures ∙ ap (λ (at : WalkLineSpot). gone ++ removals_of_spot_and_places at count c.split_at.result.0.now) c.policy_walk_spot_at.ensures in
    let many : count ≡ length (definitions_in_line i line.node) = c.definition_count_of_node.ensures i ∙ ap (λ (says : Node). length (definitions_in_line i says)) c.node_of_row.ensures in
    let whole : map says (drop i items) ≡ line ∷ map says (drop (i + 1) items) = ap (map says) (drop_more items i none c.loop-number-test.true) in (
      removals_of_next_line_continue_along_places w gone c.append_removals_of_line.new.removals.items i c.count_leading_places_in_line.result count line (map says (drop (i + 1) items)) (map says (drop i items))
          rest c.split_at.result.0.now c.split_at.result.1.now later c.count_leading_places_in_line.ensures.is many c.split_at.ensures.front c.split_at.ensures.back whole
          ∙ c.loop-number.invariant.0,
      All-same (λ (p : Kind × Place). p.1.def < 2 ^ 32) c.split_at.result.1.now (drop c.count_leading_places_in_line.result rest) c.split_at.ensures.back
          (All-drop (λ (p : Kind × Place). p.1.def < 2 ^ 32) c.count_leading_places_in_line.result rest c.loop-number.invariant.1),
    )

pub returns : goal.returns
returns c =
    let w : WalkState = c.args.policy.now.walk in
    let policy : List Line = w.lines in
    let says : LineRow → Line = line_of_row c.lines-lines.result.tables.now in
    let items : List LineRow = c.lines-lines.result.rows.now in
    let places : c.as_slice-rest.result.now ≡ map kind_and_place_of_definition (unused_definitions_of_lines policy) = c.as_slice-rest.ensures.value ∙ c.in_ok-places.ensures ∙ ap (λ lines. map kind_and_place_of_definition (unused_definitions_of_lines lines)) c.walk.ensures in
    let none : map says (drop c.loop-number.number items) ≡ [] = ap (map says) (drop_all c.loop-number.number items c.loop-number-test.false) in
    c.reverse.ensures.items
    ∙ ap reverse (sym (append-nil c.loop-number.removals.items)
    ∙ ap (λ ls. c.loop-number.removals.items ++ removals_along_places w c.loop-number.number ls c.loop-number.rest.now) (sym none)
    ∙ c.loop-number.invariant.0 ∙ ap₂ (removals_along_places w 0) c.lines-lines.ensures places)
    ∙ prune_removals_are_reversed_along_places w
