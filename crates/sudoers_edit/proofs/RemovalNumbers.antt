-- The numbers of what Prune takes out fit the words for them.
use Rattle.sudoers_edit.proofs.Common.{AllByRecursion, AreValidWalkLines, Bool, Edit, HaveFittingNumbers, Line, List, PlacedDefinition, WalkLineSpot, WalkState, [], alias_limit_of_each_kind, arith, definitions_from_line_number}
use Rattle.sudoers_edit.proofs.Common.{definitions_in_line, edit_of_removal, false, filter, if◌then◌else◌, is_unused, length, map, map-append, prune_removals_of_walk, removals_from_line_number, removals_of_line}
use Rattle.sudoers_edit.proofs.Common.{reverse, reverse-append, spot_of_walk_line, subst, sym, true, ℕ, ◌++◌, ◌+◌, ◌<◌, ◌==◌, ◌^◌, ◌∷◌}
use Rattle.sudoers_edit.specs.declared.prune_removals.PruneRemoval.TheVariants as removal
use Rattle.sudoers_edit.proofs.PrunePlaces.{property_of_lists_holds_of_their_join, property_of_list_holds_of_filtered, definition_numbers_of_lines_are_below_most}

pub joined_edits_have_fitting_numbers : (edits others : List Edit) → HaveFittingNumbers edits → HaveFittingNumbers others → HaveFittingNumbers (edits ++ others)
joined_edits_have_fitting_numbers [] others n m = m
joined_edits_have_fitting_numbers (edit ∷ edits) others n m = (n.0, joined_edits_have_fitting_numbers edits others n.1 m)

joined_list_property_holds_of_its_parts : {X : Type 0} (P : X → Type 0) (xs ys : List X) → AllByRecursion P (xs ++ ys) → AllByRecursion P xs × AllByRecursion P ys
joined_list_property_holds_of_its_parts P [] ys a = (tt, a)
joined_list_property_holds_of_its_parts P (x ∷ xs) ys a = let rest = joined_list_property_holds_of_its_parts P xs ys a.1 in ((a.0, rest.0), rest.1)

property_of_list_holds_of_reverse : {X : Type 0} (P : X → Type 0) (xs : List X) → AllByRecursion P xs → AllByRecursion P (reverse xs)
property_of_list_holds_of_reverse P [] a = tt
property_of_list_holds_of_reverse P (x ∷ xs) a =
    subst (AllByRecursion P) (sym (reverse-append (x ∷ []) xs)) (property_of_lists_holds_of_their_join P (reverse xs) (x ∷ []) (property_of_list_holds_of_reverse P xs a.1) (a.0, tt))

abbrev HasDefinitionNumberBelowLimit : PlacedDefinition → Type 0
HasDefinitionNumberBelowLimit d = d.place.def < alias_limit_of_each_kind

-- the numbers of a line of the walk fit
abbrev pub HasFittingSpotNumbers : WalkLineSpot → Type 0
HasFittingSpotNumbers at = (at.file < 2 ^ 32) × (at.line < 2 ^ 32)

removals_of_definitions_have_fitting_numbers : (at : WalkLineSpot) (ds : List PlacedDefinition) → HasFittingSpotNumbers at → AllByRecursion HasDefinitionNumberBelowLimit ds
    → HaveFittingNumbers (map edit_of_removal (map (λ (d : PlacedDefinition). removal.Def at.file at.line d.place.def) ds))
removals_of_definitions_have_fitting_numbers at [] fits near = tt
removals_of_definitions_have_fitting_numbers at (d ∷ ds) fits near =
    let first : d.place.def < alias_limit_of_each_kind = near.0 in
    ((omega (arith, fits.0), omega (arith, fits.1), omega (arith, first)), removals_of_definitions_have_fitting_numbers at ds fits near.1)

removals_of_line_have_fitting_numbers : (at : WalkLineSpot) (count : ℕ) (unused : List PlacedDefinition) → HasFittingSpotNumbers at → AllByRecursion HasDefinitionNumberBelowLimit unused → HaveFittingNumbers (map edit_of_removal (removals_of_line at count unused))
removals_of_line_have_fitting_numbers at count unused fits near = by (length unused == 0) (length unused == count)
  where
    by : (none all : Bool) → HaveFittingNumbers (map edit_of_removal (if none then [] else (if all then removal.Line at.file at.line ∷ []
        else map (λ (d : PlacedDefinition). removal.Def at.file at.line d.place.def) (reverse unused))))
    by true all = tt
    by false true = ((omega (arith, fits.0), omega (arith, fits.1)), tt)
    by false false = removals_of_definitions_have_fitting_numbers at (reverse unused) fits (property_of_list_holds_of_reverse HasDefinitionNumberBelowLimit unused near)

removals_from_number_have_fitting_numbers : (w : WalkState) (n : ℕ) (lines : List Line) → ((m : ℕ) → HasFittingSpotNumbers (spot_of_walk_line w m)) → AllByRecursion HasDefinitionNumberBelowLimit (definitions_from_line_number n lines)
    → HaveFittingNumbers (map edit_of_removal (removals_from_line_number w n lines))
removals_from_number_have_fitting_numbers w n [] fits near = tt
removals_from_number_have_fitting_numbers w n (line ∷ lines) fits near =
    let parts = joined_list_property_holds_of_its_parts HasDefinitionNumberBelowLimit (definitions_in_line n line.node) (definitions_from_line_number (n + 1) lines) near in
    let unused : List PlacedDefinition = filter (is_unused w.lines) (definitions_in_line n line.node) in
    let count : ℕ = length (definitions_in_line n line.node) in
    subst HaveFittingNumbers (sym (map-append edit_of_removal (removals_from_line_number w (n + 1) lines) (removals_of_line (spot_of_walk_line w n) count unused)))
    (joined_edits_have_fitting_numbers (map edit_of_removal (removals_from_line_number w (n + 1) lines)) (map edit_of_removal (removals_of_line (spot_of_walk_line w n) count unused))
    (removals_from_number_have_fitting_numbers w (n + 1) lines fits parts.1)
    (removals_of_line_have_fitting_numbers (spot_of_walk_line w n) count unused (fits n) (property_of_list_holds_of_filtered HasDefinitionNumberBelowLimit (is_unused w.lines) (definitions_in_line n line.node) parts.0)))

pub prune_removals_have_fitting_numbers : (w : WalkState) → AreValidWalkLines w.lines → ((n : ℕ) → HasFittingSpotNumbers (spot_of_walk_line w n)) → HaveFittingNumbers (map edit_of_removal (prune_removals_of_walk w))
unfolding prune_removals_of_walk
prune_removals_have_fitting_numbers w is fits = removals_from_number_have_fitting_numbers w 0 w.lines fits (definition_numbers_of_lines_are_below_most alias_limit_of_each_kind 0 w.lines is.few)
