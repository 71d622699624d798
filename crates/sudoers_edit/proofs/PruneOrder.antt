-- What Prune takes out, in the order of the walk and from its last line on.
use Rattle.sudoers_edit.proofs.Common.{Bool, Kind, Line, List, Place, PlacedDefinition, PruneRemoval, WalkLineSpot, WalkState, [], ap, append_assoc, ap₂, arith, definitions_from_line_number, definitions_in_line}
use Rattle.sudoers_edit.proofs.Common.{drop, drop_at, false, filter, filter-append, if◌then◌else◌, is_unused, leading_place_count_in_line, length, length-map, map, map-append, prune_removals_of_walk, refl}
use Rattle.sudoers_edit.proofs.Common.{removals_along_places, removals_from_line_number, removals_of_line, removals_of_spot_and_places, reverse, reverse-append, spot_of_walk_line, sym, take, take_at, true, ℕ, ◌++◌}
use Rattle.sudoers_edit.proofs.Common.{◌+◌, ◌∙◌, ◌∷◌, ◌≡◌, ◌≤◌}
use Rattle.std.proofs.Common.{ne_eqb}
use Rattle.std.specs.Prelude.{◌==◌}
use Rattle.sudoers_edit.specs.declared.prune_removals.PruneRemoval.TheVariants as removal
use Rattle.sudoers_edit.proofs.PrunePlaces.{kind_and_place_of_definition, property_of_values_holds_of_map, property_of_list_holds_of_filtered, map_of_reverse_is_reverse_of_map, map_of_map_is_map_of_composition, definitions_of_line_are_placed_in_it, definitions_of_lines_are_placed_from_number, leading_places_in_line_are_counted}

removals_of_spot_reversed_are_of_line : (at : WalkLineSpot) (count : ℕ) (ds : List PlacedDefinition) → reverse (removals_of_spot_and_places at count (map kind_and_place_of_definition ds)) ≡ removals_of_line at count ds
removals_of_spot_reversed_are_of_line at count [] = refl
removals_of_spot_reversed_are_of_line at count (d ∷ ds) =
    ap (λ k. reverse (if k == count then removal.Line at.file at.line ∷ [] else map (λ (q : Kind × Place). removal.Def at.file at.line q.1.def) (map kind_and_place_of_definition (d ∷ ds)))) (length-map (d ∷ ds) kind_and_place_of_definition)
    ∙ by_count (length (d ∷ ds) == count) ∙ some (length (d ∷ ds) == 0) (ne_eqb (length (d ∷ ds)) 0 (λ none. omega (arith, none)))
  where
    some : (b : Bool) → b ≡ false → (if length (d ∷ ds) == count then removal.Line at.file at.line ∷ [] else map (λ (x : PlacedDefinition). removal.Def at.file at.line x.place.def) (reverse (d ∷ ds)))
        ≡ (if b then [] else (if length (d ∷ ds) == count then removal.Line at.file at.line ∷ [] else map (λ (x : PlacedDefinition). removal.Def at.file at.line x.place.def) (reverse (d ∷ ds))))
    some b is = rw is refl

    by_count : (whole : Bool) → reverse (if whole then removal.Line at.file at.line ∷ [] else map (λ (q : Kind × Place). removal.Def at.file at.line q.1.def) (map kind_and_place_of_definition (d ∷ ds)))
        ≡ (if whole then removal.Line at.file at.line ∷ [] else map (λ (x : PlacedDefinition). removal.Def at.file at.line x.place.def) (reverse (d ∷ ds)))
    by_count true = refl
    by_count false =
        ap reverse (map_of_map_is_map_of_composition (λ (q : Kind × Place). removal.Def at.file at.line q.1.def) kind_and_place_of_definition (d ∷ ds))
        ∙ sym (map_of_reverse_is_reverse_of_map (λ (x : PlacedDefinition). removal.Def at.file at.line x.place.def) (d ∷ ds))

pub removals_along_places_reversed_are_of_lines : (w : WalkState) (n : ℕ) (lines : List Line)
    → reverse (removals_along_places w n lines (map kind_and_place_of_definition (filter (is_unused w.lines) (definitions_from_line_number n lines)))) ≡ removals_from_line_number w n lines
removals_along_places_reversed_are_of_lines w n [] = refl
removals_along_places_reversed_are_of_lines w n (line ∷ lines) =
    let unused : PlacedDefinition → Bool = is_unused w.lines in
    let ds : List PlacedDefinition = definitions_in_line n line.node in
    let es : List PlacedDefinition = definitions_from_line_number (n + 1) lines in
    let count : ℕ = length ds in
    let here : List (Kind × Place) = map kind_and_place_of_definition (filter unused ds) in
    let later : List (Kind × Place) = map kind_and_place_of_definition (filter unused es) in
    let split : map kind_and_place_of_definition (filter unused (ds ++ es)) ≡ here ++ later =
    ap (map kind_and_place_of_definition) (filter-append unused ds es) ∙ map-append kind_and_place_of_definition (filter unused ds) (filter unused es) in
    let size : leading_place_count_in_line n (here ++ later) ≡ length here =
    leading_places_in_line_are_counted n here later
    (property_of_values_holds_of_map (λ (p : Kind × Place). p.1.line ≡ n) kind_and_place_of_definition (filter unused ds) (property_of_list_holds_of_filtered (λ (d : PlacedDefinition). d.place.line ≡ n) unused ds (definitions_of_line_are_placed_in_it n line.node)))
    (property_of_values_holds_of_map (λ (p : Kind × Place). n + 1 ≤ p.1.line) kind_and_place_of_definition (filter unused es) (property_of_list_holds_of_filtered (λ (d : PlacedDefinition). n + 1 ≤ d.place.line) unused es (definitions_of_lines_are_placed_from_number (n + 1) lines))) in
    ap (λ z. reverse (removals_along_places w n (line ∷ lines) z)) split
    ∙ ap (λ k. reverse (removals_of_spot_and_places (spot_of_walk_line w n) count (take k (here ++ later)) ++ removals_along_places w (n + 1) lines (drop k (here ++ later)))) size
    ∙ ap₂ (λ x y. reverse (removals_of_spot_and_places (spot_of_walk_line w n) count x ++ removals_along_places w (n + 1) lines y)) (take_at here later (length here) refl) (drop_at here later (length here) refl)
    ∙ reverse-append (removals_of_spot_and_places (spot_of_walk_line w n) count here) (removals_along_places w (n + 1) lines later)
    ∙ ap₂ (λ x y. x ++ y) (removals_along_places_reversed_are_of_lines w (n + 1) lines) (removals_of_spot_reversed_are_of_line (spot_of_walk_line w n) count (filter unused ds))

pub prune_removals_are_reversed_along_places : (w : WalkState) → reverse (removals_along_places w 0 w.lines (map kind_and_place_of_definition (filter (is_unused w.lines) (definitions_from_line_number 0 w.lines)))) ≡ prune_removals_of_walk w
unfolding prune_removals_of_walk
prune_removals_are_reversed_along_places w = removals_along_places_reversed_are_of_lines w 0 w.lines

-- one line more
pub removals_of_next_line_continue_along_places : (w : WalkState) (gone later : List PruneRemoval) (n k count : ℕ) (line : Line) (lines all : List Line) (rest here behind : List (Kind × Place))
    → later ≡ gone ++ removals_of_spot_and_places (spot_of_walk_line w n) count here → k ≡ leading_place_count_in_line n rest → count ≡ length (definitions_in_line n line.node)
    → here ≡ take k rest → behind ≡ drop k rest → all ≡ line ∷ lines
    → later ++ removals_along_places w (n + 1) lines behind ≡ gone ++ removals_along_places w n all rest
removals_of_next_line_continue_along_places w gone later n k count line lines all rest here behind is many size front back whole =
    ap (λ z. z ++ removals_along_places w (n + 1) lines behind) is
    ∙ append_assoc gone (removals_of_spot_and_places (spot_of_walk_line w n) count here) (removals_along_places w (n + 1) lines behind)
    ∙ ap (λ z. gone ++ z) (
    ap₂ (λ x y. x ++ y) (ap₂ (removals_of_spot_and_places (spot_of_walk_line w n)) size (front ∙ ap (λ j. take j rest) many)) (ap (removals_along_places w (n + 1) lines) (back ∙ ap (λ j. drop j rest) many))
    ∙ ap (λ ls. removals_along_places w n ls rest) (sym whole))
