-- A device of the proof, which no public contract cites: what Prune takes out in the order of the walk, by the places of what is unused.
use Rattle.std.specs.Prelude.{ℕ, ◌+◌, ◌==◌, if◌then◌else◌, List, [], ◌∷◌, ◌++◌, length, map, take, drop}
use Rattle.sudoers_grammar.specs.declared.node.Kind.{Kind}
use Rattle.sudoers_tree.specs.Line.{Line}
use Rattle.sudoers_tree.specs.Walk.{WalkState, spot_of_walk_line}
use Rattle.sudoers_tree.specs.declared.place.Place.{Place}
use Rattle.sudoers_tree.specs.declared.place.WalkLineSpot.{WalkLineSpot}
use Rattle.sudoers_tree.specs.Definition.{definitions_in_line}
use Rattle.sudoers_edit.specs.declared.prune_removals.PruneRemoval.{PruneRemoval}
use Rattle.sudoers_edit.specs.declared.prune_removals.PruneRemoval.TheVariants as removal

-- how many of the first places are in the line with this number
abbrev pub leading_place_count_in_line : ℕ → List (Kind × Place) → ℕ
leading_place_count_in_line n [] = 0
leading_place_count_in_line n (p ∷ ps) = if p.1.line == n then 1 + leading_place_count_in_line n ps else 0

-- what goes of a line at this spot with so many definitions, of which those at these places are unused
abbrev pub removals_of_spot_and_places : WalkLineSpot → ℕ → List (Kind × Place) → List PruneRemoval
removals_of_spot_and_places at count [] = []
removals_of_spot_and_places at count (p ∷ ps) =
    if length (p ∷ ps) == count then removal.Line at.file at.line ∷ []
    else map (λ (q : Kind × Place). removal.Def at.file at.line q.1.def) (p ∷ ps)

-- what goes of lines of the walk that are numbered from this number on, with these places
abbrev pub removals_along_places : WalkState → ℕ → List Line → List (Kind × Place) → List PruneRemoval
removals_along_places w n [] places = []
removals_along_places w n (line ∷ lines) places =
    removals_of_spot_and_places (spot_of_walk_line w n) (length (definitions_in_line n line.node)) (take (leading_place_count_in_line n places) places)
    ++ removals_along_places w (n + 1) lines (drop (leading_place_count_in_line n places) places)
