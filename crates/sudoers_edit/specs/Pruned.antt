-- What a prune leaves of the lines of the walk.
use Rattle.std.specs.Prelude.{◌≡◌, ◌<◌, ℕ, ◌+◌, not, true, List, [], ◌∷◌, ◌++◌, length, map}
use Rattle.std.specs.List.{filter}
use Rattle.sudoers_grammar.specs.Node.{Def}
use Rattle.sudoers_grammar.specs.declared.node.Kind.{Kind}
use Rattle.sudoers_grammar.specs.Node as node
use Rattle.sudoers_tree.specs.Line.{Line}
use Rattle.sudoers_tree.specs.Definition.{PlacedDefinition, definitions_from_place, definitions_in_line}
use Rattle.sudoers_check.specs.Led.{is_unused}
use Rattle.sudoers_line_rows.specs.Alike.{are_lists_alike, is_same_def}

-- those of the definitions of the line with this number that are unused among these lines
abbrev pub unused_definitions_of_line : List Line → ℕ → Line → List PlacedDefinition
unused_definitions_of_line lines n line = filter (is_unused lines) (definitions_in_line n line.node)

-- those of the definitions that the line with this number makes in a kind that are not unused among these lines
abbrev pub used_definitions_of_line : List Line → Kind → ℕ → List Def → List Def
used_definitions_of_line lines k n defs = map (λ (d : PlacedDefinition). d.def) (filter (λ d. not (is_unused lines d)) (definitions_from_place k n 0 defs))

-- What is left of the line with this number: the line, if none of its definitions is unused; nothing, if it has definitions and all are; and
-- else a line with the others, in their order.
pub data AreLinesLeftOfPrunedLine (lines : List Line) (n : ℕ) (line : Line) : List Line → Type 0 where
  kept : unused_definitions_of_line lines n line ≡ [] → AreLinesLeftOfPrunedLine lines n line (line ∷ [])
  gone : 0 < length (unused_definitions_of_line lines n line) → length (unused_definitions_of_line lines n line) ≡ length (definitions_in_line n line.node) → AreLinesLeftOfPrunedLine lines n line []
  less : (k : Kind) (defs left : List Def) (new : Line) → 0 < length (unused_definitions_of_line lines n line) → line.node ≡ node.Alias k defs → new.node ≡ node.Alias k left
      → are_lists_alike is_same_def (used_definitions_of_line lines k n defs) left ≡ true → AreLinesLeftOfPrunedLine lines n line (new ∷ [])

-- The lines `news` are what is left of these lines, the first of which has the number n.
abbrev pub ArePrunedLines : List Line → ℕ → List Line → List Line → Type 0
ArePrunedLines lines n [] news = news ≡ []
ArePrunedLines lines n (line ∷ rest) news =
    (piece : List Line) × (others : List Line) × (news ≡ piece ++ others) × AreLinesLeftOfPrunedLine lines n line piece × ArePrunedLines lines (n + 1) rest others
