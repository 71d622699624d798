-- Where definitions and mentions on a walk stand in their files.
use Rattle.std.specs.Prelude.{ℕ, List, map, Option}
use Rattle.std.specs.Option.{option_map}
use Rattle.sudoers_grammar.specs.declared.node.Kind.{Kind}
use Rattle.sudoers_tree.specs.declared.place.DefinitionFilePlace.{DefinitionFilePlace}
use Rattle.sudoers_tree.specs.declared.place.FileSpan.{FileSpan}
use Rattle.sudoers_tree.specs.declared.place.Place.{Place}
use Rattle.sudoers_tree.specs.declared.place.Span.{Span}
use Rattle.sudoers_tree.specs.Definition.{definition_place_of_name}
use Rattle.sudoers_tree.specs.Mention.{mentions_in_lines}
use Rattle.sudoers_tree.specs.Walk.{WalkState, spot_of_walk_line}

-- the place in its file of a definition on the walk
abbrev pub file_place_of_walk_place : WalkState → Place → DefinitionFilePlace
file_place_of_walk_place w at = record { file = (spot_of_walk_line w at.line).file; line = (spot_of_walk_line w at.line).line; def = at.def }

-- the part in its file of a line of the walk
abbrev pub file_span_from_walk : WalkState → Span → FileSpan
file_span_from_walk w span = record { file = (spot_of_walk_line w span.line).file; line = (spot_of_walk_line w span.line).line; start = span.start; stop = span.stop }

-- where the name is defined in the kind
abbrev pub file_place_of_definition : Kind → List ℕ → WalkState → Option DefinitionFilePlace
file_place_of_definition k name w = option_map (file_place_of_walk_place w) (definition_place_of_name k name w.lines)

-- all mentions of a name in lists of a kind, in the order of the walk
abbrev pub mention_file_spans : Kind → List ℕ → WalkState → List FileSpan
mention_file_spans k name w = map (file_span_from_walk w) (mentions_in_lines k name w.lines)
