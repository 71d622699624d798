-- A device of the proof, which no public contract cites: notes line by line.
use Rattle.std.specs.Prelude.{◌≡◌, ℕ, ◌+◌, Bool, true, false, not, List, [], ◌∷◌, ◌++◌, take, drop, map, Option, Some, None}
use Rattle.std.specs.List.{list_any}
use Rattle.sudoers_grammar.specs.declared.node.Kind.{Kind}
use Rattle.sudoers_grammar.specs.Node.{Def, Member, Node}
use Rattle.sudoers_grammar.specs.Node as node
use Rattle.sudoers_grammar.specs.Listed.{AliasMember, aliases_among_listed, aliases_in_node, members_listed_as_kind}
use Rattle.sudoers_tree.specs.Line.{Line}
use Rattle.sudoers_tree.specs.declared.place.DefinitionFilePlace.{DefinitionFilePlace}
use Rattle.sudoers_tree.specs.declared.place.Place.{Place}
use Rattle.sudoers_tree.specs.declared.place.WalkLineSpot.{WalkLineSpot}
use Rattle.sudoers_tree.specs.FilePlaces.{file_place_of_walk_place}
use Rattle.sudoers_tree.specs.Walk.{WalkState, spot_of_walk_line}
use Rattle.sudoers_tree.specs.Definition.{PlacedDefinition, first_definition_of}
use Rattle.sudoers_tree.specs.Fault.{is_some}
use Rattle.sudoers_check.specs.declared.report.Note.{Note}
use Rattle.sudoers_check.specs.Mentioned.{Mention, mentions_in_node, is_mention_of_name}
use Rattle.sudoers_check.specs.Numbers.{definition_count_in_node, number_of_definition}
use Rattle.sudoers_check.specs.Report.{note_in_line_text, new_undefined_mentions}
use Rattle.sudoers_check.specs.internal.Seen.{is_name_key_among_keys}

-- notes of those of a line's definitions that have this mark
abbrev pub notes_of_definitions_in_line_with_mark : Bool → WalkLineSpot → List ℕ → Kind → List Bool → List Def → List Note
notes_of_definitions_in_line_with_mark wanted at text k [] ds = []
notes_of_definitions_in_line_with_mark wanted at text k (m ∷ ms) [] = []
notes_of_definitions_in_line_with_mark true at text k (true ∷ ms) (d ∷ ds) = note_in_line_text at text k d.name d.start ∷ notes_of_definitions_in_line_with_mark true at text k ms ds
notes_of_definitions_in_line_with_mark true at text k (false ∷ ms) (d ∷ ds) = notes_of_definitions_in_line_with_mark true at text k ms ds
notes_of_definitions_in_line_with_mark false at text k (true ∷ ms) (d ∷ ds) = notes_of_definitions_in_line_with_mark false at text k ms ds
notes_of_definitions_in_line_with_mark false at text k (false ∷ ms) (d ∷ ds) = note_in_line_text at text k d.name d.start ∷ notes_of_definitions_in_line_with_mark false at text k ms ds

abbrev pub notes_of_definitions_in_line_node_with_mark : Bool → WalkLineSpot → List ℕ → List Bool → Node → List Note
notes_of_definitions_in_line_node_with_mark wanted at text marks (node.Alias k defs) = notes_of_definitions_in_line_with_mark wanted at text k marks defs
notes_of_definitions_in_line_node_with_mark wanted at text marks node.Blank = []
notes_of_definitions_in_line_node_with_mark wanted at text marks node.Comment = []
notes_of_definitions_in_line_node_with_mark wanted at text marks (node.Include dir path) = []
notes_of_definitions_in_line_node_with_mark wanted at text marks (node.Defaults scope params) = []
notes_of_definitions_in_line_node_with_mark wanted at text marks (node.Spec users groups) = []

-- of lines of a walk that are numbered from this number on
abbrev pub notes_of_definitions_in_lines_with_mark : Bool → WalkState → ℕ → List Bool → List Line → List Note
notes_of_definitions_in_lines_with_mark wanted walk n marks [] = []
notes_of_definitions_in_lines_with_mark wanted walk n marks (line ∷ lines) =
    notes_of_definitions_in_line_node_with_mark wanted (spot_of_walk_line walk n) line.text (take (definition_count_in_node line.node) marks) line.node
    ++ notes_of_definitions_in_lines_with_mark wanted walk (n + 1) (drop (definition_count_in_node line.node) marks) lines

-- notes of mentions in a line
abbrev pub notes_of_mentions : WalkLineSpot → List ℕ → List Mention → List Note
notes_of_mentions at text ms = map (λ (m : Mention). note_in_line_text at text m.kind m.name m.span.start) ms

-- notes of the undefined names of lines of a walk that are numbered from this number on, behind these mentions
abbrev pub undefined_notes_in_lines : List PlacedDefinition → WalkState → List Mention → ℕ → List Line → List Note
undefined_notes_in_lines ds walk before n [] = []
undefined_notes_in_lines ds walk before n (line ∷ lines) =
    notes_of_mentions (spot_of_walk_line walk n) line.text (new_undefined_mentions ds before (mentions_in_node n line.node))
    ++ undefined_notes_in_lines ds walk (before ++ mentions_in_node n line.node) (n + 1) lines

-- The keys are those of the undefined names among these mentions.
abbrev pub AreKeysOfUndefinedMentions : List PlacedDefinition → List (List ℕ) → List Mention → Type 0
AreKeysOfUndefinedMentions ds keys before = (k : Kind) (name : List ℕ) → first_definition_of k name ds ≡ None → is_name_key_among_keys keys k name ≡ list_any (is_mention_of_name k name) before

-- the alias is not defined
abbrev pub is_undefined_alias : List PlacedDefinition → AliasMember → Bool
is_undefined_alias ds a = not (is_some (number_of_definition a.kind a.name ds))

abbrev pub has_undefined_alias : List PlacedDefinition → List AliasMember → Bool
has_undefined_alias ds aliases = list_any (is_undefined_alias ds) aliases

-- an alias that the line mentions is not defined
abbrev pub has_undefined_alias_in_line : List PlacedDefinition → Line → Bool
has_undefined_alias_in_line ds line = has_undefined_alias ds (aliases_in_node line.node)

-- an alias among members of a list of this kind is not defined
abbrev pub has_undefined_alias_among_members : List PlacedDefinition → Kind → List Member → Bool
has_undefined_alias_among_members ds k members = has_undefined_alias ds (aliases_among_listed (members_listed_as_kind k members))

-- the places of a line's definitions from this one on that have no mark
abbrev pub unmarked_places_in_line_counted_from : ℕ → Kind → ℕ → List Bool → List (Kind × Place)
unmarked_places_in_line_counted_from line k n [] = []
unmarked_places_in_line_counted_from line k n (true ∷ ms) = unmarked_places_in_line_counted_from line k (n + 1) ms
unmarked_places_in_line_counted_from line k n (false ∷ ms) = (k, record { line = line; def = n }) ∷ unmarked_places_in_line_counted_from line k (n + 1) ms

-- of which kind a line defines aliases, if it does
abbrev pub alias_kind_in_node : Node → Option Kind
alias_kind_in_node (node.Alias k defs) = Some k
alias_kind_in_node node.Blank = None
alias_kind_in_node node.Comment = None
alias_kind_in_node (node.Include dir path) = None
alias_kind_in_node (node.Defaults scope params) = None
alias_kind_in_node (node.Spec users groups) = None

abbrev pub unmarked_places_in_line_node : ℕ → List Bool → Node → List (Kind × Place)
unmarked_places_in_line_node line marks (node.Alias k defs) = unmarked_places_in_line_counted_from line k 0 marks
unmarked_places_in_line_node line marks node.Blank = []
unmarked_places_in_line_node line marks node.Comment = []
unmarked_places_in_line_node line marks (node.Include dir path) = []
unmarked_places_in_line_node line marks (node.Defaults scope params) = []
unmarked_places_in_line_node line marks (node.Spec users groups) = []

-- of lines that are numbered from this number on
abbrev pub unmarked_places_in_lines : ℕ → List Bool → List Line → List (Kind × Place)
unmarked_places_in_lines n marks [] = []
unmarked_places_in_lines n marks (line ∷ lines) =
    unmarked_places_in_line_node n (take (definition_count_in_node line.node) marks) line.node ++ unmarked_places_in_lines (n + 1) (drop (definition_count_in_node line.node) marks) lines

-- the kind of a definition, and its place in its file
abbrev pub kind_and_file_place : WalkState → Kind × Place → Kind × DefinitionFilePlace
kind_and_file_place walk at = (at.0, file_place_of_walk_place walk at.1)
