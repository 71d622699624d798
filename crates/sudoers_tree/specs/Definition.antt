-- The definitions of aliases.
use Rattle.std.specs.Prelude.{ℕ, ◌+◌, ◌&&◌, Bool, true, false, List, [], ◌∷◌, ◌++◌, Option, None, Some, if◌then◌else◌}
use Rattle.std.specs.Option.{option_map}
use Rattle.std.specs.Str.{bytes_eq}
use Rattle.sudoers_grammar.specs.declared.node.Kind.{Kind}
use Rattle.sudoers_grammar.specs.declared.node.Kind.TheVariants.{User, Runas, Host, Cmnd}
use Rattle.sudoers_grammar.specs.Node.{Def, Member, Node}
use Rattle.sudoers_grammar.specs.Node as node
use Rattle.sudoers_tree.specs.Line.{Line}
use Rattle.sudoers_tree.specs.declared.place.Place.{Place}

abbrev pub is_equal_kind : Kind → Kind → Bool
is_equal_kind User User = true
is_equal_kind Runas Runas = true
is_equal_kind Host Host = true
is_equal_kind Cmnd Cmnd = true
is_equal_kind k j = false

-- a definition of an alias: its kind, where it stands, and what it says
pub record PlacedDefinition : Type 0 where
  pub kind : Kind
  pub place : Place
  pub def : Def

-- the definitions of a line that begin with this place
abbrev pub definitions_from_place : Kind → ℕ → ℕ → List Def → List PlacedDefinition
definitions_from_place k line n [] = []
definitions_from_place k line n (d ∷ ds) =
    record { kind = k; place = record { line = line; def = n }; def = d } ∷ definitions_from_place k line (n + 1) ds

-- the definitions of the line with this number, from 0, that says this
abbrev pub definitions_in_line : ℕ → Node → List PlacedDefinition
definitions_in_line line (node.Alias k defs) = definitions_from_place k line 0 defs
definitions_in_line line node.Blank = []
definitions_in_line line node.Comment = []
definitions_in_line line (node.Include dir path) = []
definitions_in_line line (node.Defaults scope params) = []
definitions_in_line line (node.Spec users groups) = []

-- the definitions of lines that are numbered from this number on
abbrev pub definitions_from_line_number : ℕ → List Line → List PlacedDefinition
definitions_from_line_number n [] = []
definitions_from_line_number n (line ∷ lines) = definitions_in_line n line.node ++ definitions_from_line_number (n + 1) lines

-- all definitions, in the order of the lines
abbrev pub definitions_of_lines : List Line → List PlacedDefinition
definitions_of_lines lines = definitions_from_line_number 0 lines

-- the definition is one of this name in this kind
abbrev pub is_definition_of_name : Kind → List ℕ → PlacedDefinition → Bool
is_definition_of_name k name d = is_equal_kind k d.kind && bytes_eq name d.def.name

-- the first definition of a name in a kind
abbrev pub first_definition_of : Kind → List ℕ → List PlacedDefinition → Option PlacedDefinition
first_definition_of k name [] = None
first_definition_of k name (d ∷ ds) = if is_definition_of_name k name d then Some d else first_definition_of k name ds

-- where the name is defined in the kind
abbrev pub definition_place_of_name : Kind → List ℕ → List Line → Option Place
definition_place_of_name k name lines = option_map (λ (d : PlacedDefinition). d.place) (first_definition_of k name (definitions_of_lines lines))

-- the members of the definition
abbrev pub members_of_alias_definition : Kind → List ℕ → List Line → Option (List Member)
members_of_alias_definition k name lines = option_map (λ (d : PlacedDefinition). d.def.members) (first_definition_of k name (definitions_of_lines lines))
