-- What a policy is.
use Rattle.std.specs.Prelude.{◌≡◌, ◌≤◌, ◌+◌, ℕ, false, if◌then◌else◌, List, [], ◌∷◌, ◌++◌, map, None}
use Rattle.std.specs.List.{AllByRecursion}
use Rattle.sudoers_grammar.specs.declared.node.Kind.{Kind}
use Rattle.sudoers_text.specs.Line.{join}
use Rattle.sudoers_text.specs.Fault.{IsFaultlessCut}
use Rattle.sudoers_text.specs.Word.{is_reserved}
use Rattle.sudoers_grammar.specs.Line.{LineReadsAsNode}
use Rattle.sudoers_tree.specs.Line.{Line}
use Rattle.sudoers_tree.specs.Definition.{PlacedDefinition, definitions_of_lines, first_definition_of, is_equal_kind}

-- how many definitions of one kind a policy may have
abbrev pub alias_limit_of_each_kind : ℕ
alias_limit_of_each_kind = 4096

abbrev pub texts_of_lines : List Line → List (List ℕ)
texts_of_lines lines = map (λ (line : Line). line.text) lines

-- how many definitions are of this kind
abbrev pub definition_count_of_kind : Kind → List PlacedDefinition → ℕ
definition_count_of_kind k [] = 0
definition_count_of_kind k (d ∷ ds) = if is_equal_kind k d.kind then 1 + definition_count_of_kind k ds else definition_count_of_kind k ds

-- the line says what is kept of it
abbrev pub IsCorrectlyParsed : Line → Type 0
IsCorrectlyParsed line = LineReadsAsNode line.text line.node

abbrev pub HasUnreservedName : PlacedDefinition → Type 0
HasUnreservedName d = is_reserved d.def.name ≡ false

-- No definition has the kind and the name of one before it.
abbrev pub HaveDistinctNames : List PlacedDefinition → Type 0
HaveDistinctNames ds = (before after : List PlacedDefinition) (d : PlacedDefinition) → ds ≡ before ++ d ∷ after → first_definition_of d.kind d.def.name before ≡ None

-- Lines in the order of the walk, each with what it says. They define no reserved word, no name twice in a kind, and not too many names of
-- a kind.
pub record AreValidWalkLines (lines : List Line) : Type 0 where
  pub says : AllByRecursion IsCorrectlyParsed lines
  pub free : AllByRecursion HasUnreservedName (definitions_of_lines lines)
  pub once : HaveDistinctNames (definitions_of_lines lines)
  pub few : (k : Kind) → definition_count_of_kind k (definitions_of_lines lines) ≤ alias_limit_of_each_kind

-- The lines are those of a text, in its order.
pub record AreLinesOfSingleTextPolicy (lines : List Line) : Type 0 where
  pub cut : IsFaultlessCut (join (texts_of_lines lines)) (texts_of_lines lines)
  pub walk : AreValidWalkLines lines
