-- A name that a policy defines can name an alias, and is not reserved.
use Rattle.sudoers_edit.proofs.Common.{AllByRecursion, AreValidWalkLines, Bool, Def, HasUnreservedName, IsCorrectlyParsed, IsDefinableName, Kind, Line, LineReadsAsNode, List, Node, PlacedDefinition, Some}
use Rattle.sudoers_edit.proofs.Common.{TokenWithBytes, [], and_parts, ap, bytes_eq, bytes_eq-Decides, definitions_from_line_number, definitions_from_place, definitions_in_line, definitions_of_lines, false}
use Rattle.sudoers_edit.proofs.Common.{first_definition_of, if◌then◌else◌, is_alias_name, is_definition_of_name, is_equal_kind, is_name, is_some, is_word, refl, subst, sym, true, ℕ, ◌&&◌, ◌++◌, ◌+◌, ◌∙◌, ◌∷◌, ◌≡◌}
use Rattle.sudoers_grammar.specs.Node as node
use Rattle.sudoers_grammar.specs.Grammar.{Many, MarkThenRule, Separated, IsDef}

abbrev HasNameForAlias : PlacedDefinition → Type 0
HasNameForAlias d = is_name d.def.name ≡ true

-- ---- the names in a line

definition_read_has_name : (k : Kind) (ts : List TokenWithBytes) (d : Def) (rest : List TokenWithBytes) → IsDef k ts d rest → is_name d.name ≡ true
unfolding is_alias_name
definition_read_has_name k ts d rest is = ap is_name is.same_name ∙ (and_parts (is_word is.name.kind) (is_name is.name.text) is.is_name).1

repeated_definitions_have_names : (k : Kind) (line n : ℕ) (ts : List TokenWithBytes) (defs : List Def) (rest : List TokenWithBytes) → Many (MarkThenRule 58 (IsDef k)) ts defs rest
    → AllByRecursion HasNameForAlias (definitions_from_place k line n defs)
repeated_definitions_have_names k line n ts [] rest m = tt
repeated_definitions_have_names k line n ts (d ∷ defs) rest m = (definition_read_has_name k m.1.behind d m.0 m.1.is, repeated_definitions_have_names k line (n + 1) m.0 defs rest m.2)

separated_definitions_have_names : (k : Kind) (line : ℕ) (ts : List TokenWithBytes) (defs : List Def) (rest : List TokenWithBytes) → Separated 58 (IsDef k) ts defs rest
    → AllByRecursion HasNameForAlias (definitions_from_place k line 0 defs)
separated_definitions_have_names k line ts [] rest s = tt
separated_definitions_have_names k line ts (d ∷ defs) rest s = (definition_read_has_name k ts d s.0 s.1, repeated_definitions_have_names k line (0 + 1) s.0 defs rest s.2)

definitions_of_line_have_names : (line : ℕ) (text : List ℕ) (says : Node) → LineReadsAsNode text says → AllByRecursion HasNameForAlias (definitions_in_line line says)
definitions_of_line_have_names line text (node.Alias k defs) reads = separated_definitions_have_names k line reads.reads.1.behind defs reads.reads.0 reads.reads.1.defs
definitions_of_line_have_names line text node.Blank reads = tt
definitions_of_line_have_names line text node.Comment reads = tt
definitions_of_line_have_names line text (node.Include dir path) reads = tt
definitions_of_line_have_names line text (node.Defaults scope params) reads = tt
definitions_of_line_have_names line text (node.Spec users groups) reads = tt

-- ---- the names in a policy

property_of_both_lists_holds_of_joined : {X : Type 0} (P : X → Type 0) (xs ys : List X) → AllByRecursion P xs → AllByRecursion P ys → AllByRecursion P (xs ++ ys)
property_of_both_lists_holds_of_joined P [] ys a b = b
property_of_both_lists_holds_of_joined P (x ∷ xs) ys a b = (a.0, property_of_both_lists_holds_of_joined P xs ys a.1 b)

definitions_of_lines_have_names : (n : ℕ) (lines : List Line) → AllByRecursion IsCorrectlyParsed lines → AllByRecursion HasNameForAlias (definitions_from_line_number n lines)
definitions_of_lines_have_names n [] says = tt
definitions_of_lines_have_names n (line ∷ lines) says =
    property_of_both_lists_holds_of_joined HasNameForAlias (definitions_in_line n line.node) (definitions_from_line_number (n + 1) lines)
    (definitions_of_line_have_names n line.text line.node says.0) (definitions_of_lines_have_names (n + 1) lines says.1)

-- ---- a name that is defined

name_of_found_definition_is_definable : (k : Kind) (name : List ℕ) (ds : List PlacedDefinition) → AllByRecursion HasNameForAlias ds → AllByRecursion HasUnreservedName ds
    → is_some (first_definition_of k name ds) ≡ true → IsDefinableName name
name_of_found_definition_is_definable k name [] named free is = absurd (cc)
name_of_found_definition_is_definable k name (d ∷ ds) named free is = by (is_definition_of_name k name d) refl (name_of_found_definition_is_definable k name ds named.1 free.1) is
  where
    by : (b : Bool) → (is_equal_kind k d.kind && bytes_eq name d.def.name) ≡ b
        → (is_some (first_definition_of k name ds) ≡ true → IsDefinableName name) → is_some (if b then Some d else first_definition_of k name ds) ≡ true
        → IsDefinableName name
    by true here more found =
        let same : name ≡ d.def.name = (bytes_eq-Decides name d.def.name).0 (and_parts (is_equal_kind k d.kind) (bytes_eq name d.def.name) here).1 in
        subst IsDefinableName (sym same) (named.0, free.0)
    by false here more found = more found

pub name_defined_by_policy_is_definable : (k : Kind) (name : List ℕ) (lines : List Line) → AreValidWalkLines lines → is_some (first_definition_of k name (definitions_of_lines lines)) ≡ true
    → IsDefinableName name
name_defined_by_policy_is_definable k name lines walk is = name_of_found_definition_is_definable k name (definitions_of_lines lines) (definitions_of_lines_have_names 0 lines walk.says) walk.free is
