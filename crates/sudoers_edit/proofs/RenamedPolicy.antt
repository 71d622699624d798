-- The lines of a policy with another name for an alias are those of a policy.
use Rattle.sudoers_edit.proofs.Common.{AllByRecursion, AreValidWalkLines, IsCorrectlyParsed, IsDefinableName, Kind, Line, LineReadsAsNode, List, NamedAlias, Node, PlacedDefinition, [], arith}
use Rattle.sudoers_edit.proofs.Common.{definition_place_of_name, definitions_of_lines, false, first_definition_of, is_some, line_after_rename, line_text_after_rename, lines_after_rename, map, named_alias_of_kind_and_name}
use Rattle.sudoers_edit.proofs.Common.{node_with_alias_renamed, refl, renaming_of_alias_in_node, sym, true, ℕ, ◌∙◌, ◌∷◌, ◌≡◌}
use Rattle.std.specs.Prelude.{Option, Some, None}
use Rattle.sudoers_edit.proofs.DefinedNames.{name_defined_by_policy_is_definable}
use Rattle.sudoers_edit.proofs.RenamedNames.{AreRenamedDefinitions, definitions_of_renamed_lines_are_renamed, renamed_definitions_have_unreserved_names, renamed_definitions_have_equal_count_of_kind, optional_place_of_definition}
use Rattle.sudoers_edit.proofs.RenamedOnce.{undefined_name_is_lacked_by_definitions, renamed_definitions_keep_distinct_names}

-- what the law of a line with another name says
abbrev pub RenamedLineReadsAsRenamedNode : Type 0
RenamedLineReadsAsRenamedNode = (alias : NamedAlias) (fresh line : List ℕ) (says : Node) → IsDefinableName alias.name → IsDefinableName fresh → LineReadsAsNode line says
    → LineReadsAsNode (line_text_after_rename alias fresh says line) (node_with_alias_renamed (renaming_of_alias_in_node alias fresh says) says)

pub renamed_lines_are_correctly_parsed : RenamedLineReadsAsRenamedNode → (alias : NamedAlias) (fresh : List ℕ) → IsDefinableName alias.name → IsDefinableName fresh → (lines : List Line)
    → AllByRecursion IsCorrectlyParsed lines → AllByRecursion IsCorrectlyParsed (map (line_after_rename alias fresh) lines)
renamed_lines_are_correctly_parsed same alias fresh old new [] says = tt
renamed_lines_are_correctly_parsed same alias fresh old new (line ∷ lines) says =
    (same alias fresh line.text line.node old new says.0, renamed_lines_are_correctly_parsed same alias fresh old new lines says.1)

-- Lines in the order of a walk are so with another name that none of the kind had.
pub renamed_lines_are_valid_walk_lines : RenamedLineReadsAsRenamedNode → (k : Kind) (name fresh : List ℕ) (lines : List Line) → AreValidWalkLines lines → IsDefinableName name → IsDefinableName fresh
    → is_some (definition_place_of_name k fresh lines) ≡ false → AreValidWalkLines (lines_after_rename k name fresh lines)
renamed_lines_are_valid_walk_lines same k name fresh lines walk old new free =
    let ds : List PlacedDefinition = definitions_of_lines lines in
    let es : List PlacedDefinition = definitions_of_lines (lines_after_rename k name fresh lines) in
    let are : AreRenamedDefinitions k name fresh ds es = definitions_of_renamed_lines_are_renamed k name fresh lines in
    record {
      says = renamed_lines_are_correctly_parsed same (named_alias_of_kind_and_name k name) fresh old new lines walk.says;
      free = renamed_definitions_have_unreserved_names k name fresh ds es are new.1 walk.free;
      once = renamed_definitions_keep_distinct_names k name fresh ds es are (undefined_name_is_lacked_by_definitions k fresh ds free) walk.once;
      few = λ j. omega (arith, renamed_definitions_have_equal_count_of_kind k name fresh j ds es are, walk.few j);
    }

definition_has_place_iff_present : (o : Option PlacedDefinition) → is_some (optional_place_of_definition o) ≡ is_some o
definition_has_place_iff_present None = refl
definition_has_place_iff_present (Some d) = refl

pub name_defined_on_walk_is_definable : (k : Kind) (name : List ℕ) (lines : List Line) → AreValidWalkLines lines → is_some (definition_place_of_name k name lines) ≡ true → IsDefinableName name
name_defined_on_walk_is_definable k name lines walk is = name_defined_by_policy_is_definable k name lines walk (sym (definition_has_place_iff_present (first_definition_of k name (definitions_of_lines lines))) ∙ is)
