-- Which definitions chains of mentions lead to, as functions that compute. Of their own they define nothing: that they agree with
-- the chains is a law (`chains_are`).
use Rattle.std.specs.Prelude.{ℕ, zero, suc, Bool, not, List, length}
use Rattle.std.specs.List.{flat_map, filter, list_any}
use Rattle.sudoers_grammar.specs.declared.node.Kind.{Kind}
use Rattle.sudoers_tree.specs.Line.{Line}
use Rattle.sudoers_tree.specs.Definition.{PlacedDefinition, definitions_of_lines, is_definition_of_name, first_definition_of}
use Rattle.sudoers_tree.specs.Fault.{is_some}
use Rattle.sudoers_check.specs.Chains.{alias_names_among_members, root_alias_names}

-- the definition is of this kind and has one of these names
abbrev pub is_definition_of_names : Kind → List (List ℕ) → PlacedDefinition → Bool
is_definition_of_names k names d = list_any (λ name. is_definition_of_name k name d) names

-- what definitions mention
abbrev pub names_mentioned_by : List PlacedDefinition → List (List ℕ)
names_mentioned_by ds = flat_map (λ (d : PlacedDefinition). alias_names_among_members d.def.members) ds

-- the definitions that are left when those with one of these names are taken out, then those that these mention, and so on for
-- so many rounds
abbrev pub definitions_left_after_rounds : ℕ → Kind → List (List ℕ) → List PlacedDefinition → List PlacedDefinition
definitions_left_after_rounds zero k names ds = ds
definitions_left_after_rounds (suc n) k names ds =
    definitions_left_after_rounds n k (names_mentioned_by (filter (is_definition_of_names k names) ds)) (filter (λ d. not (is_definition_of_names k names d)) ds)

-- a chain of mentions leads from one of these names to the definition's
abbrev pub is_reached_from_names : List (List ℕ) → List PlacedDefinition → PlacedDefinition → Bool
is_reached_from_names names ds d = not (is_some (first_definition_of d.kind d.def.name (definitions_left_after_rounds (length ds) d.kind names ds)))

abbrev pub is_unused : List Line → PlacedDefinition → Bool
is_unused lines d = not (is_reached_from_names (root_alias_names d.kind lines) (definitions_of_lines lines) d)

abbrev pub is_used : List Line → PlacedDefinition → Bool
is_used lines d = not (is_unused lines d)

abbrev pub is_cyclic : List Line → PlacedDefinition → Bool
is_cyclic lines d = is_reached_from_names (alias_names_among_members d.def.members) (definitions_of_lines lines) d

-- the unused ones and the cyclic ones of the definitions, in the order of the lines
abbrev pub unused_definitions_of_lines : List Line → List PlacedDefinition
unused_definitions_of_lines lines = filter (is_unused lines) (definitions_of_lines lines)

abbrev pub cyclic_definitions_of_lines : List Line → List PlacedDefinition
cyclic_definitions_of_lines lines = filter (is_cyclic lines) (definitions_of_lines lines)
