-- What a member or a definition owns is a slice of its line.
use Rattle.sudoers_edit.proofs.Common.{AllByRecursion, AreOrderedAliasDefinitions, AreOrderedSpans, Def, DefinitionContainsItsMembers, IsCorrectlyParsed, Kind, Line, LineReadsAsNode, List, Node, Some, []}
use Rattle.sudoers_edit.proofs.Common.{definitions_of_alias_line, length, refl, slice_get, subst, suc, zero, ℕ, ◌∷◌, ◌≡◌, ◌≤◌}
use Rattle.sudoers_grammar.specs.Node as node
use Rattle.sudoers_edit.proofs.SpliceLemmas.{ordered_spans_start_by_their_end}

-- LINES

-- a line that makes definitions
pub line_with_definitions_is_alias_line : (n : Node) (defs : List Def) → definitions_of_alias_line n ≡ Some defs → (k : Kind) × (n ≡ node.Alias k defs)
line_with_definitions_is_alias_line (node.Alias k ds) defs h = let e : ds ≡ defs = cc in (k, subst (λ z. node.Alias k ds ≡ node.Alias k z) e refl)
line_with_definitions_is_alias_line node.Blank defs h = absurd (cc)
line_with_definitions_is_alias_line node.Comment defs h = absurd (cc)
line_with_definitions_is_alias_line (node.Include dir path) defs h = absurd (cc)
line_with_definitions_is_alias_line (node.Defaults scope params) defs h = absurd (cc)
line_with_definitions_is_alias_line (node.Spec users groups) defs h = absurd (cc)

pub numbered_line_is_correctly_parsed : (lines : List Line) (n : ℕ) (line : Line) → AllByRecursion IsCorrectlyParsed lines → slice_get lines n ≡ Some line → LineReadsAsNode line.text line.node
numbered_line_is_correctly_parsed [] n line all here = absurd (cc)
numbered_line_is_correctly_parsed (l ∷ lines) zero line all here = let e : l ≡ line = cc in subst (λ (x : Line). LineReadsAsNode x.text x.node) e all.0
numbered_line_is_correctly_parsed (l ∷ lines) (suc n) line all here = numbered_line_is_correctly_parsed lines n line all.1 here

-- the definitions of a line stand one behind another in it
abbrev pub DefinitionsOfLineAreOrdered : Type 0
DefinitionsOfLineAreOrdered = (line : List ℕ) (k : Kind) (defs : List Def) → LineReadsAsNode line (node.Alias k defs) → AreOrderedAliasDefinitions 0 (length line) defs

-- MEMBERS

-- a definition at a place, of which the members stand in it
pub ordered_definition_contains_its_members : (from to : ℕ) (defs : List Def) (at : ℕ) (d : Def) → AreOrderedSpans (λ (e : Def). e.start) (λ (e : Def). e.stop) from to defs → AllByRecursion DefinitionContainsItsMembers defs
    → slice_get defs at ≡ Some d → DefinitionContainsItsMembers d × (d.stop ≤ to)
ordered_definition_contains_its_members from to [] at d a all here = absurd (cc)
ordered_definition_contains_its_members from to (e ∷ defs) zero d a all here =
    let same : e ≡ d = cc in
    (subst DefinitionContainsItsMembers same all.0, subst (λ (x : Def). x.stop ≤ to) same (ordered_spans_start_by_their_end (λ (x : Def). x.start) (λ (x : Def). x.stop) e.stop to defs a.2))
ordered_definition_contains_its_members from to (e ∷ defs) (suc at) d a all here = ordered_definition_contains_its_members e.stop to defs at d a.2 all.1 here
