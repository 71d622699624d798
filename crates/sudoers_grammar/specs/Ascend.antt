-- Members, definitions and names that stand one behind another.
use Rattle.std.specs.Prelude.{ℕ, ◌+◌, List}
use Rattle.std.specs.List.{AllByRecursion}
use Rattle.sudoers_text.specs.Ascend.{AreOrderedSpans}
use Rattle.sudoers_grammar.specs.Node.{Def, Member}

-- between these two places
abbrev pub AreOrderedMembers : ℕ → ℕ → List Member → Type 0
AreOrderedMembers = AreOrderedSpans (λ (m : Member). m.start) (λ (m : Member). m.stop)

-- The members of a definition stand in it.
abbrev pub DefinitionContainsItsMembers : Def → Type 0
DefinitionContainsItsMembers d = AreOrderedMembers d.start d.stop d.members

-- Between these two places the definitions stand one behind another, and in each its members.
abbrev pub AreOrderedAliasDefinitions : ℕ → ℕ → List Def → Type 0
AreOrderedAliasDefinitions from to defs =
    AreOrderedSpans (λ (d : Def). d.start) (λ (d : Def). d.stop) from to defs × AllByRecursion DefinitionContainsItsMembers defs

-- Names of so many bytes begin at these offsets, and stand one behind another between the two places.
abbrev pub AreOrderedNameOffsets : ℕ → ℕ → ℕ → List ℕ → Type 0
AreOrderedNameOffsets size = AreOrderedSpans (λ (start : ℕ). start) (λ (start : ℕ). start + size)
