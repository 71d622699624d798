-- A device of the proof, which no public contract cites: the members of marked definitions.
use Rattle.std.specs.Prelude.{◌+◌, ℕ, Bool, List, [], ◌∷◌, length, if◌then◌else◌}
use Rattle.sudoers_match_list.specs.declared.definition_rows.DefinitionKindAndMembers.{DefinitionKindAndMembers}

-- how many members those definitions have that have a mark
abbrev pub marked_definitions_member_count : List Bool → List DefinitionKindAndMembers → ℕ
marked_definitions_member_count [] ds = 0
marked_definitions_member_count (mark ∷ marks) [] = 0
marked_definitions_member_count (mark ∷ marks) (d ∷ ds) = (if mark then length d.members.now else 0) + marked_definitions_member_count marks ds
