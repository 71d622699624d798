-- A device of the proof, which no public contract cites: of a set's items no more is known than whether one has the byte.
use Rattle.std.specs.Prelude.{ℕ, ◌+◌, Bool, false, ◌||◌, List, get_or, Option, Some, None}
use Rattle.std.specs.List.{list_any}
use Rattle.sudoers_match_member.specs.declared.byte_sets.SetItem.{SetItem}
use Rattle.sudoers_match_member.specs.Sets.{is_byte_in_set_item}

-- where the set ends, and whether it has the byte, behind so many bytes of which that much is known
abbrev pub set_end_and_byte_seen : ℕ → ℕ → Bool → Option (List SetItem × ℕ) → Option (ℕ × Bool)
set_end_and_byte_seen b at has None = None
set_end_and_byte_seen b at has (Some set) = Some (at + set.1, has || list_any (is_byte_in_set_item b) set.0)

-- the same, of a table of the bytes that it has
abbrev pub set_end_and_byte_of_table : ℕ → List Bool → Option ℕ → Option (ℕ × Bool)
set_end_and_byte_of_table b has None = None
set_end_and_byte_of_table b has (Some end) = Some (end, get_or has b false)
