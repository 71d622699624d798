use Rattle.sudoers_edit.proofs.Common.{drop, flat_map, name_offset_if_alias_member_matches, ◌++◌, ◌≡◌}
use Rattle.sudoers_edit.proofs.name_places.append_offsets_of_matching_aliases.Given as goal

abbrev pub invariant-loop-alias : goal.invariant-loop-alias
invariant-loop-alias l =
    l.starts.items ++ flat_map (name_offset_if_alias_member_matches l.kind l.name) (drop l.alias-index l.aliases)
    ≡ l.initial.starts.items ++ flat_map (name_offset_if_alias_member_matches l.kind l.name) l.aliases
