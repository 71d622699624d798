use Rattle.sudoers_match_list.proofs.Common.{expansion_steps_left, fully_expanded_list, map, member_in_tables, members_left_to_write, ◌++◌, ◌≡◌}
use Rattle.sudoers_match_list.proofs.flatten.flatten_member_list.Given as goal

abbrev pub invariant-loop-part : goal.invariant-loop-part
invariant-loop-part l =
    map (member_in_tables l.source.lines.tables.now) l.flat.items ++ members_left_to_write l.kind l.source.policy.now l.source.lines.tables.now l.parts.items
    ≡ fully_expanded_list l.kind l.source.policy.now (map (member_in_tables l.source.lines.tables.now) l.rows)

abbrev pub decreases-loop-part : goal.decreases-loop-part
decreases-loop-part l = expansion_steps_left l.kind l.source.policy.now l.source.lines.tables.now l.parts.items
