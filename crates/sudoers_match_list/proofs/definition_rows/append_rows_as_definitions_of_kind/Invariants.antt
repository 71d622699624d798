use Rattle.sudoers_match_list.proofs.Common.{alias_definition_in_tables, drop, kind_and_members_of_def, kind_and_members_of_row, map, ◌++◌, ◌≡◌}
use Rattle.sudoers_match_list.proofs.definition_rows.append_rows_as_definitions_of_kind.Given as goal

abbrev pub invariant-loop-row : goal.invariant-loop-row
invariant-loop-row l =
    map (kind_and_members_of_row l.tables) l.out.items ++ map (kind_and_members_of_def l.kind) (map (alias_definition_in_tables l.tables) (drop l.row-index l.rows))
    ≡ map (kind_and_members_of_row l.tables) l.fn.out.items ++ map (kind_and_members_of_def l.kind) (map (alias_definition_in_tables l.tables) l.rows)
