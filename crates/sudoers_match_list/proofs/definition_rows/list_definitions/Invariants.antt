use Rattle.sudoers_match_list.proofs.Common.{drop, kind_and_members_of_row, line_of_row, map, ◌++◌, ◌≡◌}
use Rattle.std.specs.List.{flat_map}
use Rattle.sudoers_match_list.proofs.DefinitionLines.{kinds_and_members_at_alias_line}
use Rattle.sudoers_match_list.proofs.definition_rows.list_definitions.Given as goal

abbrev pub invariant-loop-first : goal.invariant-loop-first
invariant-loop-first l =
    let t = l.lines.tables.now in
    let found = kinds_and_members_at_alias_line (map (line_of_row t) l.lines.rows.now) in
    map (kind_and_members_of_row t) l.all.items ++ flat_map found (drop l.first-index l.firsts) ≡ flat_map found l.firsts
