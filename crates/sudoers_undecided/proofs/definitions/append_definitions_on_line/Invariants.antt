use Rattle.std.proofs.Common.{◌≡◌, ◌++◌, map, drop}
use Rattle.sudoers_line_rows.specs.Tables.{alias_definition_in_tables}
use Rattle.sudoers_undecided.specs.internal.Definitions.{kind_and_members_held, kind_and_members_of_def}
use Rattle.sudoers_undecided.proofs.definitions.append_definitions_on_line.Given as goal

abbrev pub invariant-loop-row : goal.invariant-loop-row
invariant-loop-row l =
    map kind_and_members_held l.definitions.items ++ map (kind_and_members_of_def l.kind) (map (alias_definition_in_tables l.defs.tables.now) (drop l.row-index l.defs.rows.now))
    ≡ map kind_and_members_held l.fn.definitions.items ++ map (kind_and_members_of_def l.kind) (map (alias_definition_in_tables l.defs.tables.now) l.defs.rows.now)
