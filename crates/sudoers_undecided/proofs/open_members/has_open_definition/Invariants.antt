use Rattle.std.proofs.Common.{◌≡◌, drop, map}
use Rattle.std.specs.List.{list_any}
use Rattle.sudoers_line_rows.specs.Tables.{alias_definition_in_tables}
use Rattle.sudoers_undecided.specs.internal.Open.{is_definition_open}
use Rattle.sudoers_undecided.proofs.open_members.has_open_definition.Given as goal

abbrev pub invariant-loop-row : goal.invariant-loop-row
invariant-loop-row l = list_any (is_definition_open l.who l.command) (map (alias_definition_in_tables l.definitions.tables.now) l.definitions.rows.now) ≡ list_any (is_definition_open l.who l.command) (map (alias_definition_in_tables l.definitions.tables.now) (drop l.row-index l.definitions.rows.now))
