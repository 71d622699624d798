use Rattle.std.proofs.Common.{◌≡◌, ◌++◌, ◌+◌, drop, map}
use Rattle.sudoers_line_rows.specs.Tables.{alias_definition_in_tables}
use Rattle.sudoers_run.specs.Shown.{shown_alias_definitions}
use Rattle.sudoers_run.proofs.show.append_shown_definitions.Given as goal

abbrev pub invariant-loop-place : goal.invariant-loop-place
invariant-loop-place l =
    l.out.items ++ shown_alias_definitions l.kind l.line (l.place + 1) (map (alias_definition_in_tables l.defs.tables.now) (drop l.place l.defs.rows.now))
    ≡ l.initial.out.items ++ shown_alias_definitions l.kind l.line 1 (map (alias_definition_in_tables l.defs.tables.now) l.defs.rows.now)
