use Rattle.std.proofs.Common.{◌++◌, drop, map, codes}
use Rattle.std.specs.List.{join_by}
use Rattle.sudoers_line_rows.specs.Tables.{command_in_tables}
use Rattle.sudoers_cvt_spell.specs.Commands.{printed_runas_options_tags_and_command}
use Rattle.sudoers_cvt_rules.specs.Effective.{effective_commands}
use Rattle.sudoers_cvt_rules.proofs.Passing.{AreCommandsPrintedSoFar}
use Rattle.sudoers_cvt_rules.proofs.printed_lines.append_effective_commands.Given as goal

abbrev pub invariant-loop-row : goal.invariant-loop-row
invariant-loop-row l =
    AreCommandsPrintedSoFar l.head l.out.items (map (command_in_tables l.commands.tables.now) (drop l.row-index l.rest))
    (l.fn.out.items ++ join_by printed_runas_options_tags_and_command (codes ", ") (effective_commands (map (command_in_tables l.commands.tables.now) l.commands.rows.now)))
