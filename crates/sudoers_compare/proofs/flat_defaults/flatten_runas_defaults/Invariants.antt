use Rattle.std.proofs.Common.{◌≡◌, ◌++◌, drop, map}
use Rattle.sudoers_tree.specs.Line.{line_of_row}
use Rattle.sudoers_match.specs.Default.{runas_defaults_of_lines}
use Rattle.laws_compare.specs.Computed.{content_of_lines, flat_runas_default_of}
use Rattle.sudoers_compare.specs.FlatDefaults.{flat_runas_default_in_tables}
use Rattle.sudoers_compare.proofs.flat_defaults.flatten_runas_defaults.Given as goal

-- The settings so far, and those of the lines still to come.
abbrev pub invariant-loop-line : goal.invariant-loop-line
invariant-loop-line l =
    map (flat_runas_default_in_tables l.source.lines.tables.now) l.settings.items
    ++ map (flat_runas_default_of l.source.policy.now) (runas_defaults_of_lines (map (line_of_row l.source.lines.tables.now) (drop l.line l.source.lines.rows.now)))
    ≡ (content_of_lines l.source.policy.now).runas_defaults
