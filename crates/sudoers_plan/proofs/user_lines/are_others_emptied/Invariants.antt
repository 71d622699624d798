use Rattle.std.proofs.Common.{◌≡◌, length, map}
use Rattle.std.specs.List.{list_any, list_all}
use Rattle.std.specs.Str.{bytes_eq}
use Rattle.sudoers_grammar.specs.Node.{Def}
use Rattle.sudoers_line_rows.specs.Tables.{alias_definition_in_tables}
use Rattle.sudoers_plan.proofs.user_lines.are_others_emptied.Given as goal

abbrev pub invariant-loop-row : goal.invariant-loop-row
invariant-loop-row l =
    list_all (λ (d : Def). list_any (bytes_eq d.name) l.emptied) (map (alias_definition_in_tables l.tables) l.left)
    ≡ list_all (λ (d : Def). list_any (bytes_eq d.name) l.emptied) (map (alias_definition_in_tables l.tables) l.rows)

abbrev pub decreases-loop-row : goal.decreases-loop-row
decreases-loop-row l = length l.left
