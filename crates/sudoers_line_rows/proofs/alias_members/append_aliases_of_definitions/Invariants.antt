use Rattle.std.proofs.Common.{◌≡◌, ◌++◌, drop, flat_map, map}
use Rattle.sudoers_grammar.specs.Node.{Def}
use Rattle.sudoers_grammar.specs.Listed.{aliases_among_listed, members_listed_as_kind}
use Rattle.sudoers_line_rows.specs.Tables.{alias_definition_in_tables}
use Rattle.sudoers_line_rows.proofs.alias_members.append_aliases_of_definitions.Given as goal

abbrev pub invariant-loop-row : goal.invariant-loop-row
invariant-loop-row l =
    l.found.items ++ aliases_among_listed (flat_map (λ (d : Def). members_listed_as_kind l.kind d.members) (map (alias_definition_in_tables l.defs.tables.now) (drop l.row-index l.defs.rows.now)))
    ≡ l.initial.found.items ++ aliases_among_listed (flat_map (λ (d : Def). members_listed_as_kind l.kind d.members) (map (alias_definition_in_tables l.defs.tables.now) l.defs.rows.now))
