use Rattle.std.proofs.Common.{◌≡◌, ℕ, List, [], drop, map}
use Rattle.sudoers_line_rows.specs.Tables.{alias_definition_in_tables}
use Rattle.sudoers_names.specs.Numbers.{numbers_of_name}
use Rattle.sudoers_plan.specs.Mentions.{numbers_with_mentioning_definitions}
use Rattle.sudoers_plan.proofs.user_definitions.list_mentions.Given as goal

abbrev pub invariant-loop-number : goal.invariant-loop-number
invariant-loop-number l =
    (name : List ℕ) → numbers_with_mentioning_definitions name l.number (map (alias_definition_in_tables l.defs.tables.now) (drop l.number l.defs.rows.now)) (numbers_of_name name l.mentions)
    ≡ numbers_with_mentioning_definitions name 0 (map (alias_definition_in_tables l.defs.tables.now) l.defs.rows.now) []
