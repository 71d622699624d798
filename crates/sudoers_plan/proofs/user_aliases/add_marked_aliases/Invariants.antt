use Rattle.std.proofs.Common.{◌≡◌, drop, map}
use Rattle.sudoers_line_rows.specs.Tables.{alias_definition_in_tables}
use Rattle.sudoers_plan.specs.Mentions.{AreUnmarkedSettled}
use Rattle.sudoers_plan.specs.User.{names_with_definitions_of_user}
use Rattle.sudoers_plan.proofs.user_aliases.add_marked_aliases.Given as goal

abbrev pub invariant-loop-number : goal.invariant-loop-number
invariant-loop-number l = record {
  names : names_with_definitions_of_user l.part l.user l.policy.walk.lines l.names (map (alias_definition_in_tables l.definitions.tables.now) (drop l.number l.definitions.rows.items))
      ≡ names_with_definitions_of_user l.part l.user l.policy.walk.lines l.initial.names (map (alias_definition_in_tables l.definitions.tables.now) l.definitions.rows.items);
  settled : AreUnmarkedSettled l.part l.user l.policy.walk.lines l.names (map (alias_definition_in_tables l.definitions.tables.now) l.definitions.rows.items) l.marks;
}
