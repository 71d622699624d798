use Rattle.std.proofs.Common.{◌≡◌, ◌-◌, length, map}
use Rattle.sudoers_line_rows.specs.Tables.{alias_definition_in_tables}
use Rattle.sudoers_tree.specs.Policy.{alias_limit_of_each_kind}
use Rattle.sudoers_plan.specs.Mentions.{AreUnmarkedSettled}
use Rattle.sudoers_plan.specs.User.{aliases_of_user, names_after_rounds}
use Rattle.sudoers_plan.proofs.user_aliases.find_aliases_of_user.Given as goal

abbrev pub invariant-loop : goal.invariant-loop
invariant-loop l = record {
  names : names_after_rounds (alias_limit_of_each_kind - l.counter) l.part l.user l.policy.walk.lines (map (alias_definition_in_tables l.definitions.tables.now) l.definitions.rows.items) l.names
      ≡ aliases_of_user l.part l.user l.policy.walk.lines;
  each : length l.marks ≡ length l.definitions.rows.items;
  settled : AreUnmarkedSettled l.part l.user l.policy.walk.lines l.names (map (alias_definition_in_tables l.definitions.tables.now) l.definitions.rows.items) l.marks;
}
