use Rattle.std.proofs.Common.{◌≡◌, length, map}
use Rattle.std.specs.List.{list_any}
use Rattle.std.specs.Option.{option_copied}
use Rattle.sudoers_grammar.specs.Node.{Def}
use Rattle.sudoers_line_rows.specs.Tables.{alias_definition_in_tables}
use Rattle.sudoers_plan.specs.User.{is_user_denied_in_list}
use Rattle.sudoers_plan.proofs.user_refusals.is_denied_in_definitions.Given as goal

abbrev pub invariant-loop-row : goal.invariant-loop-row
invariant-loop-row l =
    list_any (λ (d : Def). is_user_denied_in_list (option_copied l.members.user) l.members.policy.now.walk.lines l.members.aliases.now d.members) (map (alias_definition_in_tables l.defs.tables.now) l.left)
    ≡ list_any (λ (d : Def). is_user_denied_in_list (option_copied l.members.user) l.members.policy.now.walk.lines l.members.aliases.now d.members)
    (map (alias_definition_in_tables l.defs.tables.now) l.defs.rows.now)

abbrev pub decreases-loop-row : goal.decreases-loop-row
decreases-loop-row l = length l.left
