use Rattle.std.proofs.Common.{◌≡◌, Some}
use Rattle.sudoers_grammar.specs.declared.node.Kind.TheVariants.{Cmnd}
use Rattle.sudoers_line_rows.specs.View.{members_of_view}
use Rattle.sudoers_tree.specs.Definition.{members_of_alias_definition}
use Rattle.sudoers_check.specs.Chain.{IsReachedByChainOfSteps}
use Rattle.sudoers_match.specs.Spellings.{is_spelled_command_match}
use Rattle.sudoers_match_list.specs.Search.{IsValidVerdictCache}
use Rattle.sudoers_list.specs.internal.Going.{IsAliasGoneAfterExpansions}
use Rattle.sudoers_list.specs.Inner.{DecidingMemberOfAliasNamesOtherAlias, ListMatchesCommand}
use Rattle.sudoers_list.proofs.deciding_member.find_innermost_member.Given as goal

abbrev pub invariant-loop-times : goal.invariant-loop-times
invariant-loop-times l = record {
  remembers : IsValidVerdictCache Cmnd l.policy (is_spelled_command_match l.command) l.verdicts;
  defined : members_of_alias_definition Cmnd l.alias.name.now l.policy ≡ Some (members_of_view l.alias.members);
  says : ListMatchesCommand l.policy (is_spelled_command_match l.command) (members_of_view l.alias.members);
  reached : IsReachedByChainOfSteps (DecidingMemberOfAliasNamesOtherAlias l.policy (is_spelled_command_match l.command)) (λ name. l.outer.name.now ≡ name) l.alias.name.now;
  within : IsAliasGoneAfterExpansions l.policy l.times l.alias.name.now;
}

abbrev pub decreases-loop-times : goal.decreases-loop-times
decreases-loop-times l = l.times
