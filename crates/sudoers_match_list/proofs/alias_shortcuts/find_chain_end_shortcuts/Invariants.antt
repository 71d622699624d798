use Rattle.sudoers_match_list.proofs.Common.{AreDefinitionShortcuts}
use Rattle.sudoers_match_list.proofs.alias_shortcuts.find_chain_end_shortcuts.Given as goal

abbrev pub invariant-loop-round : goal.invariant-loop-round
invariant-loop-round l = AreDefinitionShortcuts l.policy l.all.items
