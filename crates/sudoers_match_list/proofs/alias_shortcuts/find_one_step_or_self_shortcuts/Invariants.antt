use Rattle.sudoers_match_list.proofs.Shortened.{AreFirstDefinitionShortcuts}
use Rattle.sudoers_match_list.proofs.alias_shortcuts.find_one_step_or_self_shortcuts.Given as goal

abbrev pub invariant-loop-number : goal.invariant-loop-number
invariant-loop-number l = AreFirstDefinitionShortcuts l.policy l.number l.all.items
