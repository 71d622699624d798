use Rattle.sudoers_match_list.proofs.Common.{AreDefinitionShortcuts, Line, List}
use Rattle.sudoers_match_list.proofs.alias_shortcuts.join_each_shortcut_with_next.Given as goal

abbrev pub invariant-loop-i : goal.invariant-loop-i
invariant-loop-i l = (lines : List Line) → AreDefinitionShortcuts lines l.fn.shortcuts → AreDefinitionShortcuts lines l.shortcuts
