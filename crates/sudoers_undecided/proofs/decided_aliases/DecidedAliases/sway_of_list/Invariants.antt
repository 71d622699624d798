use Rattle.std.proofs.Common.{take}
use Rattle.sudoers_line_rows.specs.View.{members_of_view}
use Rattle.sudoers_undecided.specs.internal.Decided.{IsSwayOfList, matched_by, undecided_by}
use Rattle.sudoers_undecided.proofs.decided_aliases.DecidedAliases.sway_of_list.Given as goal

abbrev pub invariant-loop-row : goal.invariant-loop-row
invariant-loop-row l = IsSwayOfList l.self.kind l.numbers.walk (undecided_by l.self) (matched_by l.self) (take l.row-index (members_of_view l.members)) l.sway
