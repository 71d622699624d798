use Rattle.sudoers_edit.proofs.Common.{JournalStep, length, reverse, ◌++◌, ◌≡◌}
use Rattle.std.specs.List.{flat_map}
use Rattle.sudoers_edit.proofs.editor.inverses_of_journal.Given as goal

abbrev pub invariant-loop-step : goal.invariant-loop-step
invariant-loop-step l = l.edits ++ flat_map (λ (one : JournalStep). one.entry.inverse) (reverse l.left) ≡ flat_map (λ (one : JournalStep). one.entry.inverse) (reverse l.journal)

abbrev pub decreases-loop-step : goal.decreases-loop-step
decreases-loop-step l = length l.left
