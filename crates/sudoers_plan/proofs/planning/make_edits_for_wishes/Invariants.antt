use Rattle.std.proofs.Common.{◌≡◌, ◌++◌, [], drop}
use Rattle.sudoers_edit.specs.Editing.{edits_of_entries, initial_policy_of_editor}
use Rattle.sudoers_plan.specs.Plan.{planned_for_wishes}
use Rattle.sudoers_plan.proofs.planning.make_edits_for_wishes.Given as goal

abbrev pub invariant-loop-number : goal.invariant-loop-number
invariant-loop-number l =
    (planned_for_wishes l.number l.edits.items (drop l.number l.wishes) l.editor.policy ≡ planned_for_wishes 0 [] l.wishes l.initial.editor.policy)
    × (edits_of_entries l.editor.journal ≡ edits_of_entries l.initial.editor.journal ++ l.edits.items)
    × (initial_policy_of_editor l.editor ≡ initial_policy_of_editor l.initial.editor)
