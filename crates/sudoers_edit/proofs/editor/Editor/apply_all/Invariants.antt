use Rattle.sudoers_edit.proofs.Common.{Some, drop, edits_of_entries, initial_policy_of_editor, policy_or_first_refusal, run, take, undone_edits_after_edits, ◌++◌, ◌≡◌}
use Rattle.sudoers_edit.proofs.editor.Editor.apply_all.Given as goal

abbrev pub invariant-loop-place : goal.invariant-loop-place
invariant-loop-place l =
    (run (take l.place l.edits) l.fn.self.policy ≡ Some l.self.policy)
    × (policy_or_first_refusal l.place (drop l.place l.edits) l.self.policy ≡ policy_or_first_refusal 0 l.edits l.fn.self.policy)
    × (edits_of_entries l.self.journal ≡ edits_of_entries l.fn.self.journal ++ take l.place l.edits)
    × (initial_policy_of_editor l.self ≡ initial_policy_of_editor l.fn.self)
    × (l.self.undone ≡ undone_edits_after_edits (take l.place l.edits) l.fn.self.undone)
