use Rattle.sudoers_edit.proofs.Common.{EditorState, Some, ap, edits_of_entries, entries_of_steps, initial_policy_of_editor, reverse, run, subst, sym, ◌∙◌, ◌≡◌}
use Rattle.sudoers_edit.proofs.HistoryLemmas.{edits_of_journal_lead_to_present_policy, run_without_refusal_is_accepted}
use Rattle.sudoers_edit.proofs.editor.Editor.policy.Goals as goal

pub returns-clause-forth : goal.returns-clause-forth
returns-clause-forth c =
    let desk : EditorState = record { policy = c.self.inside.policy; journal = entries_of_steps c.self.inside.journal.items; undone = reverse c.self.inside.undone.items } in
    subst (λ (d : EditorState). run (edits_of_entries d.journal) (initial_policy_of_editor d) ≡ Some d.policy) c.self.view_is (edits_of_journal_lead_to_present_policy desk c.self.invariant.0)
    ∙ ap (λ (d : EditorState). Some d.policy) (sym c.self.view_is)

pub returns-clause-accepted : goal.returns-clause-accepted
returns-clause-accepted c = run_without_refusal_is_accepted 0 (edits_of_entries c.args.self.now.journal) (initial_policy_of_editor c.args.self.now) c.self.inside.policy (returns-clause-forth c)
