use Rattle.sudoers_edit.proofs.Common.{EditorState, JournalStep, List, Option, Some, [], ap, entries_of_steps, length, option_to_list, reverse, rules, run, slice_get, subst, sym, ◌++◌, ◌-◌, ◌∙◌, ◌∷◌, ◌≡◌}
use Rattle.sudoers_edit.specs.Undoing.{UndoesLastEdit}
use Rattle.sudoers_edit.proofs.JournalLemmas.{IsLastStepTakenBack, last_step_of_journal_is_its_end, undone_last_step_leaves_undoable_journal, last_appended_edit_is_first_of_reversed, undone_edit_is_added_to_redoable_edits}
use Rattle.sudoers_edit.proofs.editor.Editor.undo.Goals.{Joined-step}
use Rattle.sudoers_edit.proofs.editor.Editor.undo.Goals as goal

ends : (c : Joined-step) → c.self.inside.journal.items ≡ c.pop.new.self.items ++ c.unwrap-step.result ∷ []
ends c = c.pop.ensures.items ∙ ap (λ (last : Option JournalStep). c.pop.new.self.items ++ option_to_list last) c.unwrap-step.ensures

same : (c : Joined-step) → c.in-Some.last.now ≡ c.unwrap-step.result
same c =
    last_step_of_journal_is_its_end c.self.inside.journal.items c.pop.new.self.items c.in-Some.last.now c.unwrap-step.result
    (c.in-Some.ensures.value ∙ ap (λ (steps : List JournalStep). slice_get steps (length steps - 1)) c.deref.ensures.value) (ends c)

back : (c : Joined-step) → run c.unwrap-step.result.entry.inverse c.self.inside.policy ≡ Some c.take_back_edit.new.policy
back c = ap (λ (last : JournalStep). run last.entry.inverse c.self.inside.policy) (sym (same c)) ∙ c.in_ok-take_back_edit.ensures.made

taken : (c : Joined-step)
    → IsLastStepTakenBack c.self.inside.journal.items c.pop.new.self.items c.unwrap-step.result c.self.inside.policy c.take_back_edit.new.policy
taken c =
    undone_last_step_leaves_undoable_journal c.self.inside.journal.items c.pop.new.self.items c.unwrap-step.result c.self.inside.policy c.take_back_edit.new.policy
    (ends c) c.self.invariant.0 c.self.invariant.1 (back c)

pushed : (c : Joined-step) → c.push.new.self.items ≡ c.self.inside.undone.items ++ c.unwrap-step.result.entry.edit ∷ []
pushed c = search rules

pub invariant_of-self-2 : goal.invariant_of-self-2
invariant_of-self-2 c = (
  (taken c).undoable,
  (taken c).backs,
  undone_edit_is_added_to_redoable_edits c.self.inside.undone.items c.push.new.self.items c.unwrap-step.result.entry.edit c.self.inside.policy
      c.take_back_edit.new.policy (pushed c) (taken c).forth c.self.invariant.2,
)

pub returns-clause-taken : goal.returns-clause-taken
returns-clause-taken c = λ _.
    let new : EditorState = record {
      policy = c.take_back_edit.new.policy;
      journal = entries_of_steps c.pop.new.self.items;
      undone = reverse c.push.new.self.items;
    } in
    subst (λ (old : EditorState). UndoesLastEdit old new) c.self.view_is
    (record {
      last = c.unwrap-step.result.entry;
      journal = (taken c).journal;
      forth = (taken c).forth;
      inverse_is = (taken c).inverse_is;
      back = back c;
      undone = last_appended_edit_is_first_of_reversed c.self.inside.undone.items c.push.new.self.items c.unwrap-step.result.entry.edit (pushed c);
    })
