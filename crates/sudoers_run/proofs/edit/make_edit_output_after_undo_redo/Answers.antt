use Rattle.std.proofs.Common.{◌≡◌, ◌∙◌, ◌++◌, List, [], ℕ, Result, Ok, reverse, append-nil, ap, sym, subst, MatchResult}
use Rattle.sudoers_tree.specs.Load.{LoadedPolicy}
use Rattle.sudoers_edit_script.specs.declared.edit.Edit.{Edit}
use Rattle.sudoers_run.specs.declared.fault.LayerFault.{LayerFault}
use Rattle.sudoers_edit.specs.Editing.{edits_of_entries, EditorState, policy_or_first_refusal, inv_run, initial_policy_of_editor, policy_before_entries}
use Rattle.sudoers_edit.specs.Named.{HaveSpellableNames}
use Rattle.sudoers_edit.specs.Redoing.{undone_edits_after_edits}
use Rattle.sudoers_edit.proofs.NamedLaw.{inverse_of_run_has_spellable_names}
use Rattle.sudoers_run.specs.Edit.{edit_output_after_undo_redo, text_of_inverse_and_edited_policy, inverse_and_files_text, edits_after_undo_and_redo, edit_result_with_layer_fault, ◌>>=◌, IsStatedLayerFaultOrMemory}
use Rattle.sudoers_run.proofs.UndoLemmas.{made_and_undone_edits, no_undone_edits_stay_none_after_edits, journal_is_edits_after_undo_and_redo, leading_edits_have_spellable_names}
use Rattle.sudoers_run.proofs.edit.make_edit_output_after_undo_redo.Goals as goal
use Rattle.sudoers_run.proofs.edit.make_edit_output_after_undo_redo.Goals.{In_ok-inverse}

-- What is known of the editor once edits were taken back and made again.
record IsReady (edits stood : List Edit) (policy : LoadedPolicy) (made redone : EditorState) : Type 0 where
  accepted : policy_or_first_refusal 0 edits policy ≡ Ok made.policy
  whole : made_and_undone_edits redone ≡ edits
  stands : edits_of_entries redone.journal ≡ stood
  first : initial_policy_of_editor redone ≡ policy

ready : (c : In_ok-inverse) → IsReady c.args.edits.now (edits_after_undo_and_redo c.args.undo c.args.redo c.args.edits.now) c.args.policy c.apply_all.new.self c.redo_up_to.new.editor
ready c =
    let edits : List Edit = c.args.edits.now in
    let policy : LoadedPolicy = c.args.policy in
    let made : EditorState = c.apply_all.new.self in
    let undone : EditorState = c.undo_up_to.new.editor in
    let redone : EditorState = c.redo_up_to.new.editor in
    let journal : edits_of_entries made.journal ≡ edits =
    c.in_ok-apply_all.ensures.journal ∙ ap (λ j. edits_of_entries j ++ edits) c.new-editor.ensures.journal in
    let none : made.undone ≡ [] =
    c.in_ok-apply_all.ensures.undone ∙ ap (undone_edits_after_edits edits) c.new-editor.ensures.undone ∙ no_undone_edits_stay_none_after_edits edits in
    let are : made_and_undone_edits made ≡ edits = ap (λ es. es ++ made.undone) journal ∙ ap (λ es. edits ++ es) none ∙ append-nil edits in
    let first : initial_policy_of_editor made ≡ policy =
    c.in_ok-apply_all.ensures.begun ∙ ap (λ j. policy_before_entries (reverse j) c.new-editor.result.policy) c.new-editor.ensures.journal ∙ c.new-editor.ensures.policy in
    record {
      accepted = ap (policy_or_first_refusal 0 edits) (sym c.new-editor.ensures.policy) ∙ c.in_ok-apply_all.ensures.accepted;
      whole = c.in_ok-redo_up_to.ensures.edits ∙ c.in_ok-undo_up_to.ensures.edits ∙ are;
      stands = journal_is_edits_after_undo_and_redo c.args.undo c.args.redo edits made undone redone are none
          c.in_ok-undo_up_to.ensures.edits c.in_ok-undo_up_to.ensures.count c.in_ok-redo_up_to.ensures.edits c.in_ok-redo_up_to.ensures.count;
      first = c.in_ok-redo_up_to.ensures.begun ∙ c.in_ok-undo_up_to.ensures.begun ∙ first;
    }

pub returns-clause-output : goal.returns-clause-output
returns-clause-output c =
    let edits : List Edit = c.args.edits.now in
    let policy : LoadedPolicy = c.args.policy in
    let stood : List Edit = edits_after_undo_and_redo c.args.undo c.args.redo edits in
    let redone : EditorState = c.redo_up_to.new.editor in
    let now : LoadedPolicy = c.policy.result.now in
    let r = ready (goal.at.returns-clause-output c).In_ok-inverse in
    let inverse : c.in_ok-inverse.inverse ≡ inv_run stood policy =
    c.in_ok-inverse.ensures.exact ∙ ap (λ es. inv_run es (initial_policy_of_editor redone)) r.stands ∙ ap (inv_run stood) r.first in
    let run : policy_or_first_refusal 0 stood policy ≡ Ok now =
    sym (ap (λ es. policy_or_first_refusal 0 es (initial_policy_of_editor redone)) r.stands ∙ ap (policy_or_first_refusal 0 stood) r.first) ∙ c.policy.ensures.accepted in
    let same : inverse_and_files_text c.args.shape c.in_ok-inverse.inverse now ≡ edit_output_after_undo_redo c.args.shape c.args.undo c.args.redo edits policy =
    ap (λ es. inverse_and_files_text c.args.shape es now) inverse
    ∙ sym (ap (λ r. edit_result_with_layer_fault r >>= inverse_and_files_text c.args.shape (inv_run stood policy)) run)
    ∙ sym (ap (λ r. edit_result_with_layer_fault r >>= (λ _. text_of_inverse_and_edited_policy c.args.shape stood policy)) r.accepted) in
    subst (λ (z : Result (List ℕ) LayerFault). MatchResult c.make_edit_output.result (λ out. z ≡ Ok out.items) (λ fault. IsStatedLayerFaultOrMemory fault z)) same c.make_edit_output.ensures.output

pub make_edit_output-requires : goal.make_edit_output-requires
make_edit_output-requires c =
    let edits : List Edit = c.args.edits.now in
    let stood : List Edit = edits_of_entries c.redo_up_to.new.editor.journal in
    let named : HaveSpellableNames stood =
    leading_edits_have_spellable_names stood c.redo_up_to.new.editor.undone (subst HaveSpellableNames (sym (ready (goal.at.make_edit_output-requires c).In_ok-inverse).whole) c.requires) in
    subst HaveSpellableNames (sym c.in_ok-inverse.ensures.exact) (inverse_of_run_has_spellable_names stood (initial_policy_of_editor c.redo_up_to.new.editor) named)
