use Rattle.sudoers_edit.proofs.Common.{Edit, AppliedEditWithInverse, List, LoadedPolicy, Ok, [], ap, append_assoc, edits_of_entries, inv, slice_index_or, step, sym, take, take_more, undone_edits_after_edits, ℕ, ◌++◌, ◌∙◌, ◌∷◌}
use Rattle.sudoers_edit.proofs.Common.{◌≡◌}
use Rattle.sudoers_edit.proofs.HistoryLemmas.{run_of_next_edit_extends_run, refusal_of_rest_after_accepted_edit, edits_of_appended_entry_are_appended}
use Rattle.sudoers_edit.proofs.RedoLemmas.{undone_edits_after_edit_are_none}
use Rattle.sudoers_edit.proofs.editor.Editor.apply_all.Goals as goal

pub loop-place-preserved : goal.loop-place-preserved
loop-place-preserved c =
    let es : List Edit = c.args.edits.now in
    let k : ℕ = c.loop-place.place in
    let x : Edit = c.index-edits-place.result in
    let ls : LoadedPolicy = c.loop-place.self.policy in
    let new : LoadedPolicy = c.apply.new.self.policy in
    let is : x ≡ slice_index_or es k x = c.index-edits-place.is in
    let one : step (slice_index_or es k x) ls ≡ Ok new = ap (λ (e : Edit). step e ls) (sym is) ∙ c.in_default.ensures.step in
    let entry : AppliedEditWithInverse = record { edit = x; inverse = inv x ls } in (
      run_of_next_edit_extends_run es k x c.args.self.now.policy ls new c.loop-place-test.true c.loop-place.invariant.0 one,
      sym (refusal_of_rest_after_accepted_edit es k x ls new c.loop-place-test.true one) ∙ c.loop-place.invariant.1,
      ap edits_of_entries c.in_default.ensures.journal ∙ edits_of_appended_entry_are_appended c.loop-place.self.journal entry ∙ ap (λ z. z ++ x ∷ []) c.loop-place.invariant.2
          ∙ append_assoc (edits_of_entries c.args.self.now.journal) (take k es) (x ∷ []) ∙ ap (λ z. edits_of_entries c.args.self.now.journal ++ z) (ap (λ (e : Edit). take k es ++ e ∷ []) is ∙ sym (take_more es k x c.loop-place-test.true)),
      c.in_default.ensures.begun ∙ c.loop-place.invariant.3,
      c.in_default.ensures.undone ∙ sym (undone_edits_after_edit_are_none (take k es) x c.args.self.now.undone)
          ∙ ap (λ (made : List Edit). undone_edits_after_edits made c.args.self.now.undone)
          (ap (λ (e : Edit). take k es ++ e ∷ []) is ∙ sym (take_more es k x c.loop-place-test.true)),
    )
