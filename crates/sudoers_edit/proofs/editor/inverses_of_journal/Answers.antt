use Rattle.sudoers_edit.proofs.Common.{Edit, JournalStep, List, [], ap, append_assoc, reverse, reverse-append, sym, ◌++◌, ◌∙◌, ◌∷◌, ◌≡◌}
use Rattle.std.specs.List.{flat_map}
use Rattle.sudoers_edit.proofs.editor.inverses_of_journal.Goals as goal

-- the inverse of the last step, and those of the steps before it
last_first : (edits more : List Edit) (before left : List JournalStep) (last : JournalStep) → left ≡ before ++ last ∷ [] → more ≡ edits ++ last.entry.inverse
    → more ++ flat_map (λ (one : JournalStep). one.entry.inverse) (reverse before) ≡ edits ++ flat_map (λ (one : JournalStep). one.entry.inverse) (reverse left)
last_first edits more before left last ends is =
    let rest : List Edit = flat_map (λ (one : JournalStep). one.entry.inverse) (reverse before) in
    ap (λ z. z ++ rest) is
    ∙ append_assoc edits last.entry.inverse rest
    ∙ ap (λ es. edits ++ flat_map (λ (one : JournalStep). one.entry.inverse) es) (sym (ap reverse ends ∙ reverse-append before (last ∷ [])))

pub loop-step-preserved : goal.loop-step-preserved
loop-step-preserved c =
    last_first c.loop-step.edits c.append_edit_copies.new.to c.in-Some.before.now c.loop-step.left.now c.in-Some.step.now c.in-Some.ensures.cases.0
    (c.in_ok-append_edit_copies.ensures ∙ ap (λ z. c.loop-step.edits ++ z) c.as_slice.ensures)
    ∙ c.loop-step.invariant
