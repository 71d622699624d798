-- The steps of a journal, of which the last is taken back.
use Rattle.sudoers_edit.proofs.Common.{AreJournalReversals, AreRedoableEdits, Edit, EditFault, IsOkAnd, IsSomeAnd, IsUndoableJournal, AppliedEditWithInverse, JournalStep, List, LoadedPolicy, Ok, Option, Result, Some, [], ap}
use Rattle.sudoers_edit.proofs.Common.{arith, entries_of_steps, inv, length, length-append, map-append, refl, reverse, reverse-append, run, slice_get, step, subst, sym, unwrap_or, ◌++◌, ◌-◌, ◌∙◌, ◌∷◌, ◌≡◌}
use Rattle.std.proofs.lemmas.List.Folds.{flat_map-map}
use Rattle.std.specs.List.{flat_map}

-- THE LAST STEP

item_at_length_of_front_is_last : (before : List JournalStep) (last : JournalStep) → slice_get (before ++ last ∷ []) (length before) ≡ Some last
item_at_length_of_front_is_last [] last = refl
item_at_length_of_front_is_last (one ∷ before) last = item_at_length_of_front_is_last before last

-- the last step of a journal that ends in it
pub last_step_of_journal_is_its_end : (all before : List JournalStep) (last other : JournalStep) → Some last ≡ slice_get all (length all - 1) → all ≡ before ++ other ∷ [] → last ≡ other
last_step_of_journal_is_its_end all before last other is ends =
    let place : length all - 1 ≡ length before = omega (arith, ap length ends, length-append before (other ∷ [])) in
    let same : Some last ≡ Some other =
    is ∙ ap (slice_get all) place ∙ ap (λ (steps : List JournalStep). slice_get steps (length before)) ends ∙ item_at_length_of_front_is_last before other in
    cc

pub entries_of_journal_end_in_last_entry : (all before : List JournalStep) (last : JournalStep) → all ≡ before ++ last ∷ [] → entries_of_steps all ≡ entries_of_steps before ++ last.entry ∷ []
entries_of_journal_end_in_last_entry all before last ends = ap entries_of_steps ends ∙ map-append (λ (one : JournalStep). one.entry) before (last ∷ [])

entries_of_reversed_steps_are_reversed : (steps : List JournalStep) → entries_of_steps (reverse steps) ≡ reverse (entries_of_steps steps)
entries_of_reversed_steps_are_reversed [] = refl
entries_of_reversed_steps_are_reversed (one ∷ steps) =
    ap entries_of_steps (reverse-append (one ∷ []) steps)
    ∙ map-append (λ (other : JournalStep). other.entry) (reverse steps) (one ∷ [])
    ∙ ap (λ entries. entries ++ one.entry ∷ []) (entries_of_reversed_steps_are_reversed steps)
    ∙ sym (reverse-append (one.entry ∷ []) (entries_of_steps steps))

-- what takes the steps back, the last first
pub inverses_of_steps_are_those_of_entries : (steps : List JournalStep) → flat_map (λ (one : JournalStep). one.entry.inverse) (reverse steps) ≡ flat_map (λ (entry : AppliedEditWithInverse). entry.inverse) (reverse (entries_of_steps steps))
inverses_of_steps_are_those_of_entries steps =
    sym (flat_map-map (λ (entry : AppliedEditWithInverse). entry.inverse) (λ (one : JournalStep). one.entry) (reverse steps))
    ∙ ap (flat_map (λ (entry : AppliedEditWithInverse). entry.inverse)) (entries_of_reversed_steps_are_reversed steps)

-- The last step leads back to the new lines, and those before it lead on from there.
pub record IsLastStepTakenBack (all before : List JournalStep) (last : JournalStep) (now new : LoadedPolicy) : Type 0 where
  pub journal : entries_of_steps all ≡ entries_of_steps before ++ last.entry ∷ []
  pub forth : step last.entry.edit new ≡ Ok now
  pub inverse_is : last.entry.inverse ≡ inv last.entry.edit new
  pub undoable : IsUndoableJournal (reverse (entries_of_steps before)) new
  pub backs : AreJournalReversals (reverse before) new

pub undone_last_step_leaves_undoable_journal : (all before : List JournalStep) (last : JournalStep) (now new : LoadedPolicy) → all ≡ before ++ last ∷ [] → IsUndoableJournal (reverse (entries_of_steps all)) now
    → AreJournalReversals (reverse all) now → run last.entry.inverse now ≡ Some new → IsLastStepTakenBack all before last now new
undone_last_step_leaves_undoable_journal all before last now new ends undoable backs leads =
    record {
      journal = journal;
      forth = stands.0;
      inverse_is = stands.1;
      undoable = stands.2;
      backs = subst (AreJournalReversals (reverse before)) (ap (λ (lines : Option LoadedPolicy). unwrap_or lines now) leads) behind.1;
    }
  where
    journal : entries_of_steps all ≡ entries_of_steps before ++ last.entry ∷ []
    journal = entries_of_journal_end_in_last_entry all before last ends

    newest : reverse (entries_of_steps all) ≡ last.entry ∷ reverse (entries_of_steps before)
    newest = ap reverse journal ∙ reverse-append (entries_of_steps before) (last.entry ∷ [])

    stands : (step last.entry.edit new ≡ Ok now) × (last.entry.inverse ≡ inv last.entry.edit new) × IsUndoableJournal (reverse (entries_of_steps before)) new
    stands =
        subst (λ (lines : Option LoadedPolicy). IsSomeAnd lines (λ (old : LoadedPolicy).
        (step last.entry.edit old ≡ Ok now) × (last.entry.inverse ≡ inv last.entry.edit old) × IsUndoableJournal (reverse (entries_of_steps before)) old)) leads
        (subst (λ (entries : List AppliedEditWithInverse). IsUndoableJournal entries now) newest undoable)

    behind : AreJournalReversals (last ∷ reverse before) now
    behind = subst (λ (steps : List JournalStep). AreJournalReversals steps now) (ap reverse ends ∙ reverse-append before (last ∷ [])) backs

-- UNDONE EDITS

pub last_appended_edit_is_first_of_reversed : (undone more : List Edit) (edit : Edit) → more ≡ undone ++ edit ∷ [] → reverse more ≡ edit ∷ reverse undone
last_appended_edit_is_first_of_reversed undone more edit is = ap reverse is ∙ reverse-append undone (edit ∷ [])

-- an undone edit more, which leads to the lines at which the others can be made
pub undone_edit_is_added_to_redoable_edits : (undone more : List Edit) (edit : Edit) (now new : LoadedPolicy) → more ≡ undone ++ edit ∷ [] → step edit new ≡ Ok now
    → AreRedoableEdits (reverse undone) now → AreRedoableEdits (reverse more) new
undone_edit_is_added_to_redoable_edits undone more edit now new is leads redoable =
    subst (λ (edits : List Edit). AreRedoableEdits edits new) (sym (last_appended_edit_is_first_of_reversed undone more edit is))
    (subst (λ (lines : Result LoadedPolicy EditFault). IsOkAnd lines (AreRedoableEdits (reverse undone))) (sym leads) redoable)
