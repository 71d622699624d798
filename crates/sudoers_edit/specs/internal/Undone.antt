-- A device of the proof, which no public contract cites: the changes that take changes of files back.
use Rattle.std.specs.Prelude.{◌≡◌, ◌≤◌, ℕ, ◌+◌, ◌==◌, if◌then◌else◌, List, [], ◌∷◌, length, map, unwrap_or, Option, Some, None, Result, Ok, Err}
use Rattle.sudoers_tree.specs.Changed.{file_number_of_change}
use Rattle.sudoers_tree.specs.ChangedFiles.{AreApplicableChanges, files_after_changes}
use Rattle.sudoers_tree.specs.Files.{ParsedFile, lines_of_numbered_file}
use Rattle.sudoers_tree.specs.Load.{LoadedPolicy, named_files_of_policy, policy_or_load_fault}
use Rattle.sudoers_tree.specs.Policy.{texts_of_lines}
use Rattle.sudoers_tree.specs.declared.line_change.LineChange.{LineChange}
use Rattle.sudoers_edit.specs.declared.editor.AppliedEditWithInverse.{AppliedEditWithInverse}
use Rattle.sudoers_edit.specs.declared.editor.JournalStep.{JournalStep}
use Rattle.sudoers_edit.specs.declared.fault.EditFault.{EditFault}
use Rattle.sudoers_edit.specs.declared.edit_reversal.EditReversal.{EditReversal}
use Rattle.sudoers_edit.specs.Editing.{IsRefusalOrNoMemory, run, step}
use Rattle.sudoers_edit.specs.internal.Made.{IsEditMade}
use Rattle.sudoers_edit.specs.internal.UndoneLines.{inverse_of_one_change, lines_put_count_of_change, lines_taken_count_of_change}
use Rattle.sudoers_edit_script.specs.declared.edit.Edit.{Edit}

-- What takes these changes of files back. Before them so many lines were put into the file `last`, and so many taken out of it.
abbrev pub inverse_of_changes_after_counts : List ParsedFile → (last put taken : ℕ) → List LineChange → List LineChange
inverse_of_changes_after_counts files last put taken [] = []
inverse_of_changes_after_counts files last put taken (change ∷ changes) =
    if file_number_of_change change == last
    then inverse_of_one_change put taken (texts_of_lines (lines_of_numbered_file files last)) change ∷ inverse_of_changes_after_counts files last (put + lines_put_count_of_change change) (taken + lines_taken_count_of_change change) changes
    else inverse_of_one_change 0 0 (texts_of_lines (lines_of_numbered_file files (file_number_of_change change))) change ∷ inverse_of_changes_after_counts files (file_number_of_change change) (lines_put_count_of_change change) (lines_taken_count_of_change change) changes

abbrev pub inverse_of_changes : List ParsedFile → List LineChange → List LineChange
inverse_of_changes files changes = inverse_of_changes_after_counts files 0 0 0 changes

-- The changes can be made of the files of the new policy, and make those of the old one.
pub record RestoreOldPolicy (changes : List LineChange) (new old : LoadedPolicy) : Type 0 where
  pub can : AreApplicableChanges changes new.files
  pub made : files_after_changes changes new.files ≡ named_files_of_policy old
  pub loaded : policy_or_load_fault (named_files_of_policy old) ≡ Ok old

-- The changes lead back from the new policy to the one before. If there are none, at most one edit leads back.
abbrev pub HasRestoringChangesOrAtMostOneInverseEdit : Option (List LineChange) → List Edit → LoadedPolicy → LoadedPolicy → Type 0
HasRestoringChangesOrAtMostOneInverseEdit (Some changes) inverse new old = RestoreOldPolicy changes new old
HasRestoringChangesOrAtMostOneInverseEdit None inverse new old = length inverse ≤ 1

-- The edit has led to the new policy. Its inverse leads back, and so do the changes, if there are any.
pub record IsEditMadeWithReversal (edit : Edit) (back : EditReversal) (old new : LoadedPolicy) : Type 0 where
  pub made : IsEditMade edit back.inverse old new
  pub changes : HasRestoringChangesOrAtMostOneInverseEdit back.changes back.inverse new old

-- what comes of an edit: what takes it back, or its refusal
abbrev pub IsReversibleEditOutcome : Edit → LoadedPolicy → LoadedPolicy → Result EditReversal EditFault → Type 0
IsReversibleEditOutcome edit old new (Ok back) = IsEditMadeWithReversal edit back old new
IsReversibleEditOutcome edit old new (Err fault) = IsRefusalOrNoMemory fault (step edit old)

-- the entries of the steps of a journal
abbrev pub entries_of_steps : List JournalStep → List AppliedEditWithInverse
entries_of_steps steps = map (λ (step : JournalStep). step.entry) steps

-- What is kept beside the entries, the newest first, takes each of them back from the policy after it.
abbrev pub AreJournalReversals : List JournalStep → LoadedPolicy → Type 0
AreJournalReversals [] now = Unit {0}
AreJournalReversals (step ∷ steps) now =
    HasRestoringChangesOrAtMostOneInverseEdit step.changes step.entry.inverse now (unwrap_or (run step.entry.inverse now) now)
    × AreJournalReversals steps (unwrap_or (run step.entry.inverse now) now)
