-- A device of the proof, which no public contract cites: where an edit of the files of a policy leads.
use Rattle.std.specs.Prelude.{◌≡◌, ℕ, ◌+◌, if◌then◌else◌, List, [], ◌∷◌, ◌++◌, length, Some, Result, Ok, Err}
use Rattle.sudoers_grammar.specs.declared.node.Kind.{Kind}
use Rattle.sudoers_tree.specs.declared.line_change.LineChange.{LineChange}
use Rattle.sudoers_tree.specs.declared.line_change.LineChange.TheVariants.{Swap}
use Rattle.sudoers_tree.specs.ChangedFiles.{AreApplicableChanges, files_after_changes}
use Rattle.sudoers_tree.specs.Files.{ParsedFile}
use Rattle.sudoers_tree.specs.Line.{Line}
use Rattle.sudoers_tree.specs.Load.{LoadedPolicy, policy_or_load_fault}
use Rattle.sudoers_tree.specs.Walk.{WalkState, is_file_on_walk}
use Rattle.sudoers_edit.specs.internal.NameOffsets.{line_replaced_at_offsets, name_offsets_in_line}
use Rattle.sudoers_edit.specs.Editing.{step, inv, run, IsRefusalOrNoMemory}
use Rattle.sudoers_edit.specs.Landing.{policy_of_files_or_refusal}
use Rattle.sudoers_edit_script.specs.declared.edit.Edit.{Edit}
use Rattle.sudoers_edit.specs.declared.fault.EditFault.{EditFault}
use Rattle.sudoers_edit.specs.declared.edit_plan.EditPlan.{EditPlan}

-- The changes can be made, and make the files to which the edit leads, if these are a policy. Then the inverse leads back.
pub record AreChangesOfEdit (edit : Edit) (inverse : List Edit) (policy : LoadedPolicy) (changes : List LineChange) : Type 0 where
  pub fits : AreApplicableChanges changes policy.files
  pub forth : step edit policy ≡ policy_of_files_or_refusal (files_after_changes changes policy.files)
  pub inverse_is : inverse ≡ inv edit policy
  pub back : (new : LoadedPolicy) → policy_or_load_fault (files_after_changes changes policy.files) ≡ Ok new → run inverse new ≡ Some policy

-- what is planned for an edit: its changes and what takes it back, or its refusal
abbrev pub IsPlanOutcome : Edit → LoadedPolicy → Result EditPlan EditFault → Type 0
IsPlanOutcome edit policy (Ok plan) = AreChangesOfEdit edit plan.inverse policy plan.changes.items
IsPlanOutcome edit policy (Err fault) = IsRefusalOrNoMemory fault (step edit policy)

-- RENAMES

-- the change of the line n of the file f, if the name stands in it at some places
abbrev pub rename_change_in_line : ℕ → ℕ → ℕ → List ℕ → List ℕ → List ℕ → List LineChange
rename_change_in_line f n size fresh [] text = []
rename_change_in_line f n size fresh (start ∷ starts) text = Swap f n (line_replaced_at_offsets 0 size fresh (start ∷ starts) text) ∷ []

-- the changes of these lines of the file f, the first of which has the number n
abbrev pub rename_changes_in_file : ℕ → ℕ → Kind → List ℕ → List ℕ → List Line → List LineChange
rename_changes_in_file f n k name fresh [] = []
rename_changes_in_file f n k name fresh (line ∷ lines) =
    rename_change_in_line f n (length name) fresh (name_offsets_in_line k name line.node) line.text ++ rename_changes_in_file f (n + 1) k name fresh lines

-- the changes of these files, the first of which has the number f, in those that are on the walk
abbrev pub rename_changes_in_files : ℕ → Kind → List ℕ → List ℕ → WalkState → List ParsedFile → List LineChange
rename_changes_in_files f k name fresh w [] = []
rename_changes_in_files f k name fresh w (file ∷ files) =
    (if is_file_on_walk w f then rename_changes_in_file f 0 k name fresh file.lines else []) ++ rename_changes_in_files (f + 1) k name fresh w files
