-- A device of the proofs, which no public contract cites: the laws on which edits of lines and of members rest.
use Rattle.std.specs.Prelude.{◌≡◌, ℕ, ◌≤◌, true, false, List, [], ◌∷◌, length, Ok}
use Rattle.sudoers_text.specs.Cut.{EachIsOneLineWhenCut, cut_outcome_of_text}
use Rattle.sudoers_text.specs.Ended.{has_inner_line_without_lf}
use Rattle.sudoers_text.specs.Fault.{text_limit}
use Rattle.sudoers_text.specs.Line.{join}
use Rattle.sudoers_text.specs.Whole.{IsLogicalLine, is_logical_line}
use Rattle.sudoers_tree.specs.Changed.{lines_after_changes}
use Rattle.sudoers_tree.specs.ChangedFiles.{AreApplicableChanges, changes_of_file, files_after_changes}
use Rattle.sudoers_tree.specs.Files.{lines_of_numbered_file}
use Rattle.sudoers_tree.specs.Load.{LoadedPolicy, AreLinesAtSpots, named_files_of_policy, policy_or_load_fault}
use Rattle.sudoers_tree.specs.Policy.{texts_of_lines}
use Rattle.sudoers_tree.specs.Walk.{walk_or_fault_of_files}
use Rattle.sudoers_tree.specs.declared.line_change.LineChange.{LineChange}
use Rattle.sudoers_tree.specs.declared.named_files.NamedFile.{NamedFile}
use Rattle.sudoers_edit.specs.internal.Splicing.{AreSoundParsedLines}

-- The laws of loaded files, of their lines, and of files of which lines were changed.
pub record LawsBehindLineEdits : Type 0 where
  pub bytes : (files : List NamedFile) (policy : LoadedPolicy) → policy_or_load_fault files ≡ Ok policy → named_files_of_policy policy ≡ files
  pub cut : (files : List NamedFile) (policy : LoadedPolicy) → policy_or_load_fault files ≡ Ok policy → (f : ℕ)
      → cut_outcome_of_text (join (texts_of_lines (lines_of_numbered_file policy.files f))) ≡ Ok (texts_of_lines (lines_of_numbered_file policy.files f))
  pub alone : (text : List ℕ) (lines : List (List ℕ)) → cut_outcome_of_text text ≡ Ok lines
      → EachIsOneLineWhenCut lines × (has_inner_line_without_lf lines ≡ false) × (join lines ≡ text) × (length text ≤ text_limit)
  pub logical : (line : List ℕ) → cut_outcome_of_text line ≡ Ok (line ∷ []) → is_logical_line line ≡ true
  pub tells : (line : List ℕ) → is_logical_line line ≡ true → IsLogicalLine line
  pub lines : (changes : List LineChange) (old new : LoadedPolicy) → policy_or_load_fault (named_files_of_policy old) ≡ Ok old → AreApplicableChanges changes old.files
      → policy_or_load_fault (files_after_changes changes old.files) ≡ Ok new → (f : ℕ)
      → texts_of_lines (lines_of_numbered_file new.files f) ≡ lines_after_changes (changes_of_file f changes) (texts_of_lines (lines_of_numbered_file old.files f))

-- The laws of loaded files, of what their lines say, and of the walk over them.
pub record LawsBehindMemberEdits : Type 0 where
  pub bytes : (files : List NamedFile) (policy : LoadedPolicy) → policy_or_load_fault files ≡ Ok policy → named_files_of_policy policy ≡ files
  pub cut : (files : List NamedFile) (policy : LoadedPolicy) → policy_or_load_fault files ≡ Ok policy → (f : ℕ)
      → cut_outcome_of_text (join (texts_of_lines (lines_of_numbered_file policy.files f))) ≡ Ok (texts_of_lines (lines_of_numbered_file policy.files f))
  pub known : (files : List NamedFile) (policy : LoadedPolicy) → policy_or_load_fault files ≡ Ok policy → (f : ℕ) → AreSoundParsedLines (lines_of_numbered_file policy.files f)
  pub walk : (files : List NamedFile) (policy : LoadedPolicy) → policy_or_load_fault files ≡ Ok policy → walk_or_fault_of_files policy.files ≡ Ok policy.walk
  pub stand : (files : List NamedFile) (policy : LoadedPolicy) → policy_or_load_fault files ≡ Ok policy → AreLinesAtSpots policy.files policy.walk.spots policy.walk.lines
