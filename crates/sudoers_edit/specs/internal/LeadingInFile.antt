-- A device of the proof, which no public contract cites: where an edit of one file of a policy leads.
use Rattle.std.specs.Prelude.{◌≡◌, ◌<◌, ◌≤◌, ℕ, ◌+◌, nat_lt, if◌then◌else◌, false, List, [], ◌∷◌, length, Ok}
use Rattle.std.specs.List.{AllByRecursion}
use Rattle.sudoers_text.specs.Cut.{EachIsOneLineWhenCut}
use Rattle.sudoers_text.specs.Ended.{has_inner_line_without_lf}
use Rattle.sudoers_text.specs.Fault.{text_limit}
use Rattle.sudoers_text.specs.Line.{join}
use Rattle.sudoers_text.specs.Whole.{IsLogicalLine}
use Rattle.sudoers_tree.specs.declared.line_change.LineChange.{LineChange}
use Rattle.sudoers_tree.specs.declared.line_change.LineChange.TheVariants.{Put, Take}
use Rattle.sudoers_tree.specs.Changed.{AreChangesInOrder, texts_of_changes, file_number_of_change}
use Rattle.sudoers_tree.specs.Files.{lines_of_numbered_file}
use Rattle.sudoers_tree.specs.Load.{LoadedPolicy, named_files_of_policy, policy_or_load_fault}
use Rattle.sudoers_tree.specs.Policy.{texts_of_lines}
use Rattle.sudoers_edit.specs.Editing.{step, inv}
use Rattle.sudoers_edit.specs.Landing.{policy_with_file_lines, files_with_bytes_replaced}
use Rattle.sudoers_edit_script.specs.declared.edit.Edit.{Edit}

-- the texts of the lines of the file with this number
abbrev pub line_texts_of_file : LoadedPolicy → ℕ → List (List ℕ)
line_texts_of_file policy f = texts_of_lines (lines_of_numbered_file policy.files f)

-- What the lines of a file of a policy are: each is the one line of itself, and one logical line; all but the last end in LF; together they
-- are within the limit.
pub record AreLogicalLinesOfFileWithinTextLimit (lines : List (List ℕ)) : Type 0 where
  pub each : EachIsOneLineWhenCut lines
  pub whole : AllByRecursion IsLogicalLine lines
  pub ended : has_inner_line_without_lf lines ≡ false
  pub fits : length (join lines) ≤ text_limit

-- The changes are of the lines of this file. Their places ascend among these lines. Each text that they bring is one logical line.
pub record AreApplicableChangesOfFile (f : ℕ) (changes : List LineChange) (lines : List (List ℕ)) : Type 0 where
  pub of_file : AllByRecursion (λ (change : LineChange). file_number_of_change change ≡ f) changes
  pub order : AreChangesInOrder 0 changes (length lines)
  pub whole : AllByRecursion IsLogicalLine (texts_of_changes changes)

-- The edit leads to the policy in which this file has these lines. Its inverse is one edit, which leads from there to the lines before.
pub record EditSetsFileLines (edit back_edit : Edit) (inverse : List Edit) (policy : LoadedPolicy) (f : ℕ) (new : List (List ℕ)) : Type 0 where
  pub here : f < length policy.files
  pub ended : has_inner_line_without_lf new ≡ false
  pub forth : step edit policy ≡ policy_with_file_lines policy f new
  pub inverse_is : inverse ≡ inv edit policy
  pub back_is : inverse ≡ back_edit ∷ []
  pub back : (after : LoadedPolicy) → policy_or_load_fault (files_with_bytes_replaced f (join new) (named_files_of_policy policy)) ≡ Ok after → f < length after.files → line_texts_of_file after f ≡ new
      → step back_edit after ≡ policy_with_file_lines after f (line_texts_of_file policy f)

-- the line `from` of this file, which has this text, goes to where it stands at `to`
abbrev pub line_changes_of_move : ℕ → ℕ → ℕ → List ℕ → List LineChange
line_changes_of_move f from to text =
    if nat_lt from to then Take f from ∷ Put f (to + 1) text ∷ []
    else (if nat_lt to from then Put f to text ∷ Take f from ∷ [] else [])
