-- Where edits of a policy lead, and where what takes them back leads.
use Rattle.std.specs.Prelude.{◌≡◌, ℕ, ◌+◌, List, [], ◌∷◌, length, map, Ok}
use Rattle.sudoers_tree.specs.Load.{LoadedPolicy, named_files_of_policy, policy_or_load_fault}
use Rattle.sudoers_tree.specs.declared.named_files.NamedFile.{NamedFile}
use Rattle.sudoers_edit_script.specs.Script.{HaveFittingNumbers}
use Rattle.sudoers_edit_script.specs.declared.edit.Edit.{Edit}
use Rattle.sudoers_edit.specs.Editing.{policy_or_first_refusal, inv_run}

-- The edits lead to a policy, and what takes them back leads from there to the policy before them. Its numbers fit the words for them, if
-- those of the edits do.
pub record HasRestoringInverse (edits : List Edit) (policy new : LoadedPolicy) : Type 0 where
  pub loaded : policy_or_load_fault (named_files_of_policy new) ≡ Ok new
  pub back : policy_or_first_refusal 0 (inv_run edits policy) new ≡ Ok policy
  pub numbered : HaveFittingNumbers edits → HaveFittingNumbers (inv_run edits policy)

-- how many bytes files have together
abbrev pub byte_count_of_files : List NamedFile → ℕ
byte_count_of_files [] = 0
byte_count_of_files (file ∷ files) = length file.bytes + byte_count_of_files files

-- the names of files
abbrev pub names_of_named_files : List NamedFile → List (List ℕ)
names_of_named_files files = map (λ (file : NamedFile). file.name) files
