-- The files of a policy (sudoers(5), Including other files from within sudoers): the root, and after it the files to which its lines lead.
-- Each file that is there comes once, and is followed by those to which its own lines lead. By the law `gather_is` the function `gathered`
-- computes exactly this.
use Rattle.std.specs.Prelude.{◌≡◌, ℕ, ◌≤◌, ◌<◌, true, false, List, [], ◌∷◌, ◌++◌, length, Some, None, Result, Ok, Err}
use Rattle.sudoers_tree.specs.declared.named_files.NamedFile.{NamedFile}
use Rattle.sudoers_tree.specs.Load.{file_limit, has_file_with_name}
use Rattle.sudoers_files.specs.declared.fault.GatherFault.{GatherFault}
use Rattle.sudoers_files.specs.declared.fault.GatherFault.TheVariants.{NoRoot, TooManyFiles}
use Rattle.sudoers_files.specs.Shelf.{named_file_bytes_truncated_past_limit}
use Rattle.sudoers_files.specs.Included.{file_names_included_by_file}

mutual
  -- the outcome of a visit of this name after these files are found
  pub data Visits (files : List NamedFile) : List NamedFile → List ℕ → Result (List NamedFile) GatherFault → Type 0 where
    again : (found : List NamedFile) (name : List ℕ) → has_file_with_name name found ≡ true → Visits files found name (Ok found)
    absent : (found : List NamedFile) (name : List ℕ) → has_file_with_name name found ≡ false → named_file_bytes_truncated_past_limit name files ≡ None → Visits files found name (Ok found)
    full : (found : List NamedFile) (name bytes : List ℕ) → has_file_with_name name found ≡ false → named_file_bytes_truncated_past_limit name files ≡ Some bytes
        → file_limit ≤ length found → Visits files found name (Err TooManyFiles)
    new : (found : List NamedFile) (name bytes : List ℕ) (outcome : Result (List NamedFile) GatherFault)
        → has_file_with_name name found ≡ false → named_file_bytes_truncated_past_limit name files ≡ Some bytes → length found < file_limit
        → Follows files (found ++ record { name = name; bytes = bytes } ∷ []) (file_names_included_by_file files (record { name = name; bytes = bytes })) outcome
        → Visits files found name outcome

  -- the outcome of visits of these names, one after another
  pub data Follows (files : List NamedFile) : List NamedFile → List (List ℕ) → Result (List NamedFile) GatherFault → Type 0 where
    end : (found : List NamedFile) → Follows files found [] (Ok found)
    stops : (found : List NamedFile) (name : List ℕ) (names : List (List ℕ)) (fault : GatherFault)
        → Visits files found name (Err fault) → Follows files found (name ∷ names) (Err fault)
    onward : (found now : List NamedFile) (name : List ℕ) (names : List (List ℕ)) (outcome : Result (List NamedFile) GatherFault)
        → Visits files found name (Ok now) → Follows files now names outcome → Follows files found (name ∷ names) outcome

-- The outcome of gathering from the root on.
pub data IsGatherOutcome (files : List NamedFile) (root : List ℕ) : Result (List NamedFile) GatherFault → Type 0 where
  no_root : named_file_bytes_truncated_past_limit root files ≡ None → IsGatherOutcome files root (Err NoRoot)
  found : (bytes : List ℕ) (outcome : Result (List NamedFile) GatherFault) → named_file_bytes_truncated_past_limit root files ≡ Some bytes
      → Visits files [] root outcome → IsGatherOutcome files root outcome
