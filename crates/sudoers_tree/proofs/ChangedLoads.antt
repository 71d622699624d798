-- Loading files of which lines are changed.
use Rattle.sudoers_tree.proofs.Common.{Bool, Err, LineChange, List, LoadedPolicy, NamedFile, None, Ok, Option, ParsedFile, Some, TooManyFiles, [], ap, changed_files_from_number, false, file_limit}
use Rattle.sudoers_tree.proofs.Common.{files_after_changes, first_repeated_file_name, if◌then◌else◌, is_name_among, length, load_result_and_then, map, named_file_of_parsed, named_files_of_policy, nat_lt}
use Rattle.sudoers_tree.proofs.Common.{parsed_files_or_cut_fault, policy_of_parsed_files, policy_or_load_fault, refl, result_unless_repeated_name, suc, true, ℕ, ◌++◌, ◌+◌, ◌∙◌, ◌∷◌, ◌≡◌}
use Rattle.sudoers_tree.proofs.Loads.{accepted_files_load_by_their_parsed_files}

-- Files that are loaded are not too many, and no two have one name.
pub record AreFewFilesWithDistinctNames (files : List NamedFile) : Type 0 where
  pub few : nat_lt file_limit (length files) ≡ false
  pub once : first_repeated_file_name [] files ≡ None

pub loaded_files_are_few_with_distinct_names : (files : List NamedFile) (policy : LoadedPolicy) → policy_or_load_fault files ≡ Ok policy → AreFewFilesWithDistinctNames files
unfolding policy_or_load_fault
loaded_files_are_few_with_distinct_names files policy is = by (nat_lt file_limit (length files)) (first_repeated_file_name [] files) refl refl is
  where
    by : (t : Bool) (o : Option (List ℕ)) → nat_lt file_limit (length files) ≡ t → first_repeated_file_name [] files ≡ o
        → (if t then Err TooManyFiles else result_unless_repeated_name o (load_result_and_then (parsed_files_or_cut_fault [] files) policy_of_parsed_files)) ≡ Ok policy → AreFewFilesWithDistinctNames files
    by true o few once e = absurd cc
    by false None few once e = record { few = few; once = once }
    by false (Some name) few once e = absurd cc

-- Changes of lines change no name.
changed_files_keep_file_count : (f : ℕ) (changes : List LineChange) (files : List ParsedFile) → length (changed_files_from_number f changes files) ≡ length (map named_file_of_parsed files)
changed_files_keep_file_count f changes [] = refl
changed_files_keep_file_count f changes (file ∷ files) = ap suc (changed_files_keep_file_count (f + 1) changes files)

changed_files_keep_first_repeated_name : (f : ℕ) (changes : List LineChange) (files : List ParsedFile) (before : List (List ℕ))
    → first_repeated_file_name before (changed_files_from_number f changes files) ≡ first_repeated_file_name before (map named_file_of_parsed files)
changed_files_keep_first_repeated_name f changes [] before = refl
changed_files_keep_first_repeated_name f changes (file ∷ files) before =
    ap (λ rest. if is_name_among file.name before then Some file.name else rest) (changed_files_keep_first_repeated_name (f + 1) changes files (before ++ file.name ∷ []))

-- The changed files of a policy load by what they are as they are read.
pub changed_files_load_by_their_parsed_files : (changes : List LineChange) (policy : LoadedPolicy) → policy_or_load_fault (named_files_of_policy policy) ≡ Ok policy
    → policy_or_load_fault (files_after_changes changes policy.files) ≡ load_result_and_then (parsed_files_or_cut_fault [] (files_after_changes changes policy.files)) policy_of_parsed_files
changed_files_load_by_their_parsed_files changes policy is =
    let are : AreFewFilesWithDistinctNames (named_files_of_policy policy) = loaded_files_are_few_with_distinct_names (named_files_of_policy policy) policy is in
    accepted_files_load_by_their_parsed_files (files_after_changes changes policy.files)
    (ap (nat_lt file_limit) (changed_files_keep_file_count 0 changes policy.files) ∙ are.few)
    (changed_files_keep_first_repeated_name 0 changes policy.files [] ∙ are.once)
