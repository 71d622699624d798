-- The outcome of loading files.
use Rattle.sudoers_tree.proofs.Common.{Bool, Err, List, LoadFault, LoadedPolicy, NamedFile, NoMemory, None, Ok, Option, ParsedFile, Result, SameName, Some, TooManyFiles, WalkState, [], ap, empty_walk, false}
use Rattle.sudoers_tree.proofs.Common.{file_limit, first_repeated_file_name, if◌then◌else◌, include_depth_limit, inl, inr, length, lines_of_numbered_file, load_result_and_then, nat_lt, parsed_files_or_cut_fault}
use Rattle.sudoers_tree.proofs.Common.{policy_of_parsed_files, policy_or_load_fault, refl, result_unless_repeated_name, sym, true, walk_after_file_lines, walk_after_file_visit, walk_or_fault_of_files}
use Rattle.sudoers_tree.proofs.Common.{walk_or_first_fault, walk_or_unreached_file_fault, walk_with_file_entered, ℕ, ◌∙◌, ◌≡◌, ◌⊎◌}

load_outcome_is_by_count_and_repeated_name : (files : List NamedFile) (t : Bool) (o : Option (List ℕ)) → nat_lt file_limit (length files) ≡ t → first_repeated_file_name [] files ≡ o
    → policy_or_load_fault files ≡ (if t then Err TooManyFiles else result_unless_repeated_name o (load_result_and_then (parsed_files_or_cut_fault [] files) policy_of_parsed_files))
unfolding policy_or_load_fault
load_outcome_is_by_count_and_repeated_name files t o many same =
    ap (λ b. if b then Err TooManyFiles else result_unless_repeated_name (first_repeated_file_name [] files) (load_result_and_then (parsed_files_or_cut_fault [] files) policy_of_parsed_files)) many
    ∙ ap (λ n. if t then Err TooManyFiles else result_unless_repeated_name n (load_result_and_then (parsed_files_or_cut_fault [] files) policy_of_parsed_files)) same

pub too_many_files_are_load_fault : (files : List NamedFile) → nat_lt file_limit (length files) ≡ true → policy_or_load_fault files ≡ Err TooManyFiles
too_many_files_are_load_fault files many = load_outcome_is_by_count_and_repeated_name files true (first_repeated_file_name [] files) many refl

pub repeated_file_name_is_load_fault : (files : List NamedFile) (name : List ℕ) → nat_lt file_limit (length files) ≡ false → first_repeated_file_name [] files ≡ Some name
    → policy_or_load_fault files ≡ Err (SameName name)
repeated_file_name_is_load_fault files name few same = load_outcome_is_by_count_and_repeated_name files false (Some name) few same

pub accepted_files_load_by_their_parsed_files : (files : List NamedFile) → nat_lt file_limit (length files) ≡ false → first_repeated_file_name [] files ≡ None
    → policy_or_load_fault files ≡ load_result_and_then (parsed_files_or_cut_fault [] files) policy_of_parsed_files
accepted_files_load_by_their_parsed_files files few same = load_outcome_is_by_count_and_repeated_name files false None few same

-- the walk from the first file on
pub walk_from_first_file_is_walk_of_files : (read : List ParsedFile) (w : WalkState) → w ≡ empty_walk
    → walk_after_file_lines (walk_after_file_visit include_depth_limit read) read 0 0 (lines_of_numbered_file read 0) (walk_with_file_entered 0 w) ≡ walk_or_fault_of_files read
unfolding walk_or_fault_of_files
walk_from_first_file_is_walk_of_files read w is = ap (λ v. walk_after_file_lines (walk_after_file_visit include_depth_limit read) read 0 0 (lines_of_numbered_file read 0) (walk_with_file_entered 0 v)) is

-- ---- the fault with which loading ends, or want of memory

-- One of two outcomes: want of memory, or a fault.
abbrev pub EndsWithFaultOrNoMemory : {A : Type 0} → LoadFault → Result A LoadFault → Type 0
EndsWithFaultOrNoMemory fault outcome = (fault ≡ NoMemory) ⊎ (outcome ≡ Err fault)

pub fault_of_parsing_files_ends_load : (files : List NamedFile) (fault : LoadFault) (whole : Result LoadedPolicy LoadFault) → whole ≡ load_result_and_then (parsed_files_or_cut_fault [] files) policy_of_parsed_files
    → (fault ≡ NoMemory) ⊎ (parsed_files_or_cut_fault [] files ≡ Err fault) → EndsWithFaultOrNoMemory fault whole
fault_of_parsing_files_ends_load files fault whole is (inl memory) = inl memory
fault_of_parsing_files_ends_load files fault whole is (inr e) = inr (is ∙ ap (λ r. load_result_and_then r policy_of_parsed_files) e)

-- files that are read
pub parsed_files_give_the_load_outcome : (files : List NamedFile) (read : List ParsedFile) → nat_lt file_limit (length files) ≡ false → first_repeated_file_name [] files ≡ None
    → parsed_files_or_cut_fault [] files ≡ Ok read → policy_or_load_fault files ≡ policy_of_parsed_files read
parsed_files_give_the_load_outcome files read few once is = accepted_files_load_by_their_parsed_files files few once ∙ ap (λ o. load_result_and_then o policy_of_parsed_files) is

-- ---- the walk and the files that are not on it

walk_result_with_unreached_files_checked : List ParsedFile → Result WalkState LoadFault → Result WalkState LoadFault
walk_result_with_unreached_files_checked read r = load_result_and_then r (λ w. walk_or_unreached_file_fault w 0 read)

pub fault_of_walk_ends_checked_walk : (read : List ParsedFile) (fault : LoadFault) → EndsWithFaultOrNoMemory fault (walk_or_fault_of_files read) → EndsWithFaultOrNoMemory fault (walk_or_first_fault read)
unfolding walk_result_with_unreached_files_checked
fault_of_walk_ends_checked_walk read fault (inl memory) = inl memory
fault_of_walk_ends_checked_walk read fault (inr e) = inr (ap (walk_result_with_unreached_files_checked read) e)

pub outcome_of_unreached_files_is_outcome : (read other : List ParsedFile) (w : WalkState) (outcome : Result WalkState LoadFault) → walk_or_fault_of_files read ≡ Ok w → other ≡ read
    → walk_or_unreached_file_fault w 0 other ≡ outcome → walk_or_first_fault read ≡ outcome
unfolding walk_result_with_unreached_files_checked
outcome_of_unreached_files_is_outcome read other w outcome e same off = ap (walk_result_with_unreached_files_checked read) e ∙ ap (walk_or_unreached_file_fault w 0) (sym same) ∙ off

pub fault_of_unreached_file_ends_checked_walk : (read other : List ParsedFile) (w : WalkState) (fault : LoadFault) → walk_or_fault_of_files read ≡ Ok w → other ≡ read
    → EndsWithFaultOrNoMemory fault (walk_or_unreached_file_fault w 0 other) → EndsWithFaultOrNoMemory fault (walk_or_first_fault read)
fault_of_unreached_file_ends_checked_walk read other w fault e same (inl memory) = inl memory
fault_of_unreached_file_ends_checked_walk read other w fault e same (inr off) = inr (outcome_of_unreached_files_is_outcome read other w (Err fault) e same off)
