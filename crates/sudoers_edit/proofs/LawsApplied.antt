-- The lemmas of edits, each with the laws of the crates below on which it rests.
use Rattle.sudoers_edit.proofs.Common.{All, All-from_recursion, All-weaker, AreApplicableChanges, AreChangesOfEdit, AreLogicalLinesOfFileWithinTextLimit, Edit, HasRestoringInverse, IsDefinableName, IsFileOrderOfChanges, IsPartialPrune}
use Rattle.sudoers_edit.proofs.Common.{Kind, LineChange, List, LoadedPolicy, Ok, PlacedDefinition, Prune, PruneRemoval, Rename, RestoreOldPolicy, [], alias_limit_of_each_kind, arith, definition_place_of_name}
use Rattle.sudoers_edit.proofs.Common.{definitions_of_lines, false, files_after_changes, inverse_of_changes, is_alias_name_in_use, is_line_too_long, is_some, loaded_walk_lines_are_valid, length, line_texts_of_file}
use Rattle.sudoers_edit.proofs.Common.{lines_of_numbered_file, lines_of_cut_text_are_cut_alone, list_any, named_files_of_policy, no_changes_leave_lines_unchanged, policy_or_first_refusal, policy_or_load_fault, prune_removals_of_walk}
use Rattle.sudoers_edit.proofs.Common.{rename_changes_in_files, spot_of_walk_line, loaded_walk_lines_are_at_their_spots, text_limit, texts_of_changes, texts_of_renamed_lines, true, ℕ, ◌<◌, ◌^◌, ◌∷◌, ◌≡◌, ◌≤◌}
use Rattle.sudoers_text.proofs.LastLine.{line_cut_to_itself_is_within_limit}
use Rattle.sudoers_edit.proofs.BackLemmas.{inverse_of_changes_restores_old_policy, line_count_is_at_most_byte_count}
use Rattle.sudoers_edit.proofs.FilesBelow.{changed_files_keep_names, loaded_lines_are_cut_of_their_text, loaded_walk_is_walk_of_files, first_change_law_holds}
use Rattle.sudoers_edit.proofs.InverseLaw.{accepted_edits_have_restoring_inverse}
use Rattle.sudoers_edit.proofs.LandLemmas.{lines_of_loaded_file_are_sound, one_file_changes_are_those_of_edit}
use Rattle.sudoers_edit.proofs.LawsBelow.{final_lf_laws_hold, line_edit_laws_hold, rename_size_laws_hold, member_edit_laws_hold}
use Rattle.sudoers_edit.proofs.LinesBelow.{lines_cut_from_join_are_joined_lines}
use Rattle.sudoers_edit.proofs.PlanLemmas.{OneFileChangesMakeEdit}
use Rattle.sudoers_edit.proofs.PolicyLemmas.{texts_are_as_many_as_lines}
use Rattle.sudoers_edit.proofs.PruneDone.{unstarted_prune_is_partial_prune, finished_prune_has_changes_of_edit}
use Rattle.sudoers_edit.proofs.PrunePlaces.{definition_numbers_of_lines_are_below_most, file_number_of_spot_fits_u32, line_number_of_spot_fits_u32}
use Rattle.sudoers_edit.proofs.RenameLeads.{rename_changes_make_edit_of_rename}
use Rattle.sudoers_edit.proofs.RenameLong.{rename_changes_are_long_as_walk_is}
use Rattle.sudoers_edit.proofs.RenameOutcomes.{rename_made_is_undone_by_reverse_rename}

-- THE LINES OF A FILE

-- what they are
pub loaded_file_lines_are_sound : (policy : LoadedPolicy) → policy_or_load_fault (named_files_of_policy policy) ≡ Ok policy → (f : ℕ) → AreLogicalLinesOfFileWithinTextLimit (line_texts_of_file policy f)
loaded_file_lines_are_sound = lines_of_loaded_file_are_sound line_edit_laws_hold

-- they are no more than a text may have bytes
pub loaded_file_lines_are_within_text_limit : (policy : LoadedPolicy) → policy_or_load_fault (named_files_of_policy policy) ≡ Ok policy → (f : ℕ) → length (lines_of_numbered_file policy.files f) ≤ text_limit
loaded_file_lines_are_within_text_limit policy loaded f =
    let sound = loaded_file_lines_are_sound policy loaded f in
    omega (arith, line_count_is_at_most_byte_count line_cut_to_itself_is_within_limit (line_texts_of_file policy f) sound.each, sound.fits, texts_are_as_many_as_lines (lines_of_numbered_file policy.files f))

-- changes of them make the files to which the edit leads, and one edit leads back
pub one_file_changes_law_holds : OneFileChangesMakeEdit
one_file_changes_law_holds = one_file_changes_are_those_of_edit line_edit_laws_hold

-- what takes changes of files back leads to the files before them
pub inverse_of_made_changes_restores_policy : (policy new : LoadedPolicy) (changes : List LineChange) → policy_or_load_fault (named_files_of_policy policy) ≡ Ok policy → AreApplicableChanges changes policy.files
    → policy_or_load_fault (files_after_changes changes policy.files) ≡ Ok new → RestoreOldPolicy (inverse_of_changes policy.files changes) new policy
inverse_of_made_changes_restores_policy = inverse_of_changes_restores_old_policy (record { land = line_edit_laws_hold; names = changed_files_keep_names; none = no_changes_leave_lines_unchanged; first = first_change_law_holds })

-- RENAMES

-- a rename of a defined alias to a free name leads to the files with that name, and one rename leads back
pub rename_changes_are_those_of_rename : (kind : Kind) (name fresh : List ℕ) (policy : LoadedPolicy) (changes : List LineChange) → policy_or_load_fault (named_files_of_policy policy) ≡ Ok policy
    → is_some (definition_place_of_name kind name policy.walk.lines) ≡ true → IsDefinableName fresh → is_alias_name_in_use kind fresh policy.walk.lines ≡ false
    → list_any is_line_too_long (texts_of_renamed_lines kind name fresh policy.walk.lines) ≡ false → changes ≡ rename_changes_in_files 0 kind name fresh policy.walk policy.files
    → AreChangesOfEdit (Rename kind name fresh) (Rename kind fresh name ∷ []) policy changes
rename_changes_are_those_of_rename kind name fresh policy changes loaded some new free short are =
    rename_changes_make_edit_of_rename rename_size_laws_hold.base kind name fresh policy changes (record { loaded = loaded; some = some; new = new; free = free }) short are

-- a line of the walk is past the limit exactly if one that the changes bring is
pub long_rename_changes_are_long_walk_lines : (kind : Kind) (name fresh : List ℕ) (policy : LoadedPolicy) → policy_or_load_fault (named_files_of_policy policy) ≡ Ok policy
    → list_any is_line_too_long (texts_of_changes (rename_changes_in_files 0 kind name fresh policy.walk policy.files))
    ≡ list_any is_line_too_long (texts_of_renamed_lines kind name fresh policy.walk.lines)
long_rename_changes_are_long_walk_lines kind name fresh policy loaded = rename_changes_are_long_as_walk_is rename_size_laws_hold.base policy loaded kind name fresh

-- PRUNES

-- the number of a file of the walk fits into that of an edit
pub file_number_of_walk_line_fits_u32 : (policy : LoadedPolicy) (n : ℕ) → policy_or_load_fault (named_files_of_policy policy) ≡ Ok policy → (spot_of_walk_line policy.walk n).file < 2 ^ 32
file_number_of_walk_line_fits_u32 policy n loaded = file_number_of_spot_fits_u32 policy n loaded loaded_walk_lines_are_at_their_spots

-- so does that of a line in it
pub line_number_of_walk_line_fits_u32 : (policy : LoadedPolicy) (n : ℕ) → policy_or_load_fault (named_files_of_policy policy) ≡ Ok policy → (spot_of_walk_line policy.walk n).line < 2 ^ 32
line_number_of_walk_line_fits_u32 policy n loaded = line_number_of_spot_fits_u32 policy n loaded loaded_walk_lines_are_at_their_spots loaded_lines_are_cut_of_their_text lines_of_cut_text_are_cut_alone line_cut_to_itself_is_within_limit

-- and those of the definitions in their lines
pub definition_numbers_of_walk_fit_u32 : (policy : LoadedPolicy) → policy_or_load_fault (named_files_of_policy policy) ≡ Ok policy → All (λ (d : PlacedDefinition). d.place.def < 2 ^ 32) (definitions_of_lines policy.walk.lines)
definition_numbers_of_walk_fit_u32 policy loaded =
    All-weaker (λ (d : PlacedDefinition). d.place.def < alias_limit_of_each_kind) (λ (d : PlacedDefinition). d.place.def < 2 ^ 32) (λ d less. omega (arith, less))
    (definitions_of_lines policy.walk.lines)
    (All-from_recursion (λ (d : PlacedDefinition). d.place.def < alias_limit_of_each_kind) (definitions_of_lines policy.walk.lines)
    (definition_numbers_of_lines_are_below_most alias_limit_of_each_kind 0 policy.walk.lines (loaded_walk_lines_are_valid (named_files_of_policy policy) policy loaded).few))

-- no removal of a prune is made yet
pub prune_without_removals_is_partial_prune : (policy : LoadedPolicy) (all : List PruneRemoval) → policy_or_load_fault (named_files_of_policy policy) ≡ Ok policy → all ≡ prune_removals_of_walk policy.walk → IsPartialPrune policy all all [] []
prune_without_removals_is_partial_prune policy all loaded are =
    unstarted_prune_is_partial_prune no_changes_leave_lines_unchanged policy all loaded (loaded_walk_lines_are_at_their_spots (named_files_of_policy policy) policy loaded) (loaded_walk_is_walk_of_files (named_files_of_policy policy) policy loaded) are

-- where all are made, their changes lead file by file to what they leave, and the inverse edits lead back
pub completed_prune_has_changes_of_edit : (policy : LoadedPolicy) (all : List PruneRemoval) (changes sorted : List LineChange) (inverse : List Edit) → all ≡ prune_removals_of_walk policy.walk
    → IsPartialPrune policy [] all changes inverse → IsFileOrderOfChanges changes sorted → AreChangesOfEdit Prune inverse policy sorted
completed_prune_has_changes_of_edit = finished_prune_has_changes_of_edit (λ policy f loaded. (loaded_file_lines_are_sound policy loaded f).ended)

-- EDITS THAT ARE ACCEPTED

-- they lead to a policy, and their inverse edits lead back
pub accepted_edits_restore_by_inverse : (edits : List Edit) (policy new : LoadedPolicy) → policy_or_load_fault (named_files_of_policy policy) ≡ Ok policy → policy_or_first_refusal 0 edits policy ≡ Ok new
    → HasRestoringInverse edits policy new
accepted_edits_restore_by_inverse = accepted_edits_have_restoring_inverse (record {
  land = line_edit_laws_hold;
  joined = lines_cut_from_join_are_joined_lines;
  ends = final_lf_laws_hold;
  walks = member_edit_laws_hold;
  walk = loaded_walk_lines_are_valid;
  renames = rename_made_is_undone_by_reverse_rename rename_size_laws_hold;
})
