-- Edits keep the names of files.
use Rattle.sudoers_edit.proofs.Common.{parsed_files_numbered_from_renamed_if_on_walk, parsed_file_after_rename}
use Rattle.sudoers_edit.proofs.Common.{AddDef, AddMember, BadName, Bool, DefinitionFilePlace, Delete, DropDef, DropMember, Edit, EditFault, EndLine, Err, Insert, Kind, Line, LineTexts, List, LoadFault, LoadedPolicy}
use Rattle.sudoers_edit.proofs.Common.{Move, NameTaken, NamedFile, NoAlias, NoFile, None, Ok, OpenEnd, OpenLine, Option, ParsedFile, Place, Prune, PruneRemoval, Rename, Result, Some, TooLarge, WalkState, [], ap}
use Rattle.sudoers_edit.proofs.Common.{definition_place_of_name, edit_result_and_then, false, file_place_of_definition, files_with_bytes_replaced, has_inner_line_without_lf, if◌then◌else◌, is_alias_name_in_use}
use Rattle.sudoers_edit.proofs.Common.{is_file_on_walk, is_line_too_long, is_name, is_reserved, is_some, join, line_with_lf_added, line_with_lf_removed, lines_after_delete, changed_lines_unless_last_too_long, lines_after_insert}
use Rattle.sudoers_edit.proofs.Common.{lines_after_move, lines_of_numbered_file, lines_with_definition_added, lines_with_definition_dropped, lines_with_last_changed, lines_with_member_added}
use Rattle.sudoers_edit.proofs.Common.{lines_with_member_dropped, list_any, map, named_file_of_parsed, named_files_after_rename, named_files_of_policy, names_of_named_files}
use Rattle.sudoers_edit.proofs.Common.{next_or_placed_refusal, not, place_within_file_of_definition, policy_after_removal, policy_after_removals, policy_after_rename, policy_of_files_or_refusal, policy_or_edit_fault}
use Rattle.sudoers_edit.proofs.Common.{policy_or_first_refusal, policy_or_load_fault, policy_with_file_defining_alias_edited, policy_with_file_edited, policy_with_file_lines, prune_removals_of_walk, refl}
use Rattle.sudoers_edit.proofs.Common.{result_or_refusal_if_none, result_unless_refused, slice_get, step, suc, sym, texts_of_lines, texts_of_renamed_lines, true, zero, ℕ, ◌+◌, ◌||◌, ◌∙◌, ◌∷◌, ◌≡◌}
use Rattle.sudoers_edit.specs.declared.prune_removals.PruneRemoval.TheVariants as removal

-- what the law says of loaded files
abbrev pub LoadedFilesAreNamedFiles : Type 0
LoadedFilesAreNamedFiles = (files : List NamedFile) (policy : LoadedPolicy) → policy_or_load_fault files ≡ Ok policy → named_files_of_policy policy ≡ files

abbrev KeepsFileNames : LoadedPolicy → Result LoadedPolicy EditFault → Type 0
KeepsFileNames policy r = (new : LoadedPolicy) → r ≡ Ok new → names_of_named_files (named_files_of_policy new) ≡ names_of_named_files (named_files_of_policy policy)

replaced_bytes_keep_names : (f : ℕ) (bytes : List ℕ) (files : List NamedFile) → names_of_named_files (files_with_bytes_replaced f bytes files) ≡ names_of_named_files files
replaced_bytes_keep_names zero bytes [] = refl
replaced_bytes_keep_names (suc f) bytes [] = refl
replaced_bytes_keep_names zero bytes (file ∷ files) = refl
replaced_bytes_keep_names (suc f) bytes (file ∷ files) = ap (λ (names : List (List ℕ)). file.name ∷ names) (replaced_bytes_keep_names f bytes files)

load_of_same_names_keeps_file_names : LoadedFilesAreNamedFiles → (policy : LoadedPolicy) (files : List NamedFile) → names_of_named_files files ≡ names_of_named_files (named_files_of_policy policy) → KeepsFileNames policy (policy_of_files_or_refusal files)
load_of_same_names_keeps_file_names law policy files same new is = by (policy_or_load_fault files) refl is
  where
    by : (r : Result LoadedPolicy LoadFault) → policy_or_load_fault files ≡ r → policy_or_edit_fault r ≡ Ok new → names_of_named_files (named_files_of_policy new) ≡ names_of_named_files (named_files_of_policy policy)
    by (Ok p) loaded e = let one : p ≡ new = cc in ap (λ (q : LoadedPolicy). names_of_named_files (named_files_of_policy q)) (sym one) ∙ ap names_of_named_files (law files p loaded) ∙ same
    by (Err fault) loaded e = absurd cc

refusal_keeps_file_names : (policy : LoadedPolicy) (b : Bool) (fault : EditFault) (r : Result LoadedPolicy EditFault) → KeepsFileNames policy r → KeepsFileNames policy (result_unless_refused b fault r)
refusal_keeps_file_names policy true fault r keeps new is = absurd cc
refusal_keeps_file_names policy false fault r keeps new is = keeps new is

lines_of_file_keep_file_names : LoadedFilesAreNamedFiles → (policy : LoadedPolicy) (f : ℕ) (r : Result LineTexts EditFault) → KeepsFileNames policy (edit_result_and_then r (policy_with_file_lines policy f))
lines_of_file_keep_file_names law policy f (Ok lines) =
    refusal_keeps_file_names policy (has_inner_line_without_lf lines) OpenLine (policy_of_files_or_refusal (files_with_bytes_replaced f (join lines) (named_files_of_policy policy)))
    (load_of_same_names_keeps_file_names law policy (files_with_bytes_replaced f (join lines) (named_files_of_policy policy)) (replaced_bytes_keep_names f (join lines) (named_files_of_policy policy)))
lines_of_file_keep_file_names law policy f (Err fault) = λ new is. absurd cc

file_edit_keeps_file_names : LoadedFilesAreNamedFiles → (policy : LoadedPolicy) (f : ℕ) (edit : List Line → Result LineTexts EditFault) → KeepsFileNames policy (policy_with_file_edited f policy edit)
file_edit_keeps_file_names law policy f edit = by (slice_get policy.files f)
  where
    by : (o : Option ParsedFile) → KeepsFileNames policy (result_or_refusal_if_none o NoFile (λ (file : ParsedFile). edit_result_and_then (edit file.lines) (policy_with_file_lines policy f)))
    by None = λ new is. absurd cc
    by (Some file) = lines_of_file_keep_file_names law policy f (edit file.lines)

alias_edit_keeps_file_names : LoadedFilesAreNamedFiles → (policy : LoadedPolicy) (k : Kind) (name : List ℕ) (edit : Place → List Line → Result LineTexts EditFault) → KeepsFileNames policy (policy_with_file_defining_alias_edited k name policy edit)
alias_edit_keeps_file_names law policy k name edit = by (file_place_of_definition k name policy.walk)
  where
    by : (o : Option DefinitionFilePlace) → KeepsFileNames policy (result_or_refusal_if_none o NoAlias (λ (at : DefinitionFilePlace). edit_result_and_then (edit (place_within_file_of_definition at) (lines_of_numbered_file policy.files at.file)) (policy_with_file_lines policy at.file)))
    by None = λ new is. absurd cc
    by (Some at) = lines_of_file_keep_file_names law policy at.file (edit (place_within_file_of_definition at) (lines_of_numbered_file policy.files at.file))

renamed_files_keep_names : (n : ℕ) (k : Kind) (name fresh : List ℕ) (w : WalkState) (files : List ParsedFile) → names_of_named_files (map named_file_of_parsed (parsed_files_numbered_from_renamed_if_on_walk n k name fresh w files)) ≡ names_of_named_files (map named_file_of_parsed files)
renamed_files_keep_names n k name fresh w [] = refl
renamed_files_keep_names n k name fresh w (file ∷ files) = by (is_file_on_walk w n) (renamed_files_keep_names (n + 1) k name fresh w files)
  where
    by : (b : Bool) → names_of_named_files (map named_file_of_parsed (parsed_files_numbered_from_renamed_if_on_walk (n + 1) k name fresh w files)) ≡ names_of_named_files (map named_file_of_parsed files)
        → names_of_named_files (map named_file_of_parsed ((if b then parsed_file_after_rename k name fresh file else file) ∷ parsed_files_numbered_from_renamed_if_on_walk (n + 1) k name fresh w files))
        ≡ names_of_named_files (map named_file_of_parsed (file ∷ files))
    by true rest = ap (λ (names : List (List ℕ)). file.name ∷ names) rest
    by false rest = ap (λ (names : List (List ℕ)). file.name ∷ names) rest

rename_keeps_file_names : LoadedFilesAreNamedFiles → (policy : LoadedPolicy) (k : Kind) (name fresh : List ℕ) → KeepsFileNames policy (policy_after_rename k name fresh policy)
unfolding policy_after_rename
rename_keeps_file_names law policy k name fresh =
    let last : Result LoadedPolicy EditFault = policy_of_files_or_refusal (named_files_after_rename k name fresh policy) in
    let long : Result LoadedPolicy EditFault = result_unless_refused (list_any is_line_too_long (texts_of_renamed_lines k name fresh policy.walk.lines)) TooLarge last in
    let taken : Result LoadedPolicy EditFault = result_unless_refused (is_alias_name_in_use k fresh policy.walk.lines) NameTaken long in
    let bad : Result LoadedPolicy EditFault = result_unless_refused (not (is_name fresh) || is_reserved fresh) BadName taken in
    refusal_keeps_file_names policy (not (is_some (definition_place_of_name k name policy.walk.lines))) NoAlias bad
    (refusal_keeps_file_names policy (not (is_name fresh) || is_reserved fresh) BadName taken
    (refusal_keeps_file_names policy (is_alias_name_in_use k fresh policy.walk.lines) NameTaken long
    (refusal_keeps_file_names policy (list_any is_line_too_long (texts_of_renamed_lines k name fresh policy.walk.lines)) TooLarge last
    (load_of_same_names_keeps_file_names law policy (named_files_after_rename k name fresh policy) (renamed_files_keep_names 0 k name fresh policy.walk policy.files)))))

removal_keeps_file_names : LoadedFilesAreNamedFiles → (one : PruneRemoval) (policy : LoadedPolicy) → KeepsFileNames policy (policy_after_removal one policy)
removal_keeps_file_names law (removal.Line f at) policy = file_edit_keeps_file_names law policy f (λ lines. lines_after_delete at (texts_of_lines lines))
removal_keeps_file_names law (removal.Def f line at) policy = file_edit_keeps_file_names law policy f (lines_with_definition_dropped line at)

removals_keep_file_names : LoadedFilesAreNamedFiles → (all : List PruneRemoval) (policy : LoadedPolicy) → KeepsFileNames policy (policy_after_removals all policy)
removals_keep_file_names law [] policy new is = let one : policy ≡ new = cc in ap (λ (q : LoadedPolicy). names_of_named_files (named_files_of_policy q)) (sym one)
removals_keep_file_names law (one ∷ more) policy new is = by (policy_after_removal one policy) refl (removals_keep_file_names law more) is
  where
    by : (r : Result LoadedPolicy EditFault) → policy_after_removal one policy ≡ r → ((mid : LoadedPolicy) → KeepsFileNames mid (policy_after_removals more mid)) → edit_result_and_then r (policy_after_removals more) ≡ Ok new
        → names_of_named_files (named_files_of_policy new) ≡ names_of_named_files (named_files_of_policy policy)
    by (Ok mid) first later e = later mid new e ∙ removal_keeps_file_names law one policy mid first
    by (Err fault) first later e = absurd cc

pub step_keeps_file_names : LoadedFilesAreNamedFiles → (edit : Edit) (policy : LoadedPolicy) → KeepsFileNames policy (step edit policy)
step_keeps_file_names law (Insert f at text) policy = file_edit_keeps_file_names law policy f (λ lines. lines_after_insert at text (texts_of_lines lines))
step_keeps_file_names law (Delete f at) policy = file_edit_keeps_file_names law policy f (λ lines. lines_after_delete at (texts_of_lines lines))
step_keeps_file_names law (Move f from to) policy = file_edit_keeps_file_names law policy f (λ lines. lines_after_move from to (texts_of_lines lines))
step_keeps_file_names law (AddMember kind name at splice) policy = alias_edit_keeps_file_names law policy kind name (λ place. lines_with_member_added place at splice)
step_keeps_file_names law (DropMember kind name at) policy = alias_edit_keeps_file_names law policy kind name (λ place. lines_with_member_dropped place at)
step_keeps_file_names law (AddDef f line at splice) policy = file_edit_keeps_file_names law policy f (lines_with_definition_added line at splice)
step_keeps_file_names law (DropDef f line at) policy = file_edit_keeps_file_names law policy f (lines_with_definition_dropped line at)
step_keeps_file_names law (Rename kind name fresh) policy = rename_keeps_file_names law policy kind name fresh
step_keeps_file_names law (EndLine f) policy = file_edit_keeps_file_names law policy f (λ lines. changed_lines_unless_last_too_long (lines_with_last_changed line_with_lf_added (texts_of_lines lines)))
step_keeps_file_names law (OpenEnd f) policy = file_edit_keeps_file_names law policy f (λ lines. changed_lines_unless_last_too_long (lines_with_last_changed line_with_lf_removed (texts_of_lines lines)))
step_keeps_file_names law Prune policy = removals_keep_file_names law (prune_removals_of_walk policy.walk) policy

pub run_keeps_file_names : LoadedFilesAreNamedFiles → (place : ℕ) (edits : List Edit) (policy new : LoadedPolicy) → policy_or_first_refusal place edits policy ≡ Ok new → names_of_named_files (named_files_of_policy new) ≡ names_of_named_files (named_files_of_policy policy)
run_keeps_file_names law place [] policy new is = let one : policy ≡ new = cc in ap (λ (q : LoadedPolicy). names_of_named_files (named_files_of_policy q)) (sym one)
run_keeps_file_names law place (edit ∷ edits) policy new is = by (step edit policy) refl (λ mid. run_keeps_file_names law (place + 1) edits mid new) is
  where
    by : (r : Result LoadedPolicy EditFault) → step edit policy ≡ r
        → ((mid : LoadedPolicy) → policy_or_first_refusal (place + 1) edits mid ≡ Ok new → names_of_named_files (named_files_of_policy new) ≡ names_of_named_files (named_files_of_policy mid))
        → next_or_placed_refusal (policy_or_first_refusal (place + 1) edits) place r ≡ Ok new → names_of_named_files (named_files_of_policy new) ≡ names_of_named_files (named_files_of_policy policy)
    by (Ok mid) first later e = later mid e ∙ step_keeps_file_names law edit policy mid first
    by (Err fault) first later e = absurd cc
