-- Where a rename over the files of a policy leads, and that one rename leads back.
use Rattle.sudoers_edit.proofs.Common.{AreChangesOfEdit, BadName, Bool, Edit, EditFault, Err, IsDefinableName, Kind, Line, LineChange, List, LoadedPolicy, LoadedFileLawsBehindRenames, NameTaken, NoAlias, Ok, Rename, Some}
use Rattle.sudoers_edit.proofs.Common.{TooLarge, [], ap, ap₂, definition_place_of_name, false, files_after_changes, is_alias_name_in_use, is_line_too_long, is_name, is_reserved, is_some, lines_after_rename, list_any}
use Rattle.sudoers_edit.proofs.Common.{named_files_after_rename, named_files_of_policy, not, policy_after_rename, policy_of_files_or_refusal, policy_or_edit_fault, policy_or_load_fault, refl, rename_changes_in_files}
use Rattle.sudoers_edit.proofs.Common.{result_ok, run, step, subst, sym, texts_of_lines, texts_of_renamed_lines, true, ℕ, ◌||◌, ◌∙◌, ◌∷◌, ◌≡◌}
use Rattle.std.specs.Prelude.{Result, option_and_then}
use Rattle.sudoers_edit.proofs.RenamedPolicy.{name_defined_on_walk_is_definable}
use Rattle.sudoers_edit.proofs.RenameFiles.{IsLoadedAfterRename, rename_changes_are_applicable, rename_changes_make_files_with_name_replaced, reverse_rename_restores_files, rename_changes_of_policy, walk_after_rename_is_renamed_walk}
use Rattle.sudoers_edit.proofs.SoundFiles.{loaded_files_are_sound, walk_lines_of_sound_files_are_short}
use Rattle.sudoers_edit.proofs.RenameReadings.{renamed_files_are_files_with_name_replaced}
use Rattle.sudoers_edit.proofs.RenameLines.{CanRenameBackInLines, renamed_lines_can_be_renamed_back}

-- The alias is defined on the walk of a policy, and the new name is free there.
pub record CanRenameOnWalk (k : Kind) (name fresh : List ℕ) (policy : LoadedPolicy) : Type 0 where
  pub loaded : policy_or_load_fault (named_files_of_policy policy) ≡ Ok policy
  pub some : is_some (definition_place_of_name k name policy.walk.lines) ≡ true
  pub new : IsDefinableName fresh
  pub free : is_alias_name_in_use k fresh policy.walk.lines ≡ false

definable_name_is_not_refused : (fresh : List ℕ) → IsDefinableName fresh → (not (is_name fresh) || is_reserved fresh) ≡ false
definable_name_is_not_refused fresh new = ap₂ (λ (a b : Bool). not a || b) new.0 new.1

-- where none of its causes refuses it, a rename leads to the renamed files
pub unrefused_rename_is_load_of_renamed_files : (k : Kind) (name fresh : List ℕ) (policy : LoadedPolicy) → is_some (definition_place_of_name k name policy.walk.lines) ≡ true → IsDefinableName fresh
    → is_alias_name_in_use k fresh policy.walk.lines ≡ false → list_any is_line_too_long (texts_of_renamed_lines k name fresh policy.walk.lines) ≡ false
    → policy_after_rename k name fresh policy ≡ policy_of_files_or_refusal (named_files_after_rename k name fresh policy)
unfolding policy_after_rename
unrefused_rename_is_load_of_renamed_files k name fresh policy some new free short = rw (some, definable_name_is_not_refused fresh new, free, short) refl

accepted_edit_is_run_alone : (e : Edit) (policy new : LoadedPolicy) → step e policy ≡ Ok new → run (e ∷ []) policy ≡ Some new
accepted_edit_is_run_alone e policy new is = ap (λ (r : Result LoadedPolicy EditFault). option_and_then (run []) (result_ok r)) is

-- the changes of a rename make the renamed files
pub rename_changes_make_renamed_files : LoadedFileLawsBehindRenames → (k : Kind) (name fresh : List ℕ) (policy : LoadedPolicy) → policy_or_load_fault (named_files_of_policy policy) ≡ Ok policy
    → files_after_changes (rename_changes_of_policy k name fresh policy) policy.files ≡ named_files_after_rename k name fresh policy
rename_changes_make_renamed_files l k name fresh policy loaded =
    rename_changes_make_files_with_name_replaced l k name fresh policy
    ∙ sym (renamed_files_are_files_with_name_replaced l.lines 0 k name fresh policy.walk policy.files (loaded_files_are_sound l policy loaded).says)

-- one rename leads back
pub reverse_rename_leads_back : LoadedFileLawsBehindRenames → (k : Kind) (name fresh : List ℕ) (policy new : LoadedPolicy) → CanRenameOnWalk k name fresh policy
    → policy_or_load_fault (files_after_changes (rename_changes_of_policy k name fresh policy) policy.files) ≡ Ok new → policy_after_rename k fresh name new ≡ Ok policy
reverse_rename_leads_back l k name fresh policy new f told =
    let lines : List Line = policy.walk.lines in
    let b : CanRenameBackInLines k name fresh lines (lines_after_rename k name fresh lines) =
    renamed_lines_can_be_renamed_back l.lines k name fresh lines (record { walk = l.walk (named_files_of_policy policy) policy f.loaded; some = f.some; new = f.new; free = f.free }) in
    let r : IsLoadedAfterRename k name fresh policy new = record { loaded = f.loaded; is = told; old_name = b.old; new_name = f.new } in
    let now : new.walk.lines ≡ lines_after_rename k name fresh lines = (walk_after_rename_is_renamed_walk l k name fresh policy new r).0 in
    let short : list_any is_line_too_long (texts_of_lines lines) ≡ false =
    walk_lines_of_sound_files_are_short l.lines policy.files (loaded_files_are_sound l policy f.loaded) policy.walk.spots lines (l.stand (named_files_of_policy policy) policy f.loaded) in
    unrefused_rename_is_load_of_renamed_files k fresh name new (ap (λ (ls : List Line). is_some (definition_place_of_name k fresh ls)) now ∙ b.some) b.old
    (ap (is_alias_name_in_use k name) now ∙ b.free)
    (ap (λ (ls : List Line). list_any is_line_too_long (texts_of_renamed_lines k fresh name ls)) now ∙ ap (list_any is_line_too_long) b.are ∙ short)
    ∙ ap policy_of_files_or_refusal (renamed_files_are_files_with_name_replaced l.lines 0 k fresh name new.walk new.files
    (l.said (files_after_changes (rename_changes_of_policy k name fresh policy) policy.files) new told))
    ∙ ap policy_of_files_or_refusal (reverse_rename_restores_files l k name fresh policy new r b.without)
    ∙ ap policy_or_edit_fault f.loaded

pub rename_changes_make_edit_of_rename : LoadedFileLawsBehindRenames → (k : Kind) (name fresh : List ℕ) (policy : LoadedPolicy) (changes : List LineChange) → CanRenameOnWalk k name fresh policy
    → list_any is_line_too_long (texts_of_renamed_lines k name fresh policy.walk.lines) ≡ false → changes ≡ rename_changes_in_files 0 k name fresh policy.walk policy.files
    → AreChangesOfEdit (Rename k name fresh) (Rename k fresh name ∷ []) policy changes
rename_changes_make_edit_of_rename l k name fresh policy changes f short are =
    subst (AreChangesOfEdit (Rename k name fresh) (Rename k fresh name ∷ []) policy) (sym are) (record {
      fits = rename_changes_are_applicable l k name fresh (name_defined_on_walk_is_definable k name policy.walk.lines (l.walk (named_files_of_policy policy) policy f.loaded) f.some) f.new policy
          (loaded_files_are_sound l policy f.loaded);
      forth = unrefused_rename_is_load_of_renamed_files k name fresh policy f.some f.new f.free short ∙ ap policy_of_files_or_refusal (sym (rename_changes_make_renamed_files l k name fresh policy f.loaded));
      inverse_is = refl;
      back = λ new told. accepted_edit_is_run_alone (Rename k fresh name) new policy (reverse_rename_leads_back l k name fresh policy new f told);
    })

-- ---- refusals

pub rename_of_undefined_alias_is_no_alias : (k : Kind) (name fresh : List ℕ) (policy : LoadedPolicy) → is_some (definition_place_of_name k name policy.walk.lines) ≡ false → policy_after_rename k name fresh policy ≡ Err NoAlias
unfolding policy_after_rename
rename_of_undefined_alias_is_no_alias k name fresh policy none = rw none refl

pub rename_to_bad_name_is_bad_name : (k : Kind) (name fresh : List ℕ) (policy : LoadedPolicy) → is_some (definition_place_of_name k name policy.walk.lines) ≡ true
    → (not (is_name fresh) || is_reserved fresh) ≡ true → policy_after_rename k name fresh policy ≡ Err BadName
unfolding policy_after_rename
rename_to_bad_name_is_bad_name k name fresh policy some bad = rw (some, bad) refl

pub rename_to_used_name_is_name_taken : (k : Kind) (name fresh : List ℕ) (policy : LoadedPolicy) → is_some (definition_place_of_name k name policy.walk.lines) ≡ true
    → (not (is_name fresh) || is_reserved fresh) ≡ false → is_alias_name_in_use k fresh policy.walk.lines ≡ true → policy_after_rename k name fresh policy ≡ Err NameTaken
unfolding policy_after_rename
rename_to_used_name_is_name_taken k name fresh policy some free taken = rw (some, free, taken) refl

pub rename_making_long_line_is_too_large : (k : Kind) (name fresh : List ℕ) (policy : LoadedPolicy) → is_some (definition_place_of_name k name policy.walk.lines) ≡ true
    → (not (is_name fresh) || is_reserved fresh) ≡ false → is_alias_name_in_use k fresh policy.walk.lines ≡ false
    → list_any is_line_too_long (texts_of_renamed_lines k name fresh policy.walk.lines) ≡ true → policy_after_rename k name fresh policy ≡ Err TooLarge
unfolding policy_after_rename
rename_making_long_line_is_too_large k name fresh policy some free untaken long = rw (some, free, untaken, long) refl

pub unrefused_name_is_name_and_not_reserved : (a b : Bool) → (not a || b) ≡ false → (a ≡ true) × (b ≡ false)
unrefused_name_is_name_and_not_reserved true b h = (refl, h)
unrefused_name_is_name_and_not_reserved false b h = absurd cc
