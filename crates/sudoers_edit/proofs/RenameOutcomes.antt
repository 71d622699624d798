-- A rename over files to a free name is refused for its size alone, and one that is made is taken back by one rename.
use Rattle.sudoers_edit.proofs.Common.{texts_with_name_replaced}
use Rattle.sudoers_edit.proofs.Common.{AllByRecursion, AreValidWalkLines, BadName, Bool, EditFault, Err, IsDefinableName, IsPolicyAfterRename, Kind, Line, List, LoadFault, LoadedPolicy, NameTaken, NoAlias, Ok}
use Rattle.sudoers_edit.proofs.Common.{TextSizeLawsBehindRenames, RenamedFilesAreWithinLimits, Result, TooLarge, [], ap, ap₂, arith, definition_place_of_name, false, inl, inr, is_alias_name_in_use, is_file_on_walk}
use Rattle.sudoers_edit.proofs.Common.{is_line_too_long, is_name, is_reserved, is_some, le-ltb, length, line_limit, lines_after_rename, lines_of_numbered_file, list_any, mentions_in_lines, named_files_after_rename}
use Rattle.sudoers_edit.proofs.Common.{named_files_of_policy, not, or_false, policy_after_rename, policy_of_files_or_refusal, policy_or_edit_fault, policy_or_load_fault, refl, result_unless_refused, subst, sym}
use Rattle.sudoers_edit.proofs.Common.{texts_of_lines, texts_of_renamed_lines, true, ℕ, ◌||◌, ◌∙◌, ◌∷◌, ◌≡◌, ◌≤◌, ◌⊎◌}
use Rattle.std.proofs.Common.{nat_lt}
use Rattle.sudoers_edit.proofs.RenamedPolicy.{name_defined_on_walk_is_definable, renamed_lines_are_valid_walk_lines}
use Rattle.sudoers_edit.proofs.RenamedTexts.{texts_with_name_replaced_are_renamed_texts}
use Rattle.sudoers_edit.proofs.RenameCovers.{walk_line_property_holds_in_its_files}
use Rattle.sudoers_edit.proofs.SoundFiles.{loaded_files_are_sound}
use Rattle.sudoers_edit.proofs.RenameLeads.{CanRenameOnWalk, reverse_rename_leads_back, unrefused_name_is_name_and_not_reserved, unrefused_rename_is_load_of_renamed_files, rename_making_long_line_is_too_large, rename_changes_make_renamed_files}
use Rattle.sudoers_edit.proofs.RenameLong.{IsRenamedLineShort, property_in_walked_files_holds_of_walk, no_too_long_text_implies_all_short, all_short_implies_no_too_long_text, walk_lines_are_lines_kept_on_walk}
use Rattle.sudoers_edit.proofs.RenameSizes.{IsRenameableWithinLines, LoadStopsAtTooLargeText, LoadsRenamedFiles, fitting_renamed_files_load, renamed_files_load_or_are_too_large}

definable_name_is_not_bad : (fresh : List ℕ) → IsDefinableName fresh → (not (is_name fresh) || is_reserved fresh) ≡ false
definable_name_is_not_bad fresh new = ap₂ (λ (a b : Bool). not a || b) new.0 new.1

-- The names of the alias stand in the lines of the walk, where the new one is not defined.
renamed_walk_lines_are_valid : TextSizeLawsBehindRenames → (k : Kind) (name fresh : List ℕ) (policy : LoadedPolicy) → policy_or_load_fault (named_files_of_policy policy) ≡ Ok policy
    → is_some (definition_place_of_name k name policy.walk.lines) ≡ true → IsDefinableName fresh → is_some (definition_place_of_name k fresh policy.walk.lines) ≡ false
    → AreValidWalkLines (lines_after_rename k name fresh policy.walk.lines)
renamed_walk_lines_are_valid l k name fresh policy loaded some new free =
    let walk : AreValidWalkLines policy.walk.lines = l.base.walk (named_files_of_policy policy) policy loaded in
    renamed_lines_are_valid_walk_lines l.base.lines.same k name fresh policy.walk.lines walk (name_defined_on_walk_is_definable k name policy.walk.lines walk some) new free

unused_name_is_undefined : (k : Kind) (fresh : List ℕ) (lines : List Line) → is_alias_name_in_use k fresh lines ≡ false → is_some (definition_place_of_name k fresh lines) ≡ false
unused_name_is_undefined k fresh lines free = (or_false (is_some (definition_place_of_name k fresh lines)) (nat_lt 0 (length (mentions_in_lines k fresh lines))) free).0

-- a line of the walk with the name replaced is too long if the renamed line is
long_walk_lines_with_name_replaced_are_long_renamed_lines : TextSizeLawsBehindRenames → (k : Kind) (name fresh : List ℕ) (policy : LoadedPolicy) → policy_or_load_fault (named_files_of_policy policy) ≡ Ok policy
    → list_any is_line_too_long (texts_with_name_replaced k name fresh policy.walk.lines) ≡ list_any is_line_too_long (texts_of_renamed_lines k name fresh policy.walk.lines)
long_walk_lines_with_name_replaced_are_long_renamed_lines l k name fresh policy loaded =
    ap (list_any is_line_too_long) (texts_with_name_replaced_are_renamed_texts l.base.lines.ascend k name fresh policy.walk.lines (l.base.walk (named_files_of_policy policy) policy loaded).says)

-- where no line of the walk is too long, none of the files on it is
short_walk_lines_imply_can_be_renamed : TextSizeLawsBehindRenames → (k : Kind) (name fresh : List ℕ) (policy : LoadedPolicy) → CanRenameOnWalk k name fresh policy
    → list_any is_line_too_long (texts_of_renamed_lines k name fresh policy.walk.lines) ≡ false → IsRenameableWithinLines k name fresh policy
short_walk_lines_imply_can_be_renamed l k name fresh policy f short = record {
  loaded = f.loaded;
  old = name_defined_on_walk_is_definable k name policy.walk.lines (l.base.walk (named_files_of_policy policy) policy f.loaded) f.some;
  new = f.new;
  names = renamed_walk_lines_are_valid l k name fresh policy f.loaded f.some f.new (unused_name_is_undefined k fresh policy.walk.lines f.free);
  short = λ n on.
      all_short_implies_no_too_long_text k name fresh (lines_of_numbered_file policy.files n)
      (walk_line_property_holds_in_its_files (IsRenamedLineShort k name fresh) policy.files policy.walk (l.base.goes policy.files) (l.base.walked (named_files_of_policy policy) policy f.loaded)
      (no_too_long_text_implies_all_short k name fresh policy.walk.lines (long_walk_lines_with_name_replaced_are_long_renamed_lines l k name fresh policy f.loaded ∙ short)) n on);
}

-- WHAT IT IS REFUSED FOR

too_large_load_refuses_edit : (outcome : Result LoadedPolicy LoadFault) → LoadStopsAtTooLargeText outcome → policy_or_edit_fault outcome ≡ Err TooLarge
too_large_load_refuses_edit outcome large = ap policy_or_edit_fault large.1

-- it is refused for its size, or leads to the policy with the new name
pub rename_is_made_or_too_large : TextSizeLawsBehindRenames → (k : Kind) (name fresh : List ℕ) (policy : LoadedPolicy) → CanRenameOnWalk k name fresh policy
    → (policy_after_rename k name fresh policy ≡ Err TooLarge) ⊎ ((new : LoadedPolicy) × (policy_after_rename k name fresh policy ≡ Ok new) × IsPolicyAfterRename k name fresh policy new)
rename_is_made_or_too_large l k name fresh policy f = by (list_any is_line_too_long (texts_of_renamed_lines k name fresh policy.walk.lines)) refl
  where
    by_load_of : policy_after_rename k name fresh policy ≡ policy_of_files_or_refusal (named_files_after_rename k name fresh policy)
        → LoadStopsAtTooLargeText (policy_or_load_fault (named_files_after_rename k name fresh policy)) ⊎ LoadsRenamedFiles k name fresh policy
        → (policy_after_rename k name fresh policy ≡ Err TooLarge) ⊎ ((new : LoadedPolicy) × (policy_after_rename k name fresh policy ≡ Ok new) × IsPolicyAfterRename k name fresh policy new)
    by_load_of is (inl large) = inl (is ∙ too_large_load_refuses_edit (policy_or_load_fault (named_files_after_rename k name fresh policy)) large)
    by_load_of is (inr loads) = inr (loads.new, is ∙ ap policy_or_edit_fault loads.is, loads.renamed_is)

    by : (b : Bool) → list_any is_line_too_long (texts_of_renamed_lines k name fresh policy.walk.lines) ≡ b
        → (policy_after_rename k name fresh policy ≡ Err TooLarge) ⊎ ((new : LoadedPolicy) × (policy_after_rename k name fresh policy ≡ Ok new) × IsPolicyAfterRename k name fresh policy new)
    by true long = inl (rename_making_long_line_is_too_large k name fresh policy f.some (definable_name_is_not_bad fresh f.new) f.free long)
    by false short =
        by_load_of (unrefused_rename_is_load_of_renamed_files k name fresh policy f.some f.new f.free short)
        (renamed_files_load_or_are_too_large l k name fresh policy (short_walk_lines_imply_can_be_renamed l k name fresh policy f short))

pub refused_rename_is_too_large : TextSizeLawsBehindRenames → (k : Kind) (name fresh : List ℕ) (policy : LoadedPolicy) (fault : EditFault) → CanRenameOnWalk k name fresh policy
    → policy_after_rename k name fresh policy ≡ Err fault → fault ≡ TooLarge
refused_rename_is_too_large l k name fresh policy fault f is = by (rename_is_made_or_too_large l k name fresh policy f)
  where
    by : (policy_after_rename k name fresh policy ≡ Err TooLarge) ⊎ ((new : LoadedPolicy) × (policy_after_rename k name fresh policy ≡ Ok new) × IsPolicyAfterRename k name fresh policy new)
        → fault ≡ TooLarge
    by (inl large) = let same : Err fault ≡ Err TooLarge = sym is ∙ large in cc
    by (inr leads) = absurd (let same : Err fault ≡ Ok leads.0 = sym is ∙ leads.1 in cc)

-- WITHIN THE LIMITS

lines_within_limit_are_not_too_long : (lines : List (List ℕ)) → AllByRecursion (λ (line : List ℕ). length line ≤ line_limit) lines → list_any is_line_too_long lines ≡ false
lines_within_limit_are_not_too_long [] all = refl
lines_within_limit_are_not_too_long (line ∷ lines) all = ap₂ (λ (a b : Bool). a || b) (le-ltb line_limit (length line) all.0) (lines_within_limit_are_not_too_long lines all.1)

renamed_files_within_limits_have_short_lines : TextSizeLawsBehindRenames → (k : Kind) (name fresh : List ℕ) (policy : LoadedPolicy) → policy_or_load_fault (named_files_of_policy policy) ≡ Ok policy → RenamedFilesAreWithinLimits k name fresh policy
    → (n : ℕ) → is_file_on_walk policy.walk n ≡ true → list_any is_line_too_long (texts_with_name_replaced k name fresh (lines_of_numbered_file policy.files n)) ≡ false
renamed_files_within_limits_have_short_lines l k name fresh policy loaded within n on =
    ap (list_any is_line_too_long) (texts_with_name_replaced_are_renamed_texts l.base.lines.ascend k name fresh (lines_of_numbered_file policy.files n) ((loaded_files_are_sound l.base policy loaded).says n))
    ∙ lines_within_limit_are_not_too_long (texts_of_lines (lines_after_rename k name fresh (lines_of_numbered_file policy.files n))) (within n on).0

-- The files with a name that was not defined before are a policy.
pub renamed_files_within_limits_load : TextSizeLawsBehindRenames → (k : Kind) (name fresh : List ℕ) (policy : LoadedPolicy) → policy_or_load_fault (named_files_of_policy policy) ≡ Ok policy
    → is_some (definition_place_of_name k name policy.walk.lines) ≡ true → IsDefinableName fresh → is_some (definition_place_of_name k fresh policy.walk.lines) ≡ false
    → RenamedFilesAreWithinLimits k name fresh policy → LoadsRenamedFiles k name fresh policy
renamed_files_within_limits_load l k name fresh policy loaded some new free within =
    fitting_renamed_files_load l k name fresh policy (record {
      loaded = loaded;
      old = name_defined_on_walk_is_definable k name policy.walk.lines (l.base.walk (named_files_of_policy policy) policy loaded) some;
      new = new;
      names = renamed_walk_lines_are_valid l k name fresh policy loaded some new free;
      short = renamed_files_within_limits_have_short_lines l k name fresh policy loaded within;
    }) (λ i n is on.
    let same : n ≡ i = omega (arith, is) in
    (within i (ap (λ (m : ℕ). is_file_on_walk policy.walk m) (sym same) ∙ on)).1)

pub rename_within_limits_is_made : TextSizeLawsBehindRenames → (k : Kind) (name fresh : List ℕ) (policy : LoadedPolicy) → CanRenameOnWalk k name fresh policy → RenamedFilesAreWithinLimits k name fresh policy
    → (new : LoadedPolicy) × (policy_after_rename k name fresh policy ≡ Ok new) × IsPolicyAfterRename k name fresh policy new
rename_within_limits_is_made l k name fresh policy f within =
    let loads : LoadsRenamedFiles k name fresh policy =
    renamed_files_within_limits_load l k name fresh policy f.loaded f.some f.new (unused_name_is_undefined k fresh policy.walk.lines f.free) within in
    (loads.new, unrefused_rename_is_load_of_renamed_files k name fresh policy f.some f.new f.free short ∙ ap policy_or_edit_fault loads.is, loads.renamed_is)
  where
    short : list_any is_line_too_long (texts_of_renamed_lines k name fresh policy.walk.lines) ≡ false
    short =
        sym (long_walk_lines_with_name_replaced_are_long_renamed_lines l k name fresh policy f.loaded)
        ∙ all_short_implies_no_too_long_text k name fresh policy.walk.lines
        (property_in_walked_files_holds_of_walk (IsRenamedLineShort k name fresh) policy.files policy.walk
        (λ n on. no_too_long_text_implies_all_short k name fresh (lines_of_numbered_file policy.files n) (renamed_files_within_limits_have_short_lines l k name fresh policy f.loaded within n on))
        policy.walk.spots policy.walk.lines (l.base.stand (named_files_of_policy policy) policy f.loaded)
        (omega (arith, ap (λ (ls : List Line). length ls) (walk_lines_are_lines_kept_on_walk l.base policy f.loaded))))

-- A RENAME THAT IS MADE

negation_false_implies_true : (b : Bool) → not b ≡ false → b ≡ true
negation_false_implies_true true h = refl
negation_false_implies_true false h = absurd cc

unrefused_result_is_accepted : {X : Type 0} (b : Bool) (fault : EditFault) (next : Result X EditFault) (x : X) → result_unless_refused b fault next ≡ Ok x → (b ≡ false) × (next ≡ Ok x)
unrefused_result_is_accepted true fault next x is = absurd cc
unrefused_result_is_accepted false fault next x is = (refl, is)

-- What a rename that is made says of the names, and of the files to which it leads.
record IsRenameMade (k : Kind) (name fresh : List ℕ) (policy new : LoadedPolicy) : Type 0 where
  some : is_some (definition_place_of_name k name policy.walk.lines) ≡ true
  new_name : IsDefinableName fresh
  free : is_alias_name_in_use k fresh policy.walk.lines ≡ false
  leads : policy_of_files_or_refusal (named_files_after_rename k name fresh policy) ≡ Ok new

accepted_rename_has_its_conditions : (k : Kind) (name fresh : List ℕ) (policy new : LoadedPolicy) → policy_after_rename k name fresh policy ≡ Ok new → IsRenameMade k name fresh policy new
unfolding policy_after_rename
accepted_rename_has_its_conditions k name fresh policy new e =
    let lines : List Line = policy.walk.lines in
    let files : Result LoadedPolicy EditFault = policy_of_files_or_refusal (named_files_after_rename k name fresh policy) in
    let long : Result LoadedPolicy EditFault = result_unless_refused (list_any is_line_too_long (texts_of_renamed_lines k name fresh lines)) TooLarge files in
    let taken : Result LoadedPolicy EditFault = result_unless_refused (is_alias_name_in_use k fresh lines) NameTaken long in
    let bad : Result LoadedPolicy EditFault = result_unless_refused (not (is_name fresh) || is_reserved fresh) BadName taken in
    let a = unrefused_result_is_accepted (not (is_some (definition_place_of_name k name lines))) NoAlias bad new e in
    let b = unrefused_result_is_accepted (not (is_name fresh) || is_reserved fresh) BadName taken new a.1 in
    let c = unrefused_result_is_accepted (is_alias_name_in_use k fresh lines) NameTaken long new b.1 in
    let d = unrefused_result_is_accepted (list_any is_line_too_long (texts_of_renamed_lines k name fresh lines)) TooLarge files new c.1 in
    record {
      some = negation_false_implies_true (is_some (definition_place_of_name k name lines)) a.0;
      new_name = unrefused_name_is_name_and_not_reserved (is_name fresh) (is_reserved fresh) b.0;
      free = c.0;
      leads = d.1;
    }

accepted_outcome_is_load : (outcome : Result LoadedPolicy LoadFault) (new : LoadedPolicy) → policy_or_edit_fault outcome ≡ Ok new → outcome ≡ Ok new
accepted_outcome_is_load (Ok policy) new is = cc
accepted_outcome_is_load (Err fault) new is = absurd cc

rename_made_implies_can_rename : (k : Kind) (name fresh : List ℕ) (policy new : LoadedPolicy) → policy_or_load_fault (named_files_of_policy policy) ≡ Ok policy → IsRenameMade k name fresh policy new
    → CanRenameOnWalk k name fresh policy
rename_made_implies_can_rename k name fresh policy new loaded m = record { loaded = loaded; some = m.some; new = m.new_name; free = m.free }

-- one rename leads back
pub rename_made_is_undone_by_reverse_rename : TextSizeLawsBehindRenames → (k : Kind) (name fresh : List ℕ) (policy new : LoadedPolicy) → policy_or_load_fault (named_files_of_policy policy) ≡ Ok policy
    → policy_after_rename k name fresh policy ≡ Ok new → policy_after_rename k fresh name new ≡ Ok policy
rename_made_is_undone_by_reverse_rename l k name fresh policy new loaded is =
    let m : IsRenameMade k name fresh policy new = accepted_rename_has_its_conditions k name fresh policy new is in
    reverse_rename_leads_back l.base k name fresh policy new (rename_made_implies_can_rename k name fresh policy new loaded m)
    (ap policy_or_load_fault (rename_changes_make_renamed_files l.base k name fresh policy loaded) ∙ accepted_outcome_is_load (policy_or_load_fault (named_files_after_rename k name fresh policy)) new m.leads)

-- and it has led to the policy with the new name
pub rename_made_gives_renamed_policy : TextSizeLawsBehindRenames → (k : Kind) (name fresh : List ℕ) (policy new : LoadedPolicy) → policy_or_load_fault (named_files_of_policy policy) ≡ Ok policy
    → policy_after_rename k name fresh policy ≡ Ok new → IsPolicyAfterRename k name fresh policy new
rename_made_gives_renamed_policy l k name fresh policy new loaded is =
    by (rename_is_made_or_too_large l k name fresh policy (rename_made_implies_can_rename k name fresh policy new loaded (accepted_rename_has_its_conditions k name fresh policy new is)))
  where
    by : (policy_after_rename k name fresh policy ≡ Err TooLarge) ⊎ ((other : LoadedPolicy) × (policy_after_rename k name fresh policy ≡ Ok other) × IsPolicyAfterRename k name fresh policy other)
        → IsPolicyAfterRename k name fresh policy new
    by (inl large) = absurd (let same : Ok new ≡ Err TooLarge = sym is ∙ large in cc)
    by (inr leads) =
        let both : Ok leads.0 ≡ Ok new = sym leads.1 ∙ is in
        let same : leads.0 ≡ new = cc in
        subst (IsPolicyAfterRename k name fresh policy) same leads.2
