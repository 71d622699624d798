-- An edit that is not refused leaves the lines of the files that it does not change.
use Rattle.std.proofs.Common.{◌≡◌, ◌∙◌, ℕ, zero, suc, Bool, true, false, List, [], ◌∷◌, length, map, slice_get, Option, Some, None, Result, Ok, refl, sym, ap, arith}
use Rattle.std.proofs.lemmas.Bool.{false_from_ne_true}
use Rattle.std.specs.Option.{option_map}
use Rattle.sudoers_text.specs.Cut.{cut_outcome_of_text}
use Rattle.sudoers_text.specs.Line.{join}
use Rattle.sudoers_text.specs.declared.fault.TextFault.{TextFault}
use Rattle.sudoers_grammar.specs.declared.node.Kind.{Kind}
use Rattle.sudoers_tree.proofs.Known.{loaded_policy_keeps_names_and_bytes, loaded_walk_lines_are_at_their_spots}
use Rattle.sudoers_tree.specs.FilePlaces.{file_place_of_definition}
use Rattle.sudoers_tree.specs.Files.{ParsedFile, lines_of_numbered_file, lines_of_optional_file}
use Rattle.sudoers_tree.specs.Line.{Line}
use Rattle.sudoers_tree.specs.Load.{LoadedPolicy, named_file_of_parsed, named_files_of_policy, policy_or_load_fault}
use Rattle.sudoers_tree.specs.Policy.{texts_of_lines}
use Rattle.sudoers_tree.specs.Walk.{is_file_on_walk}
use Rattle.sudoers_tree.specs.declared.named_files.NamedFile.{NamedFile}
use Rattle.sudoers_tree.specs.declared.place.DefinitionFilePlace.{DefinitionFilePlace}
use Rattle.sudoers_tree.specs.declared.place.Place.{Place}
use Rattle.sudoers_edit_script.specs.declared.edit.Edit.{Edit}
use Rattle.sudoers_edit_script.specs.declared.edit.Edit.TheVariants.{Insert, Delete, Move, AddMember, DropMember, AddDef, DropDef, Rename, EndLine, OpenEnd, Prune}
use Rattle.sudoers_edit.proofs.AcceptedLines.{accepted_file_edit_has_file_lines, accepted_file_lines_are_ended_and_load, accepted_sequence_has_both_results}
use Rattle.sudoers_edit.proofs.AcceptedSplices.{accepted_alias_edit_has_lines}
use Rattle.sudoers_edit.proofs.FilesBelow.{loaded_file_lines_are_correctly_parsed, loaded_lines_are_cut_of_their_text, loaded_walk_is_walk_of_files, parsed_lines_of_equal_texts_are_equal}
use Rattle.sudoers_edit.proofs.PruneFalls.{prune_removals_of_walk_are_allowed}
use Rattle.sudoers_edit.proofs.RenameReadings.{parsed_file_not_on_walk_is_kept}
use Rattle.sudoers_edit.specs.Editing.{policy_after_removal, policy_after_removals, policy_with_file_defining_alias_edited, policy_with_file_edited, step}
use Rattle.sudoers_edit.specs.Landing.{LineTexts, files_with_bytes_replaced, policy_with_file_lines}
use Rattle.sudoers_edit.specs.LineEdits.{changed_lines_unless_last_too_long, line_with_lf_added, line_with_lf_removed, lines_after_delete, lines_after_insert, lines_after_move, lines_with_last_changed}
use Rattle.sudoers_edit.specs.Pruning.{prune_removals_of_walk}
use Rattle.sudoers_edit.specs.Renamed.{IsPolicyAfterRename}
use Rattle.sudoers_edit.specs.SpliceEdits.{lines_with_definition_added, lines_with_definition_dropped, lines_with_member_added, lines_with_member_dropped}
use Rattle.sudoers_edit.specs.declared.fault.EditFault.{EditFault}
use Rattle.sudoers_edit.specs.declared.prune_removals.PruneRemoval.{PruneRemoval}
use Rattle.sudoers_edit.specs.declared.prune_removals.PruneRemoval.TheVariants as removal
use Rattle.sudoers_edit.specs.internal.Drafts.{AreRemovalsBelowLimitsInTurn, IsRemovalBelowLimitsOnAliasLine, is_line_cut_by_removal, removal_limits_after}
use Rattle.laws_edit.specs.MayChange.{MayChangeFile}

-- ---- other bytes of one file

abbrev bytes_of_optional_file : Option NamedFile → List ℕ
bytes_of_optional_file None = []
bytes_of_optional_file (Some file) = file.bytes

numbered_file_has_bytes_of_its_lines : (files : List ParsedFile) (g : ℕ)
    → bytes_of_optional_file (slice_get (map named_file_of_parsed files) g) ≡ join (texts_of_lines (lines_of_numbered_file files g))
numbered_file_has_bytes_of_its_lines [] g = refl
numbered_file_has_bytes_of_its_lines (file ∷ files) zero = refl
numbered_file_has_bytes_of_its_lines (file ∷ files) (suc g) = numbered_file_has_bytes_of_its_lines files g

replaced_bytes_keep_other_file : (f g : ℕ) (bytes : List ℕ) (files : List NamedFile) → (g ≡ f → ⊥)
    → slice_get (files_with_bytes_replaced f bytes files) g ≡ slice_get files g
replaced_bytes_keep_other_file f g bytes [] other = refl
replaced_bytes_keep_other_file zero zero bytes (file ∷ files) other = absurd (other refl)
replaced_bytes_keep_other_file zero (suc g) bytes (file ∷ files) other = refl
replaced_bytes_keep_other_file (suc f) zero bytes (file ∷ files) other = refl
replaced_bytes_keep_other_file (suc f) (suc g) bytes (file ∷ files) other =
    replaced_bytes_keep_other_file f g bytes files (λ same. other (ap suc same))

-- ---- edits of one file

-- The new policy is loaded, and each file but this one has the lines that it had.
pub record KeepsOtherFiles (f : ℕ) (policy new : LoadedPolicy) : Type 0 where
  pub loaded : policy_or_load_fault (named_files_of_policy new) ≡ Ok new
  pub there : (g : ℕ) → (g ≡ f → ⊥) → lines_of_numbered_file new.files g ≡ lines_of_numbered_file policy.files g

pub accepted_file_lines_keep_other_files : (policy new : LoadedPolicy) (f : ℕ) (lines : LineTexts)
    → policy_or_load_fault (named_files_of_policy policy) ≡ Ok policy → policy_with_file_lines policy f lines ≡ Ok new
    → KeepsOtherFiles f policy new
accepted_file_lines_keep_other_files policy new f lines loaded lands = record { loaded = now; there = there }
  where
    files : List NamedFile
    files = files_with_bytes_replaced f (join lines) (named_files_of_policy policy)

    told : policy_or_load_fault files ≡ Ok new
    told = (accepted_file_lines_are_ended_and_load policy new f lines lands).1

    bytes : named_files_of_policy new ≡ files
    bytes = loaded_policy_keeps_names_and_bytes files new told

    now : policy_or_load_fault (named_files_of_policy new) ≡ Ok new
    now = ap policy_or_load_fault bytes ∙ told

    text : (g : ℕ) → (g ≡ f → ⊥)
        → join (texts_of_lines (lines_of_numbered_file new.files g)) ≡ join (texts_of_lines (lines_of_numbered_file policy.files g))
    text g other =
        sym (numbered_file_has_bytes_of_its_lines new.files g) ∙ ap (λ (named : List NamedFile). bytes_of_optional_file (slice_get named g)) bytes
        ∙ ap bytes_of_optional_file (replaced_bytes_keep_other_file f g (join lines) (named_files_of_policy policy) other)
        ∙ numbered_file_has_bytes_of_its_lines policy.files g

    one_cut : (a b : LineTexts) → (let r : Result LineTexts TextFault = Ok a in r) ≡ Ok b → a ≡ b
    one_cut a b is = cc

    there : (g : ℕ) → (g ≡ f → ⊥) → lines_of_numbered_file new.files g ≡ lines_of_numbered_file policy.files g
    there g other =
        parsed_lines_of_equal_texts_are_equal (lines_of_numbered_file new.files g) (lines_of_numbered_file policy.files g)
        (loaded_file_lines_are_correctly_parsed (named_files_of_policy new) new now g)
        (loaded_file_lines_are_correctly_parsed (named_files_of_policy policy) policy loaded g)
        (one_cut (texts_of_lines (lines_of_numbered_file new.files g)) (texts_of_lines (lines_of_numbered_file policy.files g))
        (sym (loaded_lines_are_cut_of_their_text (named_files_of_policy new) new now g) ∙ ap cut_outcome_of_text (text g other)
        ∙ loaded_lines_are_cut_of_their_text (named_files_of_policy policy) policy loaded g))

accepted_file_edit_keeps_other_files : (f : ℕ) (policy new : LoadedPolicy) (edit : List Line → Result LineTexts EditFault)
    → policy_or_load_fault (named_files_of_policy policy) ≡ Ok policy
    → policy_with_file_edited f policy edit ≡ Ok new → KeepsOtherFiles f policy new
accepted_file_edit_keeps_other_files f policy new edit loaded is =
    let i = accepted_file_edit_has_file_lines f policy new edit is in
    accepted_file_lines_keep_other_files policy new f i.lines loaded i.lands

accepted_alias_edit_keeps_other_files : (kind : Kind) (name : List ℕ) (policy new : LoadedPolicy)
    (edit : Place → List Line → Result LineTexts EditFault)
    → policy_or_load_fault (named_files_of_policy policy) ≡ Ok policy → policy_with_file_defining_alias_edited kind name policy edit ≡ Ok new
    → (g : ℕ) → (option_map (λ (at : DefinitionFilePlace). at.file) (file_place_of_definition kind name policy.walk) ≡ Some g → ⊥)
    → lines_of_numbered_file new.files g ≡ lines_of_numbered_file policy.files g
accepted_alias_edit_keeps_other_files kind name policy new edit loaded is g other =
    let i = accepted_alias_edit_has_lines kind name policy new edit is in
    (accepted_file_lines_keep_other_files policy new i.place.file i.lines loaded i.lands).there g
    (λ same. other (ap (option_map (λ (at : DefinitionFilePlace). at.file)) i.named
    ∙ ap (λ (n : ℕ). let o : Option ℕ = Some n in o) (sym same)))

-- ---- a prune

abbrev file_of_removal : PruneRemoval → ℕ
file_of_removal (removal.Line f at) = f
file_of_removal (removal.Def f line at) = f

accepted_removal_keeps_other_files : (one : PruneRemoval) (now next : LoadedPolicy) → policy_or_load_fault (named_files_of_policy now) ≡ Ok now
    → policy_after_removal one now ≡ Ok next → KeepsOtherFiles (file_of_removal one) now next
accepted_removal_keeps_other_files (removal.Line f at) now next =
    accepted_file_edit_keeps_other_files f now next (λ lines. lines_after_delete at (texts_of_lines lines))
accepted_removal_keeps_other_files (removal.Def f line at) now next =
    accepted_file_edit_keeps_other_files f now next (lines_with_definition_dropped line at)

allowed_removal_is_of_file_on_walk : (policy : LoadedPolicy) (one : PruneRemoval) (below : ℕ → ℕ) (cut : ℕ → ℕ → Bool)
    → IsRemovalBelowLimitsOnAliasLine policy one below cut → is_file_on_walk policy.walk (file_of_removal one) ≡ true
allowed_removal_is_of_file_on_walk policy (removal.Line f at) below cut allowed = allowed.1.on
allowed_removal_is_of_file_on_walk policy (removal.Def f line at) below cut allowed = allowed.1.on

accepted_removals_keep_file_off_walk : (policy : LoadedPolicy) (g : ℕ) → (is_file_on_walk policy.walk g ≡ true → ⊥)
    → (below : ℕ → ℕ) (cut : ℕ → ℕ → Bool) (all : List PruneRemoval)
    → AreRemovalsBelowLimitsInTurn policy below cut all → (now new : LoadedPolicy) → policy_or_load_fault (named_files_of_policy now) ≡ Ok now
    → policy_after_removals all now ≡ Ok new → lines_of_numbered_file new.files g ≡ lines_of_numbered_file now.files g
accepted_removals_keep_file_off_walk policy g off below cut [] allowed now new loaded is =
    let same : now ≡ new = cc in
    ap (λ (p : LoadedPolicy). lines_of_numbered_file p.files g) (sym same)
accepted_removals_keep_file_off_walk policy g off below cut (one ∷ all) allowed now new loaded is =
    let first = accepted_sequence_has_both_results (policy_after_removal one now) (policy_after_removals all) new is in
    let keeps : KeepsOtherFiles (file_of_removal one) now first.0 = accepted_removal_keeps_other_files one now first.0 loaded first.1 in
    let other : g ≡ file_of_removal one → ⊥ =
    λ same. off (ap (is_file_on_walk policy.walk) same ∙ allowed_removal_is_of_file_on_walk policy one below cut allowed.0) in
    accepted_removals_keep_file_off_walk policy g off (removal_limits_after one below) (is_line_cut_by_removal one) all allowed.1 first.0 new
    keeps.loaded first.2 ∙ keeps.there g other

pub removals_of_loaded_policy_are_allowed : (policy : LoadedPolicy) → policy_or_load_fault (named_files_of_policy policy) ≡ Ok policy
    → AreRemovalsBelowLimitsInTurn policy (λ f. length (lines_of_numbered_file policy.files f)) (λ f n. false)
    (prune_removals_of_walk policy.walk)
removals_of_loaded_policy_are_allowed policy loaded =
    prune_removals_of_walk_are_allowed policy (loaded_walk_lines_are_at_their_spots (named_files_of_policy policy) policy loaded)
    (loaded_walk_is_walk_of_files (named_files_of_policy policy) policy loaded)

accepted_prune_keeps_file_off_walk : (policy new : LoadedPolicy) (g : ℕ) → policy_or_load_fault (named_files_of_policy policy) ≡ Ok policy
    → step Prune policy ≡ Ok new → (is_file_on_walk policy.walk g ≡ true → ⊥)
    → lines_of_numbered_file new.files g ≡ lines_of_numbered_file policy.files g
accepted_prune_keeps_file_off_walk policy new g loaded is off =
    accepted_removals_keep_file_off_walk policy g off (λ f. length (lines_of_numbered_file policy.files f)) (λ f n. false)
    (prune_removals_of_walk policy.walk) (removals_of_loaded_policy_are_allowed policy loaded) policy new loaded is

-- ---- a rename

renamed_policy_keeps_file_off_walk : (kind : Kind) (name fresh : List ℕ) (policy new : LoadedPolicy) (g : ℕ)
    → IsPolicyAfterRename kind name fresh policy new → (is_file_on_walk policy.walk g ≡ true → ⊥)
    → lines_of_numbered_file new.files g ≡ lines_of_numbered_file policy.files g
renamed_policy_keeps_file_off_walk kind name fresh policy new g renamed off =
    ap (λ (files : List ParsedFile). lines_of_numbered_file files g) renamed.files
    ∙ ap lines_of_optional_file (parsed_file_not_on_walk_is_kept g g 0 kind name fresh policy.walk policy.files (omega arith)
    (false_from_ne_true (is_file_on_walk policy.walk g) off))

-- ---- edits

-- what the law of renames says
abbrev AcceptedRenameMakesRenamedPolicy : Type 0
AcceptedRenameMakesRenamedPolicy =
    (kind : Kind) (name fresh : List ℕ) (policy new : LoadedPolicy) → policy_or_load_fault (named_files_of_policy policy) ≡ Ok policy
    → step (Rename kind name fresh) policy ≡ Ok new → IsPolicyAfterRename kind name fresh policy new

pub accepted_edit_keeps_other_files : AcceptedRenameMakesRenamedPolicy → (edit : Edit) (policy new : LoadedPolicy) (f : ℕ)
    → policy_or_load_fault (named_files_of_policy policy) ≡ Ok policy → step edit policy ≡ Ok new
    → (MayChangeFile edit policy f → ⊥) → lines_of_numbered_file new.files f ≡ lines_of_numbered_file policy.files f
accepted_edit_keeps_other_files law (Insert g at text) policy new f loaded is other =
    (accepted_file_edit_keeps_other_files g policy new (λ lines. lines_after_insert at text (texts_of_lines lines)) loaded is).there f other
accepted_edit_keeps_other_files law (Delete g at) policy new f loaded is other =
    (accepted_file_edit_keeps_other_files g policy new (λ lines. lines_after_delete at (texts_of_lines lines)) loaded is).there f other
accepted_edit_keeps_other_files law (Move g from to) policy new f loaded is other =
    (accepted_file_edit_keeps_other_files g policy new (λ lines. lines_after_move from to (texts_of_lines lines)) loaded is).there f other
accepted_edit_keeps_other_files law (AddMember kind name at splice) policy new f loaded is other =
    accepted_alias_edit_keeps_other_files kind name policy new (λ place. lines_with_member_added place at splice) loaded is f other
accepted_edit_keeps_other_files law (DropMember kind name at) policy new f loaded is other =
    accepted_alias_edit_keeps_other_files kind name policy new (λ place. lines_with_member_dropped place at) loaded is f other
accepted_edit_keeps_other_files law (AddDef g line at splice) policy new f loaded is other =
    (accepted_file_edit_keeps_other_files g policy new (lines_with_definition_added line at splice) loaded is).there f other
accepted_edit_keeps_other_files law (DropDef g line at) policy new f loaded is other =
    (accepted_file_edit_keeps_other_files g policy new (lines_with_definition_dropped line at) loaded is).there f other
accepted_edit_keeps_other_files law (Rename kind name fresh) policy new f loaded is other =
    renamed_policy_keeps_file_off_walk kind name fresh policy new f (law kind name fresh policy new loaded is) other
accepted_edit_keeps_other_files law (EndLine g) policy new f loaded is other =
    (accepted_file_edit_keeps_other_files g policy new
    (λ lines. changed_lines_unless_last_too_long (lines_with_last_changed line_with_lf_added (texts_of_lines lines))) loaded is).there f other
accepted_edit_keeps_other_files law (OpenEnd g) policy new f loaded is other =
    (accepted_file_edit_keeps_other_files g policy new
    (λ lines. changed_lines_unless_last_too_long (lines_with_last_changed line_with_lf_removed (texts_of_lines lines))) loaded is).there f other
accepted_edit_keeps_other_files law Prune policy new f loaded is other = accepted_prune_keeps_file_off_walk policy new f loaded is other
