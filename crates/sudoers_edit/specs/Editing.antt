-- What an edit does to a policy of several files, and what takes it back.
use Rattle.std.specs.Prelude.{◌≡◌, ◌⊎◌, List, map, Result, Err, ℕ, ◌+◌, [], ◌∷◌, ◌++◌, slice_get, slice_index_or, reverse, Option, Some, Ok, unwrap_or, option_and_then, IsSomeAnd, IsOkAnd}
use Rattle.sudoers_edit_script.specs.declared.edit.Edit.{Edit}
use Rattle.sudoers_edit.specs.declared.fault.EditFault.{EditFault}
use Rattle.sudoers_edit.specs.declared.fault.EditFault.TheVariants.{NoMemory, NoFile, NoAlias}
use Rattle.sudoers_edit.specs.declared.editor.AppliedEditWithInverse.{AppliedEditWithInverse}
use Rattle.std.specs.Option.{option_map}
use Rattle.std.specs.Result.{result_ok, result_unwrap_or}
use Rattle.sudoers_grammar.specs.declared.node.Kind.{Kind}
use Rattle.sudoers_tree.specs.Line.{Line}
use Rattle.sudoers_tree.specs.Policy.{texts_of_lines}
use Rattle.sudoers_tree.specs.Files.{ParsedFile, lines_of_numbered_file}
use Rattle.sudoers_tree.specs.FilePlaces.{file_place_of_definition}
use Rattle.sudoers_tree.specs.Load.{LoadedPolicy}
use Rattle.sudoers_tree.specs.declared.place.DefinitionFilePlace.{DefinitionFilePlace}
use Rattle.sudoers_tree.specs.declared.place.Place.{Place}
use Rattle.sudoers_edit.specs.Landing.{result_or_refusal_if_none, LineTexts, edit_result_and_then, policy_with_file_lines}
use Rattle.sudoers_edit.specs.LineEdits.{lines_with_last_changed, line_with_lf_added, line_with_lf_removed, lines_after_insert, lines_after_delete, lines_after_move, changed_lines_unless_last_too_long}
use Rattle.sudoers_edit.specs.SpliceEdits.{text_owned_by_definition, lines_with_member_added, lines_with_member_dropped, lines_with_definition_added, lines_with_definition_dropped, text_owned_by_member}
use Rattle.sudoers_edit.specs.Renaming.{policy_after_rename}
use Rattle.sudoers_edit.specs.Pruning.{prune_removals_of_walk, edit_of_removal}
use Rattle.sudoers_edit_script.specs.declared.edit.Edit.TheVariants.{Insert, Delete, Move, AddMember, DropMember, AddDef, DropDef, Rename, EndLine, OpenEnd, Prune}
use Rattle.sudoers_edit.specs.declared.prune_removals.PruneRemoval.{PruneRemoval}
use Rattle.sudoers_edit.specs.declared.prune_removals.PruneRemoval.TheVariants as removal

abbrev pub edits_of_entries : List AppliedEditWithInverse → List Edit
edits_of_entries entries = map (λ (entry : AppliedEditWithInverse). entry.edit) entries

-- a fault that is told: the stated one, or want of memory
abbrev pub IsRefusalOrNoMemory : {X : Type 0} → EditFault → Result X EditFault → Type 0
IsRefusalOrNoMemory fault wanted = (fault ≡ NoMemory) ⊎ (wanted ≡ Err fault)

-- LINES OF ONE FILE

-- the policy with the lines that an edit makes of those of the file with this number
abbrev pub policy_with_file_edited : ℕ → LoadedPolicy → (List Line → Result LineTexts EditFault) → Result LoadedPolicy EditFault
policy_with_file_edited f policy edit = result_or_refusal_if_none (slice_get policy.files f) NoFile (λ (file : ParsedFile). edit_result_and_then (edit file.lines) (policy_with_file_lines policy f))

-- the place of a definition among the lines of its file
abbrev pub place_within_file_of_definition : DefinitionFilePlace → Place
place_within_file_of_definition at = record { line = at.line; def = at.def }

-- the policy with the lines that an edit makes of those of the file that defines an alias on the walk; the edit is given the place there
abbrev pub policy_with_file_defining_alias_edited : Kind → List ℕ → LoadedPolicy → (Place → List Line → Result LineTexts EditFault) → Result LoadedPolicy EditFault
policy_with_file_defining_alias_edited k name policy edit =
    result_or_refusal_if_none (file_place_of_definition k name policy.walk) NoAlias (λ (at : DefinitionFilePlace).
    edit_result_and_then (edit (place_within_file_of_definition at) (lines_of_numbered_file policy.files at.file)) (policy_with_file_lines policy at.file))

-- the line with this number of this file; no bytes if there is none
abbrev pub line_text_in_file : ℕ → ℕ → LoadedPolicy → List ℕ
line_text_in_file f n policy = slice_index_or (texts_of_lines (lines_of_numbered_file policy.files f)) n []

-- the bytes that go with a member of the list of an alias
abbrev pub text_owned_by_alias_member : Kind → List ℕ → ℕ → LoadedPolicy → List ℕ
text_owned_by_alias_member k name at policy =
    unwrap_or (option_map (λ (place : DefinitionFilePlace). text_owned_by_member (place_within_file_of_definition place) at (lines_of_numbered_file policy.files place.file))
    (file_place_of_definition k name policy.walk)) []

-- PRUNE

-- the policy after something is taken out
abbrev pub policy_after_removal : PruneRemoval → LoadedPolicy → Result LoadedPolicy EditFault
policy_after_removal (removal.Line f at) policy = policy_with_file_edited f policy (λ lines. lines_after_delete at (texts_of_lines lines))
policy_after_removal (removal.Def f line at) policy = policy_with_file_edited f policy (lines_with_definition_dropped line at)

-- the edit that puts it in again
abbrev pub edit_undoing_removal : PruneRemoval → LoadedPolicy → Edit
edit_undoing_removal (removal.Line f at) policy = Insert f at (line_text_in_file f at policy)
edit_undoing_removal (removal.Def f line at) policy = AddDef f line at (text_owned_by_definition line at (lines_of_numbered_file policy.files f))

-- the policy after one removal after another, or the first refusal
abbrev pub policy_after_removals : List PruneRemoval → LoadedPolicy → Result LoadedPolicy EditFault
policy_after_removals [] policy = Ok policy
policy_after_removals (one ∷ more) policy = edit_result_and_then (policy_after_removal one policy) (policy_after_removals more)

-- what puts all of them in again: each at the policy just before it was taken out, the last first
abbrev pub edits_undoing_removals : List PruneRemoval → LoadedPolicy → List Edit
edits_undoing_removals [] policy = []
edits_undoing_removals (one ∷ more) policy = edits_undoing_removals more (result_unwrap_or (policy_after_removal one policy) policy) ++ edit_undoing_removal one policy ∷ []

-- EDITS

-- the policy after an edit, or the first cause of its refusal
abbrev pub step : Edit → LoadedPolicy → Result LoadedPolicy EditFault
step (Insert f at text) policy = policy_with_file_edited f policy (λ lines. lines_after_insert at text (texts_of_lines lines))
step (Delete f at) policy = policy_with_file_edited f policy (λ lines. lines_after_delete at (texts_of_lines lines))
step (Move f from to) policy = policy_with_file_edited f policy (λ lines. lines_after_move from to (texts_of_lines lines))
step (AddMember kind name at splice) policy = policy_with_file_defining_alias_edited kind name policy (λ place. lines_with_member_added place at splice)
step (DropMember kind name at) policy = policy_with_file_defining_alias_edited kind name policy (λ place. lines_with_member_dropped place at)
step (AddDef f line at splice) policy = policy_with_file_edited f policy (lines_with_definition_added line at splice)
step (DropDef f line at) policy = policy_with_file_edited f policy (lines_with_definition_dropped line at)
step (Rename kind name fresh) policy = policy_after_rename kind name fresh policy
step (EndLine f) policy = policy_with_file_edited f policy (λ lines. changed_lines_unless_last_too_long (lines_with_last_changed line_with_lf_added (texts_of_lines lines)))
step (OpenEnd f) policy = policy_with_file_edited f policy (λ lines. changed_lines_unless_last_too_long (lines_with_last_changed line_with_lf_removed (texts_of_lines lines)))
step Prune policy = policy_after_removals (prune_removals_of_walk policy.walk) policy

-- the policy after an edit, or that before it where it is refused
abbrev pub policy_after_edit_if_accepted : Edit → LoadedPolicy → LoadedPolicy
policy_after_edit_if_accepted edit policy = result_unwrap_or (step edit policy) policy

-- the edits that take an edit back
abbrev pub inv : Edit → LoadedPolicy → List Edit
inv (Insert f at text) policy = Delete f at ∷ []
inv (Delete f at) policy = Insert f at (line_text_in_file f at policy) ∷ []
inv (Move f from to) policy = Move f to from ∷ []
inv (AddMember kind name at splice) policy = DropMember kind name at ∷ []
inv (DropMember kind name at) policy = AddMember kind name at (text_owned_by_alias_member kind name at policy) ∷ []
inv (AddDef f line at splice) policy = DropDef f line at ∷ []
inv (DropDef f line at) policy = AddDef f line at (text_owned_by_definition line at (lines_of_numbered_file policy.files f)) ∷ []
inv (Rename kind name fresh) policy = Rename kind fresh name ∷ []
inv (EndLine f) policy = OpenEnd f ∷ []
inv (OpenEnd f) policy = EndLine f ∷ []
inv Prune policy = edits_undoing_removals (prune_removals_of_walk policy.walk) policy

-- the policy after all edits, where none is refused
abbrev pub run : List Edit → LoadedPolicy → Option LoadedPolicy
run [] policy = Some policy
run (edit ∷ edits) policy = option_and_then (run edits) (result_ok (step edit policy))

-- what follows a step, or its refusal with its place
abbrev pub next_or_placed_refusal : (LoadedPolicy → Result LoadedPolicy (ℕ × EditFault)) → ℕ → Result LoadedPolicy EditFault → Result LoadedPolicy (ℕ × EditFault)
next_or_placed_refusal next place (Ok policy) = next policy
next_or_placed_refusal next place (Err fault) = Err (place, fault)

-- the policy after all edits, or the place of the first refused one, where the places count on from this one, and the cause
abbrev pub policy_or_first_refusal : ℕ → List Edit → LoadedPolicy → Result LoadedPolicy (ℕ × EditFault)
policy_or_first_refusal place [] policy = Ok policy
policy_or_first_refusal place (edit ∷ edits) policy = next_or_placed_refusal (policy_or_first_refusal (place + 1) edits) place (step edit policy)

-- each edit's inverse at the policy just before it, the last edit's first
abbrev pub inv_run : List Edit → LoadedPolicy → List Edit
inv_run [] policy = []
inv_run (edit ∷ edits) policy = inv_run edits (policy_after_edit_if_accepted edit policy) ++ inv edit policy

-- the edits of which Prune is made, in its order
abbrev pub edits_of_prune : LoadedPolicy → List Edit
edits_of_prune policy = map edit_of_removal (prune_removals_of_walk policy.walk)

-- the outcome of a run, but for the place of a refusal
abbrev pub run_result_without_place : Result LoadedPolicy (ℕ × EditFault) → Result LoadedPolicy EditFault
run_result_without_place (Ok policy) = Ok policy
run_result_without_place (Err refused) = Err refused.1

-- THE EDITOR

-- The entries, the newest first, are undone in turn from the present policy on: each inverse is defined there, and leads to the policy
-- just before its edit, at which it is the edit's inverse.
abbrev pub IsUndoableJournal : List AppliedEditWithInverse → LoadedPolicy → Type 0
IsUndoableJournal [] now = Unit {0}
IsUndoableJournal (entry ∷ entries) now =
    IsSomeAnd (run entry.inverse now) (λ before.
    (step entry.edit before ≡ Ok now) × (entry.inverse ≡ inv entry.edit before) × IsUndoableJournal entries before)

-- the policy before the first of the entries, the newest first
abbrev pub policy_before_entries : List AppliedEditWithInverse → LoadedPolicy → LoadedPolicy
policy_before_entries [] now = now
policy_before_entries (entry ∷ entries) now = policy_before_entries entries (unwrap_or (run entry.inverse now) now)

-- The undone edits, the last undone first, are defined in turn from the present policy on.
abbrev pub AreRedoableEdits : List Edit → LoadedPolicy → Type 0
AreRedoableEdits [] now = Unit {0}
AreRedoableEdits (edit ∷ edits) now = IsOkAnd (step edit now) (AreRedoableEdits edits)

-- an editor: its policy, the entries of its journal, the oldest first, and the edits that were undone, the last undone first
pub record EditorState : Type 0 where
  pub policy : LoadedPolicy
  pub journal : List AppliedEditWithInverse
  pub undone : List Edit

-- the policy that the editor began with
abbrev pub initial_policy_of_editor : EditorState → LoadedPolicy
initial_policy_of_editor desk = policy_before_entries (reverse desk.journal) desk.policy

-- the run stops at this place for this cause, or memory ran out
abbrev pub StopsRunAt : ℕ → EditFault → List Edit → LoadedPolicy → Type 0
StopsRunAt place fault edits policy = (fault ≡ NoMemory) ⊎ (policy_or_first_refusal 0 edits policy ≡ Err (place, fault))
