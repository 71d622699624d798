-- A device of the proof, which no public contract cites: a policy of several files of which lines and definitions are taken out, from the
-- last line of the walk to the first.
use Rattle.std.specs.List.{AllByRecursion}
use Rattle.std.specs.Prelude.{◌≡◌, ◌≤◌, ◌<◌, ◌⊎◌, ℕ, Bool, true, false, ◌&&◌, ◌==◌, if◌then◌else◌, List, [], ◌∷◌, ◌++◌, length, remove, slice_get, Option, Some, None, Result, Ok, Err}
use Rattle.sudoers_text.specs.Whole.{IsLogicalLine}
use Rattle.sudoers_grammar.specs.Node.{Def}
use Rattle.sudoers_grammar.specs.Node as node
use Rattle.sudoers_grammar.specs.declared.node.Kind.{Kind}
use Rattle.sudoers_tree.specs.Changed.{AreChangesInOrder, texts_of_changes, lines_after_changes, file_number_of_change, lines_with_one_replaced}
use Rattle.sudoers_tree.specs.ChangedFiles.{AreFileNumbersOfChangesInOrder, changes_of_file}
use Rattle.sudoers_tree.specs.declared.line_change.LineChange.{LineChange}
use Rattle.sudoers_tree.specs.declared.line_change.LineChange.TheVariants.{Put, Swap, Take}
use Rattle.sudoers_tree.specs.Files.{lines_of_numbered_file}
use Rattle.sudoers_tree.specs.Line.{Line}
use Rattle.sudoers_tree.specs.Load.{LoadedPolicy, named_files_of_policy, policy_or_load_fault}
use Rattle.sudoers_tree.specs.Mapped.{file_names}
use Rattle.sudoers_tree.specs.Policy.{texts_of_lines}
use Rattle.sudoers_tree.specs.Walk.{is_file_on_walk}
use Rattle.sudoers_edit_script.specs.declared.edit.Edit.{Edit}
use Rattle.sudoers_edit_script.specs.declared.edit.Edit.TheVariants.{AddDef, Delete, DropDef, Insert}
use Rattle.sudoers_edit.specs.declared.extra_item.ItemListKind.TheVariants as among
use Rattle.sudoers_edit.specs.Splice.{extents_of_definitions, owned_bytes_stop, owned_bytes_start, bytes_between}
use Rattle.sudoers_edit.specs.declared.fault.EditFault.{EditFault}
use Rattle.sudoers_edit.specs.declared.prune_removals.PruneRemoval.{PruneRemoval}
use Rattle.sudoers_edit.specs.declared.prune_removals.PruneRemoval.TheVariants as removal
use Rattle.sudoers_edit.specs.Editing.{IsRefusalOrNoMemory, line_text_in_file, edits_undoing_removals, policy_after_removals, run, step}
use Rattle.sudoers_edit.specs.Pruning.{edit_of_removal}
use Rattle.sudoers_edit.specs.SpliceEdits.{lines_with_definition_dropped, replaced_lines_unless_too_long}
use Rattle.sudoers_edit.specs.internal.Made.{IsEditMade}
use Rattle.sudoers_edit.specs.internal.OneMore.{IsLineTextWithItemCutOut}

-- The new policy is the old one with these lines of the file f.
pub record DiffersOnlyInFileLines (f : ℕ) (lines : List (List ℕ)) (old new : LoadedPolicy) : Type 0 where
  pub loaded : policy_or_load_fault (named_files_of_policy new) ≡ Ok new
  pub names : file_names new.files ≡ file_names old.files
  pub here : texts_of_lines (lines_of_numbered_file new.files f) ≡ lines
  pub there : (e : ℕ) → (e ≡ f → ⊥) → lines_of_numbered_file new.files e ≡ lines_of_numbered_file old.files e
  pub on : new.walk.on ≡ old.walk.on

-- The line of this number of the file f goes. What is left is a policy, and one edit puts the line in again.
pub record CanRemoveLine (f n : ℕ) (policy : LoadedPolicy) : Type 0 where
  pub next : LoadedPolicy
  pub left : DiffersOnlyInFileLines f (remove (texts_of_lines (lines_of_numbered_file policy.files f)) n) policy next
  pub made : IsEditMade (Delete f n) (Insert f n (line_text_in_file f n policy) ∷ []) policy next

-- The line of this number, which has several definitions, is this text without the one at a place, which owns these bytes.
pub record IsDefinitionCut (n at : ℕ) (lines : List Line) (line : Line) (text splice : List ℕ) : Type 0 where
  pub kind : Kind
  pub defs : List Def
  pub makes : line.node ≡ node.Alias kind defs
  pub inside : at < length defs
  pub many : 2 ≤ length defs
  pub from : ℕ
  pub to : ℕ
  pub begins : owned_bytes_start at (extents_of_definitions defs) ≡ Some from
  pub stops : owned_bytes_stop at (extents_of_definitions defs) ≡ Some to
  pub cut : IsLineTextWithItemCutOut among.Definitions at from to line text
  pub owned : splice ≡ bytes_between from to line.text
  pub forth : lines_with_definition_dropped n at lines ≡ replaced_lines_unless_too_long n text (texts_of_lines lines)

-- what comes of cutting a definition out: the text and the splice, or the refusal
abbrev pub IsDefinitionCutOutcome : ℕ → ℕ → List Line → Line → Result (List ℕ × List ℕ) EditFault → Type 0
IsDefinitionCutOutcome n at lines line (Ok cut) = IsDefinitionCut n at lines line cut.0 cut.1
IsDefinitionCutOutcome n at lines line (Err fault) = IsRefusalOrNoMemory fault (lines_with_definition_dropped n at lines)

-- The definition at this place of this line of the file f goes. What is left is a policy, and one edit puts the definition in again.
pub record CanRemoveDefinition (f n at : ℕ) (policy : LoadedPolicy) (text splice : List ℕ) : Type 0 where
  pub next : LoadedPolicy
  pub left : DiffersOnlyInFileLines f (lines_with_one_replaced n text (texts_of_lines (lines_of_numbered_file policy.files f))) policy next
  pub whole : IsLogicalLine text
  pub made : IsEditMade (DropDef f n at) (AddDef f n at splice ∷ []) policy next

-- ---- the changes so far

-- A line of definitions of a file on the walk.
pub record IsAliasLineOnWalk (policy : LoadedPolicy) (f n : ℕ) : Type 0 where
  pub on : is_file_on_walk policy.walk f ≡ true
  pub line : Line
  pub here : slice_get (lines_of_numbered_file policy.files f) n ≡ Some line
  pub kind : Kind
  pub defs : List Def
  pub makes : line.node ≡ node.Alias kind defs

-- The changes of the policy make the files of this policy.
pub record IsResultOfChanges (policy : LoadedPolicy) (changes : List LineChange) (now : LoadedPolicy) : Type 0 where
  pub loaded : policy_or_load_fault (named_files_of_policy now) ≡ Ok now
  pub names : file_names now.files ≡ file_names policy.files
  pub made : (f : ℕ) → texts_of_lines (lines_of_numbered_file now.files f) ≡ lines_after_changes (changes_of_file f changes) (texts_of_lines (lines_of_numbered_file policy.files f))
  pub on : now.walk.on ≡ policy.walk.on
  pub inside : AllByRecursion (λ (change : LineChange). file_number_of_change change < length policy.files) changes
  pub whole : AllByRecursion IsLogicalLine (texts_of_changes changes)

-- The first change replaces this line of this file.
abbrev pub BeginsWithReplacementOfLine : ℕ → ℕ → List LineChange → Type 0
BeginsWithReplacementOfLine f n [] = ⊥
BeginsWithReplacementOfLine f n (Put file at text ∷ changes) = ⊥
BeginsWithReplacementOfLine f n (Swap file at text ∷ changes) = (file ≡ f) × (at ≡ n)
BeginsWithReplacementOfLine f n (Take file at ∷ changes) = ⊥

-- the text that replaces this line, if the first change does that
abbrev pub replacement_text_by_first_change : ℕ → ℕ → List LineChange → Option (List ℕ)
replacement_text_by_first_change f n [] = None
replacement_text_by_first_change f n (Put file at text ∷ changes) = None
replacement_text_by_first_change f n (Swap file at text ∷ changes) = if (file == f) && (at == n) then Some text else None
replacement_text_by_first_change f n (Take file at ∷ changes) = None

-- the changes without the first, if that replaces this line
abbrev pub changes_without_first_if_it_replaces_line : ℕ → ℕ → List LineChange → List LineChange
changes_without_first_if_it_replaces_line f n [] = []
changes_without_first_if_it_replaces_line f n (Put file at text ∷ changes) = Put file at text ∷ changes
changes_without_first_if_it_replaces_line f n (Swap file at text ∷ changes) = if (file == f) && (at == n) then changes else Swap file at text ∷ changes
changes_without_first_if_it_replaces_line f n (Take file at ∷ changes) = Take file at ∷ changes

-- No line below these numbers, one for each file, is changed. The first change replaces the line that is cut.
pub record LeavesLinesBelowLimitsUnchanged (policy : LoadedPolicy) (below : ℕ → ℕ) (cut : ℕ → ℕ → Bool) (changes : List LineChange) : Type 0 where
  pub order : (f : ℕ) → AreChangesInOrder (below f) (changes_of_file f changes) (length (lines_of_numbered_file policy.files f))
  pub last : (f n : ℕ) → cut f n ≡ true → BeginsWithReplacementOfLine f n changes

-- ---- one removal after another

-- A line below its number may go; a definition of such a line, or of the line that is cut.
abbrev pub IsRemovalBelowLimitsOnAliasLine : LoadedPolicy → PruneRemoval → (ℕ → ℕ) → (ℕ → ℕ → Bool) → Type 0
IsRemovalBelowLimitsOnAliasLine policy (removal.Line f at) below cut = (at < below f) × IsAliasLineOnWalk policy f at
IsRemovalBelowLimitsOnAliasLine policy (removal.Def f line at) below cut = ((line < below f) ⊎ (cut f line ≡ true)) × IsAliasLineOnWalk policy f line

abbrev pub limits_with_limit_of_file_set : ℕ → ℕ → (ℕ → ℕ) → ℕ → ℕ
limits_with_limit_of_file_set f n below e = if e == f then n else below e

-- below which lines may go after a removal, and which line is cut then
abbrev pub removal_limits_after : PruneRemoval → (ℕ → ℕ) → ℕ → ℕ
removal_limits_after (removal.Line f at) below = limits_with_limit_of_file_set f at below
removal_limits_after (removal.Def f line at) below = limits_with_limit_of_file_set f line below

abbrev pub is_line_cut_by_removal : PruneRemoval → ℕ → ℕ → Bool
is_line_cut_by_removal (removal.Line f at) e m = false
is_line_cut_by_removal (removal.Def f line at) e m = (e == f) && (m == line)

-- Each of them may go after those before it.
abbrev pub AreRemovalsBelowLimitsInTurn : LoadedPolicy → (ℕ → ℕ) → (ℕ → ℕ → Bool) → List PruneRemoval → Type 0
AreRemovalsBelowLimitsInTurn policy below cut [] = Unit {0}
AreRemovalsBelowLimitsInTurn policy below cut (one ∷ more) = IsRemovalBelowLimitsOnAliasLine policy one below cut × AreRemovalsBelowLimitsInTurn policy (removal_limits_after one below) (is_line_cut_by_removal one) more

-- The removal is made: the changes now lead to the policy to which its edit leads, and one edit leads back.
pub record IsRemovalMade (policy : LoadedPolicy) (one : PruneRemoval) (below : ℕ → ℕ) (now : LoadedPolicy) (changes : List LineChange) (back : Edit) : Type 0 where
  pub next : LoadedPolicy
  pub draft : IsResultOfChanges policy changes next
  pub ready : LeavesLinesBelowLimitsUnchanged policy (removal_limits_after one below) (is_line_cut_by_removal one) changes
  pub made : IsEditMade (edit_of_removal one) (back ∷ []) now next

-- what comes of a removal: the edit that takes it back, or its refusal
abbrev pub IsRemovalOutcome : LoadedPolicy → PruneRemoval → (ℕ → ℕ) → LoadedPolicy → List LineChange → Result Edit EditFault → Type 0
IsRemovalOutcome policy one below now changes (Ok back) = IsRemovalMade policy one below now changes back
IsRemovalOutcome policy one below now changes (Err fault) = IsRefusalOrNoMemory fault (step (edit_of_removal one) now)

-- Of all these removals those that are left have still to be made. What the changes make so far is a policy, and the inverse edits lead back
-- from it to the policy before.
pub record IsPartialPrune (policy : LoadedPolicy) (left all : List PruneRemoval) (changes : List LineChange) (inverse : List Edit) : Type 0 where
  pub now : LoadedPolicy
  pub below : ℕ → ℕ
  pub cut : ℕ → ℕ → Bool
  pub draft : IsResultOfChanges policy changes now
  pub ready : LeavesLinesBelowLimitsUnchanged policy below cut changes
  pub falls : AreRemovalsBelowLimitsInTurn policy below cut left
  pub forth : policy_after_removals left now ≡ policy_after_removals all policy
  pub back : edits_undoing_removals left now ++ inverse ≡ edits_undoing_removals all policy
  pub again : run inverse now ≡ Some policy

-- ---- the changes file by file

-- These are the changes, file by file: those of each file are the same.
pub record IsFileOrderOfChanges (changes sorted : List LineChange) : Type 0 where
  pub same : (f : ℕ) → changes_of_file f sorted ≡ changes_of_file f changes
  pub goes : (count : ℕ) → AllByRecursion (λ (change : LineChange). file_number_of_change change < count) changes → AreFileNumbersOfChangesInOrder 0 sorted count
  pub whole : AllByRecursion IsLogicalLine (texts_of_changes changes) → AllByRecursion IsLogicalLine (texts_of_changes sorted)
