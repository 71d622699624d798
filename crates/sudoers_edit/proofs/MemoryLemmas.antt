-- No refusal that the definition of an edit gives holds want of memory: the fault of files comes from loading them, and files have no
-- such fault.
use Rattle.sudoers_edit.proofs.Common.{AddDef, AddMember, BadName, BadSplice, Bool, ByteExtent, Def, DefinitionFilePlace, Delete, DropDef, DropMember, Edit, EditFault, EndLine, Err, IfErr, Insert}
use Rattle.sudoers_edit.proofs.Common.{IsRefusalOrNoMemory, ItemListKind, Kind, Line, LineTexts, List, LoadFault, LoadedPolicy, Move, NameTaken, NamedFile, NoAlias, NoFile, NoLine, NoPlace, None, NotOneLine, Ok}
use Rattle.sudoers_edit.proofs.Common.{OnlyOne, OpenEnd, OpenLine, Option, ParsedFile, Place, Prune, PruneRemoval, Rename, Result, Some, TooLarge, [], replaced_lines_unless_bad_splice_or_too_long, definition_place_of_name}
use Rattle.sudoers_edit.proofs.Common.{definitions_of_alias_line, edit_fault_of_load_fault, edit_result_and_then, extents_of_definitions, extents_of_members, false, file_place_of_definition}
use Rattle.sudoers_edit.proofs.Common.{files_with_bytes_replaced, has_inner_line_without_lf, has_one_item_more, if◌then◌else◌, inl, inr, insert, is_alias_name_in_use, is_last_line_too_long, is_line_too_long, is_name}
use Rattle.sudoers_edit.proofs.Common.{is_one_logical_line, is_reserved, is_some, join, length, line_with_lf_added, line_with_lf_removed, line_with_splice, line_without_bytes, lines_after_delete}
use Rattle.sudoers_edit.proofs.Common.{changed_lines_unless_last_too_long, lines_after_insert, lines_after_move, lines_of_numbered_file, lines_with_definition_added, lines_with_definition_dropped, lines_with_item_cut_out}
use Rattle.sudoers_edit.proofs.Common.{lines_with_item_put_in, lines_with_last_changed, lines_with_member_added, lines_with_member_dropped, replaced_lines_unless_too_long, lines_with_one_moved, lines_with_one_replaced}
use Rattle.sudoers_edit.proofs.Common.{list_any, named_files_after_rename, named_files_of_policy, nat_le, nat_lt, not, owned_bytes_start, owned_bytes_stop, place_within_file_of_definition, policy_after_removal}
use Rattle.sudoers_edit.proofs.Common.{policy_after_removals, policy_after_rename, policy_of_files_or_refusal, policy_or_edit_fault, policy_or_load_fault, policy_with_file_defining_alias_edited, policy_with_file_edited}
use Rattle.sudoers_edit.proofs.Common.{policy_with_file_lines, prune_removals_of_walk, reading_of_single_line, remove, result_with_bytes_to_drop_item, result_with_offset_to_add_item, result_or_refusal_if_none, result_unless_refused}
use Rattle.sudoers_edit.proofs.Common.{result_with_definition_at, result_with_line_definitions, slice_get, step, subst, sym, texts_of_lines, texts_of_renamed_lines, true, ℕ, ◌&&◌, ◌+◌, ◌==◌, ◌||◌, ◌∷◌, ◌≡◌}
use Rattle.sudoers_text.specs.declared.fault.TextFault.TheVariants as text
use Rattle.sudoers_tree.specs.declared.fault.ReadFault.TheVariants as read
use Rattle.sudoers_tree.specs.declared.load_fault.LoadFault.TheVariants as load
use Rattle.sudoers_edit.specs.declared.extra_item.ItemListKind.TheVariants as among
use Rattle.sudoers_edit.specs.declared.prune_removals.PruneRemoval.TheVariants as removal
use Rattle.sudoers_edit.specs.Memory.{IsMemoryFreeLoadFault, HasNoInnerMemoryFault}
use Rattle.sudoers_edit.proofs.LoadFaults.{HasNoMemoryLoadFault, load_of_files_gives_no_memory_fault}

-- a refusal, if it is one, does not hold want of memory
abbrev pub HasNoMemoryRefusal : {X : Type 0} → Result X EditFault → Type 0
HasNoMemoryRefusal r = IfErr r HasNoInnerMemoryFault

-- CHOICES

choice_has_no_memory_refusal : {X : Type 0} (b : Bool) (r s : Result X EditFault) → HasNoMemoryRefusal r → HasNoMemoryRefusal s → HasNoMemoryRefusal (if b then r else s)
choice_has_no_memory_refusal true r s p q = p
choice_has_no_memory_refusal false r s p q = q

optional_value_has_no_memory_refusal : {A X : Type 0} (o : Option A) (fault : EditFault) (next : A → Result X EditFault) → HasNoInnerMemoryFault fault → ((x : A) → HasNoMemoryRefusal (next x))
    → HasNoMemoryRefusal (result_or_refusal_if_none o fault next)
optional_value_has_no_memory_refusal None fault next p all = p
optional_value_has_no_memory_refusal (Some x) fault next p all = all x

sequence_has_no_memory_refusal : {A B : Type 0} (r : Result A EditFault) (next : A → Result B EditFault) → HasNoMemoryRefusal r → ((x : A) → HasNoMemoryRefusal (next x)) → HasNoMemoryRefusal (edit_result_and_then r next)
sequence_has_no_memory_refusal (Ok x) next p all = all x
sequence_has_no_memory_refusal (Err fault) next p all = p

-- THE RESULT

load_fault_has_no_inner_memory_fault : (fault : LoadFault) → IsMemoryFreeLoadFault fault → HasNoInnerMemoryFault (edit_fault_of_load_fault fault)
load_fault_has_no_inner_memory_fault load.NoMemory is = tt
load_fault_has_no_inner_memory_fault load.TooManyFiles is = tt
load_fault_has_no_inner_memory_fault (load.SameName name) is = tt
load_fault_has_no_inner_memory_fault (load.InFile name (read.Text text.TooLarge)) is = tt
load_fault_has_no_inner_memory_fault (load.InFile name (read.Text (text.LineTooLong line))) is = tt
load_fault_has_no_inner_memory_fault (load.InFile name (read.Text (text.Nul at))) is = tt
load_fault_has_no_inner_memory_fault (load.InFile name (read.Text text.OpenContinuation)) is = tt
load_fault_has_no_inner_memory_fault (load.InFile name (read.Text text.NoMemory)) is = is
load_fault_has_no_inner_memory_fault (load.InFile name (read.Syntax line col why)) is = tt
load_fault_has_no_inner_memory_fault (load.InFile name (read.Reserved kind alias)) is = tt
load_fault_has_no_inner_memory_fault (load.InFile name (read.Duplicate kind alias)) is = tt
load_fault_has_no_inner_memory_fault (load.InFile name (read.TooMany kind)) is = tt
load_fault_has_no_inner_memory_fault (load.InFile name (read.NotLoaded line other)) is = tt
load_fault_has_no_inner_memory_fault (load.InFile name (read.Twice line other)) is = tt
load_fault_has_no_inner_memory_fault (load.InFile name (read.TooDeep line)) is = tt
load_fault_has_no_inner_memory_fault (load.InFile name read.NoMemory) is = is

load_as_edit_has_no_memory_refusal : (r : Result LoadedPolicy LoadFault) → HasNoMemoryLoadFault r → HasNoMemoryRefusal (policy_or_edit_fault r)
load_as_edit_has_no_memory_refusal (Ok policy) is = tt
load_as_edit_has_no_memory_refusal (Err fault) is = load_fault_has_no_inner_memory_fault fault is

policy_of_files_has_no_memory_refusal : (files : List NamedFile) → HasNoMemoryRefusal (policy_of_files_or_refusal files)
policy_of_files_has_no_memory_refusal files = load_as_edit_has_no_memory_refusal (policy_or_load_fault files) (load_of_files_gives_no_memory_fault files)

file_lines_have_no_memory_refusal : (policy : LoadedPolicy) (f : ℕ) (lines : LineTexts) → HasNoMemoryRefusal (policy_with_file_lines policy f lines)
file_lines_have_no_memory_refusal policy f lines =
    let files : List NamedFile = files_with_bytes_replaced f (join lines) (named_files_of_policy policy) in
    choice_has_no_memory_refusal (has_inner_line_without_lf lines) (Err OpenLine) (policy_of_files_or_refusal files) tt (policy_of_files_has_no_memory_refusal files)

-- WHOLE LINES

lines_of_insert_have_no_memory_refusal : (at : ℕ) (bytes : List ℕ) (lines : LineTexts) → HasNoMemoryRefusal (lines_after_insert at bytes lines)
lines_of_insert_have_no_memory_refusal at bytes lines =
    let put : Result LineTexts EditFault = if is_one_logical_line bytes then Ok (insert lines at bytes) else Err NotOneLine in
    choice_has_no_memory_refusal (nat_lt (length lines) at) (Err NoLine) put tt (choice_has_no_memory_refusal (is_one_logical_line bytes) (Ok (insert lines at bytes)) (Err NotOneLine) tt tt)

lines_of_delete_have_no_memory_refusal : (at : ℕ) (lines : LineTexts) → HasNoMemoryRefusal (lines_after_delete at lines)
lines_of_delete_have_no_memory_refusal at lines = choice_has_no_memory_refusal (nat_lt at (length lines)) (Ok (remove lines at)) (Err NoLine) tt tt

lines_of_move_have_no_memory_refusal : (from to : ℕ) (lines : LineTexts) → HasNoMemoryRefusal (lines_after_move from to lines)
lines_of_move_have_no_memory_refusal from to lines = choice_has_no_memory_refusal (nat_lt from (length lines) && nat_lt to (length lines)) (Ok (lines_with_one_moved from to lines)) (Err NoLine) tt tt

end_change_lines_have_no_memory_refusal : (changed : Option LineTexts) → HasNoMemoryRefusal (changed_lines_unless_last_too_long changed)
end_change_lines_have_no_memory_refusal None = tt
end_change_lines_have_no_memory_refusal (Some lines) = choice_has_no_memory_refusal (is_last_line_too_long lines) (Err TooLarge) (Ok lines) tt tt

-- MEMBERS AND DEFINITIONS

splice_offset_has_no_memory_refusal : (at : ℕ) (xs : List ByteExtent) (next : ℕ → Result LineTexts EditFault) → ((from : ℕ) → HasNoMemoryRefusal (next from)) → HasNoMemoryRefusal (result_with_offset_to_add_item at xs next)
splice_offset_has_no_memory_refusal at xs next all =
    choice_has_no_memory_refusal (nat_lt (length xs) at) (Err NoPlace) (result_or_refusal_if_none (owned_bytes_start at xs) BadSplice next) tt (optional_value_has_no_memory_refusal (owned_bytes_start at xs) BadSplice next tt all)

owned_bytes_have_no_memory_refusal : (at : ℕ) (xs : List ByteExtent) (next : ℕ → ℕ → Result LineTexts EditFault) → ((from to : ℕ) → HasNoMemoryRefusal (next from to))
    → HasNoMemoryRefusal (result_with_bytes_to_drop_item at xs next)
owned_bytes_have_no_memory_refusal at xs next all =
    let by_stop : ℕ → Result LineTexts EditFault = λ from. result_or_refusal_if_none (owned_bytes_stop at xs) BadSplice (λ to. next from to) in
    let by_seam : Result LineTexts EditFault = result_or_refusal_if_none (owned_bytes_start at xs) BadSplice by_stop in
    choice_has_no_memory_refusal (nat_le (length xs) at) (Err NoPlace) (result_unless_refused (length xs == 1) OnlyOne by_seam) tt
    (choice_has_no_memory_refusal (length xs == 1) (Err OnlyOne) by_seam tt
    (optional_value_has_no_memory_refusal (owned_bytes_start at xs) BadSplice by_stop tt (λ from. optional_value_has_no_memory_refusal (owned_bytes_stop at xs) BadSplice (λ to. next from to) tt (all from))))

spliced_line_has_no_memory_refusal : (reads : Bool) (at : ℕ) (line : List ℕ) (lines : List Line) → HasNoMemoryRefusal (replaced_lines_unless_bad_splice_or_too_long reads at line lines)
spliced_line_has_no_memory_refusal reads at line lines =
    choice_has_no_memory_refusal (not reads) (Err BadSplice) (replaced_lines_unless_too_long at line (texts_of_lines lines)) tt
    (choice_has_no_memory_refusal (is_line_too_long line) (Err TooLarge) (Ok (lines_with_one_replaced at line (texts_of_lines lines))) tt tt)

item_put_in_has_no_memory_refusal : (among : ItemListKind) (at from n : ℕ) (splice : List ℕ) (line : Line) (lines : List Line) → HasNoMemoryRefusal (lines_with_item_put_in among at from n splice line lines)
item_put_in_has_no_memory_refusal among at from n splice line lines =
    let new : List ℕ = line_with_splice from splice line.text in
    spliced_line_has_no_memory_refusal (has_one_item_more among at from (from + length splice) (reading_of_single_line new) (Some line.node)) n new lines

item_cut_out_has_no_memory_refusal : (among : ItemListKind) (at from to n : ℕ) (line : Line) (lines : List Line) → HasNoMemoryRefusal (lines_with_item_cut_out among at from to n line lines)
item_cut_out_has_no_memory_refusal among at from to n line lines =
    let new : List ℕ = line_without_bytes from to line.text in
    spliced_line_has_no_memory_refusal (has_one_item_more among at from to (Some line.node) (reading_of_single_line new)) n new lines

line_definitions_have_no_memory_refusal : (n : ℕ) (lines : List Line) (next : Line → List Def → Result LineTexts EditFault) → ((line : Line) (defs : List Def) → HasNoMemoryRefusal (next line defs))
    → HasNoMemoryRefusal (result_with_line_definitions n lines next)
line_definitions_have_no_memory_refusal n lines next all =
    optional_value_has_no_memory_refusal (slice_get lines n) NoLine (λ line. result_or_refusal_if_none (definitions_of_alias_line line.node) NoAlias (next line)) tt
    (λ line. optional_value_has_no_memory_refusal (definitions_of_alias_line line.node) NoAlias (next line) tt (all line))

definition_addition_has_no_memory_refusal : (n at : ℕ) (splice : List ℕ) (lines : List Line) → HasNoMemoryRefusal (lines_with_definition_added n at splice lines)
unfolding lines_with_definition_added
definition_addition_has_no_memory_refusal n at splice lines =
    line_definitions_have_no_memory_refusal n lines (λ line defs. result_with_offset_to_add_item at (extents_of_definitions defs) (λ from. lines_with_item_put_in among.Definitions at from n splice line lines))
    (λ line defs. splice_offset_has_no_memory_refusal at (extents_of_definitions defs) (λ from. lines_with_item_put_in among.Definitions at from n splice line lines)
    (λ from. item_put_in_has_no_memory_refusal among.Definitions at from n splice line lines))

definition_drop_has_no_memory_refusal : (n at : ℕ) (lines : List Line) → HasNoMemoryRefusal (lines_with_definition_dropped n at lines)
unfolding lines_with_definition_dropped
definition_drop_has_no_memory_refusal n at lines =
    line_definitions_have_no_memory_refusal n lines (λ line defs. result_with_bytes_to_drop_item at (extents_of_definitions defs) (λ from to. lines_with_item_cut_out among.Definitions at from to n line lines))
    (λ line defs. owned_bytes_have_no_memory_refusal at (extents_of_definitions defs) (λ from to. lines_with_item_cut_out among.Definitions at from to n line lines)
    (λ from to. item_cut_out_has_no_memory_refusal among.Definitions at from to n line lines))

definition_at_place_has_no_memory_refusal : (place : Option Place) (lines : List Line) (next : Place → Line → Def → Result LineTexts EditFault)
    → ((at : Place) (line : Line) (d : Def) → HasNoMemoryRefusal (next at line d)) → HasNoMemoryRefusal (result_with_definition_at place lines next)
definition_at_place_has_no_memory_refusal place lines next all =
    let by_defs : Place → Line → List Def → Result LineTexts EditFault = λ at line defs. result_or_refusal_if_none (slice_get defs at.def) NoAlias (λ d. next at line d) in
    let by_line : Place → Line → Result LineTexts EditFault = λ at line. result_or_refusal_if_none (definitions_of_alias_line line.node) NoAlias (by_defs at line) in
    optional_value_has_no_memory_refusal place NoAlias (λ at. result_or_refusal_if_none (slice_get lines at.line) NoAlias (by_line at)) tt
    (λ at. optional_value_has_no_memory_refusal (slice_get lines at.line) NoAlias (by_line at) tt
    (λ line. optional_value_has_no_memory_refusal (definitions_of_alias_line line.node) NoAlias (by_defs at line) tt
    (λ defs. optional_value_has_no_memory_refusal (slice_get defs at.def) NoAlias (λ d. next at line d) tt (all at line))))

member_addition_has_no_memory_refusal : (place : Place) (at : ℕ) (splice : List ℕ) (lines : List Line) → HasNoMemoryRefusal (lines_with_member_added place at splice lines)
unfolding lines_with_member_added
member_addition_has_no_memory_refusal place at splice lines =
    let put : Place → Line → ℕ → Result LineTexts EditFault = λ place line from. lines_with_item_put_in (among.Members place.def) at from place.line splice line lines in
    definition_at_place_has_no_memory_refusal (Some place) lines (λ place line d. result_with_offset_to_add_item at (extents_of_members d.members) (put place line))
    (λ place line d. splice_offset_has_no_memory_refusal at (extents_of_members d.members) (put place line)
    (λ from. item_put_in_has_no_memory_refusal (among.Members place.def) at from place.line splice line lines))

member_drop_has_no_memory_refusal : (place : Place) (at : ℕ) (lines : List Line) → HasNoMemoryRefusal (lines_with_member_dropped place at lines)
unfolding lines_with_member_dropped
member_drop_has_no_memory_refusal place at lines =
    let cut : Place → Line → ℕ → ℕ → Result LineTexts EditFault = λ place line from to. lines_with_item_cut_out (among.Members place.def) at from to place.line line lines in
    definition_at_place_has_no_memory_refusal (Some place) lines (λ place line d. result_with_bytes_to_drop_item at (extents_of_members d.members) (cut place line))
    (λ place line d. owned_bytes_have_no_memory_refusal at (extents_of_members d.members) (cut place line)
    (λ from to. item_cut_out_has_no_memory_refusal (among.Members place.def) at from to place.line line lines))

-- NAMES

rename_has_no_memory_refusal : (k : Kind) (name fresh : List ℕ) (policy : LoadedPolicy) → HasNoMemoryRefusal (policy_after_rename k name fresh policy)
unfolding policy_after_rename
rename_has_no_memory_refusal k name fresh policy =
    let walk : List Line = policy.walk.lines in
    let last : Result LoadedPolicy EditFault = policy_of_files_or_refusal (named_files_after_rename k name fresh policy) in
    let long : Result LoadedPolicy EditFault = result_unless_refused (list_any is_line_too_long (texts_of_renamed_lines k name fresh walk)) TooLarge last in
    let taken : Result LoadedPolicy EditFault = result_unless_refused (is_alias_name_in_use k fresh walk) NameTaken long in
    let bad : Result LoadedPolicy EditFault = result_unless_refused (not (is_name fresh) || is_reserved fresh) BadName taken in
    choice_has_no_memory_refusal (not (is_some (definition_place_of_name k name walk))) (Err NoAlias) bad tt
    (choice_has_no_memory_refusal (not (is_name fresh) || is_reserved fresh) (Err BadName) taken tt
    (choice_has_no_memory_refusal (is_alias_name_in_use k fresh walk) (Err NameTaken) long tt
    (choice_has_no_memory_refusal (list_any is_line_too_long (texts_of_renamed_lines k name fresh walk)) (Err TooLarge) last tt
    (policy_of_files_has_no_memory_refusal (named_files_after_rename k name fresh policy)))))

-- EDITS

file_edit_has_no_memory_refusal : (f : ℕ) (policy : LoadedPolicy) (edit : List Line → Result LineTexts EditFault) → ((lines : List Line) → HasNoMemoryRefusal (edit lines)) → HasNoMemoryRefusal (policy_with_file_edited f policy edit)
file_edit_has_no_memory_refusal f policy edit all =
    optional_value_has_no_memory_refusal (slice_get policy.files f) NoFile (λ (file : ParsedFile). edit_result_and_then (edit file.lines) (policy_with_file_lines policy f)) tt
    (λ (file : ParsedFile). sequence_has_no_memory_refusal (edit file.lines) (policy_with_file_lines policy f) (all file.lines) (file_lines_have_no_memory_refusal policy f))

alias_edit_has_no_memory_refusal : (k : Kind) (name : List ℕ) (policy : LoadedPolicy) (edit : Place → List Line → Result LineTexts EditFault)
    → ((place : Place) (lines : List Line) → HasNoMemoryRefusal (edit place lines)) → HasNoMemoryRefusal (policy_with_file_defining_alias_edited k name policy edit)
alias_edit_has_no_memory_refusal k name policy edit all =
    optional_value_has_no_memory_refusal (file_place_of_definition k name policy.walk) NoAlias (λ (at : DefinitionFilePlace). edit_result_and_then (edit (place_within_file_of_definition at) (lines_of_numbered_file policy.files at.file)) (policy_with_file_lines policy at.file)) tt
    (λ (at : DefinitionFilePlace). sequence_has_no_memory_refusal (edit (place_within_file_of_definition at) (lines_of_numbered_file policy.files at.file)) (policy_with_file_lines policy at.file)
    (all (place_within_file_of_definition at) (lines_of_numbered_file policy.files at.file)) (file_lines_have_no_memory_refusal policy at.file))

removal_has_no_memory_refusal : (one : PruneRemoval) (policy : LoadedPolicy) → HasNoMemoryRefusal (policy_after_removal one policy)
removal_has_no_memory_refusal (removal.Line f at) policy = file_edit_has_no_memory_refusal f policy (λ lines. lines_after_delete at (texts_of_lines lines)) (λ lines. lines_of_delete_have_no_memory_refusal at (texts_of_lines lines))
removal_has_no_memory_refusal (removal.Def f line at) policy = file_edit_has_no_memory_refusal f policy (lines_with_definition_dropped line at) (definition_drop_has_no_memory_refusal line at)

removals_have_no_memory_refusal : (rs : List PruneRemoval) (policy : LoadedPolicy) → HasNoMemoryRefusal (policy_after_removals rs policy)
removals_have_no_memory_refusal [] policy = tt
removals_have_no_memory_refusal (one ∷ more) policy = sequence_has_no_memory_refusal (policy_after_removal one policy) (policy_after_removals more) (removal_has_no_memory_refusal one policy) (removals_have_no_memory_refusal more)

pub step_has_no_memory_refusal : (edit : Edit) (policy : LoadedPolicy) → HasNoMemoryRefusal (step edit policy)
step_has_no_memory_refusal (Insert f at bytes) policy = file_edit_has_no_memory_refusal f policy (λ lines. lines_after_insert at bytes (texts_of_lines lines)) (λ lines. lines_of_insert_have_no_memory_refusal at bytes (texts_of_lines lines))
step_has_no_memory_refusal (Delete f at) policy = file_edit_has_no_memory_refusal f policy (λ lines. lines_after_delete at (texts_of_lines lines)) (λ lines. lines_of_delete_have_no_memory_refusal at (texts_of_lines lines))
step_has_no_memory_refusal (Move f from to) policy = file_edit_has_no_memory_refusal f policy (λ lines. lines_after_move from to (texts_of_lines lines)) (λ lines. lines_of_move_have_no_memory_refusal from to (texts_of_lines lines))
step_has_no_memory_refusal (AddMember k name at splice) policy =
    alias_edit_has_no_memory_refusal k name policy (λ place. lines_with_member_added place at splice) (λ place lines. member_addition_has_no_memory_refusal place at splice lines)
step_has_no_memory_refusal (DropMember k name at) policy = alias_edit_has_no_memory_refusal k name policy (λ place. lines_with_member_dropped place at) (λ place lines. member_drop_has_no_memory_refusal place at lines)
step_has_no_memory_refusal (AddDef f line at splice) policy = file_edit_has_no_memory_refusal f policy (lines_with_definition_added line at splice) (definition_addition_has_no_memory_refusal line at splice)
step_has_no_memory_refusal (DropDef f line at) policy = file_edit_has_no_memory_refusal f policy (lines_with_definition_dropped line at) (definition_drop_has_no_memory_refusal line at)
step_has_no_memory_refusal (Rename k name fresh) policy = rename_has_no_memory_refusal k name fresh policy
step_has_no_memory_refusal (EndLine f) policy =
    file_edit_has_no_memory_refusal f policy (λ lines. changed_lines_unless_last_too_long (lines_with_last_changed line_with_lf_added (texts_of_lines lines))) (λ lines. end_change_lines_have_no_memory_refusal (lines_with_last_changed line_with_lf_added (texts_of_lines lines)))
step_has_no_memory_refusal (OpenEnd f) policy =
    file_edit_has_no_memory_refusal f policy (λ lines. changed_lines_unless_last_too_long (lines_with_last_changed line_with_lf_removed (texts_of_lines lines))) (λ lines. end_change_lines_have_no_memory_refusal (lines_with_last_changed line_with_lf_removed (texts_of_lines lines)))
step_has_no_memory_refusal Prune policy = removals_have_no_memory_refusal (prune_removals_of_walk policy.walk) policy

-- no refusal tells of want of memory
pub step_refusal_has_no_inner_memory_fault : (edit : Edit) (policy : LoadedPolicy) (fault : EditFault) → step edit policy ≡ Err fault → HasNoInnerMemoryFault fault
step_refusal_has_no_inner_memory_fault edit policy fault is = subst (λ (r : Result LoadedPolicy EditFault). HasNoMemoryRefusal r) is (step_has_no_memory_refusal edit policy)

-- what is told of an edit that is refused
pub told_refusal_has_no_inner_memory_fault : {X : Type 0} → (edit : Edit) (policy : LoadedPolicy) (r : Result X EditFault) → IfErr r (λ fault. IsRefusalOrNoMemory fault (step edit policy)) → IfErr r HasNoInnerMemoryFault
told_refusal_has_no_inner_memory_fault edit policy (Ok x) refused = tt
told_refusal_has_no_inner_memory_fault edit policy (Err fault) (inl none) = subst HasNoInnerMemoryFault (sym none) tt
told_refusal_has_no_inner_memory_fault edit policy (Err fault) (inr is) = step_refusal_has_no_inner_memory_fault edit policy fault is
