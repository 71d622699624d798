-- What takes an edit back carries as many bytes as the edit took out of the files.
use Rattle.sudoers_edit.proofs.Common.{AddDef, AddMember, AllByRecursion, BadSplice, Bool, Delete, DropDef, DropMember, Edit, EndLine, HasRestoringInverse, Insert, ItemListKind, Line, LineTexts, List, LoadedPolicy}
use Rattle.sudoers_edit.proofs.Common.{Move, NamedFile, Ok, OpenEnd, ParsedFile, Prune, PruneRemoval, Rename, Some, [], ap, arith, byte_count_of_files, drop, edit_undoing_removal, edits_undoing_removals}
use Rattle.sudoers_edit.proofs.Common.{extents_of_definitions, extents_of_members, false, files_with_bytes_replaced, has_one_item_more, insert, inv, join, length, length-append, line_texts_of_file, line_with_splice}
use Rattle.sudoers_edit.proofs.Common.{lines_after_insert, lines_of_numbered_file, lines_with_definition_added, lines_with_item_put_in, lines_with_member_added, replaced_lines_unless_too_long, lines_with_one_replaced, map}
use Rattle.sudoers_edit.proofs.Common.{named_file_of_parsed, named_files_of_policy, next_or_placed_refusal, not, policy_after_removal, policy_or_first_refusal, policy_or_load_fault, policy_with_file_lines}
use Rattle.sudoers_edit.proofs.Common.{prune_removals_of_walk, reading_of_single_line, result_unwrap_or, slice_get, step, suc, take, take-append-drop, texts_of_lines, true, zero, ℕ, ◌++◌, ◌+◌, ◌<◌, ◌∷◌, ◌≡◌, ◌≤◌}
use Rattle.sudoers_edit.specs.declared.extra_item.ItemListKind.TheVariants as among
use Rattle.sudoers_edit.specs.declared.prune_removals.PruneRemoval.TheVariants as removal
use Rattle.sudoers_edit.specs.Payload.{inserted_byte_count_of_edit, inserted_byte_count_of_edits, is_removing_edit}
use Rattle.sudoers_edit.proofs.AcceptedLines.{accepted_file_edit_has_file_lines, accepted_insert_makes_inserted_lines, accepted_file_lines_are_ended_and_load, accepted_result_is_not_refused}
use Rattle.sudoers_edit.proofs.AcceptedSplices.{accepted_add_def_has_line_definitions, accepted_add_member_has_alias_definition, accepted_alias_edit_has_lines, accepted_line_change_is_short, accepted_splice_has_start_offset}
use Rattle.sudoers_edit.proofs.InverseLaw.{accepted_run_begins_with_accepted_step}
use Rattle.sudoers_edit.proofs.PrunePlaces.{property_of_lists_holds_of_their_join, file_with_line_is_below_count}

-- what the law says of the bytes of loaded files
abbrev pub LoadedFilesHaveGivenBytes : Type 0
LoadedFilesHaveGivenBytes = (files : List NamedFile) (policy : LoadedPolicy) → policy_or_load_fault files ≡ Ok policy → named_files_of_policy policy ≡ files

-- what the law says of edits that are taken back
abbrev pub AcceptedEditsAreRestored : Type 0
AcceptedEditsAreRestored = (edits : List Edit) (policy new : LoadedPolicy) → policy_or_load_fault (named_files_of_policy policy) ≡ Ok policy → policy_or_first_refusal 0 edits policy ≡ Ok new → HasRestoringInverse edits policy new

-- The edit puts its bytes into a file, and does nothing else.
abbrev pub IsPuttingEdit : Edit → Type 0
IsPuttingEdit (Insert file at text) = Unit {0}
IsPuttingEdit (Delete file at) = ⊥
IsPuttingEdit (Move file from to) = ⊥
IsPuttingEdit (AddMember kind name at splice) = Unit {0}
IsPuttingEdit (DropMember kind name at) = ⊥
IsPuttingEdit (AddDef file line at splice) = Unit {0}
IsPuttingEdit (DropDef file line at) = ⊥
IsPuttingEdit (Rename kind name fresh) = ⊥
IsPuttingEdit (EndLine file) = ⊥
IsPuttingEdit (OpenEnd file) = ⊥
IsPuttingEdit Prune = ⊥

-- ---- sizes

insert_adds_size_of_text : (lines : LineTexts) (at : ℕ) (text : List ℕ) → at ≤ length lines → length (join (insert lines at text)) ≡ length (join lines) + length text
insert_adds_size_of_text lines zero text within = omega (arith, length-append text (join lines))
insert_adds_size_of_text [] (suc n) text within = absurd (omega (arith, within))
insert_adds_size_of_text (line ∷ lines) (suc n) text within =
    omega (arith, length-append line (join (insert lines n text)), length-append line (join lines), insert_adds_size_of_text lines n text (omega (arith, within)))

replacement_changes_size_by_texts : (lines : List Line) (n : ℕ) (text : List ℕ) (line : Line) → slice_get lines n ≡ Some line
    → length (join (lines_with_one_replaced n text (texts_of_lines lines))) + length line.text ≡ length (join (texts_of_lines lines)) + length text
replacement_changes_size_by_texts [] n text line here = absurd cc
replacement_changes_size_by_texts (old ∷ lines) zero text line here =
    let same : old ≡ line = cc in
    omega (arith, length-append text (join (texts_of_lines lines)), length-append old.text (join (texts_of_lines lines)), ap (λ (l : Line). length l.text) same)
replacement_changes_size_by_texts (old ∷ lines) (suc n) text line here =
    omega (arith, length-append old.text (join (lines_with_one_replaced n text (texts_of_lines lines))), length-append old.text (join (texts_of_lines lines)), replacement_changes_size_by_texts lines n text line here)

splice_adds_its_size_to_line : (from : ℕ) (splice line : List ℕ) → length (take from line ++ splice ++ drop from line) ≡ length line + length splice
splice_adds_its_size_to_line from splice line =
    omega (
      arith,
      length-append (take from line ++ splice) (drop from line),
      length-append (take from line) splice,
      length-append (take from line) (drop from line),
      ap length (take-append-drop from line),
    )

item_put_in_adds_size_of_splice : (a : ItemListKind) (at from n : ℕ) (splice : List ℕ) (line : Line) (lines : List Line) (new : LineTexts) → slice_get lines n ≡ Some line
    → lines_with_item_put_in a at from n splice line lines ≡ Ok new → length (join new) ≡ length (join (texts_of_lines lines)) + length splice
item_put_in_adds_size_of_splice a at from n splice line lines new here is =
    let text : List ℕ = line_with_splice from splice line.text in
    let reads : Bool = has_one_item_more a at from (from + length splice) (reading_of_single_line text) (Some line.node) in
    let made = accepted_line_change_is_short n text (texts_of_lines lines) new (accepted_result_is_not_refused (not reads) BadSplice (replaced_lines_unless_too_long n text (texts_of_lines lines)) new is).1 in
    let size : length text ≡ length line.text + length splice = splice_adds_its_size_to_line from splice line.text in
    omega (arith, ap (λ (ls : LineTexts). length (join ls)) made.1, replacement_changes_size_by_texts lines n text line here, size)

-- the files with other bytes of one
replacement_of_bytes_changes_file_size : (f : ℕ) (bytes : List ℕ) (files : List ParsedFile) → f < length files
    → byte_count_of_files (files_with_bytes_replaced f bytes (map named_file_of_parsed files)) + length (join (texts_of_lines (lines_of_numbered_file files f))) ≡ byte_count_of_files (map named_file_of_parsed files) + length bytes
replacement_of_bytes_changes_file_size f bytes [] here = absurd (omega (arith, here))
replacement_of_bytes_changes_file_size zero bytes (file ∷ files) here = omega arith
replacement_of_bytes_changes_file_size (suc f) bytes (file ∷ files) here = omega (arith, replacement_of_bytes_changes_file_size f bytes files (omega (arith, here)))

-- lines that land with so many bytes more
larger_lines_enlarge_policy_as_much : LoadedFilesHaveGivenBytes → (policy new : LoadedPolicy) (f more : ℕ) (lines : LineTexts) → f < length policy.files → policy_with_file_lines policy f lines ≡ Ok new
    → length (join lines) ≡ length (join (line_texts_of_file policy f)) + more → byte_count_of_files (named_files_of_policy new) ≡ byte_count_of_files (named_files_of_policy policy) + more
larger_lines_enlarge_policy_as_much law policy new f more lines here is size =
    let files : List NamedFile = files_with_bytes_replaced f (join lines) (named_files_of_policy policy) in
    let same : named_files_of_policy new ≡ files = law files new (accepted_file_lines_are_ended_and_load policy new f lines is).1 in
    omega (arith, ap byte_count_of_files same, replacement_of_bytes_changes_file_size f (join lines) policy.files here, size)

-- ---- one edit

putting_edit_enlarges_files_by_payload : LoadedFilesHaveGivenBytes → (edit : Edit) → IsPuttingEdit edit → (policy new : LoadedPolicy) → step edit policy ≡ Ok new → byte_count_of_files (named_files_of_policy new) ≡ byte_count_of_files (named_files_of_policy policy) + inserted_byte_count_of_edit edit
putting_edit_enlarges_files_by_payload law (Insert f at text) puts policy new is =
    let i = accepted_file_edit_has_file_lines f policy new (λ lines. lines_after_insert at text (texts_of_lines lines)) is in
    let p = accepted_insert_makes_inserted_lines at text (line_texts_of_file policy f) i.lines i.made in
    larger_lines_enlarge_policy_as_much law policy new f (length text) i.lines i.here i.lands
    (omega (arith, insert_adds_size_of_text (line_texts_of_file policy f) at text p.0, ap (λ (ls : LineTexts). length (join ls)) p.1))
putting_edit_enlarges_files_by_payload law (AddMember kind name at splice) puts policy new is =
    let i = accepted_alias_edit_has_lines kind name policy new (λ place. lines_with_member_added place at splice) is in
    let f : ℕ = i.place.file in
    let n : ℕ = i.place.line in
    let lines : List Line = lines_of_numbered_file policy.files f in
    let d = accepted_add_member_has_alias_definition kind name at splice policy i.place i.lines i.named i.made in
    let a = accepted_splice_has_start_offset at (extents_of_members d.d.members) (λ from. lines_with_item_put_in (among.Members i.place.def) at from n splice d.line lines) i.lines d.told in
    larger_lines_enlarge_policy_as_much law policy new f (length splice) i.lines (file_with_line_is_below_count policy.files f n d.line d.is.here) i.lands
    (item_put_in_adds_size_of_splice (among.Members i.place.def) at a.0 n splice d.line lines i.lines d.is.here a.2)
putting_edit_enlarges_files_by_payload law (AddDef f n at splice) puts policy new is =
    let i = accepted_file_edit_has_file_lines f policy new (lines_with_definition_added n at splice) is in
    let lines : List Line = lines_of_numbered_file policy.files f in
    let d = accepted_add_def_has_line_definitions n at splice lines i.lines i.made in
    let a = accepted_splice_has_start_offset at (extents_of_definitions d.defs) (λ from. lines_with_item_put_in among.Definitions at from n splice d.line lines) i.lines d.told in
    larger_lines_enlarge_policy_as_much law policy new f (length splice) i.lines i.here i.lands (item_put_in_adds_size_of_splice among.Definitions at a.0 n splice d.line lines i.lines d.here a.2)
putting_edit_enlarges_files_by_payload law (Delete file at) puts policy new is = absurd puts
putting_edit_enlarges_files_by_payload law (Move file from to) puts policy new is = absurd puts
putting_edit_enlarges_files_by_payload law (DropMember kind name at) puts policy new is = absurd puts
putting_edit_enlarges_files_by_payload law (DropDef file line at) puts policy new is = absurd puts
putting_edit_enlarges_files_by_payload law (Rename kind name fresh) puts policy new is = absurd puts
putting_edit_enlarges_files_by_payload law (EndLine file) puts policy new is = absurd puts
putting_edit_enlarges_files_by_payload law (OpenEnd file) puts policy new is = absurd puts
putting_edit_enlarges_files_by_payload law Prune puts policy new is = absurd puts

-- ---- edits

putting_edits_enlarge_files_by_payloads : LoadedFilesHaveGivenBytes → (edits : List Edit) → AllByRecursion IsPuttingEdit edits → (place : ℕ) (policy new : LoadedPolicy) → policy_or_first_refusal place edits policy ≡ Ok new
    → byte_count_of_files (named_files_of_policy new) ≡ byte_count_of_files (named_files_of_policy policy) + inserted_byte_count_of_edits edits
putting_edits_enlarge_files_by_payloads law [] all place policy new is =
    let same : policy ≡ new = cc in
    omega (arith, ap (λ (p : LoadedPolicy). byte_count_of_files (named_files_of_policy p)) same)
putting_edits_enlarge_files_by_payloads law (edit ∷ edits) all place policy new is =
    let first = accepted_run_begins_with_accepted_step (policy_or_first_refusal (place + 1) edits) place (step edit policy) new is in
    omega (arith, putting_edit_enlarges_files_by_payload law edit all.0 policy first.0 first.1, putting_edits_enlarge_files_by_payloads law edits all.1 (place + 1) first.0 new first.2)

edit_undoing_removal_is_putting : (one : PruneRemoval) (policy : LoadedPolicy) → IsPuttingEdit (edit_undoing_removal one policy)
edit_undoing_removal_is_putting (removal.Line file at) policy = tt
edit_undoing_removal_is_putting (removal.Def file line at) policy = tt

edits_undoing_removals_are_putting : (ones : List PruneRemoval) (policy : LoadedPolicy) → AllByRecursion IsPuttingEdit (edits_undoing_removals ones policy)
edits_undoing_removals_are_putting [] policy = tt
edits_undoing_removals_are_putting (one ∷ ones) policy =
    let left : LoadedPolicy = result_unwrap_or (policy_after_removal one policy) policy in
    property_of_lists_holds_of_their_join IsPuttingEdit (edits_undoing_removals ones left) (edit_undoing_removal one policy ∷ []) (edits_undoing_removals_are_putting ones left) (edit_undoing_removal_is_putting one policy, tt)

-- What takes back an edit that takes something out puts bytes in.
inverse_of_removing_edit_is_putting : (edit : Edit) (policy : LoadedPolicy) → is_removing_edit edit ≡ true → AllByRecursion IsPuttingEdit (inv edit policy)
inverse_of_removing_edit_is_putting (Delete file at) policy out = (tt, tt)
inverse_of_removing_edit_is_putting (DropMember kind name at) policy out = (tt, tt)
inverse_of_removing_edit_is_putting (DropDef file line at) policy out = (tt, tt)
inverse_of_removing_edit_is_putting Prune policy out = edits_undoing_removals_are_putting (prune_removals_of_walk policy.walk) policy
inverse_of_removing_edit_is_putting (Insert file at text) policy out = absurd cc
inverse_of_removing_edit_is_putting (Move file from to) policy out = absurd cc
inverse_of_removing_edit_is_putting (AddMember kind name at splice) policy out = absurd cc
inverse_of_removing_edit_is_putting (AddDef file line at splice) policy out = absurd cc
inverse_of_removing_edit_is_putting (Rename kind name fresh) policy out = absurd cc
inverse_of_removing_edit_is_putting (EndLine file) policy out = absurd cc
inverse_of_removing_edit_is_putting (OpenEnd file) policy out = absurd cc

pub inverse_payload_is_size_taken_out : LoadedFilesHaveGivenBytes → AcceptedEditsAreRestored → (edit : Edit) (policy new : LoadedPolicy) → is_removing_edit edit ≡ true → policy_or_load_fault (named_files_of_policy policy) ≡ Ok policy
    → step edit policy ≡ Ok new → byte_count_of_files (named_files_of_policy new) + inserted_byte_count_of_edits (inv edit policy) ≡ byte_count_of_files (named_files_of_policy policy)
inverse_payload_is_size_taken_out law leads edit policy new out loaded is =
    let taken = leads (edit ∷ []) policy new loaded (ap (next_or_placed_refusal (policy_or_first_refusal 1 []) 0) is) in
    omega (arith, putting_edits_enlarge_files_by_payloads law (inv edit policy) (inverse_of_removing_edit_is_putting edit policy out) 0 new policy taken.back)

pub inverse_of_keeping_edit_has_no_payload : (edit : Edit) (policy : LoadedPolicy) → is_removing_edit edit ≡ false → inserted_byte_count_of_edits (inv edit policy) ≡ 0
inverse_of_keeping_edit_has_no_payload (Insert file at text) policy none = omega arith
inverse_of_keeping_edit_has_no_payload (Move file from to) policy none = omega arith
inverse_of_keeping_edit_has_no_payload (AddMember kind name at splice) policy none = omega arith
inverse_of_keeping_edit_has_no_payload (AddDef file line at splice) policy none = omega arith
inverse_of_keeping_edit_has_no_payload (Rename kind name fresh) policy none = omega arith
inverse_of_keeping_edit_has_no_payload (EndLine file) policy none = omega arith
inverse_of_keeping_edit_has_no_payload (OpenEnd file) policy none = omega arith
inverse_of_keeping_edit_has_no_payload (Delete file at) policy none = absurd cc
inverse_of_keeping_edit_has_no_payload (DropMember kind name at) policy none = absurd cc
inverse_of_keeping_edit_has_no_payload (DropDef file line at) policy none = absurd cc
inverse_of_keeping_edit_has_no_payload Prune policy none = absurd cc
