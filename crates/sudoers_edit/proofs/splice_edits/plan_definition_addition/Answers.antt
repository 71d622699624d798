use Rattle.sudoers_edit.proofs.Common.{AddDef, AreSoundParsedLines, DropDef, EditReplacesFileLine, IsRefusalOrNoMemory, Line, List, LoadedPolicy, [], alias_definitions_of_view, ap, arith, inr, length, line_of_view}
use Rattle.sudoers_edit.proofs.Common.{lines_of_rows, lines_with_definition_added, lines_with_item_put_in, replaced_lines_unless_too_long, named_files_of_policy, slice_get, slice_get_within, subst, sym, texts_of_lines, ℕ}
use Rattle.sudoers_edit.proofs.Common.{◌<◌, ◌∙◌, ◌∷◌, ◌≡◌}
use Rattle.sudoers_edit.specs.declared.extra_item.ItemListKind.TheVariants as among
use Rattle.sudoers_edit.proofs.DefLemmas.{addition_with_definitions_puts_item_in, definition_addition_replaces_file_line, addition_without_definitions_is_refused, edit_of_present_file_edits_given_lines, refusal_of_lines_is_refusal_of_edit, fault_of_lines_is_fault_of_edit}
use Rattle.sudoers_edit.proofs.SwapLemmas.{owned_start_of_definition_is_within_line}
use Rattle.sudoers_edit.proofs.LawsBelow.{lines_of_loaded_file_are_sound_parsed}
use Rattle.sudoers_edit.proofs.WayBackLemmas.{numbered_line_reads_as_its_node}
use Rattle.sudoers_edit.proofs.splice_edits.plan_definition_addition.Goals as goal

pub returns-in-Err : goal.returns-in-Err
returns-in-Err c =
    let f : ℕ = c.args.file in
    let lines : List Line = lines_of_rows c.lines_of_file-lines.result in
    inr (edit_of_present_file_edits_given_lines c.args.policy.now f (lines_with_definition_added c.args.line c.args.at c.args.splice.now) lines (omega (arith, c.if-file-files.false, c.files.ensures)) c.lines_of_file-lines.ensures
    ∙ refusal_of_lines_is_refusal_of_edit c.args.policy.now f (lines_with_definition_added c.args.line c.args.at c.args.splice.now lines) c.in-Err.fault
    (addition_without_definitions_is_refused c.args.line c.args.at c.args.splice.now lines c.in-Err.fault c.in-Err.ensures.outcome))

pub returns-in-Err-find_offset_to_add_item : goal.returns-in-Err-find_offset_to_add_item
returns-in-Err-find_offset_to_add_item c =
    let f : ℕ = c.args.file in
    let n : ℕ = c.args.line in
    let lines : List Line = lines_of_rows c.lines_of_file-lines.result in
    let line : Line = line_of_view c.in-Ok.found.0 in
    inr (edit_of_present_file_edits_given_lines c.args.policy.now f (lines_with_definition_added n c.args.at c.args.splice.now) lines (omega (arith, c.if-file-files.false, c.files.ensures)) c.lines_of_file-lines.ensures
    ∙ refusal_of_lines_is_refusal_of_edit c.args.policy.now f (lines_with_definition_added n c.args.at c.args.splice.now lines) c.in-Err-find_offset_to_add_item.fault
    (addition_with_definitions_puts_item_in n c.args.at c.args.splice.now lines line (alias_definitions_of_view c.in-Ok.found.1) c.in-Ok.ensures.outcome
    ∙ c.in-Err-find_offset_to_add_item.ensures (λ from. lines_with_item_put_in among.Definitions c.args.at from n c.args.splice.now line lines)))

pub returns-in-Err-add_item_to_line : goal.returns-in-Err-add_item_to_line
returns-in-Err-add_item_to_line c =
    let f : ℕ = c.args.file in
    let n : ℕ = c.args.line in
    let policy : LoadedPolicy = c.args.policy.now in
    let lines : List Line = lines_of_rows c.lines_of_file-lines.result in
    let line : Line = line_of_view c.in-Ok.found.0 in
    let fault = c.in-Err-add_item_to_line.fault in
    subst (λ r. IsRefusalOrNoMemory fault r)
    (sym (edit_of_present_file_edits_given_lines policy f (lines_with_definition_added n c.args.at c.args.splice.now) lines (omega (arith, c.if-file-files.false, c.files.ensures)) c.lines_of_file-lines.ensures))
    (fault_of_lines_is_fault_of_edit policy f fault (lines_with_definition_added n c.args.at c.args.splice.now lines)
    (subst (λ r. IsRefusalOrNoMemory fault r)
    (sym (addition_with_definitions_puts_item_in n c.args.at c.args.splice.now lines line (alias_definitions_of_view c.in-Ok.found.1) c.in-Ok.ensures.outcome
    ∙ (c.in-Ok-find_offset_to_add_item.ensures (λ from. lines_with_item_put_in among.Definitions c.args.at from n c.args.splice.now line lines)).0))
    (c.in-Err-add_item_to_line.ensures.outcome n lines)))

pub add_item_to_line-requires : goal.add_item_to_line-requires
add_item_to_line-requires c =
    let lines : List Line = lines_of_rows c.lines_of_file-lines.result in
    let line : Line = line_of_view c.in-Ok.found.0 in
    let sound : AreSoundParsedLines lines =
    subst AreSoundParsedLines (sym c.lines_of_file-lines.ensures) (lines_of_loaded_file_are_sound_parsed (named_files_of_policy c.args.policy.now) c.args.policy.now c.allocator_of-alloc.ensures c.args.file) in (
      owned_start_of_definition_is_within_line lines c.args.line c.args.at c.in-Ok-find_offset_to_add_item.from line (alias_definitions_of_view c.in-Ok.found.1) sound c.in-Ok.ensures.found.0 c.in-Ok.ensures.found.1
          (c.in-Ok-find_offset_to_add_item.ensures (λ from. lines_with_item_put_in among.Definitions c.args.at from c.args.line c.args.splice.now line lines)).1,
      numbered_line_reads_as_its_node lines c.args.line line sound.says c.in-Ok.ensures.found.0,
    )

pub plan_line_replacement-requires : goal.plan_line_replacement-requires
plan_line_replacement-requires c =
    let here : c.args.line < length (lines_of_rows c.lines_of_file-lines.result) =
    slice_get_within (lines_of_rows c.lines_of_file-lines.result) c.args.line (line_of_view c.in-Ok.found.0) c.in-Ok.ensures.found.0 in
    subst (λ (ls : List Line). c.args.line < length ls) c.lines_of_file-lines.ensures here

pub returns : goal.returns
returns c =
    let f : ℕ = c.args.file in
    let n : ℕ = c.args.line in
    let at : ℕ = c.args.at in
    let s : List ℕ = c.args.splice.now in
    let policy : LoadedPolicy = c.args.policy.now in
    let lines : List Line = lines_of_rows c.lines_of_file-lines.result in
    let line : Line = line_of_view c.in-Ok.found.0 in
    let text : List ℕ = c.in-Ok-add_item_to_line.text.items in
    let told : lines_with_definition_added n at s lines ≡ replaced_lines_unless_too_long n text (texts_of_lines lines) =
    addition_with_definitions_puts_item_in n at s lines line (alias_definitions_of_view c.in-Ok.found.1) c.in-Ok.ensures.outcome
    ∙ (c.in-Ok-find_offset_to_add_item.ensures (λ from. lines_with_item_put_in among.Definitions at from n s line lines)).0
    ∙ c.in-Ok-add_item_to_line.ensures.outcome n lines in
    let leads : EditReplacesFileLine (AddDef f n at s) (DropDef f n at) (DropDef f n at ∷ []) policy f n text =
    definition_addition_replaces_file_line lines_of_loaded_file_are_sound_parsed policy f n at c.in-Ok-find_offset_to_add_item.from s text line c.allocator_of-alloc.ensures
    (omega (arith, c.if-file-files.false, c.files.ensures))
    (ap (λ (ls : List Line). slice_get ls n) (sym c.lines_of_file-lines.ensures) ∙ c.in-Ok.ensures.found.0) c.in-Ok-add_item_to_line.ensures.put
    (subst (λ (ls : List Line). lines_with_definition_added n at s ls ≡ replaced_lines_unless_too_long n text (texts_of_lines ls)) c.lines_of_file-lines.ensures told) in
    c.plan_line_replacement.ensures (AddDef f n at s) (DropDef f n at)
    (subst (λ i. EditReplacesFileLine (AddDef f n at s) (DropDef f n at) i policy f n text) (sym c.in_ok-inverse.ensures) leads)
