use Rattle.sudoers_edit.proofs.Common.{AddDef, AreSoundParsedLines, Def, DropDef, EditReplacesFileLine, IsRefusalOrNoMemory, Line, List, LoadedPolicy, [], alias_definitions_of_view, ap, arith, bytes_between, inr}
use Rattle.sudoers_edit.proofs.Common.{length, line_of_view, lines_of_rows, lines_with_definition_dropped, lines_with_item_cut_out, replaced_lines_unless_too_long, named_files_of_policy, slice_get, slice_get_within, subst}
use Rattle.sudoers_edit.proofs.Common.{sym, texts_of_lines, ℕ, ◌<◌, ◌∙◌, ◌∷◌, ◌≡◌}
use Rattle.sudoers_edit.specs.declared.extra_item.ItemListKind.TheVariants as among
use Rattle.sudoers_edit.proofs.DefLemmas.{drop_with_definitions_cuts_item_out, definition_drop_replaces_file_line, drop_without_definitions_is_refused, edit_of_present_file_edits_given_lines, refusal_of_lines_is_refusal_of_edit, fault_of_lines_is_fault_of_edit}
use Rattle.sudoers_edit.proofs.SwapLemmas.{owned_bytes_of_definition_are_within_text}
use Rattle.sudoers_edit.proofs.LawsBelow.{lines_of_loaded_file_are_sound_parsed}
use Rattle.sudoers_edit.proofs.WayBackLemmas.{numbered_line_reads_as_its_node}
use Rattle.sudoers_edit.proofs.splice_edits.plan_drop_of_definition_unless_only_one.Goals as goal

pub returns-in-Err : goal.returns-in-Err
returns-in-Err c =
    let f : ℕ = c.args.file in
    let lines : List Line = lines_of_rows c.lines_of_file-lines.result in
    inr (edit_of_present_file_edits_given_lines c.args.policy.now f (lines_with_definition_dropped c.args.line c.args.at) lines (omega (arith, c.if-file-files.false, c.files.ensures)) c.lines_of_file-lines.ensures
    ∙ refusal_of_lines_is_refusal_of_edit c.args.policy.now f (lines_with_definition_dropped c.args.line c.args.at lines) c.in-Err.fault
    (drop_without_definitions_is_refused c.args.line c.args.at lines c.in-Err.fault c.in-Err.ensures.outcome))

pub returns-in-Err-find_bytes_to_drop_item : goal.returns-in-Err-find_bytes_to_drop_item
returns-in-Err-find_bytes_to_drop_item c =
    let f : ℕ = c.args.file in
    let n : ℕ = c.args.line in
    let lines : List Line = lines_of_rows c.lines_of_file-lines.result in
    let line : Line = line_of_view c.in-Ok.found.0 in
    inr (edit_of_present_file_edits_given_lines c.args.policy.now f (lines_with_definition_dropped n c.args.at) lines (omega (arith, c.if-file-files.false, c.files.ensures)) c.lines_of_file-lines.ensures
    ∙ refusal_of_lines_is_refusal_of_edit c.args.policy.now f (lines_with_definition_dropped n c.args.at lines) c.in-Err-find_bytes_to_drop_item.fault
    (drop_with_definitions_cuts_item_out n c.args.at lines line (alias_definitions_of_view c.in-Ok.found.1) c.in-Ok.ensures.outcome
    ∙ c.in-Err-find_bytes_to_drop_item.ensures (λ from to. lines_with_item_cut_out among.Definitions c.args.at from to n line lines)))

pub returns-in-Err-cut_item_from_line : goal.returns-in-Err-cut_item_from_line
returns-in-Err-cut_item_from_line c =
    let f : ℕ = c.args.file in
    let n : ℕ = c.args.line in
    let policy : LoadedPolicy = c.args.policy.now in
    let lines : List Line = lines_of_rows c.lines_of_file-lines.result in
    let line : Line = line_of_view c.in-Ok.found.0 in
    let fault = c.in-Err-cut_item_from_line.fault in
    subst (λ r. IsRefusalOrNoMemory fault r)
    (sym (edit_of_present_file_edits_given_lines policy f (lines_with_definition_dropped n c.args.at) lines (omega (arith, c.if-file-files.false, c.files.ensures)) c.lines_of_file-lines.ensures))
    (fault_of_lines_is_fault_of_edit policy f fault (lines_with_definition_dropped n c.args.at lines)
    (subst (λ r. IsRefusalOrNoMemory fault r)
    (sym (drop_with_definitions_cuts_item_out n c.args.at lines line (alias_definitions_of_view c.in-Ok.found.1) c.in-Ok.ensures.outcome
    ∙ (c.in-Ok-find_bytes_to_drop_item.ensures (λ from to. lines_with_item_cut_out among.Definitions c.args.at from to n line lines)).0))
    (c.in-Err-cut_item_from_line.ensures.outcome n lines)))

pub cut_item_from_line-requires : goal.cut_item_from_line-requires
cut_item_from_line-requires c =
    let n : ℕ = c.args.line in
    let at : ℕ = c.args.at in
    let lines : List Line = lines_of_rows c.lines_of_file-lines.result in
    let line : Line = line_of_view c.in-Ok.found.0 in
    let place = c.in-Ok-find_bytes_to_drop_item.ensures (λ from to. lines_with_item_cut_out among.Definitions at from to n line lines) in
    let sound : AreSoundParsedLines lines =
    subst AreSoundParsedLines (sym c.lines_of_file-lines.ensures) (lines_of_loaded_file_are_sound_parsed (named_files_of_policy c.args.policy.now) c.args.policy.now c.allocator_of-alloc.ensures c.args.file) in
    let within = owned_bytes_of_definition_are_within_text lines n at c.in-Ok-find_bytes_to_drop_item.bytes.0 c.in-Ok-find_bytes_to_drop_item.bytes.1 line (alias_definitions_of_view c.in-Ok.found.1)
    sound c.in-Ok.ensures.found.0 c.in-Ok.ensures.found.1 place.1 place.2 in
    (within.0, within.1, numbered_line_reads_as_its_node lines n line sound.says c.in-Ok.ensures.found.0)

pub plan_line_replacement-requires : goal.plan_line_replacement-requires
plan_line_replacement-requires c =
    let here : c.args.line < length (lines_of_rows c.lines_of_file-lines.result) =
    slice_get_within (lines_of_rows c.lines_of_file-lines.result) c.args.line (line_of_view c.in-Ok.found.0) c.in-Ok.ensures.found.0 in
    subst (λ (ls : List Line). c.args.line < length ls) c.lines_of_file-lines.ensures here

pub returns : goal.returns
returns c =
    let f : ℕ = c.args.file in
    let n : ℕ = c.args.line in
    let at : ℕ = c.args.at in
    let policy : LoadedPolicy = c.args.policy.now in
    let lines : List Line = lines_of_rows c.lines_of_file-lines.result in
    let line : Line = line_of_view c.in-Ok.found.0 in
    let defs : List Def = alias_definitions_of_view c.in-Ok.found.1 in
    let from : ℕ = c.in-Ok-find_bytes_to_drop_item.bytes.0 in
    let to : ℕ = c.in-Ok-find_bytes_to_drop_item.bytes.1 in
    let s : List ℕ = c.in_ok-splice.splice in
    let text : List ℕ = c.in-Ok-cut_item_from_line.text.items in
    let place = c.in-Ok-find_bytes_to_drop_item.ensures (λ from to. lines_with_item_cut_out among.Definitions at from to n line lines) in
    let owned : s ≡ bytes_between from to line.text = c.in_ok-splice.ensures in
    let told : lines_with_definition_dropped n at lines ≡ replaced_lines_unless_too_long n text (texts_of_lines lines) =
    drop_with_definitions_cuts_item_out n at lines line defs c.in-Ok.ensures.outcome ∙ place.0 ∙ c.in-Ok-cut_item_from_line.ensures.outcome n lines in
    let leads : EditReplacesFileLine (DropDef f n at) (AddDef f n at s) (AddDef f n at s ∷ []) policy f n text =
    definition_drop_replaces_file_line lines_of_loaded_file_are_sound_parsed policy f n at from to s text line defs c.allocator_of-alloc.ensures
    (omega (arith, c.if-file-files.false, c.files.ensures))
    (ap (λ (ls : List Line). slice_get ls n) (sym c.lines_of_file-lines.ensures) ∙ c.in-Ok.ensures.found.0) c.in-Ok.ensures.found.1 place.1 place.2
    c.in-Ok-cut_item_from_line.ensures.cut owned
    (subst (λ (ls : List Line). lines_with_definition_dropped n at ls ≡ replaced_lines_unless_too_long n text (texts_of_lines ls)) c.lines_of_file-lines.ensures told) in
    c.plan_line_replacement.ensures (DropDef f n at) (AddDef f n at s)
    (subst (λ i. EditReplacesFileLine (DropDef f n at) (AddDef f n at s) i policy f n text) (sym c.in_ok-inverse.ensures) leads)
