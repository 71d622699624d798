-- Definitions put into a line of a file of a policy and taken out of it.
use Rattle.sudoers_edit.proofs.Common.{AddDef, AreSoundParsedLines, Def, DropDef, EditFault, EditReplacesFileLine, Err, IsLineTextWithItemCutOut, IsLineTextWithItemPutIn, IsRefusalOrNoMemory, Line, LineTexts, List, LoadedPolicy}
use Rattle.sudoers_edit.proofs.Common.{NamedFile, Ok, ParsedFile, Result, Some, [], ap, arith, bytes_between, text_owned_by_definition, definitions_of_alias_line, edit_result_and_then, extents_of_definitions}
use Rattle.sudoers_edit.proofs.Common.{files_with_bytes_replaced, inl, inr, join, length, line_texts_of_file, lines_of_numbered_file, lines_with_definition_added, lines_with_definition_dropped}
use Rattle.sudoers_edit.proofs.Common.{lines_with_item_cut_out, lines_with_item_put_in, replaced_lines_unless_too_long, lines_with_one_replaced, named_files_of_policy, owned_bytes_start, owned_bytes_stop}
use Rattle.sudoers_edit.proofs.Common.{policy_or_load_fault, policy_with_file_edited, policy_with_file_lines, refl, result_with_bytes_to_drop_item, result_with_offset_to_add_item, result_with_line_definitions, slice_get, suc, sym}
use Rattle.sudoers_edit.proofs.Common.{zero, ℕ, ◌+◌, ◌<◌, ◌∙◌, ◌∷◌, ◌≡◌}
use Rattle.sudoers_edit.specs.declared.extra_item.ItemListKind.TheVariants as among
use Rattle.sudoers_edit.proofs.ExtentLemmas.{line_with_one_definition_more_has_parts}
use Rattle.sudoers_edit.proofs.WayBackLemmas.{text_with_single_reading_is_logical_line}
use Rattle.sudoers_edit.proofs.SwapLemmas.{definition_addition_is_item_put_in, item_cut_out_is_put_in_again, definition_drop_is_item_cut_out, item_put_in_is_cut_out_again, replaced_text_makes_replaced_line}

-- what the law says of the lines of files
abbrev pub ParsedLinesOfFilesAreSound : Type 0
ParsedLinesOfFilesAreSound = (files : List NamedFile) (policy : LoadedPolicy) → policy_or_load_fault files ≡ Ok policy → (f : ℕ) → AreSoundParsedLines (lines_of_numbered_file policy.files f)

-- FILES

-- a file that is there
pub file_number_below_count_has_file : (files : List ParsedFile) (f : ℕ) → f < length files → (file : ParsedFile) × (slice_get files f ≡ Some file)
file_number_below_count_has_file [] f within = absurd (omega (arith, within))
file_number_below_count_has_file (file ∷ files) zero within = (file, refl)
file_number_below_count_has_file (file ∷ files) (suc f) within = file_number_below_count_has_file files f (omega (arith, within))

-- an edit of the lines of a file that is there
pub edit_of_present_file_edits_its_lines : (policy : LoadedPolicy) (f : ℕ) (edit : List Line → Result LineTexts EditFault) → f < length policy.files
    → policy_with_file_edited f policy edit ≡ edit_result_and_then (edit (lines_of_numbered_file policy.files f)) (policy_with_file_lines policy f)
edit_of_present_file_edits_its_lines policy f edit within = let t = file_number_below_count_has_file policy.files f within in rw (t.1) refl

-- WHAT THE CODE MEETS

pub addition_without_definitions_is_refused : (n at : ℕ) (s : List ℕ) (lines : List Line) (fault : EditFault) → ((next : Line → List Def → Result LineTexts EditFault) → result_with_line_definitions n lines next ≡ Err fault)
    → lines_with_definition_added n at s lines ≡ Err fault
unfolding lines_with_definition_added
addition_without_definitions_is_refused n at s lines fault unfound = unfound (λ line defs. result_with_offset_to_add_item at (extents_of_definitions defs) (λ from. lines_with_item_put_in among.Definitions at from n s line lines))

pub addition_with_definitions_puts_item_in : (n at : ℕ) (s : List ℕ) (lines : List Line) (line : Line) (defs : List Def) → ((next : Line → List Def → Result LineTexts EditFault) → result_with_line_definitions n lines next ≡ next line defs)
    → lines_with_definition_added n at s lines ≡ result_with_offset_to_add_item at (extents_of_definitions defs) (λ from. lines_with_item_put_in among.Definitions at from n s line lines)
unfolding lines_with_definition_added
addition_with_definitions_puts_item_in n at s lines line defs found = found (λ line defs. result_with_offset_to_add_item at (extents_of_definitions defs) (λ from. lines_with_item_put_in among.Definitions at from n s line lines))

pub drop_without_definitions_is_refused : (n at : ℕ) (lines : List Line) (fault : EditFault) → ((next : Line → List Def → Result LineTexts EditFault) → result_with_line_definitions n lines next ≡ Err fault)
    → lines_with_definition_dropped n at lines ≡ Err fault
unfolding lines_with_definition_dropped
drop_without_definitions_is_refused n at lines fault unfound = unfound (λ line defs. result_with_bytes_to_drop_item at (extents_of_definitions defs) (λ from to. lines_with_item_cut_out among.Definitions at from to n line lines))

pub drop_with_definitions_cuts_item_out : (n at : ℕ) (lines : List Line) (line : Line) (defs : List Def) → ((next : Line → List Def → Result LineTexts EditFault) → result_with_line_definitions n lines next ≡ next line defs)
    → lines_with_definition_dropped n at lines ≡ result_with_bytes_to_drop_item at (extents_of_definitions defs) (λ from to. lines_with_item_cut_out among.Definitions at from to n line lines)
unfolding lines_with_definition_dropped
drop_with_definitions_cuts_item_out n at lines line defs found = found (λ line defs. result_with_bytes_to_drop_item at (extents_of_definitions defs) (λ from to. lines_with_item_cut_out among.Definitions at from to n line lines))

-- a refusal of the lines is one of the edit
pub refusal_of_lines_is_refusal_of_edit : (policy : LoadedPolicy) (f : ℕ) (r : Result LineTexts EditFault) (fault : EditFault) → r ≡ Err fault → edit_result_and_then r (policy_with_file_lines policy f) ≡ Err fault
refusal_of_lines_is_refusal_of_edit policy f r fault is = ap (λ x. edit_result_and_then x (policy_with_file_lines policy f)) is

-- THE WAY BACK

pub definition_addition_replaces_file_line : ParsedLinesOfFilesAreSound → (policy : LoadedPolicy) (f n at from : ℕ) (s text : List ℕ) (line : Line) → policy_or_load_fault (named_files_of_policy policy) ≡ Ok policy → f < length policy.files
    → slice_get (lines_of_numbered_file policy.files f) n ≡ Some line → (put : IsLineTextWithItemPutIn among.Definitions at from s line text)
    → lines_with_definition_added n at s (lines_of_numbered_file policy.files f) ≡ replaced_lines_unless_too_long n text (line_texts_of_file policy f)
    → EditReplacesFileLine (AddDef f n at s) (DropDef f n at) (DropDef f n at ∷ []) policy f n text
definition_addition_replaces_file_line law policy f n at from s text line loaded within here put forth = record {
  here = within;
  said_is = text_with_single_reading_is_logical_line text put.new put.says;
  forth = edit_of_present_file_edits_its_lines policy f (lines_with_definition_added n at s) within ∙ ap (λ r. edit_result_and_then r (policy_with_file_lines policy f)) forth;
  inverse_is = refl;
  back_is = refl;
  back = λ after now inside same.
      let before : List Line = lines_of_numbered_file policy.files f in
      let later : List Line = lines_of_numbered_file after.files f in
      let more = line_with_one_definition_more_has_parts at from (from + length s) put.new line.node put.more in
      let swap = replaced_text_makes_replaced_line before later n line text put.new (law (named_files_of_policy policy) policy loaded f) (law (files_with_bytes_replaced f (join (lines_with_one_replaced n text (line_texts_of_file policy f))) (named_files_of_policy policy)) after now f) here put.says same in
      edit_of_present_file_edits_its_lines after f (lines_with_definition_dropped n at) inside
      ∙ ap (λ r. edit_result_and_then r (policy_with_file_lines after f))
      (definition_drop_is_item_cut_out n at from (from + length s) later (record { text = text; node = put.new }) more.more swap.here (ap definitions_of_alias_line more.is) more.owned.begins more.owned.stops
      ∙ item_put_in_is_cut_out_again among.Definitions at from n s text before later line (law (named_files_of_policy policy) policy loaded f) here put swap);
}

-- the bytes that a definition owns
bytes_owned_by_definition_are_between_offsets : (lines : List Line) (n at from to : ℕ) (line : Line) (defs : List Def) → slice_get lines n ≡ Some line → definitions_of_alias_line line.node ≡ Some defs
    → owned_bytes_start at (extents_of_definitions defs) ≡ Some from → owned_bytes_stop at (extents_of_definitions defs) ≡ Some to → text_owned_by_definition n at lines ≡ bytes_between from to line.text
unfolding text_owned_by_definition
bytes_owned_by_definition_are_between_offsets lines n at from to line defs here is begins stops = rw (here, is, begins, stops) refl

pub definition_drop_replaces_file_line : ParsedLinesOfFilesAreSound → (policy : LoadedPolicy) (f n at from to : ℕ) (s text : List ℕ) (line : Line) (defs : List Def) → policy_or_load_fault (named_files_of_policy policy) ≡ Ok policy
    → f < length policy.files → slice_get (lines_of_numbered_file policy.files f) n ≡ Some line → definitions_of_alias_line line.node ≡ Some defs → owned_bytes_start at (extents_of_definitions defs) ≡ Some from
    → owned_bytes_stop at (extents_of_definitions defs) ≡ Some to → (cut : IsLineTextWithItemCutOut among.Definitions at from to line text) → s ≡ bytes_between from to line.text
    → lines_with_definition_dropped n at (lines_of_numbered_file policy.files f) ≡ replaced_lines_unless_too_long n text (line_texts_of_file policy f)
    → EditReplacesFileLine (DropDef f n at) (AddDef f n at s) (AddDef f n at s ∷ []) policy f n text
definition_drop_replaces_file_line law policy f n at from to s text line defs loaded within here is begins stops cut owned forth = record {
  here = within;
  said_is = text_with_single_reading_is_logical_line text cut.new cut.says;
  forth = edit_of_present_file_edits_its_lines policy f (lines_with_definition_dropped n at) within ∙ ap (λ r. edit_result_and_then r (policy_with_file_lines policy f)) forth;
  inverse_is = ap (λ z. AddDef f n at z ∷ []) (owned ∙ sym (bytes_owned_by_definition_are_between_offsets (lines_of_numbered_file policy.files f) n at from to line defs here is begins stops));
  back_is = refl;
  back = λ after now inside same.
      let before : List Line = lines_of_numbered_file policy.files f in
      let later : List Line = lines_of_numbered_file after.files f in
      let more = line_with_one_definition_more_has_parts at from to line.node cut.new cut.more in
      let swap = replaced_text_makes_replaced_line before later n line text cut.new (law (named_files_of_policy policy) policy loaded f) (law (files_with_bytes_replaced f (join (lines_with_one_replaced n text (line_texts_of_file policy f))) (named_files_of_policy policy)) after now f) here cut.says same in
      edit_of_present_file_edits_its_lines after f (lines_with_definition_added n at s) inside
      ∙ ap (λ r. edit_result_and_then r (policy_with_file_lines after f))
      (definition_addition_is_item_put_in n at from s later (record { text = text; node = cut.new }) more.less swap.here (ap definitions_of_alias_line more.was) more.owned.fits
      ∙ item_cut_out_is_put_in_again among.Definitions at from to n s text before later line (law (named_files_of_policy policy) policy loaded f) here cut owned swap);
}

-- the same of lines that are those of the file
pub edit_of_present_file_edits_given_lines : (policy : LoadedPolicy) (f : ℕ) (edit : List Line → Result LineTexts EditFault) (lines : List Line) → f < length policy.files → lines ≡ lines_of_numbered_file policy.files f
    → policy_with_file_edited f policy edit ≡ edit_result_and_then (edit lines) (policy_with_file_lines policy f)
edit_of_present_file_edits_given_lines policy f edit lines within same = edit_of_present_file_edits_its_lines policy f edit within ∙ ap (λ ls. edit_result_and_then (edit ls) (policy_with_file_lines policy f)) (sym same)

pub fault_of_lines_is_fault_of_edit : (policy : LoadedPolicy) (f : ℕ) (fault : EditFault) (r : Result LineTexts EditFault) → IsRefusalOrNoMemory fault r → IsRefusalOrNoMemory fault (edit_result_and_then r (policy_with_file_lines policy f))
fault_of_lines_is_fault_of_edit policy f fault r (inl memory) = inl memory
fault_of_lines_is_fault_of_edit policy f fault r (inr is) = inr (ap (λ x. edit_result_and_then x (policy_with_file_lines policy f)) is)
