-- Edits of whole lines of a file: where they lead, and the way back.
use Rattle.sudoers_edit.proofs.Common.{Delete, EachIsOneLineWhenCut, EditFault, EditSetsFileLines, Err, Insert, Line, LineTexts, List, LoadedPolicy, Move, NoFile, None, Ok, ParsedFile, Result, Some, [], ap, arith}
use Rattle.sudoers_edit.proofs.Common.{edit_result_and_then, false, has_inner_line_without_lf, insert, is_one_logical_line, le-ltb, length, line_text_in_file, line_texts_of_file, lines_after_delete}
use Rattle.sudoers_edit.proofs.Common.{lines_after_insert, lines_after_move, lines_of_numbered_file, lines_of_optional_file, lines_with_one_moved, lt-ltb, policy_with_file_edited, policy_with_file_lines, refl}
use Rattle.sudoers_edit.proofs.Common.{remove, result_or_refusal_if_none, slice_get, slice_index_or, step, suc, sym, texts_of_lines, true, zero, ℕ, ◌-◌, ◌<◌, ◌∙◌, ◌∷◌, ◌≡◌, ◌≤◌}
use Rattle.sudoers_edit.proofs.EditLemmas.{numbered_line_is_cut_alone, insert_undoes_removal, line_cut_alone_is_one_logical_line, insert_makes_one_line_more, removal_makes_one_line_less, move_is_undone_by_reverse_move, removal_keeps_ended_lines, removal_undoes_insert}

-- a place without an item
pub missing_item_is_at_or_past_end : {X : Type 0} → (xs : List X) (i : ℕ) → None ≡ slice_get xs i → length xs ≤ i
missing_item_is_at_or_past_end [] i none = omega arith
missing_item_is_at_or_past_end (x ∷ xs) zero none = absurd cc
missing_item_is_at_or_past_end (x ∷ xs) (suc i) none = omega (arith, missing_item_is_at_or_past_end xs i none)

-- A FILE

numbered_file_below_count_is_found : (files : List ParsedFile) (f : ℕ) → f < length files → (file : ParsedFile) × (slice_get files f ≡ Some file)
numbered_file_below_count_is_found [] f here = absurd (omega (arith, here))
numbered_file_below_count_is_found (file ∷ files) zero here = (file, refl)
numbered_file_below_count_is_found (file ∷ files) (suc f) here = numbered_file_below_count_is_found files f (omega (arith, here))

-- what an edit does in a file that there is
pub file_edit_is_edit_of_its_lines : (policy : LoadedPolicy) (f : ℕ) (edit : List Line → Result LineTexts EditFault) → f < length policy.files
    → policy_with_file_edited f policy edit ≡ edit_result_and_then (edit (lines_of_numbered_file policy.files f)) (policy_with_file_lines policy f)
file_edit_is_edit_of_its_lines policy f edit here =
    let found = numbered_file_below_count_is_found policy.files f here in
    ap (λ o. result_or_refusal_if_none o NoFile (λ (file : ParsedFile). edit_result_and_then (edit file.lines) (policy_with_file_lines policy f))) found.1
    ∙ ap (λ (ls : List Line). edit_result_and_then (edit ls) (policy_with_file_lines policy f)) (sym (ap lines_of_optional_file found.1))

-- lines that an edit makes are those that land
pub accepted_lines_are_lines_of_file : (policy : LoadedPolicy) (f : ℕ) (edit : List Line → Result LineTexts EditFault) (new : LineTexts) → f < length policy.files
    → edit (lines_of_numbered_file policy.files f) ≡ Ok new → policy_with_file_edited f policy edit ≡ policy_with_file_lines policy f new
accepted_lines_are_lines_of_file policy f edit new here is = file_edit_is_edit_of_its_lines policy f edit here ∙ ap (λ (r : Result LineTexts EditFault). edit_result_and_then r (policy_with_file_lines policy f)) is

pub refused_lines_refuse_file_edit : (policy : LoadedPolicy) (f : ℕ) (edit : List Line → Result LineTexts EditFault) (fault : EditFault) → f < length policy.files
    → edit (lines_of_numbered_file policy.files f) ≡ Err fault → policy_with_file_edited f policy edit ≡ Err fault
refused_lines_refuse_file_edit policy f edit fault here is = file_edit_is_edit_of_its_lines policy f edit here ∙ ap (λ (r : Result LineTexts EditFault). edit_result_and_then r (policy_with_file_lines policy f)) is

-- STEPS

valid_insert_of_line_is_accepted : (ls : LineTexts) (at : ℕ) (t : List ℕ) → at ≤ length ls → is_one_logical_line t ≡ true → lines_after_insert at t ls ≡ Ok (insert ls at t)
valid_insert_of_line_is_accepted ls at t within one = rw (le-ltb (length ls) at within, one) refl

valid_delete_of_line_is_accepted : (ls : LineTexts) (at : ℕ) → at < length ls → lines_after_delete at ls ≡ Ok (remove ls at)
valid_delete_of_line_is_accepted ls at within = rw (lt-ltb at (length ls) within) refl

valid_move_of_line_is_accepted : (ls : LineTexts) (from to : ℕ) → from < length ls → to < length ls → lines_after_move from to ls ≡ Ok (lines_with_one_moved from to ls)
valid_move_of_line_is_accepted ls from to inside within = rw (lt-ltb from (length ls) inside, lt-ltb to (length ls) within) refl

pub step_of_valid_insert_sets_file_lines : (policy : LoadedPolicy) (f at : ℕ) (t : List ℕ) → f < length policy.files → at ≤ length (line_texts_of_file policy f) → is_one_logical_line t ≡ true
    → step (Insert f at t) policy ≡ policy_with_file_lines policy f (insert (line_texts_of_file policy f) at t)
step_of_valid_insert_sets_file_lines policy f at t here within one =
    accepted_lines_are_lines_of_file policy f (λ lines. lines_after_insert at t (texts_of_lines lines)) (insert (line_texts_of_file policy f) at t) here (valid_insert_of_line_is_accepted (line_texts_of_file policy f) at t within one)

pub step_of_valid_delete_sets_file_lines : (policy : LoadedPolicy) (f at : ℕ) → f < length policy.files → at < length (line_texts_of_file policy f)
    → step (Delete f at) policy ≡ policy_with_file_lines policy f (remove (line_texts_of_file policy f) at)
step_of_valid_delete_sets_file_lines policy f at here within =
    accepted_lines_are_lines_of_file policy f (λ lines. lines_after_delete at (texts_of_lines lines)) (remove (line_texts_of_file policy f) at) here (valid_delete_of_line_is_accepted (line_texts_of_file policy f) at within)

pub step_of_valid_move_sets_file_lines : (policy : LoadedPolicy) (f from to : ℕ) → f < length policy.files → from < length (line_texts_of_file policy f) → to < length (line_texts_of_file policy f)
    → step (Move f from to) policy ≡ policy_with_file_lines policy f (lines_with_one_moved from to (line_texts_of_file policy f))
step_of_valid_move_sets_file_lines policy f from to here inside within =
    accepted_lines_are_lines_of_file policy f (λ lines. lines_after_move from to (texts_of_lines lines)) (lines_with_one_moved from to (line_texts_of_file policy f)) here (valid_move_of_line_is_accepted (line_texts_of_file policy f) from to inside within)

-- WHERE THEY LEAD

pub insert_sets_file_lines : (policy : LoadedPolicy) (f at : ℕ) (t : List ℕ) → f < length policy.files → at ≤ length (line_texts_of_file policy f) → is_one_logical_line t ≡ true
    → has_inner_line_without_lf (insert (line_texts_of_file policy f) at t) ≡ false
    → EditSetsFileLines (Insert f at t) (Delete f at) (Delete f at ∷ []) policy f (insert (line_texts_of_file policy f) at t)
insert_sets_file_lines policy f at t here within one ended = record {
  here = here;
  ended = ended;
  forth = step_of_valid_insert_sets_file_lines policy f at t here within one;
  inverse_is = refl;
  back_is = refl;
  back = λ after loaded there same.
      let ls : LineTexts = line_texts_of_file policy f in
      let inside : at < length (line_texts_of_file after f) = omega (arith, insert_makes_one_line_more ls at t within, ap length same) in
      step_of_valid_delete_sets_file_lines after f at there inside ∙ ap (λ (z : LineTexts). policy_with_file_lines after f (remove z at)) same ∙ ap (policy_with_file_lines after f) (removal_undoes_insert ls at t within);
}

pub delete_sets_file_lines : (policy : LoadedPolicy) (f at : ℕ) → f < length policy.files → at < length (line_texts_of_file policy f) → EachIsOneLineWhenCut (line_texts_of_file policy f)
    → has_inner_line_without_lf (line_texts_of_file policy f) ≡ false
    → EditSetsFileLines (Delete f at) (Insert f at (line_text_in_file f at policy)) (Insert f at (line_text_in_file f at policy) ∷ []) policy f (remove (line_texts_of_file policy f) at)
delete_sets_file_lines policy f at here within each ended = record {
  here = here;
  ended = removal_keeps_ended_lines (line_texts_of_file policy f) at ended;
  forth = step_of_valid_delete_sets_file_lines policy f at here within;
  inverse_is = refl;
  back_is = refl;
  back = λ after loaded there same.
      let ls : LineTexts = line_texts_of_file policy f in
      let t : List ℕ = line_text_in_file f at policy in
      let inside : at ≤ length (line_texts_of_file after f) = omega (arith, within, removal_makes_one_line_less ls at within, ap length same) in
      step_of_valid_insert_sets_file_lines after f at t there inside (line_cut_alone_is_one_logical_line t (numbered_line_is_cut_alone ls at within each))
      ∙ ap (λ (z : LineTexts). policy_with_file_lines after f (insert z at t)) same ∙ ap (policy_with_file_lines after f) (insert_undoes_removal ls at [] within);
}

pub move_sets_file_lines : (policy : LoadedPolicy) (f from to : ℕ) → f < length policy.files → from < length (line_texts_of_file policy f) → to < length (line_texts_of_file policy f)
    → has_inner_line_without_lf (lines_with_one_moved from to (line_texts_of_file policy f)) ≡ false
    → EditSetsFileLines (Move f from to) (Move f to from) (Move f to from ∷ []) policy f (lines_with_one_moved from to (line_texts_of_file policy f))
move_sets_file_lines policy f from to here inside within ended = record {
  here = here;
  ended = ended;
  forth = step_of_valid_move_sets_file_lines policy f from to here inside within;
  inverse_is = refl;
  back_is = refl;
  back = λ after loaded there same.
      let ls : LineTexts = line_texts_of_file policy f in
      let one : length (remove ls from) ≡ length ls - 1 = omega (arith, removal_makes_one_line_less ls from inside) in
      let size : length (line_texts_of_file after f) ≡ length ls =
      ap length same ∙ insert_makes_one_line_more (remove ls from) to (slice_index_or ls from []) (omega (arith, one, within)) ∙ removal_makes_one_line_less ls from inside in
      step_of_valid_move_sets_file_lines after f to from there (omega (arith, size, within)) (omega (arith, size, inside))
      ∙ ap (λ (z : LineTexts). policy_with_file_lines after f (lines_with_one_moved to from z)) same ∙ ap (policy_with_file_lines after f) (move_is_undone_by_reverse_move ls from to inside within);
}
