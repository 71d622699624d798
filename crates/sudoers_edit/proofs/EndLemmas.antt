-- The last line of a file, with LF and without.
use Rattle.sudoers_edit.proofs.Common.{AreLogicalLinesOfFileWithinTextLimit, Bool, EachIsOneLineWhenCut, Edit, EditFault, EditSetsFileLines, EndAsIs, EndLine, Err, LawsBehindFinalLfEdits, IsRefusalOrNoMemory, SplitsIntoItselfAsOnlyLine, LineTexts, List}
use Rattle.sudoers_edit.proofs.Common.{LoadFault, LoadedPolicy, None, Ok, OpenEnd, Option, Result, Some, TooLarge, [], ap, append-nil, append_assoc, arith, cut_outcome_of_text, ends_in_lf, false}
use Rattle.sudoers_edit.proofs.Common.{files_with_bytes_replaced, has_inner_line_without_lf, inl, inr, is_last_line_too_long, is_one_logical_line, join, le-ltb, length, length-append, line_limit, line_texts_of_file}
use Rattle.sudoers_edit.proofs.Common.{line_with_lf_added, line_with_lf_removed, changed_lines_unless_last_too_long, lines_with_last_changed, lines_with_one_replaced, lt-ltb, named_files_of_policy, policy_of_files_or_refusal}
use Rattle.sudoers_edit.proofs.Common.{policy_or_edit_fault, policy_or_load_fault, policy_with_file_lines, refl, slice_get, slice_get_within, step, subst, sym, take, texts_of_lines, true, ℕ, ◌++◌, ◌-◌, ◌<◌, ◌∙◌, ◌∷◌}
use Rattle.sudoers_edit.proofs.Common.{◌≡◌, ◌≢◌, ◌≤◌}
use Rattle.std.specs.Option.{option_map}
use Rattle.std.proofs.Math.Seq.{take-append_seam}
use Rattle.sudoers_edit_script.proofs.EndLemmas.{ended_text_is_body_and_lf}
use Rattle.sudoers_edit.proofs.EditLemmas.{line_cut_alone_is_one_logical_line}
use Rattle.sudoers_edit.proofs.LastLemmas.{lines_with_last_are_front_and_last, lines_without_last_are_empty}
use Rattle.sudoers_edit.proofs.LandLemmas.{ended_lines_give_policy_of_loaded_files}
use Rattle.sudoers_edit.proofs.LineLemmas.{accepted_lines_are_lines_of_file, refused_lines_refuse_file_edit}

-- THE LAST LINE

-- a change of the last line
change_of_last_line_is_made : (change : List ℕ → Option (List ℕ)) (front : LineTexts) (line new : List ℕ) → change line ≡ Some new
    → lines_with_last_changed change (front ++ line ∷ []) ≡ Some (front ++ new ∷ [])
change_of_last_line_is_made change [] line new is = ap (option_map (λ (z : List ℕ). z ∷ [])) is
change_of_last_line_is_made change (k ∷ []) line new is = ap (option_map (λ (z : LineTexts). k ∷ z)) (change_of_last_line_is_made change [] line new is)
change_of_last_line_is_made change (k ∷ j ∷ front) line new is = ap (option_map (λ (z : LineTexts). k ∷ z)) (change_of_last_line_is_made change (j ∷ front) line new is)

-- where the last line cannot be changed
refused_change_of_last_line_is_none : (change : List ℕ → Option (List ℕ)) (front : LineTexts) (line : List ℕ) → change line ≡ None
    → lines_with_last_changed change (front ++ line ∷ []) ≡ None
refused_change_of_last_line_is_none change [] line is = ap (option_map (λ (z : List ℕ). z ∷ [])) is
refused_change_of_last_line_is_none change (k ∷ []) line is = ap (option_map (λ (z : LineTexts). k ∷ z)) (refused_change_of_last_line_is_none change [] line is)
refused_change_of_last_line_is_none change (k ∷ j ∷ front) line is = ap (option_map (λ (z : LineTexts). k ∷ z)) (refused_change_of_last_line_is_none change (j ∷ front) line is)

-- the last line alone is too long or not
last_line_alone_decides_if_too_long : (front : LineTexts) (line : List ℕ) (b : Bool) → is_last_line_too_long (line ∷ []) ≡ b → is_last_line_too_long (front ++ line ∷ []) ≡ b
last_line_alone_decides_if_too_long [] line b is = is
last_line_alone_decides_if_too_long (k ∷ []) line b is = is
last_line_alone_decides_if_too_long (k ∷ j ∷ front) line b is = last_line_alone_decides_if_too_long (j ∷ front) line b is

-- only lines before the last count
last_line_does_not_decide_inner_lf : (front : LineTexts) (line other : List ℕ) → has_inner_line_without_lf (front ++ line ∷ []) ≡ has_inner_line_without_lf (front ++ other ∷ [])
last_line_does_not_decide_inner_lf [] line other = refl
last_line_does_not_decide_inner_lf (k ∷ []) line other = refl
last_line_does_not_decide_inner_lf (k ∷ j ∷ front) line other = rw (last_line_does_not_decide_inner_lf (j ∷ front) line other) refl

last_of_lines_is_cut_alone : (front : LineTexts) (line : List ℕ) → EachIsOneLineWhenCut (front ++ line ∷ []) → SplitsIntoItselfAsOnlyLine line
last_of_lines_is_cut_alone [] line each = each.0
last_of_lines_is_cut_alone (k ∷ front) line each = last_of_lines_is_cut_alone front line each.1

-- more behind the last line is more behind the text
bytes_added_to_last_line_extend_text : (front : LineTexts) (line more : List ℕ) → join (front ++ line ∷ []) ++ more ≡ join (front ++ (line ++ more) ∷ [])
bytes_added_to_last_line_extend_text [] line more = ap (λ (z : List ℕ). z ++ more) (append-nil line) ∙ sym (append-nil (line ++ more))
bytes_added_to_last_line_extend_text (k ∷ front) line more =
    append_assoc k (join (front ++ line ∷ [])) more ∙ ap (λ (z : List ℕ). k ++ z) (bytes_added_to_last_line_extend_text front line more)

-- the last line replaced
replacement_of_last_line_keeps_front : (front : LineTexts) (line t : List ℕ) → lines_with_one_replaced (length (front ++ line ∷ []) - 1) t (front ++ line ∷ []) ≡ front ++ t ∷ []
replacement_of_last_line_keeps_front front line t =
    ap (λ n. lines_with_one_replaced n t (front ++ line ∷ [])) (omega (arith, length-append front (line ∷ []))) ∙ replaced_behind front
  where
    replaced_behind : (front : LineTexts) → lines_with_one_replaced (length front) t (front ++ line ∷ []) ≡ front ++ t ∷ []
    replaced_behind [] = refl
    replaced_behind (k ∷ front) = ap (λ (z : LineTexts). k ∷ z) (replaced_behind front)

-- LF

lf_is_added_to_line_lacking_it : (line : List ℕ) → ends_in_lf line ≡ false → line_with_lf_added line ≡ Some (line ++ 10 ∷ [])
lf_is_added_to_line_lacking_it line h = rw h refl

lf_is_not_added_to_ended_line : (line : List ℕ) → ends_in_lf line ≡ true → line_with_lf_added line ≡ None
lf_is_not_added_to_ended_line line h = rw h refl

lf_is_removed_from_nonempty_line : (line : List ℕ) → line ≢ [] → line_with_lf_removed (line ++ 10 ∷ []) ≡ Some line
lf_is_removed_from_nonempty_line [] some = absurd (some refl)
lf_is_removed_from_nonempty_line (b ∷ []) some = refl
lf_is_removed_from_nonempty_line (b ∷ c ∷ []) some = refl
lf_is_removed_from_nonempty_line (b ∷ c ∷ d ∷ line) some =
    ap (option_map (λ (z : List ℕ). b ∷ z)) (lf_is_removed_from_nonempty_line (c ∷ d ∷ line) (λ e. cc))

lf_is_not_removed_from_short_line : (line : List ℕ) → length line < 2 → line_with_lf_removed line ≡ None
lf_is_not_removed_from_short_line [] h = refl
lf_is_not_removed_from_short_line (b ∷ []) h = refl
lf_is_not_removed_from_short_line (b ∷ c ∷ line) h = absurd (omega (arith, h))

lf_is_not_removed_from_open_line : (line : List ℕ) → ends_in_lf line ≡ false → line_with_lf_removed line ≡ None
lf_is_not_removed_from_open_line [] h = refl
lf_is_not_removed_from_open_line (b ∷ []) h = refl
lf_is_not_removed_from_open_line (b ∷ c ∷ []) h = rw h refl
lf_is_not_removed_from_open_line (b ∷ c ∷ d ∷ line) h = ap (option_map (λ (z : List ℕ). b ∷ z)) (lf_is_not_removed_from_open_line (c ∷ d ∷ line) h)

-- a line without its last byte, which is LF
ended_line_without_last_byte_is_body : (body : List ℕ) → take (length (body ++ 10 ∷ []) - 1) (body ++ 10 ∷ []) ≡ body
ended_line_without_last_byte_is_body body =
    ap (λ n. take n (body ++ 10 ∷ [])) (omega (arith, length-append body (10 ∷ []))) ∙ take-append_seam body (10 ∷ [])

-- STEPS

-- a change of the last line that is not too long
end_change_of_last_line_is_accepted : (change : List ℕ → Option (List ℕ)) (front : LineTexts) (line new : List ℕ) → change line ≡ Some new → length new ≤ line_limit
    → changed_lines_unless_last_too_long (lines_with_last_changed change (front ++ line ∷ [])) ≡ Ok (front ++ new ∷ [])
end_change_of_last_line_is_accepted change front line new is short =
    ap changed_lines_unless_last_too_long (change_of_last_line_is_made change front line new is)
    ∙ rw (last_line_alone_decides_if_too_long front new false (le-ltb 65536 (length new) short)) refl

-- an end that is as it should be
refused_end_change_is_end_as_is : (change : List ℕ → Option (List ℕ)) (front : LineTexts) (line : List ℕ) → change line ≡ None
    → changed_lines_unless_last_too_long (lines_with_last_changed change (front ++ line ∷ [])) ≡ Err EndAsIs
refused_end_change_is_end_as_is change front line is = ap changed_lines_unless_last_too_long (refused_change_of_last_line_is_none change front line is)

too_long_end_change_is_too_large : (change : List ℕ → Option (List ℕ)) (front : LineTexts) (line new : List ℕ) → change line ≡ Some new → line_limit < length new
    → changed_lines_unless_last_too_long (lines_with_last_changed change (front ++ line ∷ [])) ≡ Err TooLarge
too_long_end_change_is_too_large change front line new is long =
    ap changed_lines_unless_last_too_long (change_of_last_line_is_made change front line new is)
    ∙ rw (last_line_alone_decides_if_too_long front new true (lt-ltb 65536 (length new) long)) refl

-- what the edits do in a file
accepted_end_line_sets_file_lines : (policy : LoadedPolicy) (f : ℕ) (new : LineTexts) → f < length policy.files → changed_lines_unless_last_too_long (lines_with_last_changed line_with_lf_added (line_texts_of_file policy f)) ≡ Ok new
    → step (EndLine f) policy ≡ policy_with_file_lines policy f new
accepted_end_line_sets_file_lines policy f new here is = accepted_lines_are_lines_of_file policy f (λ lines. changed_lines_unless_last_too_long (lines_with_last_changed line_with_lf_added (texts_of_lines lines))) new here is

accepted_open_end_sets_file_lines : (policy : LoadedPolicy) (f : ℕ) (new : LineTexts) → f < length policy.files → changed_lines_unless_last_too_long (lines_with_last_changed line_with_lf_removed (line_texts_of_file policy f)) ≡ Ok new
    → step (OpenEnd f) policy ≡ policy_with_file_lines policy f new
accepted_open_end_sets_file_lines policy f new here is = accepted_lines_are_lines_of_file policy f (λ lines. changed_lines_unless_last_too_long (lines_with_last_changed line_with_lf_removed (texts_of_lines lines))) new here is

refused_end_line_has_fault_of_lines : (policy : LoadedPolicy) (f : ℕ) (fault : EditFault) → f < length policy.files → changed_lines_unless_last_too_long (lines_with_last_changed line_with_lf_added (line_texts_of_file policy f)) ≡ Err fault
    → step (EndLine f) policy ≡ Err fault
refused_end_line_has_fault_of_lines policy f fault here is = refused_lines_refuse_file_edit policy f (λ lines. changed_lines_unless_last_too_long (lines_with_last_changed line_with_lf_added (texts_of_lines lines))) fault here is

refused_open_end_has_fault_of_lines : (policy : LoadedPolicy) (f : ℕ) (fault : EditFault) → f < length policy.files → changed_lines_unless_last_too_long (lines_with_last_changed line_with_lf_removed (line_texts_of_file policy f)) ≡ Err fault
    → step (OpenEnd f) policy ≡ Err fault
refused_open_end_has_fault_of_lines policy f fault here is = refused_lines_refuse_file_edit policy f (λ lines. changed_lines_unless_last_too_long (lines_with_last_changed line_with_lf_removed (texts_of_lines lines))) fault here is

-- the line is the last of the file
abbrev pub IsLastLineOfFile : LoadedPolicy → ℕ → List ℕ → Type 0
IsLastLineOfFile policy f line = slice_get (line_texts_of_file policy f) (length (line_texts_of_file policy f) - 1) ≡ Some line

-- REFUSALS

-- without a line there is no end
pub empty_file_end_edits_are_end_as_is : (policy : LoadedPolicy) (f : ℕ) → f < length policy.files → slice_get (line_texts_of_file policy f) (length (line_texts_of_file policy f) - 1) ≡ None
    → (step (EndLine f) policy ≡ Err EndAsIs) × (step (OpenEnd f) policy ≡ Err EndAsIs)
empty_file_end_edits_are_end_as_is policy f here is =
    let none : line_texts_of_file policy f ≡ [] = lines_without_last_are_empty (line_texts_of_file policy f) is in (
      refused_end_line_has_fault_of_lines policy f EndAsIs here (ap (λ z. changed_lines_unless_last_too_long (lines_with_last_changed line_with_lf_added z)) none),
      refused_open_end_has_fault_of_lines policy f EndAsIs here (ap (λ z. changed_lines_unless_last_too_long (lines_with_last_changed line_with_lf_removed z)) none),
    )

pub end_line_of_ended_file_is_refused : (policy : LoadedPolicy) (f : ℕ) (line : List ℕ) → f < length policy.files → IsLastLineOfFile policy f line → ends_in_lf line ≡ true → step (EndLine f) policy ≡ Err EndAsIs
end_line_of_ended_file_is_refused policy f line here is h =
    let p = lines_with_last_are_front_and_last (line_texts_of_file policy f) line is in
    refused_end_line_has_fault_of_lines policy f EndAsIs here (ap (λ z. changed_lines_unless_last_too_long (lines_with_last_changed line_with_lf_added z)) p.1 ∙ refused_end_change_is_end_as_is line_with_lf_added p.0 line (lf_is_not_added_to_ended_line line h))

pub end_line_past_limit_is_too_large : (policy : LoadedPolicy) (f : ℕ) (line : List ℕ) → f < length policy.files → IsLastLineOfFile policy f line → ends_in_lf line ≡ false → line_limit ≤ length line
    → step (EndLine f) policy ≡ Err TooLarge
end_line_past_limit_is_too_large policy f line here is h long =
    let p = lines_with_last_are_front_and_last (line_texts_of_file policy f) line is in
    refused_end_line_has_fault_of_lines policy f TooLarge here (ap (λ z. changed_lines_unless_last_too_long (lines_with_last_changed line_with_lf_added z)) p.1
    ∙ too_long_end_change_is_too_large line_with_lf_added p.0 line (line ++ 10 ∷ []) (lf_is_added_to_line_lacking_it line h) (omega (arith, long, length-append line (10 ∷ []))))

pub open_end_of_short_line_is_refused : (policy : LoadedPolicy) (f : ℕ) (line : List ℕ) → f < length policy.files → IsLastLineOfFile policy f line → length line < 2 → step (OpenEnd f) policy ≡ Err EndAsIs
open_end_of_short_line_is_refused policy f line here is h =
    let p = lines_with_last_are_front_and_last (line_texts_of_file policy f) line is in
    refused_open_end_has_fault_of_lines policy f EndAsIs here (ap (λ z. changed_lines_unless_last_too_long (lines_with_last_changed line_with_lf_removed z)) p.1 ∙ refused_end_change_is_end_as_is line_with_lf_removed p.0 line (lf_is_not_removed_from_short_line line h))

pub open_end_of_open_line_is_refused : (policy : LoadedPolicy) (f : ℕ) (line : List ℕ) → f < length policy.files → IsLastLineOfFile policy f line → ends_in_lf line ≡ false → step (OpenEnd f) policy ≡ Err EndAsIs
open_end_of_open_line_is_refused policy f line here is h =
    let p = lines_with_last_are_front_and_last (line_texts_of_file policy f) line is in
    refused_open_end_has_fault_of_lines policy f EndAsIs here (ap (λ z. changed_lines_unless_last_too_long (lines_with_last_changed line_with_lf_removed z)) p.1 ∙ refused_end_change_is_end_as_is line_with_lf_removed p.0 line (lf_is_not_removed_from_open_line line h))

-- what refuses the files with these bytes refuses the edit that leads to these lines
pub refusal_of_changed_files_refuses_edit : (edit back : Edit) (inverse : List Edit) (policy : LoadedPolicy) (f : ℕ) (new : LineTexts) (text : List ℕ) (fault : EditFault) → EditSetsFileLines edit back inverse policy f new
    → text ≡ join new → IsRefusalOrNoMemory fault (policy_of_files_or_refusal (files_with_bytes_replaced f text (named_files_of_policy policy))) → IsRefusalOrNoMemory fault (step edit policy)
refusal_of_changed_files_refuses_edit edit back inverse policy f new text fault to is (inl none) = inl none
refusal_of_changed_files_refuses_edit edit back inverse policy f new text fault to is (inr told) =
    inr (to.forth ∙ ended_lines_give_policy_of_loaded_files policy f new to.ended ∙ ap (λ z. policy_of_files_or_refusal (files_with_bytes_replaced f z (named_files_of_policy policy))) (sym is) ∙ told)

load_as_edit_result_is_load : (r : Result LoadedPolicy LoadFault) (new : LoadedPolicy) → policy_or_edit_fault r ≡ Ok new → r ≡ Ok new
load_as_edit_result_is_load (Ok policy) new is = let same : policy ≡ new = cc in ap (λ (p : LoadedPolicy). Ok p) same
load_as_edit_result_is_load (Err fault) new is = cc

-- the files with other bytes are no policy, if a line would be one line then that is not
pub files_with_bad_line_are_not_loaded : (policy : LoadedPolicy) (f : ℕ) (new : LineTexts) (text line : List ℕ)
    → ((new_policy : LoadedPolicy) → policy_or_load_fault (files_with_bytes_replaced f (join new) (named_files_of_policy policy)) ≡ Ok new_policy → is_one_logical_line line ≡ true)
    → is_one_logical_line line ≡ false → text ≡ join new
    → (new_policy : LoadedPolicy) → policy_of_files_or_refusal (files_with_bytes_replaced f text (named_files_of_policy policy)) ≡ Ok new_policy → ⊥
files_with_bad_line_are_not_loaded policy f new text line one not_one is new_policy told =
    let loaded : policy_or_load_fault (files_with_bytes_replaced f (join new) (named_files_of_policy policy)) ≡ Ok new_policy =
    load_as_edit_result_is_load (policy_or_load_fault (files_with_bytes_replaced f (join new) (named_files_of_policy policy))) new_policy (ap (λ z. policy_of_files_or_refusal (files_with_bytes_replaced f z (named_files_of_policy policy))) (sym is) ∙ told) in
    let yes : is_one_logical_line line ≡ true = one new_policy loaded in
    cc

-- there is a last line
pub number_of_last_line_is_below_count : (policy : LoadedPolicy) (f : ℕ) (line : List ℕ) → IsLastLineOfFile policy f line → length (line_texts_of_file policy f) - 1 < length (line_texts_of_file policy f)
number_of_last_line_is_below_count policy f line is = slice_get_within (line_texts_of_file policy f) (length (line_texts_of_file policy f) - 1) line is

-- LF BEHIND THE LAST LINE

-- What is so of a file whose last line lacks LF, which can be put behind it.
pub record IsFileLackingFinalLf (policy : LoadedPolicy) (f : ℕ) (line : List ℕ) : Type 0 where
  pub here : f < length policy.files
  pub sound : AreLogicalLinesOfFileWithinTextLimit (line_texts_of_file policy f)
  pub last : IsLastLineOfFile policy f line
  pub lacks : ends_in_lf line ≡ false
  pub short : length line < line_limit

-- the lines with it
abbrev pub lines_with_final_lf : LoadedPolicy → ℕ → List ℕ → LineTexts
lines_with_final_lf policy f line = lines_with_one_replaced (length (line_texts_of_file policy f) - 1) (line ++ 10 ∷ []) (line_texts_of_file policy f)

module _ (law : LawsBehindFinalLfEdits) (policy : LoadedPolicy) (f : ℕ) (line : List ℕ) (is : IsFileLackingFinalLf policy f line) where
  abbrev front : LineTexts
  front = (lines_with_last_are_front_and_last (line_texts_of_file policy f) line is.last).0

  old_is : line_texts_of_file policy f ≡ front ++ line ∷ []
  old_is = (lines_with_last_are_front_and_last (line_texts_of_file policy f) line is.last).1

  new_is : lines_with_final_lf policy f line ≡ front ++ (line ++ 10 ∷ []) ∷ []
  new_is = ap (λ (z : LineTexts). lines_with_one_replaced (length z - 1) (line ++ 10 ∷ []) z) old_is ∙ replacement_of_last_line_keeps_front front line (line ++ 10 ∷ [])

  each : EachIsOneLineWhenCut (front ++ line ∷ [])
  each = subst EachIsOneLineWhenCut old_is is.sound.each

  open_none : has_inner_line_without_lf (front ++ line ∷ []) ≡ false
  open_none = ap has_inner_line_without_lf (sym old_is) ∙ is.sound.ended

  size : (0 < length line) × (length line ≤ line_limit)
  size = law.size line (last_of_lines_is_cut_alone front line each)

  pub end_lands : EditSetsFileLines (EndLine f) (OpenEnd f) (OpenEnd f ∷ []) policy f (lines_with_final_lf policy f line)
  end_lands = record {
    here = is.here;
    ended = ap has_inner_line_without_lf new_is ∙ sym (last_line_does_not_decide_inner_lf front line (line ++ 10 ∷ [])) ∙ open_none;
    forth = accepted_end_line_sets_file_lines policy f (lines_with_final_lf policy f line) is.here (ap (λ z. changed_lines_unless_last_too_long (lines_with_last_changed line_with_lf_added z)) old_is
        ∙ end_change_of_last_line_is_accepted line_with_lf_added front line (line ++ 10 ∷ []) (lf_is_added_to_line_lacking_it line is.lacks) (omega (arith, is.short, length-append line (10 ∷ [])))
        ∙ ap (λ (z : LineTexts). Ok z) (sym new_is));
    inverse_is = refl;
    back_is = refl;
    back = λ after loaded there same. accepted_open_end_sets_file_lines after f (line_texts_of_file policy f) there (ap (λ z. changed_lines_unless_last_too_long (lines_with_last_changed line_with_lf_removed z)) (same ∙ new_is)
        ∙ end_change_of_last_line_is_accepted line_with_lf_removed front (line ++ 10 ∷ []) line (lf_is_removed_from_nonempty_line line (λ e. omega (arith, size.0, ap length e))) size.1
        ∙ ap (λ (z : LineTexts). Ok z) (sym old_is));
  }

  -- the text with it
  pub closed_text : join (line_texts_of_file policy f) ++ 10 ∷ [] ≡ join (lines_with_final_lf policy f line)
  closed_text = ap (λ (z : LineTexts). join z ++ 10 ∷ []) old_is ∙ bytes_added_to_last_line_extend_text front line (10 ∷ []) ∙ ap join (sym new_is)

  -- where that is loaded, the last line is one line
  pub end_one : (new : LoadedPolicy) → policy_or_load_fault (files_with_bytes_replaced f (join (lines_with_final_lf policy f line)) (named_files_of_policy policy)) ≡ Ok new → is_one_logical_line (line ++ 10 ∷ []) ≡ true
  end_one new loaded =
      let told = law.cut policy new f (join (lines_with_final_lf policy f line)) is.here loaded in
      let lines : line_texts_of_file new f ≡ front ++ (line ++ 10 ∷ []) ∷ [] =
      law.behind front line (line_texts_of_file new f) each open_none is.lacks (ap (λ (z : LineTexts). cut_outcome_of_text (join z)) (sym new_is) ∙ told.0) in
      line_cut_alone_is_one_logical_line (line ++ 10 ∷ []) (last_of_lines_is_cut_alone front (line ++ 10 ∷ []) (subst EachIsOneLineWhenCut lines told.1))

-- THE LAST LINE WITHOUT ITS LF

-- a line of two bytes or more that ends in LF is something and LF
ended_line_is_body_and_lf : (line : List ℕ) → 2 ≤ length line → ends_in_lf line ≡ true → (body : List ℕ) × (line ≡ body ++ 10 ∷ []) × (body ≢ [])
ended_line_is_body_and_lf line long h =
    let p = ended_text_is_body_and_lf line h in
    (p.0, p.1, λ e. omega (arith, long, ap length p.1, length-append p.0 (10 ∷ []), ap length e))

-- What is so of a file whose last line has more than LF, which can be taken from it.
pub record IsFileWithFinalLf (policy : LoadedPolicy) (f : ℕ) (line : List ℕ) : Type 0 where
  pub here : f < length policy.files
  pub sound : AreLogicalLinesOfFileWithinTextLimit (line_texts_of_file policy f)
  pub last : IsLastLineOfFile policy f line
  pub has : ends_in_lf line ≡ true
  pub long : 2 ≤ length line

-- the lines without it
abbrev pub lines_without_final_lf : LoadedPolicy → ℕ → List ℕ → LineTexts
lines_without_final_lf policy f line = lines_with_one_replaced (length (line_texts_of_file policy f) - 1) (take (length line - 1) line) (line_texts_of_file policy f)

module _ (law : LawsBehindFinalLfEdits) (policy : LoadedPolicy) (f : ℕ) (line : List ℕ) (is : IsFileWithFinalLf policy f line) where
  abbrev before : LineTexts
  before = (lines_with_last_are_front_and_last (line_texts_of_file policy f) line is.last).0

  abbrev body : List ℕ
  body = (ended_line_is_body_and_lf line is.long is.has).0

  line_is : line ≡ body ++ 10 ∷ []
  line_is = (ended_line_is_body_and_lf line is.long is.has).1

  some : body ≢ []
  some = (ended_line_is_body_and_lf line is.long is.has).2

  was : line_texts_of_file policy f ≡ before ++ (body ++ 10 ∷ []) ∷ []
  was = (lines_with_last_are_front_and_last (line_texts_of_file policy f) line is.last).1 ∙ ap (λ (z : List ℕ). before ++ z ∷ []) line_is

  body_is : take (length line - 1) line ≡ body
  body_is = ap (λ (z : List ℕ). take (length z - 1) z) line_is ∙ ended_line_without_last_byte_is_body body

  becomes : lines_without_final_lf policy f line ≡ before ++ body ∷ []
  becomes =
      ap (λ (z : LineTexts). lines_with_one_replaced (length z - 1) (take (length line - 1) line) z) was
      ∙ replacement_of_last_line_keeps_front before (body ++ 10 ∷ []) (take (length line - 1) line) ∙ ap (λ (z : List ℕ). before ++ z ∷ []) body_is

  stand : EachIsOneLineWhenCut (before ++ (body ++ 10 ∷ []) ∷ [])
  stand = subst EachIsOneLineWhenCut was is.sound.each

  none_open : has_inner_line_without_lf (before ++ (body ++ 10 ∷ []) ∷ []) ≡ false
  none_open = ap has_inner_line_without_lf (sym was) ∙ is.sound.ended

  short : length (body ++ 10 ∷ []) ≤ line_limit
  short = (law.size (body ++ 10 ∷ []) (last_of_lines_is_cut_alone before (body ++ 10 ∷ []) stand)).1

  -- where the lines without it are loaded, they are these, and the last lacks LF
  cut_so : (new : LoadedPolicy) → policy_or_load_fault (files_with_bytes_replaced f (join (lines_without_final_lf policy f line)) (named_files_of_policy policy)) ≡ Ok new
      → (line_texts_of_file new f ≡ before ++ body ∷ []) × (ends_in_lf body ≡ false)
  cut_so new loaded =
      law.from before body (line_texts_of_file new f) stand none_open some
      (ap (λ (z : LineTexts). cut_outcome_of_text (join z)) (sym becomes) ∙ (law.cut policy new f (join (lines_without_final_lf policy f line)) is.here loaded).0)

  pub open_lands : EditSetsFileLines (OpenEnd f) (EndLine f) (EndLine f ∷ []) policy f (lines_without_final_lf policy f line)
  open_lands = record {
    here = is.here;
    ended = ap has_inner_line_without_lf becomes ∙ last_line_does_not_decide_inner_lf before body (body ++ 10 ∷ []) ∙ none_open;
    forth = accepted_open_end_sets_file_lines policy f (lines_without_final_lf policy f line) is.here (ap (λ z. changed_lines_unless_last_too_long (lines_with_last_changed line_with_lf_removed z)) was
        ∙ end_change_of_last_line_is_accepted line_with_lf_removed before (body ++ 10 ∷ []) body (lf_is_removed_from_nonempty_line body some) (omega (arith, short, length-append body (10 ∷ [])))
        ∙ ap (λ (z : LineTexts). Ok z) (sym becomes));
    inverse_is = refl;
    back_is = refl;
    back = λ after loaded there same. accepted_end_line_sets_file_lines after f (line_texts_of_file policy f) there (ap (λ z. changed_lines_unless_last_too_long (lines_with_last_changed line_with_lf_added z)) (same ∙ becomes)
        ∙ end_change_of_last_line_is_accepted line_with_lf_added before body (body ++ 10 ∷ []) (lf_is_added_to_line_lacking_it body (cut_so after loaded).1) short
        ∙ ap (λ (z : LineTexts). Ok z) (sym was));
  }

  -- the text without it
  pub opened_text : take (length (join (line_texts_of_file policy f)) - 1) (join (line_texts_of_file policy f)) ≡ join (lines_without_final_lf policy f line)
  opened_text =
      ap (λ (z : List ℕ). take (length z - 1) z) (ap join was ∙ sym (bytes_added_to_last_line_extend_text before body (10 ∷ []))) ∙ ended_line_without_last_byte_is_body (join (before ++ body ∷ []))
      ∙ ap join (sym becomes)

  -- where that is loaded, the last line is one line
  pub open_one : (new : LoadedPolicy) → policy_or_load_fault (files_with_bytes_replaced f (join (lines_without_final_lf policy f line)) (named_files_of_policy policy)) ≡ Ok new → is_one_logical_line (take (length line - 1) line) ≡ true
  open_one new loaded =
      let told = law.cut policy new f (join (lines_without_final_lf policy f line)) is.here loaded in
      ap is_one_logical_line body_is ∙ line_cut_alone_is_one_logical_line body (last_of_lines_is_cut_alone before body (subst EachIsOneLineWhenCut (cut_so new loaded).0 told.1))
