-- An edit that is accepted leads to a policy, and its inverse leads back: edits of whole lines, and of the end of the last.
use Rattle.sudoers_edit.proofs.Common.{AllByRecursion, AreLogicalLinesOfFileWithinTextLimit, AreValidWalkLines, BadName, Bool, Delete, EachIsOneLineWhenCut, Edit, EditFault, EditSetsFileLines, EndAsIs, EndLine, Err, LawsBehindFinalLfEdits}
use Rattle.sudoers_edit.proofs.Common.{HasFittingNumbers, HaveFittingNumbers, Insert, IsLogicalLine, SplitsIntoItselfAsOnlyLine, Kind, Line, LawsBehindLineEdits, LineTexts, List, LoadFault, LoadedPolicy, LawsBehindMemberEdits, Move}
use Rattle.sudoers_edit.proofs.Common.{NameTaken, NamedFile, NoAlias, NoFile, NoLine, None, NotOneLine, Ok, OpenEnd, OpenLine, Option, ParsedFile, Rename, Result, Some, TextFault, TooLarge, [], and_parts, ap, arith}
use Rattle.sudoers_edit.proofs.Common.{cut_outcome_of_text, definition_place_of_name, edit_result_and_then, ends_in_lf, false, files_with_bytes_replaced, is_cut_outcome_with_exactly_one_line, has_inner_line_without_lf}
use Rattle.sudoers_edit.proofs.Common.{if◌then◌else◌, inl, inr, insert, inv, is_alias_name_in_use, is_line_too_long, is_name, is_one_logical_line, is_reserved, is_some, join, leb_tells, length, line_limit}
use Rattle.sudoers_edit.proofs.Common.{line_text_in_file, line_texts_of_file, line_with_lf_added, line_with_lf_removed, lines_after_delete, changed_lines_unless_last_too_long, lines_after_insert, lines_after_move}
use Rattle.sudoers_edit.proofs.Common.{lines_of_numbered_file, lines_of_optional_file, lines_with_last_changed, lines_with_one_moved, lines_with_one_replaced, list_any, ltb-false, ltb-true, named_files_after_rename}
use Rattle.sudoers_edit.proofs.Common.{named_files_of_policy, nat_lt, not, policy_after_rename, policy_of_files_or_refusal, policy_or_edit_fault, policy_or_load_fault, policy_with_file_edited, policy_with_file_lines}
use Rattle.sudoers_edit.proofs.Common.{refl, remove, result_or_refusal_if_none, result_unless_refused, run, slice_get, slice_get_within, slice_index_or, step, suc, sym, texts_of_lines, texts_of_renamed_lines, true}
use Rattle.sudoers_edit.proofs.Common.{lines_cut_as_themselves_are_logical, zero, ℕ, ◌&&◌, ◌++◌, ◌-◌, ◌<◌, ◌||◌, ◌∙◌, ◌∷◌, ◌≡◌, ◌≤◌}
use Rattle.sudoers_edit.proofs.EditLemmas.{numbered_line_is_cut_alone, insert_keeps_lines_cut_alone, removal_keeps_lines_cut_alone}
use Rattle.sudoers_edit.proofs.PolicyLemmas.{text_with_one_line_is_single_line}
use Rattle.sudoers_edit.proofs.EndLemmas.{IsFileWithFinalLf, IsLastLineOfFile, IsFileLackingFinalLf, lines_with_final_lf, end_line_of_ended_file_is_refused, end_lands, end_one, end_line_past_limit_is_too_large, empty_file_end_edits_are_end_as_is, open_end_of_open_line_is_refused, open_lands, open_one, open_end_of_short_line_is_refused, lines_without_final_lf}
use Rattle.sudoers_edit.proofs.LandLemmas.{replacement_of_bytes_keeps_loaded_file_count, loaded_lines_are_cut_of_replaced_bytes, lines_of_loaded_file_are_sound, former_lines_of_file_give_former_policy, accepted_edit_is_accepted_run}
use Rattle.sudoers_edit.proofs.LineLemmas.{delete_sets_file_lines, insert_sets_file_lines, move_sets_file_lines}

-- What the laws say of loaded files, of their lines, and of renames.
pub record AcceptedEditLaws : Type 0 where
  pub land : LawsBehindLineEdits
  pub joined : (lines others : LineTexts) → AllByRecursion IsLogicalLine lines → has_inner_line_without_lf lines ≡ false → cut_outcome_of_text (join lines) ≡ Ok others → others ≡ lines
  pub ends : LawsBehindFinalLfEdits
  pub walks : LawsBehindMemberEdits
  pub walk : (files : List NamedFile) (policy : LoadedPolicy) → policy_or_load_fault files ≡ Ok policy → AreValidWalkLines policy.walk.lines
  pub renames : (kind : Kind) (name fresh : List ℕ) (policy new : LoadedPolicy) → policy_or_load_fault (named_files_of_policy policy) ≡ Ok policy
      → step (Rename kind name fresh) policy ≡ Ok new → step (Rename kind fresh name) new ≡ Ok policy

-- The edit leads to a policy, and its inverse leads back.
pub record IsReversibleStep (edit : Edit) (policy new : LoadedPolicy) : Type 0 where
  pub loaded : policy_or_load_fault (named_files_of_policy new) ≡ Ok new
  pub back : run (inv edit policy) new ≡ Some policy
  pub numbered : HasFittingNumbers edit → HaveFittingNumbers (inv edit policy)

-- Where the edit of a policy is accepted, it leads so.
abbrev pub IsReversibleWhereAccepted : Edit → Type 0
IsReversibleWhereAccepted edit = (policy new : LoadedPolicy) → policy_or_load_fault (named_files_of_policy policy) ≡ Ok policy → step edit policy ≡ Ok new → IsReversibleStep edit policy new

-- OUTCOMES

pub refusal_is_not_accepted : {A : Type 0} (f : EditFault) (new : LoadedPolicy) (r : Result LoadedPolicy EditFault) → r ≡ Err f → r ≡ Ok new → A
refusal_is_not_accepted f new (Ok m) a b = absurd cc
refusal_is_not_accepted f new (Err g) a b = absurd cc

pub accepted_result_is_not_refused : {X : Type 0} (b : Bool) (f : EditFault) (r : Result X EditFault) (new : X) → result_unless_refused b f r ≡ Ok new → (b ≡ false) × (r ≡ Ok new)
accepted_result_is_not_refused true f r new e = absurd cc
accepted_result_is_not_refused false f r new e = (refl, e)

pub accepted_result_has_found_value : {A X : Type 0} (o : Option A) (f : EditFault) (next : A → Result X EditFault) (new : X) → result_or_refusal_if_none o f next ≡ Ok new → (x : A) × (o ≡ Some x) × (next x ≡ Ok new)
accepted_result_has_found_value None f next new e = absurd cc
accepted_result_has_found_value (Some x) f next new e = (x, refl, e)

pub accepted_sequence_has_both_results : {A X : Type 0} (r : Result A EditFault) (next : A → Result X EditFault) (new : X) → edit_result_and_then r next ≡ Ok new → (x : A) × (r ≡ Ok x) × (next x ≡ Ok new)
accepted_sequence_has_both_results (Ok x) next new e = (x, refl, e)
accepted_sequence_has_both_results (Err f) next new e = absurd cc

accepted_choice_has_its_condition : (b : Bool) (f : EditFault) (lines new : LineTexts) → (if b then Ok lines else Err f) ≡ Ok new → (b ≡ true) × (lines ≡ new)
accepted_choice_has_its_condition true f lines new e = (refl, cc)
accepted_choice_has_its_condition false f lines new e = absurd cc

accepted_insert_has_place_and_one_line : (b c : Bool) (lines new : LineTexts) → (if b then Err NoLine else (if c then Ok lines else Err NotOneLine)) ≡ Ok new
    → (b ≡ false) × (c ≡ true) × (lines ≡ new)
accepted_insert_has_place_and_one_line true c lines new e = absurd cc
accepted_insert_has_place_and_one_line false true lines new e = (refl, refl, cc)
accepted_insert_has_place_and_one_line false false lines new e = absurd cc

-- a line that is put in stands among the lines
pub accepted_insert_makes_inserted_lines : (at : ℕ) (t : List ℕ) (lines new : LineTexts) → lines_after_insert at t lines ≡ Ok new → (at ≤ length lines) × (insert lines at t ≡ new)
accepted_insert_makes_inserted_lines at t lines new is =
    let p = accepted_insert_has_place_and_one_line (nat_lt (length lines) at) (is_one_logical_line t) (insert lines at t) new is in
    (ltb-false (length lines) at p.0, p.2)

pub accepted_load_is_load_without_fault : (r : Result LoadedPolicy LoadFault) (new : LoadedPolicy) → policy_or_edit_fault r ≡ Ok new → r ≡ Ok new
accepted_load_is_load_without_fault (Ok policy) new is = let same : policy ≡ new = cc in ap (λ (p : LoadedPolicy). Ok p) same
accepted_load_is_load_without_fault (Err fault) new is = absurd cc

-- lines that land are no open ones, and load
pub accepted_file_lines_are_ended_and_load : (policy new : LoadedPolicy) (f : ℕ) (lines : LineTexts) → policy_with_file_lines policy f lines ≡ Ok new
    → (has_inner_line_without_lf lines ≡ false) × (policy_or_load_fault (files_with_bytes_replaced f (join lines) (named_files_of_policy policy)) ≡ Ok new)
accepted_file_lines_are_ended_and_load policy new f lines is =
    let files : List NamedFile = files_with_bytes_replaced f (join lines) (named_files_of_policy policy) in
    let p = accepted_result_is_not_refused (has_inner_line_without_lf lines) OpenLine (policy_of_files_or_refusal files) new is in
    (p.0, accepted_load_is_load_without_fault (policy_or_load_fault files) new p.1)

-- An edit of the lines of a file that is there makes these lines, and they land.
pub record HasAcceptedFileLines (f : ℕ) (policy new : LoadedPolicy) (edit : List Line → Result LineTexts EditFault) : Type 0 where
  pub here : f < length policy.files
  pub lines : LineTexts
  pub made : edit (lines_of_numbered_file policy.files f) ≡ Ok lines
  pub lands : policy_with_file_lines policy f lines ≡ Ok new

pub accepted_file_edit_has_file_lines : (f : ℕ) (policy new : LoadedPolicy) (edit : List Line → Result LineTexts EditFault) → policy_with_file_edited f policy edit ≡ Ok new → HasAcceptedFileLines f policy new edit
accepted_file_edit_has_file_lines f policy new edit is =
    let file = accepted_result_has_found_value (slice_get policy.files f) NoFile (λ (file : ParsedFile). edit_result_and_then (edit file.lines) (policy_with_file_lines policy f)) new is in
    let made = accepted_sequence_has_both_results (edit file.0.lines) (policy_with_file_lines policy f) new file.2 in
    record {
      here = slice_get_within policy.files f file.0 file.1;
      lines = made.0;
      made = ap edit (ap lines_of_optional_file file.1) ∙ made.1;
      lands = made.2;
    }

-- an edit of one file that is accepted
pub accepted_edit_of_file_lines_is_reversible : AcceptedEditLaws → (edit back : Edit) (inverse : List Edit) (policy new : LoadedPolicy) (f : ℕ) (lines : LineTexts) → policy_or_load_fault (named_files_of_policy policy) ≡ Ok policy
    → EditSetsFileLines edit back inverse policy f lines
    → (policy_or_load_fault (files_with_bytes_replaced f (join lines) (named_files_of_policy policy)) ≡ Ok new → AllByRecursion IsLogicalLine lines)
    → (HasFittingNumbers edit → HaveFittingNumbers (inv edit policy)) → step edit policy ≡ Ok new → IsReversibleStep edit policy new
accepted_edit_of_file_lines_is_reversible l edit back inverse policy new f lines loaded to whole numbered is =
    let files : List NamedFile = files_with_bytes_replaced f (join lines) (named_files_of_policy policy) in
    let told : policy_or_load_fault files ≡ Ok new = (accepted_file_lines_are_ended_and_load policy new f lines (sym to.forth ∙ is)).1 in
    let same : line_texts_of_file new f ≡ lines = l.joined lines (line_texts_of_file new f) (whole told) to.ended (loaded_lines_are_cut_of_replaced_bytes l.land policy new f (join lines) to.here told).0 in
    let there : f < length new.files = omega (arith, to.here, replacement_of_bytes_keeps_loaded_file_count l.land policy new f (join lines) told) in
    record {
      loaded = ap policy_or_load_fault (l.land.bytes files new told) ∙ told;
      back = ap (λ edits. run edits new) (sym to.inverse_is ∙ to.back_is)
          ∙ accepted_edit_is_accepted_run back new policy (to.back new told there same ∙ former_lines_of_file_give_former_policy l.land policy new f (join lines) loaded told);
      numbered = numbered;
    }

-- LINES

-- lines that stand alone are logical lines
pub lines_cut_alone_are_logical_lines : AcceptedEditLaws → (lines : LineTexts) → EachIsOneLineWhenCut lines → AllByRecursion IsLogicalLine lines
lines_cut_alone_are_logical_lines l lines each = lines_cut_as_themselves_are_logical l.land.logical l.land.tells lines each

-- a text that is one line is one
one_logical_line_is_cut_alone : AcceptedEditLaws → (t : List ℕ) → is_one_logical_line t ≡ true → SplitsIntoItselfAsOnlyLine t
one_logical_line_is_cut_alone l t one = by (cut_outcome_of_text t) refl one
  where
    by : (o : Result (List (List ℕ)) TextFault) → cut_outcome_of_text t ≡ o → is_cut_outcome_with_exactly_one_line o ≡ true → SplitsIntoItselfAsOnlyLine t
    by (Ok []) is h = absurd cc
    by (Ok (line ∷ [])) is h = text_with_one_line_is_single_line l.land.alone t (line ∷ []) is refl
    by (Ok (line ∷ next ∷ lines)) is h = absurd cc
    by (Err fault) is h = absurd cc

-- of logical lines one is another
pub replaced_line_keeps_logical_lines : (lines : LineTexts) (at : ℕ) (t : List ℕ) → AllByRecursion IsLogicalLine lines → IsLogicalLine t → AllByRecursion IsLogicalLine (lines_with_one_replaced at t lines)
replaced_line_keeps_logical_lines [] zero t all one = tt
replaced_line_keeps_logical_lines [] (suc at) t all one = tt
replaced_line_keeps_logical_lines (line ∷ lines) zero t all one = (one, all.1)
replaced_line_keeps_logical_lines (line ∷ lines) (suc at) t all one = (all.0, replaced_line_keeps_logical_lines lines at t all.1 one)

-- WHOLE LINES

pub accepted_insert_is_reversible : AcceptedEditLaws → (f at : ℕ) (t : List ℕ) → IsReversibleWhereAccepted (Insert f at t)
accepted_insert_is_reversible l f at t policy new loaded is =
    let ls : LineTexts = line_texts_of_file policy f in
    let i = accepted_file_edit_has_file_lines f policy new (λ lines. lines_after_insert at t (texts_of_lines lines)) is in
    let p = accepted_insert_has_place_and_one_line (nat_lt (length ls) at) (is_one_logical_line t) (insert ls at t) i.lines i.made in
    let ended : has_inner_line_without_lf (insert ls at t) ≡ false = ap has_inner_line_without_lf p.2 ∙ (accepted_file_lines_are_ended_and_load policy new f i.lines i.lands).0 in
    accepted_edit_of_file_lines_is_reversible l (Insert f at t) (Delete f at) (Delete f at ∷ []) policy new f (insert ls at t) loaded
    (insert_sets_file_lines policy f at t i.here (ltb-false (length ls) at p.0) p.1 ended)
    (λ told. lines_cut_alone_are_logical_lines l (insert ls at t) (insert_keeps_lines_cut_alone ls at t (lines_of_loaded_file_are_sound l.land policy loaded f).each (one_logical_line_is_cut_alone l t p.1))) (λ n. (n, tt)) is

pub accepted_delete_is_reversible : AcceptedEditLaws → (f at : ℕ) → IsReversibleWhereAccepted (Delete f at)
accepted_delete_is_reversible l f at policy new loaded is =
    let ls : LineTexts = line_texts_of_file policy f in
    let i = accepted_file_edit_has_file_lines f policy new (λ lines. lines_after_delete at (texts_of_lines lines)) is in
    let p = accepted_choice_has_its_condition (nat_lt at (length ls)) NoLine (remove ls at) i.lines i.made in
    let are : AreLogicalLinesOfFileWithinTextLimit ls = lines_of_loaded_file_are_sound l.land policy loaded f in
    accepted_edit_of_file_lines_is_reversible l (Delete f at) (Insert f at (line_text_in_file f at policy)) (Insert f at (line_text_in_file f at policy) ∷ []) policy new f (remove ls at) loaded
    (delete_sets_file_lines policy f at i.here (ltb-true at (length ls) p.0) are.each are.ended)
    (λ told. lines_cut_alone_are_logical_lines l (remove ls at) (removal_keeps_lines_cut_alone ls at are.each)) (λ n. (n, tt)) is

pub accepted_move_is_reversible : AcceptedEditLaws → (f from to : ℕ) → IsReversibleWhereAccepted (Move f from to)
accepted_move_is_reversible l f from to policy new loaded is =
    let ls : LineTexts = line_texts_of_file policy f in
    let i = accepted_file_edit_has_file_lines f policy new (λ lines. lines_after_move from to (texts_of_lines lines)) is in
    let p = accepted_choice_has_its_condition (nat_lt from (length ls) && nat_lt to (length ls)) NoLine (lines_with_one_moved from to ls) i.lines i.made in
    let both = and_parts (nat_lt from (length ls)) (nat_lt to (length ls)) p.0 in
    let inside : from < length ls = ltb-true from (length ls) both.0 in
    let ended : has_inner_line_without_lf (lines_with_one_moved from to ls) ≡ false = ap has_inner_line_without_lf p.1 ∙ (accepted_file_lines_are_ended_and_load policy new f i.lines i.lands).0 in
    let each : EachIsOneLineWhenCut ls = (lines_of_loaded_file_are_sound l.land policy loaded f).each in
    accepted_edit_of_file_lines_is_reversible l (Move f from to) (Move f to from) (Move f to from ∷ []) policy new f (lines_with_one_moved from to ls) loaded
    (move_sets_file_lines policy f from to i.here inside (ltb-true to (length ls) both.1) ended)
    (λ told. lines_cut_alone_are_logical_lines l (lines_with_one_moved from to ls) (insert_keeps_lines_cut_alone (remove ls from) to (slice_index_or ls from []) (removal_keeps_lines_cut_alone ls from each) (numbered_line_is_cut_alone ls from inside each)))
    (λ n. ((n.0, n.2, n.1), tt)) is

-- THE END OF THE LAST LINE

-- the lines with another last line, if that is one line
last_line_replaced_keeps_logical_lines : AcceptedEditLaws → (policy : LoadedPolicy) (f at : ℕ) (t : List ℕ) → policy_or_load_fault (named_files_of_policy policy) ≡ Ok policy → is_one_logical_line t ≡ true
    → AllByRecursion IsLogicalLine (lines_with_one_replaced at t (line_texts_of_file policy f))
last_line_replaced_keeps_logical_lines l policy f at t loaded one =
    replaced_line_keeps_logical_lines (line_texts_of_file policy f) at t (lines_of_loaded_file_are_sound l.land policy loaded f).whole (l.land.tells t (l.land.logical t (one_logical_line_is_cut_alone l t one)))

pub accepted_end_line_is_reversible : AcceptedEditLaws → (f : ℕ) → IsReversibleWhereAccepted (EndLine f)
accepted_end_line_is_reversible l f policy new loaded is = by (slice_get (line_texts_of_file policy f) (length (line_texts_of_file policy f) - 1)) refl
  where
    here : f < length policy.files
    here = (accepted_file_edit_has_file_lines f policy new (λ lines. changed_lines_unless_last_too_long (lines_with_last_changed line_with_lf_added (texts_of_lines lines))) is).here

    short : (line : List ℕ) → IsLastLineOfFile policy f line → ends_in_lf line ≡ false → length line < line_limit → IsReversibleStep (EndLine f) policy new
    short line last h less =
        let lacks : IsFileLackingFinalLf policy f line = record { here = here; sound = lines_of_loaded_file_are_sound l.land policy loaded f; last = last; lacks = h; short = less } in
        accepted_edit_of_file_lines_is_reversible l (EndLine f) (OpenEnd f) (OpenEnd f ∷ []) policy new f (lines_with_final_lf policy f line) loaded (end_lands l.ends policy f line lacks)
        (λ told. last_line_replaced_keeps_logical_lines l policy f (length (line_texts_of_file policy f) - 1) (line ++ 10 ∷ []) loaded (end_one l.ends policy f line lacks new told)) (λ n. (n, tt)) is

    lacking : (line : List ℕ) → IsLastLineOfFile policy f line → ends_in_lf line ≡ false → IsReversibleStep (EndLine f) policy new
    lacking line last h =
        elim (leb_tells line_limit (length line)) [
          | inl more ↦ refusal_is_not_accepted TooLarge new (step (EndLine f) policy) (end_line_past_limit_is_too_large policy f line here last h more.1) is
          | inr less ↦ short line last h less.1
        ]

    by_end : (line : List ℕ) → IsLastLineOfFile policy f line → (b : Bool) → ends_in_lf line ≡ b → IsReversibleStep (EndLine f) policy new
    by_end line last true h = refusal_is_not_accepted EndAsIs new (step (EndLine f) policy) (end_line_of_ended_file_is_refused policy f line here last h) is
    by_end line last false h = lacking line last h

    by : (o : Option (List ℕ)) → slice_get (line_texts_of_file policy f) (length (line_texts_of_file policy f) - 1) ≡ o → IsReversibleStep (EndLine f) policy new
    by None none = refusal_is_not_accepted EndAsIs new (step (EndLine f) policy) (empty_file_end_edits_are_end_as_is policy f here none).0 is
    by (Some line) last = by_end line last (ends_in_lf line) refl

pub accepted_open_end_is_reversible : AcceptedEditLaws → (f : ℕ) → IsReversibleWhereAccepted (OpenEnd f)
accepted_open_end_is_reversible l f policy new loaded is = by (slice_get (line_texts_of_file policy f) (length (line_texts_of_file policy f) - 1)) refl
  where
    here : f < length policy.files
    here = (accepted_file_edit_has_file_lines f policy new (λ lines. changed_lines_unless_last_too_long (lines_with_last_changed line_with_lf_removed (texts_of_lines lines))) is).here

    long : (line : List ℕ) → IsLastLineOfFile policy f line → 2 ≤ length line → (b : Bool) → ends_in_lf line ≡ b → IsReversibleStep (OpenEnd f) policy new
    long line last size true h =
        let has : IsFileWithFinalLf policy f line = record { here = here; sound = lines_of_loaded_file_are_sound l.land policy loaded f; last = last; has = h; long = size } in
        accepted_edit_of_file_lines_is_reversible l (OpenEnd f) (EndLine f) (EndLine f ∷ []) policy new f (lines_without_final_lf policy f line) loaded (open_lands l.ends policy f line has)
        (λ told. last_line_replaced_keeps_logical_lines l policy f (length (line_texts_of_file policy f) - 1) _ loaded (open_one l.ends policy f line has new told)) (λ n. (n, tt)) is
    long line last size false h = refusal_is_not_accepted EndAsIs new (step (OpenEnd f) policy) (open_end_of_open_line_is_refused policy f line here last h) is

    by : (o : Option (List ℕ)) → slice_get (line_texts_of_file policy f) (length (line_texts_of_file policy f) - 1) ≡ o → IsReversibleStep (OpenEnd f) policy new
    by None none = refusal_is_not_accepted EndAsIs new (step (OpenEnd f) policy) (empty_file_end_edits_are_end_as_is policy f here none).1 is
    by (Some line) last =
        elim (leb_tells 2 (length line)) [
          | inl more ↦ long line last more.1 (ends_in_lf line) refl
          | inr less ↦ refusal_is_not_accepted EndAsIs new (step (OpenEnd f) policy) (open_end_of_short_line_is_refused policy f line here last less.1) is
        ]

-- RENAMES

-- a rename that is accepted leads to files that load
pub accepted_rename_makes_files_that_load : AcceptedEditLaws → (k : Kind) (name fresh : List ℕ) (policy new : LoadedPolicy) → step (Rename k name fresh) policy ≡ Ok new → policy_or_load_fault (named_files_of_policy new) ≡ Ok new
unfolding policy_after_rename
accepted_rename_makes_files_that_load l k name fresh policy new is =
    let walk : List Line = policy.walk.lines in
    let files : List NamedFile = named_files_after_rename k name fresh policy in
    let long : Result LoadedPolicy EditFault = result_unless_refused (list_any is_line_too_long (texts_of_renamed_lines k name fresh walk)) TooLarge (policy_of_files_or_refusal files) in
    let taken : Result LoadedPolicy EditFault = result_unless_refused (is_alias_name_in_use k fresh walk) NameTaken long in
    let bad : Result LoadedPolicy EditFault = result_unless_refused (not (is_name fresh) || is_reserved fresh) BadName taken in
    let a = accepted_result_is_not_refused (not (is_some (definition_place_of_name k name walk))) NoAlias bad new is in
    let b = accepted_result_is_not_refused (not (is_name fresh) || is_reserved fresh) BadName taken new a.1 in
    let c = accepted_result_is_not_refused (is_alias_name_in_use k fresh walk) NameTaken long new b.1 in
    let d = accepted_result_is_not_refused (list_any is_line_too_long (texts_of_renamed_lines k name fresh walk)) TooLarge (policy_of_files_or_refusal files) new c.1 in
    let told : policy_or_load_fault files ≡ Ok new = accepted_load_is_load_without_fault (policy_or_load_fault files) new d.1 in
    ap policy_or_load_fault (l.land.bytes files new told) ∙ told
