use Rattle.sudoers_edit.proofs.Common.{EditSetsFileLines, EndLine, IsLogicalLine, List, LoadedPolicy, OpenEnd, [], ap, arith, false, inr, is_one_logical_line, join, length, line_texts_of_file}
use Rattle.sudoers_edit.proofs.Common.{lines_with_one_replaced, subst, sym, ℕ, ◌++◌, ◌-◌, ◌<◌, ◌∙◌, ◌∷◌, ◌≡◌}
use Rattle.sudoers_edit.proofs.EndLemmas.{IsFileLackingFinalLf, lines_with_final_lf, closed_text, end_line_of_ended_file_is_refused, end_lands, end_one, end_line_past_limit_is_too_large, number_of_last_line_is_below_count, empty_file_end_edits_are_end_as_is, refusal_of_changed_files_refuses_edit, files_with_bad_line_are_not_loaded}
use Rattle.sudoers_edit.proofs.LawsApplied.{loaded_file_lines_are_sound}
use Rattle.sudoers_edit.proofs.LawsBelow.{final_lf_laws_hold}
use Rattle.sudoers_edit.proofs.line_edits.plan_final_lf_addition.Goals as goal

pub returns-in_default : goal.returns-in_default
returns-in_default c =
    inr (empty_file_end_edits_are_end_as_is c.args.policy.now c.args.file (omega (arith, c.if-number-files.false, c.files.ensures)) (sym c.in_default.ensures)).0

pub returns-then-ends_in_lf : goal.returns-then-ends_in_lf
returns-then-ends_in_lf c =
    inr (end_line_of_ended_file_is_refused c.args.policy.now c.args.file c.in-Some.last.now (omega (arith, c.if-number-files.false, c.files.ensures)) (sym c.in-Some.ensures)
    (sym c.ends_in_lf.ensures ∙ c.if-ends_in_lf.true))

pub returns-then-last-ge-LINE_LIMIT : goal.returns-then-last-ge-LINE_LIMIT
returns-then-last-ge-LINE_LIMIT c =
    inr (end_line_past_limit_is_too_large c.args.policy.now c.args.file c.in-Some.last.now (omega (arith, c.if-number-files.false, c.files.ensures)) (sym c.in-Some.ensures)
    (sym c.ends_in_lf.ensures ∙ c.if-ends_in_lf.false) c.if-last-ge-LINE_LIMIT.true)

pub refusal_of_bytes_that_make_no_policy-requires : goal.refusal_of_bytes_that_make_no_policy-requires
refusal_of_bytes_that_make_no_policy-requires c =
    let policy : LoadedPolicy = c.args.policy.now in
    let f : ℕ = c.args.file in
    let line : List ℕ = c.in-Some.last.now in
    let lacks : IsFileLackingFinalLf policy f line = record {
      here = omega (arith, c.if-number-files.false, c.files.ensures);
      sound = loaded_file_lines_are_sound policy c.allocator_of-alloc.ensures f;
      last = sym c.in-Some.ensures;
      lacks = sym c.ends_in_lf.ensures ∙ c.if-ends_in_lf.false;
      short = c.if-last-ge-LINE_LIMIT.false;
    } in
    let new : c.as_slice.result.now ≡ line ++ 10 ∷ [] = c.as_slice.ensures.value ∙ c.in_ok-push.ensures.items ∙ ap (λ (t : List ℕ). t ++ 10 ∷ []) c.in_ok-text.ensures.items in
    let not_one : is_one_logical_line (line ++ 10 ∷ []) ≡ false = ap is_one_logical_line (sym new) ∙ sym c.in_ok-is_single_logical_line.ensures.is ∙ c.if-not-branch.true in
    let whole : c.push-then-not-branch.new.self.items ≡ join (line_texts_of_file policy f) ++ 10 ∷ [] =
    c.in_ok-push-2.ensures.items ∙ ap (λ (t : List ℕ). t ++ 10 ∷ []) c.in_ok-whole.ensures in
    files_with_bad_line_are_not_loaded policy f (lines_with_final_lf policy f line) c.push-then-not-branch.new.self.items (line ++ 10 ∷ []) (end_one final_lf_laws_hold policy f line lacks) not_one
    (whole ∙ closed_text final_lf_laws_hold policy f line lacks)

pub returns-then-not-branch : goal.returns-then-not-branch
returns-then-not-branch c =
    let policy : LoadedPolicy = c.args.policy.now in
    let f : ℕ = c.args.file in
    let line : List ℕ = c.in-Some.last.now in
    let lacks : IsFileLackingFinalLf policy f line = record {
      here = omega (arith, c.if-number-files.false, c.files.ensures);
      sound = loaded_file_lines_are_sound policy c.allocator_of-alloc.ensures f;
      last = sym c.in-Some.ensures;
      lacks = sym c.ends_in_lf.ensures ∙ c.if-ends_in_lf.false;
      short = c.if-last-ge-LINE_LIMIT.false;
    } in
    let whole : c.push-then-not-branch.new.self.items ≡ join (line_texts_of_file policy f) ++ 10 ∷ [] =
    c.in_ok-push-2.ensures.items ∙ ap (λ (t : List ℕ). t ++ 10 ∷ []) c.in_ok-whole.ensures in
    refusal_of_changed_files_refuses_edit (EndLine f) (OpenEnd f) (OpenEnd f ∷ []) policy f (lines_with_final_lf policy f line) c.push-then-not-branch.new.self.items c.refusal_of_bytes_that_make_no_policy.result
    (end_lands final_lf_laws_hold policy f line lacks) (whole ∙ closed_text final_lf_laws_hold policy f line lacks) c.refusal_of_bytes_that_make_no_policy.ensures

pub returns : goal.returns
returns c =
    let policy : LoadedPolicy = c.args.policy.now in
    let f : ℕ = c.args.file in
    let line : List ℕ = c.in-Some.last.now in
    let ls : List (List ℕ) = line_texts_of_file policy f in
    let lacks : IsFileLackingFinalLf policy f line = record {
      here = omega (arith, c.if-number-files.false, c.files.ensures);
      sound = loaded_file_lines_are_sound policy c.allocator_of-alloc.ensures f;
      last = sym c.in-Some.ensures;
      lacks = sym c.ends_in_lf.ensures ∙ c.if-ends_in_lf.false;
      short = c.if-last-ge-LINE_LIMIT.false;
    } in
    let new : c.as_slice.result.now ≡ line ++ 10 ∷ [] = c.as_slice.ensures.value ∙ c.in_ok-push.ensures.items ∙ ap (λ (t : List ℕ). t ++ 10 ∷ []) c.in_ok-text.ensures.items in
    let put : c.from_vec.result ≡ line ++ 10 ∷ [] = c.from_vec.ensures ∙ sym c.as_slice.ensures.value ∙ new in
    let one : IsLogicalLine c.from_vec.result = subst IsLogicalLine (new ∙ sym put) (c.in_ok-is_single_logical_line.ensures.whole c.if-not-branch.false) in
    let lands : EditSetsFileLines (EndLine f) (OpenEnd f) c.in_ok-inverse.inverse policy f (lines_with_final_lf policy f line) =
    subst (λ i. EditSetsFileLines (EndLine f) (OpenEnd f) i policy f (lines_with_final_lf policy f line)) (sym c.in_ok-inverse.ensures) (end_lands final_lf_laws_hold policy f line lacks) in
    c.in_ok-plan_swap_change.ensures (EndLine f) (OpenEnd f) policy c.allocator_of-alloc.ensures
    (subst (λ n. n < length ls) (sym c.last_line_number_of_file_or_zero-at.ensures) (number_of_last_line_is_below_count policy f line lacks.last)) one
    (subst (λ n. EditSetsFileLines (EndLine f) (OpenEnd f) c.in_ok-inverse.inverse policy f (lines_with_one_replaced n c.from_vec.result ls)) (sym c.last_line_number_of_file_or_zero-at.ensures)
    (subst (λ t. EditSetsFileLines (EndLine f) (OpenEnd f) c.in_ok-inverse.inverse policy f (lines_with_one_replaced (length ls - 1) t ls)) (sym put) lands))
