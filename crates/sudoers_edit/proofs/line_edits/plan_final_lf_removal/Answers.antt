use Rattle.sudoers_edit.proofs.Common.{EditSetsFileLines, EndLine, IsLogicalLine, List, LoadedPolicy, OpenEnd, [], ap, arith, false, inr, is_one_logical_line, join, length, line_texts_of_file}
use Rattle.sudoers_edit.proofs.Common.{lines_with_one_replaced, subst, sym, take, ℕ, ◌-◌, ◌<◌, ◌∙◌, ◌∷◌, ◌≡◌}
use Rattle.sudoers_edit.proofs.EndLemmas.{IsFileWithFinalLf, number_of_last_line_is_below_count, empty_file_end_edits_are_end_as_is, open_end_of_open_line_is_refused, open_lands, open_one, open_end_of_short_line_is_refused, lines_without_final_lf, opened_text, refusal_of_changed_files_refuses_edit, files_with_bad_line_are_not_loaded}
use Rattle.sudoers_edit.proofs.LawsApplied.{loaded_file_lines_are_sound}
use Rattle.sudoers_edit.proofs.LawsBelow.{final_lf_laws_hold}
use Rattle.sudoers_edit.proofs.line_edits.plan_final_lf_removal.Goals as goal
use Rattle.sudoers_edit.proofs.line_edits.plan_final_lf_removal.Goals.{then-last-lt2-via-then-last-lt2, then-last-lt2-via-else-last-lt2+then-not-ends_in_lf}

pub returns-in_default : goal.returns-in_default
returns-in_default c =
    inr (empty_file_end_edits_are_end_as_is c.args.policy.now c.args.file (omega (arith, c.if-number-files.false, c.files.ensures)) (sym c.in_default.ensures)).1

pub returns-then-last-lt2 : goal.returns-then-last-lt2
returns-then-last-lt2 c =
    let here : c.args.file < length c.args.policy.now.files = omega (arith, c.if-number-files.false, c.files.ensures) in
    inr (elim c.then-last-lt2.branch [
      | then-last-lt2-via-then-last-lt2 w ↦ open_end_of_short_line_is_refused c.args.policy.now c.args.file c.in-Some.last.now here (sym c.in-Some.ensures) w.if-last-lt2.true
      | then-last-lt2-via-else-last-lt2+then-not-ends_in_lf w ↦
          open_end_of_open_line_is_refused c.args.policy.now c.args.file c.in-Some.last.now here (sym c.in-Some.ensures) (sym w.ends_in_lf.ensures ∙ w.if-not-ends_in_lf.true)
    ])

pub refusal_of_bytes_that_make_no_policy-requires : goal.refusal_of_bytes_that_make_no_policy-requires
refusal_of_bytes_that_make_no_policy-requires c =
    let policy : LoadedPolicy = c.args.policy.now in
    let f : ℕ = c.args.file in
    let line : List ℕ = c.in-Some.last.now in
    let has : IsFileWithFinalLf policy f line = record {
      here = omega (arith, c.if-number-files.false, c.files.ensures);
      sound = loaded_file_lines_are_sound policy c.allocator_of-alloc.ensures f;
      last = sym c.in-Some.ensures;
      has = sym c.ends_in_lf.ensures ∙ c.if-not-ends_in_lf.false;
      long = c.if-last-lt2.false;
    } in
    let not_one : is_one_logical_line (take (length line - 1) line) ≡ false =
    ap is_one_logical_line (sym (c.as_slice.ensures ∙ c.in_ok-text.ensures)) ∙ sym c.in_ok-is_single_logical_line.ensures.is ∙ c.if-not-branch.true in
    let whole : c.pop.new.self.items ≡ take (length (join (line_texts_of_file policy f)) - 1) (join (line_texts_of_file policy f)) =
    c.pop.ensures.rest ∙ ap (λ n. take (n - 1) c.in_ok-whole.whole.items) c.in_ok-whole.whole.ok.0 ∙ ap (λ (t : List ℕ). take (length t - 1) t) c.in_ok-whole.ensures in
    files_with_bad_line_are_not_loaded policy f (lines_without_final_lf policy f line) c.pop.new.self.items (take (length line - 1) line) (open_one final_lf_laws_hold policy f line has) not_one
    (whole ∙ opened_text final_lf_laws_hold policy f line has)

pub returns-then-not-branch : goal.returns-then-not-branch
returns-then-not-branch c =
    let policy : LoadedPolicy = c.args.policy.now in
    let f : ℕ = c.args.file in
    let line : List ℕ = c.in-Some.last.now in
    let has : IsFileWithFinalLf policy f line = record {
      here = omega (arith, c.if-number-files.false, c.files.ensures);
      sound = loaded_file_lines_are_sound policy c.allocator_of-alloc.ensures f;
      last = sym c.in-Some.ensures;
      has = sym c.ends_in_lf.ensures ∙ c.if-not-ends_in_lf.false;
      long = c.if-last-lt2.false;
    } in
    let whole : c.pop.new.self.items ≡ take (length (join (line_texts_of_file policy f)) - 1) (join (line_texts_of_file policy f)) =
    c.pop.ensures.rest ∙ ap (λ n. take (n - 1) c.in_ok-whole.whole.items) c.in_ok-whole.whole.ok.0 ∙ ap (λ (t : List ℕ). take (length t - 1) t) c.in_ok-whole.ensures in
    refusal_of_changed_files_refuses_edit (OpenEnd f) (EndLine f) (EndLine f ∷ []) policy f (lines_without_final_lf policy f line) c.pop.new.self.items c.refusal_of_bytes_that_make_no_policy.result
    (open_lands final_lf_laws_hold policy f line has) (whole ∙ opened_text final_lf_laws_hold policy f line has) c.refusal_of_bytes_that_make_no_policy.ensures

pub returns : goal.returns
returns c =
    let policy : LoadedPolicy = c.args.policy.now in
    let f : ℕ = c.args.file in
    let line : List ℕ = c.in-Some.last.now in
    let new : List ℕ = take (length line - 1) line in
    let ls : List (List ℕ) = line_texts_of_file policy f in
    let has : IsFileWithFinalLf policy f line = record {
      here = omega (arith, c.if-number-files.false, c.files.ensures);
      sound = loaded_file_lines_are_sound policy c.allocator_of-alloc.ensures f;
      last = sym c.in-Some.ensures;
      has = sym c.ends_in_lf.ensures ∙ c.if-not-ends_in_lf.false;
      long = c.if-last-lt2.false;
    } in
    let put : c.in_ok-text.text ≡ new = c.in_ok-text.ensures in
    let one : IsLogicalLine c.in_ok-text.text = subst IsLogicalLine c.as_slice.ensures (c.in_ok-is_single_logical_line.ensures.whole c.if-not-branch.false) in
    let lands : EditSetsFileLines (OpenEnd f) (EndLine f) c.in_ok-inverse.inverse policy f (lines_without_final_lf policy f line) =
    subst (λ i. EditSetsFileLines (OpenEnd f) (EndLine f) i policy f (lines_without_final_lf policy f line)) (sym c.in_ok-inverse.ensures) (open_lands final_lf_laws_hold policy f line has) in
    c.in_ok-plan_swap_change.ensures (OpenEnd f) (EndLine f) policy c.allocator_of-alloc.ensures
    (subst (λ n. n < length ls) (sym c.last_line_number_of_file_or_zero-at.ensures) (number_of_last_line_is_below_count policy f line has.last)) one
    (subst (λ n. EditSetsFileLines (OpenEnd f) (EndLine f) c.in_ok-inverse.inverse policy f (lines_with_one_replaced n c.in_ok-text.text ls)) (sym c.last_line_number_of_file_or_zero-at.ensures)
    (subst (λ t. EditSetsFileLines (OpenEnd f) (EndLine f) c.in_ok-inverse.inverse policy f (lines_with_one_replaced (length ls - 1) t ls)) (sym put) lands))
