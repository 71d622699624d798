use Rattle.sudoers_edit.proofs.Common.{EditSetsFileLines, IsLogicalLine, List, ap, arith, false, has_inner_line_without_lf, inr, computed_logical_line_is_logical_line, length, line_limit, line_texts_of_file, lines_of_numbered_file}
use Rattle.sudoers_edit.proofs.Common.{lines_with_one_replaced, subst, sym, ℕ, ◌∙◌, ◌≡◌, ◌≤◌}
use Rattle.sudoers_edit.proofs.PolicyLemmas.{texts_are_as_many_as_lines}
use Rattle.sudoers_edit.proofs.ReplaceLemmas.{replacement_leaving_open_line_is_refused, ended_replacement_sets_file_lines}
use Rattle.sudoers_edit.proofs.splice_edits.plan_line_replacement.Goals as goal

pub returns-then-leaves_open_line_after_replace : goal.returns-then-leaves_open_line_after_replace
returns-then-leaves_open_line_after_replace c = λ edit back r.
    let ls : List (List ℕ) = line_texts_of_file c.args.policy.now c.args.file in
    let t : List ℕ = c.args.text.items in
    let short : length t ≤ line_limit = omega (arith, c.if-len-gt-LINE_LIMIT.false, c.len.ensures, c.args.text.ok.0) in
    inr (replacement_leaving_open_line_is_refused edit back c.args.inverse c.args.policy.now c.args.file c.args.at t r short
    (ap (λ z. has_inner_line_without_lf (lines_with_one_replaced c.args.at z ls)) (sym c.as_slice.ensures.value) ∙ sym c.leaves_open_line_after_replace.ensures ∙ c.if-leaves_open_line_after_replace.true))

pub returns : goal.returns
returns c = λ edit back r.
    let f : ℕ = c.args.file in
    let ls : List (List ℕ) = line_texts_of_file c.args.policy.now f in
    let at : ℕ = c.args.at in
    let t : List ℕ = c.args.text.items in
    let short : length t ≤ line_limit = omega (arith, c.if-len-gt-LINE_LIMIT.false, c.len.ensures, c.args.text.ok.0) in
    let ended : has_inner_line_without_lf (lines_with_one_replaced at t ls) ≡ false =
    ap (λ z. has_inner_line_without_lf (lines_with_one_replaced at z ls)) (sym c.as_slice.ensures.value) ∙ sym c.leaves_open_line_after_replace.ensures ∙ c.if-leaves_open_line_after_replace.false in
    let lands = ended_replacement_sets_file_lines edit back c.args.inverse c.args.policy.now f at t r short ended in
    let same : t ≡ c.from_vec-text.result = sym c.from_vec-text.ensures in
    c.in_ok-plan_swap_change.ensures edit back c.args.policy.now c.allocator_of.ensures (omega (arith, c.requires, texts_are_as_many_as_lines (lines_of_numbered_file c.args.policy.now.files f)))
    (subst IsLogicalLine same (computed_logical_line_is_logical_line t r.said_is))
    (subst (λ z. EditSetsFileLines edit back c.args.inverse c.args.policy.now f (lines_with_one_replaced at z ls)) same lands)
