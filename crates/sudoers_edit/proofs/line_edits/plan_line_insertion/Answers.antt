use Rattle.sudoers_edit.proofs.Common.{Delete, EditSetsFileLines, Insert, IsLogicalLine, List, LoadedPolicy, [], arith, false, has_inner_line_without_lf, insert, is_one_logical_line, length, line_texts_of_file}
use Rattle.sudoers_edit.proofs.Common.{lines_of_numbered_file, subst, sym, true, ℕ, ◌<◌, ◌∙◌, ◌∷◌, ◌≡◌, ◌≤◌}
use Rattle.sudoers_edit.proofs.PolicyLemmas.{texts_are_as_many_as_lines}
use Rattle.sudoers_edit.proofs.LineLemmas.{insert_sets_file_lines}
use Rattle.sudoers_edit.proofs.line_edits.plan_line_insertion.Goals as goal

pub returns : goal.returns
returns c =
    let policy : LoadedPolicy = c.args.policy.now in
    let f : ℕ = c.args.file in
    let at : ℕ = c.args.at in
    let ls : List (List ℕ) = line_texts_of_file policy f in
    let t : List ℕ = c.args.text.now in
    let here : f < length policy.files = omega (arith, c.if-number-files.false, c.files.ensures) in
    let within : at ≤ length ls = omega (arith, c.if-place-len.false, c.len.ensures, texts_are_as_many_as_lines (lines_of_numbered_file policy.files f)) in
    let one : is_one_logical_line t ≡ true = sym c.in_ok-is_single_logical_line.ensures.is ∙ c.if-not-branch.false in
    let whole : IsLogicalLine t = c.in_ok-is_single_logical_line.ensures.whole c.if-not-branch.false in
    let ended : has_inner_line_without_lf (insert ls at t) ≡ false = sym c.leaves_open_line_after_insert.ensures ∙ c.if-leaves_open_line_after_insert.false in
    let lands : EditSetsFileLines (Insert f at t) (Delete f at) (Delete f at ∷ []) policy f (insert ls at c.in_ok-text.text) =
    subst (λ z. EditSetsFileLines (Insert f at t) (Delete f at) (Delete f at ∷ []) policy f (insert ls at z)) (sym c.in_ok-text.ensures)
    (insert_sets_file_lines policy f at t here within one ended) in
    c.in_ok-plan_put_change.ensures (Insert f at t) (Delete f at) policy c.allocator_of-alloc.ensures within (subst IsLogicalLine (sym c.in_ok-text.ensures) whole)
    (subst (λ i. EditSetsFileLines (Insert f at t) (Delete f at) i policy f (insert ls at c.in_ok-text.text)) (sym c.in_ok-inverse.ensures) lands)
