use Rattle.sudoers_edit.proofs.Common.{AreLogicalLinesOfFileWithinTextLimit, Delete, Edit, EditSetsFileLines, Insert, List, LoadedPolicy, Some, [], ap, arith, length, line_text_in_file, line_texts_of_file, remove, slice_get}
use Rattle.sudoers_edit.proofs.Common.{slice_get_within, subst, sym, ℕ, ◌<◌, ◌∙◌, ◌∷◌, ◌≡◌}
use Rattle.sudoers_edit.proofs.PolicyLemmas.{found_line_is_line_at_index}
use Rattle.sudoers_edit.proofs.LineLemmas.{delete_sets_file_lines}
use Rattle.sudoers_edit.proofs.LawsApplied.{loaded_file_lines_are_sound}
use Rattle.sudoers_edit.proofs.line_edits.plan_line_deletion.Goals as goal

pub returns : goal.returns
returns c =
    let policy : LoadedPolicy = c.args.policy.now in
    let f : ℕ = c.args.file in
    let at : ℕ = c.args.at in
    let ls : List (List ℕ) = line_texts_of_file policy f in
    let line : List ℕ = c.in-Some.line.now in
    let there : slice_get ls at ≡ Some line = sym c.in-Some.ensures in
    let here : f < length policy.files = omega (arith, c.if-number-files.false, c.files.ensures) in
    let within : at < length ls = slice_get_within ls at line there in
    let sound : AreLogicalLinesOfFileWithinTextLimit ls = loaded_file_lines_are_sound policy c.allocator_of-alloc.ensures f in
    let back : Edit = Insert f at (line_text_in_file f at policy) in
    let copied : line_text_in_file f at policy ≡ c.in_ok-text.text = found_line_is_line_at_index ls at line [] there ∙ sym c.in_ok-text.ensures in
    let inverse : back ∷ [] ≡ c.in_ok-inverse.inverse = ap (λ t. Insert f at t ∷ []) copied ∙ sym c.in_ok-inverse.ensures in
    c.in_ok-plan_take_change.ensures (Delete f at) back policy c.allocator_of-alloc.ensures within
    (subst (λ i. EditSetsFileLines (Delete f at) back i policy f (remove ls at)) inverse (delete_sets_file_lines policy f at here within sound.each sound.ended))
