use Rattle.sudoers_edit.proofs.Common.{AreChangesOfEdit, EditSetsFileLines, List, LoadedPolicy, Move, Some, [], ap, arith, false, has_inner_line_without_lf, length, line_changes_of_move, line_texts_of_file}
use Rattle.sudoers_edit.proofs.Common.{lines_of_numbered_file, lines_with_one_moved, no_changes_leave_lines_unchanged, slice_get, slice_get_within, slice_index_or, subst, sym, ℕ, ◌<◌, ◌∙◌, ◌≡◌}
use Rattle.sudoers_edit.proofs.PolicyLemmas.{texts_are_as_many_as_lines, found_line_is_line_at_index}
use Rattle.sudoers_edit.proofs.LineLemmas.{move_sets_file_lines}
use Rattle.sudoers_edit.proofs.MoveLemmas.{line_changes_of_move_make_moved_lines}
use Rattle.sudoers_edit.proofs.PlanLemmas.{changes_making_its_lines_are_of_edit}
use Rattle.sudoers_edit.proofs.FilesBelow.{first_change_law_holds}
use Rattle.sudoers_edit.proofs.LawsApplied.{loaded_file_lines_are_sound, one_file_changes_law_holds}
use Rattle.sudoers_edit.proofs.line_edits.plan_line_move.Goals as goal

pub returns : goal.returns
returns c =
    let policy : LoadedPolicy = c.args.policy.now in
    let f : ℕ = c.args.file in
    let from : ℕ = c.args.from in
    let to : ℕ = c.args.to in
    let ls : List (List ℕ) = line_texts_of_file policy f in
    let line : List ℕ = c.in-Some.line.now in
    let there : slice_get ls from ≡ Some line = sym c.in-Some.ensures in
    let here : f < length policy.files = omega (arith, c.if-number-files.false, c.files.ensures) in
    let inside : from < length ls = slice_get_within ls from line there in
    let within : to < length ls = omega (arith, c.if-target-len.false, c.len.ensures, texts_are_as_many_as_lines (lines_of_numbered_file policy.files f)) in
    let ended : has_inner_line_without_lf (lines_with_one_moved from to ls) ≡ false = sym c.leaves_open_line_after_move.ensures ∙ c.if-leaves_open_line_after_move.false in
    let lands : EditSetsFileLines (Move f from to) (Move f to from) c.in_ok-inverse.inverse policy f (lines_with_one_moved from to ls) =
    subst (λ i. EditSetsFileLines (Move f from to) (Move f to from) i policy f (lines_with_one_moved from to ls)) (sym c.in_ok-inverse.ensures) (move_sets_file_lines policy f from to here inside within ended) in
    let changes : c.in_ok-changes.changes.items ≡ line_changes_of_move f from to (slice_index_or ls from []) =
    c.in_ok-changes.ensures ∙ ap (line_changes_of_move f from to) (c.in_ok-text.ensures ∙ sym (found_line_is_line_at_index ls from line [] there)) in
    let made = line_changes_of_move_make_moved_lines no_changes_leave_lines_unchanged first_change_law_holds f from to ls (loaded_file_lines_are_sound policy c.allocator_of-alloc.ensures f) inside within in
    subst (AreChangesOfEdit (Move f from to) c.in_ok-inverse.inverse policy) (sym changes)
    (changes_making_its_lines_are_of_edit one_file_changes_law_holds (Move f from to) (Move f to from) c.in_ok-inverse.inverse policy f (lines_with_one_moved from to ls) (line_changes_of_move f from to (slice_index_or ls from []))
    c.allocator_of-alloc.ensures made.fits made.are lands)
