use Rattle.std.proofs.Common.{◌≡◌, ◌+◌, ◌*◌, ◌≤◌, ℕ, List, length, ap, ◌∙◌, arith}
use Rattle.std.proofs.lemmas.Option.{get_or_from_slice_get}
use Rattle.std.proofs.lemmas.List.{length-take}
use Rattle.sudoers_tree.specs.declared.place.WalkLineSpot.{WalkLineSpot}
use Rattle.sudoers_tree.specs.Line.{line_of_view}
use Rattle.sudoers_list.proofs.byte_place.append_byte_place.Goals as goal

pub overflow_add-place : goal.overflow_add-place
overflow_add-place c =
    let text : List ℕ = c.args.at.now.line.text.now in
    let h = c.lines_stand.ensures.stand c.args.at.now.number (line_of_view c.args.at.now.line) c.requires in
    let row : c.walk_line_spot_at-spot.result.row ≡ h.at.row =
    ap (λ (s : WalkLineSpot). s.row) (c.walk_line_spot_at-spot.ensures ∙ get_or_from_slice_get c.args.policy.now.walk.spots c.args.at.now.number h.at _ h.is) in
    let fits : h.at.row + length text ≤ 2 * 1048576 + 1 = h.fits in
    omega (arith, row, fits, c.lf_count.ensures.within, length-take c.min.result text)
