use Rattle.sudoers_check.proofs.Common.{WalkLineSpot, ap, arith, get_or_from_slice_get, line_of_view, slice_index_or, sym, ◌∙◌, ◌≡◌}
use Rattle.sudoers_check.proofs.physical_line_cursor.make_cursor_at_line.Goals as goal

pub new-requires : goal.new-requires
new-requires c =
    let none : WalkLineSpot = record { file = 0; line = 0; row = 0 } in
    let there = c.lines_stand.ensures.stand c.args.number (line_of_view c.args.line.now) c.requires in
    let is : slice_index_or c.spots_of_walk_lines.result.now c.args.number none ≡ there.at =
    ap (λ spots. slice_index_or spots c.args.number none) c.spots_of_walk_lines.ensures ∙ get_or_from_slice_get c.args.policy.now.walk.spots c.args.number there.at none there.is in
    omega (arith, there.fits, ap (λ (at : WalkLineSpot). at.row) is)

pub returns-clause-spot : goal.returns-clause-spot
returns-clause-spot c =
    let none : WalkLineSpot = record { file = 0; line = 0; row = 0 } in
    let first : WalkLineSpot = record { file = 0; line = 0; row = 1 } in
    let there = c.lines_stand.ensures.stand c.args.number (line_of_view c.args.line.now) c.requires in
    c.new.ensures.spot ∙ ap (λ spots. slice_index_or spots c.args.number none) c.spots_of_walk_lines.ensures
    ∙ get_or_from_slice_get c.args.policy.now.walk.spots c.args.number there.at none there.is
    ∙ sym (get_or_from_slice_get c.args.policy.now.walk.spots c.args.number there.at first there.is)
