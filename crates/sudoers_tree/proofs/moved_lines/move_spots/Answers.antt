use Rattle.std.proofs.Common.{List, ap, arith, drop, get_or, length, map, set, take, ℕ, ◌++◌, ◌<◌, ◌∙◌, ◌≡◌}
use Rattle.std.proofs.lemmas.List.{get_or_default}
use Rattle.sudoers_tree.specs.declared.place.WalkLineSpot.{WalkLineSpot}
use Rattle.sudoers_tree.specs.internal.InPlace.{moved_spot}
use Rattle.sudoers_tree.proofs.SplicedLists.{changed_item_extends_changed_front, next_item_behind_changed_front}
use Rattle.sudoers_tree.proofs.moved_lines.move_spots.Goals as goal

pub loop-number-preserved : goal.loop-number-preserved
loop-number-preserved c =
    let move : WalkLineSpot → WalkLineSpot = moved_spot c.args.file c.args.from c.args.by in
    let none : WalkLineSpot = record { file = 0; line = 0; row = 1 } in
    let olds : List WalkLineSpot = c.args.spots.now in
    let i : ℕ = c.loop-number.number in
    let less : i < length olds = omega (arith, c.loop-number-test.true) in
    let here : c.move_spot.result ≡ move (get_or c.loop-number.spots i none) = c.move_spot.ensures ∙ ap move (get_or_default c.loop-number.spots i _ none (omega arith)) in
    ap (λ x. set c.loop-number.spots i x) here
    ∙ ap (λ xs. set xs i (move (get_or xs i none))) c.loop-number.invariant
    ∙ ap (λ x. set (map move (take i olds) ++ drop i olds) i (move x)) (next_item_behind_changed_front move i olds none less)
    ∙ changed_item_extends_changed_front move i olds none less
