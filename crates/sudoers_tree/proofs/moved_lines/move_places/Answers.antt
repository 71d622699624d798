use Rattle.std.proofs.Common.{List, ap, arith, drop, get_or, length, map, rules, set, take, ℕ, ◌++◌, ◌<◌, ◌∙◌, ◌≡◌}
use Rattle.sudoers_tree.specs.declared.place.Place.{Place}
use Rattle.sudoers_tree.specs.internal.InPlace.{moved_place}
use Rattle.sudoers_tree.proofs.SplicedLists.{changed_item_extends_changed_front, next_item_behind_changed_front}
use Rattle.sudoers_tree.proofs.moved_lines.move_places.Goals as goal

pub loop-number-preserved : goal.loop-number-preserved
loop-number-preserved c =
    let move : Place → Place = moved_place c.args.from c.args.by in
    let none : Place = record { line = 0; def = 0 } in
    let olds : List Place = c.args.places.now in
    let i : ℕ = c.loop-number.number in
    let less : i < length olds = omega (arith, c.loop-number-test.true) in
    let here : c.move_place.result ≡ move (get_or c.loop-number.places i none) = search rules in
    ap (λ x. set c.loop-number.places i x) here
    ∙ ap (λ xs. set xs i (move (get_or xs i none))) c.loop-number.invariant
    ∙ ap (λ x. set (map move (take i olds) ++ drop i olds) i (move x)) (next_item_behind_changed_front move i olds none less)
    ∙ changed_item_extends_changed_front move i olds none less
