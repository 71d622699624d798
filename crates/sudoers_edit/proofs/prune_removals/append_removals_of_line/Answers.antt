use Rattle.sudoers_edit.proofs.Common.{Kind, List, Place, PruneRemoval, WalkLineSpot, [], ap, eq-eqb, false, if◌then◌else◌, length, map, removals_of_spot_and_places, rules, sym, ℕ, ◌++◌, ◌==◌, ◌∙◌, ◌∷◌, ◌≡◌}
use Rattle.sudoers_edit.specs.declared.prune_removals.PruneRemoval.TheVariants as removal
use Rattle.sudoers_edit.proofs.prune_removals.append_removals_of_line.Goals as goal

-- of some definitions all go: the line goes
whole_line : (at : WalkLineSpot) (count : ℕ) (ps : List (Kind × Place)) → (length ps == 0) ≡ false → length ps ≡ count → removal.Line at.file at.line ∷ [] ≡ removals_of_spot_and_places at count ps
whole_line at count [] some all = cc
whole_line at count (p ∷ ps) some all =
    sym (ap (λ t. if t then removal.Line at.file at.line ∷ [] else map (λ (q : Kind × Place). removal.Def at.file at.line q.1.def) (p ∷ ps)) (eq-eqb (length (p ∷ ps)) count all))

pub returns-then-here-count : goal.returns-then-here-count
returns-then-here-count c =
    let some : (length c.args.here.now == 0) ≡ false = search rules in
    c.in_ok-push.ensures.items
    ∙ ap (λ (rs : List PruneRemoval). c.args.removals.now.items ++ rs)
    (whole_line c.args.at c.args.count c.args.here.now some c.if-here-count.true)
