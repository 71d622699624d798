use Rattle.std.proofs.Common.{◌≡◌, ◌++◌, drop, map}
use Rattle.sudoers_compare.specs.FlatSpecs.{placed_row_of_view}
use Rattle.sudoers_review.specs.OverruledText.{overruled_lines}
use Rattle.sudoers_review.proofs.overruled.append_overruled_lines.Given as goal

-- The lines so far and those still to come.
abbrev pub invariant-loop-number : goal.invariant-loop-number
invariant-loop-number l =
    l.out.text.items ++ overruled_lines l.policy (map placed_row_of_view l.rows) (drop l.number (map placed_row_of_view l.rows)) (drop l.number l.found)
    ≡ l.fn.out.text.items ++ overruled_lines l.policy (map placed_row_of_view l.rows) (map placed_row_of_view l.rows) l.found
