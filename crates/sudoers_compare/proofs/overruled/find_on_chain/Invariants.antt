use Rattle.std.proofs.Common.{◌≡◌, Bool, ℕ, drop, map}
use Rattle.laws_compare.specs.Content.{FlatPrivilegeRow}
use Rattle.sudoers_compare.specs.FlatRow.{flat_row_of_view}
use Rattle.sudoers_compare.specs.FlatSpecs.{row_of_placed_view}
use Rattle.sudoers_compare.specs.KnownAnswers.{AreRightAnswers}
use Rattle.sudoers_compare.specs.NextRows.{AreNextNumbers, first_passing_number}
use Rattle.sudoers_compare.specs.RowLists.{AreListsKept, AreListsKeptIfAny, NumberedLists}
use Rattle.sudoers_compare.proofs.Chains.{IsOnChain}
use Rattle.sudoers_compare.proofs.overruled.find_on_chain.Given as goal

-- What is known of lists is right, and what is found from here on is what is found of all.
abbrev pub invariant-loop-reached : goal.invariant-loop-reached
invariant-loop-reached l =
    (all : NumberedLists) → AreListsKept all l.rows.lists.now (map row_of_placed_view l.rows.rows.now) → AreListsKeptIfAny all l.fn.lists (flat_row_of_view l.row) → AreRightAnswers all l.initial.answers
    → AreRightAnswers all l.answers
    × ((passes : FlatPrivilegeRow → Bool) (n : ℕ) → AreNextNumbers passes (map row_of_placed_view l.rows.rows.now) l.next → l.fn.start ≡ first_passing_number passes n (drop n (map row_of_placed_view l.rows.rows.now))
    → IsOnChain passes (map row_of_placed_view l.rows.rows.now) (flat_row_of_view l.row) l.fn.most n l.reached l.left)

abbrev pub decreases-loop-reached : goal.decreases-loop-reached
decreases-loop-reached l = l.left
