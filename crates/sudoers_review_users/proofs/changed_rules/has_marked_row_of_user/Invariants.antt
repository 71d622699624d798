use Rattle.sudoers_compare.specs.FlatSpecs.{row_of_placed_view}
use Rattle.sudoers_review_users.proofs.UntouchedUser.{IsMarkedRowBehind}
use Rattle.sudoers_review_users.proofs.changed_rules.has_marked_row_of_user.Given as goal

abbrev pub invariant-loop-number : goal.invariant-loop-number
invariant-loop-number l = IsMarkedRowBehind l.who row_of_placed_view l.marks l.rows l.number
