use Rattle.std.proofs.Common.{◌≡◌, drop, map}
use Rattle.sudoers_compare.specs.FlatSpecs.{placed_row_of_view}
use Rattle.sudoers_review.specs.ChangedText.{sign_of_change}
use Rattle.sudoers_review_users.specs.Reviewed.{IsRowLineOfReview}
use Rattle.sudoers_review_users.proofs.UserLines.{AreItemLinesSoFar}
use Rattle.sudoers_review_users.proofs.user_lines.append_user_row_lines.Given as goal

-- The request is one of the user, and with the lines behind each row has its line.
abbrev pub invariant-loop-placed : goal.invariant-loop-placed
invariant-loop-placed l =
    (l.request.who ≡ l.initial.request.who)
    × AreItemLinesSoFar (IsRowLineOfReview l.review l.initial.request.who (sign_of_change l.change) l.policy) (map placed_row_of_view l.rows) (map placed_row_of_view (drop l.placed-index l.rows)) l.initial.out.text.items l.out.text.items
