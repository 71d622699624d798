-- What is printed of a row of a user, as the code holds what it compares. No public contract cites it.
use Rattle.std.specs.Prelude.{ℕ, List}
use Rattle.sudoers_tree.specs.Load.{LoadedPolicy}
use Rattle.sudoers_match_member.specs.declared.people_and_commands.Who.{Who}
use Rattle.sudoers_compare.specs.FlatSpecs.{PlacedRow}
use Rattle.sudoers_review_users.specs.declared.examples.UserReview.{UserReview}
use Rattle.sudoers_review_users.specs.Ready.{new_policy, old_policy}
use Rattle.sudoers_review_users.specs.UserChanges.{IsExampleText, IsUserRowLine}

-- an example for the user, or that none was found
abbrev pub IsExampleOfReview : UserReview → Who → List ℕ → Type 0
IsExampleOfReview review who text =
    IsExampleText (old_policy review.compared.now) (new_policy review.compared.now) review.moment who review.old_default.now review.new_default.now text

-- the line on a row of a policy
abbrev pub IsRowLineOfReview : UserReview → Who → List ℕ → LoadedPolicy → PlacedRow → List ℕ → Type 0
IsRowLineOfReview review who sign policy placed line = IsUserRowLine (IsExampleOfReview review who) sign review.name.now policy placed line
