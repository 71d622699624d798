use Rattle.std.proofs.Common.{[], drop, map}
use Rattle.sudoers_review_users.specs.AllUsers.{IsTextOfNamedUser}
use Rattle.sudoers_review_users.specs.Ready.{new_policy, old_policy}
use Rattle.sudoers_review_users.proofs.UserLines.{AreItemLinesSoFar}
use Rattle.sudoers_review_users.proofs.users.list_changes_of_users.Given as goal

-- With the texts behind, each user has his text.
abbrev pub invariant-loop-name : goal.invariant-loop-name
invariant-loop-name l =
    AreItemLinesSoFar (IsTextOfNamedUser (old_policy l.compared) (new_policy l.compared) l.asked.moment l.people l.asked.host.now l.asked.interfaces.now)
    (map (λ name. name) l.asked.names.now) (map (λ name. name) (drop l.name-index l.asked.names.now)) [] l.out.text.items
