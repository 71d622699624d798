use Rattle.std.proofs.Common.{List, take, ◌≡◌}
use Rattle.std.specs.List.{flat_map, list_any}
use Rattle.sudoers_ask.specs.Users.{ArePartsOfUsers, UserPart}
use Rattle.sudoers_ask.proofs.users.list_users_of_question.Given as goal

abbrev pub invariant-loop-account : goal.invariant-loop-account
invariant-loop-account l =
    (parts : List UserPart) × ArePartsOfUsers l.policy l.asked.people.now l.asked.question.now l.denied (take l.account-index l.asked.people.now.accounts) parts
    × (l.text.items ≡ flat_map (λ (part : UserPart). part.text) parts)
    × (l.is_any_allowed ≡ list_any (λ (part : UserPart). part.allowed) parts)
