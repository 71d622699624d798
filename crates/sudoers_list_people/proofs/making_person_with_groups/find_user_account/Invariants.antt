use Rattle.std.proofs.Common.{◌≡◌, drop, bytes_eq}
use Rattle.std.specs.List.{find}
use Rattle.sudoers_list_people.specs.Person.{account_named}
use Rattle.sudoers_list_people.proofs.making_person_with_groups.find_user_account.Given as goal

abbrev pub invariant-loop-account : goal.invariant-loop-account
invariant-loop-account l = find (λ a. bytes_eq a.name l.name) (drop l.account-index l.account-items) ≡ account_named l.people l.name
