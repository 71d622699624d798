use Rattle.std.proofs.Common.{◌≡◌, drop, bytes_eq, option_map}
use Rattle.std.specs.List.{find}
use Rattle.sudoers_list_people.specs.Person.{group_of_row}
use Rattle.sudoers_list_people.specs.Asked.{group_named}
use Rattle.sudoers_list_people.proofs.request.find_group_named.Given as goal

abbrev pub invariant-loop-row : goal.invariant-loop-row
invariant-loop-row l = option_map group_of_row (find (λ r. bytes_eq r.name l.name) (drop l.row-index l.row-items)) ≡ group_named l.people l.name
