use Rattle.std.proofs.Common.{◌≡◌, ◌==◌, drop}
use Rattle.std.specs.List.{find}
use Rattle.sudoers_list_people.specs.Person.{name_of_group_number, group_name_or_empty}
use Rattle.sudoers_list_people.proofs.making_person_with_groups.group_name_of_number.Given as goal

abbrev pub invariant-loop-row : goal.invariant-loop-row
invariant-loop-row l = group_name_or_empty (find (λ r. r.gid == l.gid) (drop l.row-index l.row-items)) ≡ name_of_group_number l.people l.gid
