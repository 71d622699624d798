use Rattle.std.proofs.Common.{◌≡◌, drop, map}
use Rattle.std.specs.List.{filter}
use Rattle.sudoers_list_people.specs.Person.{group_of_row, is_user_in_group_row, groups_of_user, has_same_group_number}
use Rattle.sudoers_list_people.proofs.Firsts.{kept_with_first_of_others}
use Rattle.sudoers_list_people.proofs.making_person_with_groups.collect_groups_of_user.Given as goal

abbrev pub invariant-loop-row : goal.invariant-loop-row
invariant-loop-row l =
    (l.seen ≡ map (λ g. g.gid) l.groups.items)
    × (kept_with_first_of_others has_same_group_number l.groups.items (map group_of_row (filter (is_user_in_group_row l.user.name) (drop l.row-index l.row-items))) ≡ groups_of_user l.people l.user)
