use Rattle.std.proofs.Common.{◌≡◌, drop, bytes_eq}
use Rattle.std.specs.List.{list_any}
use Rattle.sudoers_list_people.specs.internal.Slices.{texts_of_view}
use Rattle.sudoers_list_people.specs.Person.{is_user_in_group_row}
use Rattle.sudoers_list_people.proofs.making_person_with_groups.has_group_member.Given as goal

abbrev pub invariant-loop-member : goal.invariant-loop-member
invariant-loop-member l = list_any (bytes_eq l.user) (texts_of_view (drop l.member-index l.member-items)) ≡ is_user_in_group_row l.user l.row
