use Rattle.std.proofs.Common.{inl, inr}
use Rattle.laws_edit.proofs.EditedMember.{accepted_addition_of_member_changes_line_of_alias, accepted_addition_of_member_changes_one_member, accepted_drop_of_member_changes_line_of_alias, accepted_drop_of_member_changes_one_member}
use Rattle.laws_edit.proofs.laws.member_edits_change_one_member.Goals as goal

pub returns-clause-added : goal.returns-clause-added
returns-clause-added c kind name splice at policy new loaded is = (
  (accepted_addition_of_member_changes_one_member kind name at splice policy new loaded is).0,
  accepted_addition_of_member_changes_line_of_alias kind name at splice policy new is,
)

pub returns-clause-dropped : goal.returns-clause-dropped
returns-clause-dropped c kind name at policy new loaded is = (
  (accepted_drop_of_member_changes_one_member kind name at policy new loaded is).0,
  accepted_drop_of_member_changes_line_of_alias kind name at policy new is,
)

pub returns-clause-others : goal.returns-clause-others
returns-clause-others c kind name splice at policy new loaded (inl is) =
    (accepted_addition_of_member_changes_one_member kind name at splice policy new loaded is).1
returns-clause-others c kind name splice at policy new loaded (inr is) =
    (accepted_drop_of_member_changes_one_member kind name at policy new loaded is).1
