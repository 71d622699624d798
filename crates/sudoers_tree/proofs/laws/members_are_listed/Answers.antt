use Rattle.sudoers_tree.proofs.ListedMembers.{members_of_kind_are_listed_members}
use Rattle.sudoers_tree.proofs.laws.members_are_listed.Goals as goal

pub returns : goal.returns
returns c = members_of_kind_are_listed_members
