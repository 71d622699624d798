use Rattle.sudoers_match.proofs.GroupsAlike.{alike_specs_have_same_host_groups}
use Rattle.sudoers_match.proofs.laws.alike_specs_have_same_groups.Goals as goal

pub returns : goal.returns
returns c = alike_specs_have_same_host_groups c.alike_lists_say_same.ensures
