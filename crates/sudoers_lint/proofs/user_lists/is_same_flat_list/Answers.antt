use Rattle.std.proofs.Common.{◌∙◌}
use Rattle.sudoers_line_rows.specs.View.{members_of_view}
use Rattle.sudoers_lint.proofs.SameHosts.{lists_are_alike_as_flat_lists}
use Rattle.sudoers_lint.proofs.user_lists.is_same_flat_list.Goals as goal

pub returns : goal.returns
returns c = c.are_row_lists_alike.ensures ∙ lists_are_alike_as_flat_lists (members_of_view c.args.members.now) (members_of_view c.args.others.now)
