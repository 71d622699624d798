use Rattle.std.proofs.Common.{◌≡◌, ◌++◌, drop, map}
use Rattle.sudoers_line_rows.specs.View.{host_groups_of_view}
use Rattle.sudoers_tree.specs.Line.{line_of_row}
use Rattle.sudoers_list.specs.Listing.{host_groups_of_each_user_spec}
use Rattle.sudoers_list.proofs.groups.list_host_groups_of_each_user_spec.Given as goal

abbrev pub invariant-loop-row : goal.invariant-loop-row
invariant-loop-row l = map host_groups_of_view l.specs.items ++ host_groups_of_each_user_spec (map (line_of_row l.lines.tables.now) (drop l.row-index l.row-items)) ≡ host_groups_of_each_user_spec l.policy
