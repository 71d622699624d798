use Rattle.std.proofs.Common.{◌≡◌, ◌++◌, drop, map, flat_map}
use Rattle.sudoers_line_rows.specs.View.{host_group_of_view}
use Rattle.sudoers_list.specs.Listing.{listed_host_group_lines}
use Rattle.sudoers_list.proofs.listed_commands.append_host_groups_commands.Given as goal

abbrev pub invariant-loop-group : goal.invariant-loop-group
invariant-loop-group l =
    l.out.items ++ flat_map (listed_host_group_lines l.names.user.now l.names.default.now) (map host_group_of_view (drop l.group-index l.groups))
    ≡ l.fn.out.items ++ flat_map (listed_host_group_lines l.names.user.now l.names.default.now) (map host_group_of_view l.groups)
