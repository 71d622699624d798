use Rattle.std.proofs.Common.{◌≡◌, ◌++◌, drop, map}
use Rattle.std.specs.List.{filter_map}
use Rattle.sudoers_line_rows.specs.View.{host_group_of_view}
use Rattle.sudoers_list.specs.Listing.{host_group_at_spec_and_group_number, host_groups_of_each_user_spec, host_groups_at_places}
use Rattle.sudoers_list.proofs.groups.collect_host_groups_at.Given as goal

abbrev pub invariant-loop-place : goal.invariant-loop-place
invariant-loop-place l =
    map host_group_of_view l.groups.items ++ filter_map (host_group_at_spec_and_group_number (host_groups_of_each_user_spec l.policy)) (drop l.place-index l.places) ≡ host_groups_at_places l.policy l.places
