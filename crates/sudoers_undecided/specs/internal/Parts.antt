-- A device of the proof, which no public contract cites: which parts of a row count.
use Rattle.std.specs.Prelude.{◌&&◌, ◌||◌, not, Bool, true, false}
use Rattle.sudoers_undecided.specs.declared.asked_request.CountedParts.{CountedParts}
use Rattle.sudoers_undecided.specs.declared.asked_request.RowStanding.{RowStanding}
use Rattle.sudoers_undecided.specs.declared.decided_aliases.PartStanding.{PartStanding}

abbrev pub all_parts : CountedParts
all_parts = record { users = true; hosts = true; runas_users = true; runas_groups = true }

abbrev pub no_parts : CountedParts
no_parts = record { users = false; hosts = false; runas_users = false; runas_groups = false }

-- this part alone, if it is wanted
abbrev pub users_part : Bool → CountedParts
users_part wanted = record { users = wanted; hosts = false; runas_users = false; runas_groups = false }

abbrev pub hosts_part : Bool → CountedParts
hosts_part wanted = record { users = false; hosts = wanted; runas_users = false; runas_groups = false }

abbrev pub runas_users_part : Bool → CountedParts
runas_users_part wanted = record { users = false; hosts = false; runas_users = wanted; runas_groups = false }

abbrev pub runas_groups_part : Bool → CountedParts
runas_groups_part wanted = record { users = false; hosts = false; runas_users = false; runas_groups = wanted }

abbrev pub parts_without_hold_of : RowStanding → CountedParts
parts_without_hold_of st = record { users = not st.users.holds; hosts = not st.hosts.holds; runas_users = not st.runas_users.holds; runas_groups = not st.runas_groups.holds }

abbrev pub may_part_hold : PartStanding → Bool
may_part_hold st = st.holds || st.could_turn

abbrev pub may_row_hold : RowStanding → Bool
may_row_hold st = may_part_hold st.users && may_part_hold st.hosts && may_part_hold st.runas_users && may_part_hold st.runas_groups && st.is_in_time

abbrev pub does_row_hold : RowStanding → Bool
does_row_hold st = st.users.holds && st.hosts.holds && st.runas_users.holds && st.runas_groups.holds && st.is_in_time
