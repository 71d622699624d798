-- Members that match a filter (cvtsudoers(1), -p). A device of the proof, which no public contract cites.
use Rattle.std.specs.Prelude.{◌||◌, Bool, true, false, List, [], ◌∷◌, if◌then◌else◌}
use Rattle.sudoers_grammar.specs.declared.node.Kind.{Kind}
use Rattle.sudoers_grammar.specs.declared.node.Kind.TheVariants.{User, Runas, Host, Cmnd}
use Rattle.sudoers_grammar.specs.Node.{Member}
use Rattle.sudoers_tree.specs.Line.{Line}
use Rattle.sudoers_cvt_rewrite.specs.declared.filter.Filter.{Filter}
use Rattle.sudoers_cvt_rewrite.specs.Filter.{hosts_left_by_filter, is_list_without_items, is_filter_without_users, users_left_by_filter}
use Rattle.sudoers_cvt_rewrite.specs.internal.Matcher.{is_filter_user_matched_or_allowed, is_filter_host_matched_or_allowed}

-- A list of this kind names what the filter asks for, or the filter asks for nothing of that kind.
abbrev pub is_list_matching_any_filter_value : Kind → List Line → Filter → List Member → Bool
is_list_matching_any_filter_value User lines f ms = is_filter_without_users f || is_filter_user_matched_or_allowed false lines f ms
is_list_matching_any_filter_value Host lines f ms = is_list_without_items f.hosts || is_filter_host_matched_or_allowed false lines f ms
is_list_matching_any_filter_value Runas lines f ms = true
is_list_matching_any_filter_value Cmnd lines f ms = true

abbrev pub is_member_kept_by_filter : Kind → List Line → Filter → Member → Bool
is_member_kept_by_filter k lines f m = is_list_matching_any_filter_value k lines f (m ∷ [])

-- the members of a list of this kind that are left, or all if none is to fall
abbrev pub members_pruned_if_wanted : Kind → List Line → Filter → Bool → List Member → List Member
members_pruned_if_wanted User lines f prune ms = if prune then users_left_by_filter lines f ms else ms
members_pruned_if_wanted Host lines f prune ms = if prune then hosts_left_by_filter lines f ms else ms
members_pruned_if_wanted Runas lines f prune ms = ms
members_pruned_if_wanted Cmnd lines f prune ms = ms
