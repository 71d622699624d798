-- Lines that concern given users, groups and hosts (cvtsudoers(1), -m and -p).
use Rattle.std.specs.Prelude.{ℕ, ◌==◌, ◌&&◌, ◌||◌, not, Bool, true, false, List, [], ◌∷◌, map, Option, Some, None, if◌then◌else◌}
use Rattle.std.specs.List.{filter, list_any, take_while}
use Rattle.std.specs.Option.{is_some}
use Rattle.sudoers_grammar.specs.declared.node.Kind.{Kind}
use Rattle.sudoers_grammar.specs.declared.node.Kind.TheVariants.{User, Runas, Host, Cmnd}
use Rattle.sudoers_grammar.specs.declared.node.Atom.{Atom}
use Rattle.sudoers_grammar.specs.declared.node.Atom.TheVariants as atom
use Rattle.sudoers_grammar.specs.Node.{Member, HostGroup, Scope, Node}
use Rattle.sudoers_grammar.specs.Node as node
use Rattle.sudoers_tree.specs.Line.{Line}
use Rattle.sudoers_match_member.specs.Hits.{is_name_equal_ignoring_case, has_dot}
use Rattle.sudoers_match_member.specs.Folded.{bytes_case_folded_if_wanted}
use Rattle.sudoers_match_member.specs.Wildcard.{is_pattern_match}
use Rattle.sudoers_match_member.specs.declared.wildcards.GlobMode.TheVariants as mode
use Rattle.sudoers_cvt_rewrite.specs.declared.filter.Filter.{Filter}
use Rattle.sudoers_match_list.specs.declared.verdict.MemberHit.{MemberHit}
use Rattle.sudoers_match_list.specs.Flat.{signed_atom_of_member, last_hit_of_list}
use Rattle.sudoers_match_list.specs.Flattened.{fully_expanded_list}

-- ---- what matches a value

-- A user of this name, whose number and groups are not known.
abbrev pub is_atom_matching_user_name : List ℕ → Atom → Bool
is_atom_matching_user_name name atom.All = true
is_atom_matching_user_name name (atom.Alias other) = is_name_equal_ignoring_case other name
is_atom_matching_user_name name (atom.Name other) = is_name_equal_ignoring_case other name
is_atom_matching_user_name name a = false

-- A user in the group of this name, whose own name and number are not known.
abbrev pub is_atom_matching_group_name : List ℕ → Atom → Bool
is_atom_matching_group_name name atom.All = true
is_atom_matching_group_name name (atom.Group other) = is_name_equal_ignoring_case other name
is_atom_matching_group_name name a = false

-- the name of a host up to its first dot
abbrev pub host_name_before_dot : List ℕ → List ℕ
host_name_before_dot name = take_while (λ b. not (b == 46)) name

abbrev pub is_host_pattern_match : List ℕ → List ℕ → Bool
is_host_pattern_match name pattern = is_pattern_match mode.Args (bytes_case_folded_if_wanted true pattern) (bytes_case_folded_if_wanted true (if has_dot pattern then name else host_name_before_dot name))

-- A host of this name, whose addresses are not known.
abbrev pub is_atom_matching_host_name : List ℕ → Atom → Bool
is_atom_matching_host_name name atom.All = true
is_atom_matching_host_name name (atom.Alias pattern) = is_host_pattern_match name pattern
is_atom_matching_host_name name (atom.Host pattern) = is_host_pattern_match name pattern
is_atom_matching_host_name name a = false

-- ---- lists

-- what the last matching member of the list says
abbrev pub last_hit_in_expanded_list : List Line → Kind → (Atom → Bool) → List Member → Option MemberHit
last_hit_in_expanded_list lines k test ms = last_hit_of_list test (map signed_atom_of_member (fully_expanded_list k lines ms))

abbrev pub is_allowing_hit : Option MemberHit → Bool
is_allowing_hit None = false
is_allowing_hit (Some hit) = hit.allow

-- The list allows one of the values; `test` is what matches a value.
abbrev pub is_any_value_allowed : List Line → Kind → (List ℕ → Atom → Bool) → List (List ℕ) → List Member → Bool
is_any_value_allowed lines k test values ms = list_any (λ value. is_allowing_hit (last_hit_in_expanded_list lines k (test value) ms)) values

-- A member of the list, or of its aliases, matches one of the values.
abbrev pub is_any_value_matched : List Line → Kind → (List ℕ → Atom → Bool) → List (List ℕ) → List Member → Bool
is_any_value_matched lines k test values ms = list_any (λ value. is_some (last_hit_in_expanded_list lines k (test value) ms)) values

abbrev pub is_list_without_items : {X : Type 0} → List X → Bool
is_list_without_items [] = true
is_list_without_items (x ∷ xs) = false

abbrev pub is_filter_without_users : Filter → Bool
is_filter_without_users f = is_list_without_items f.users && is_list_without_items f.groups

-- The list of users allows a user or a group of the filter, or the filter has none.
abbrev pub is_user_list_in_filter : List Line → Filter → List Member → Bool
is_user_list_in_filter lines f ms = is_filter_without_users f || (is_any_value_allowed lines User is_atom_matching_user_name f.users ms || is_any_value_allowed lines User is_atom_matching_group_name f.groups ms)

-- The list of hosts allows a host of the filter, or the filter has none.
abbrev pub is_host_list_in_filter : List Line → Filter → List Member → Bool
is_host_list_in_filter lines f ms = is_list_without_items f.hosts || is_any_value_allowed lines Host is_atom_matching_host_name f.hosts ms

-- the members of a list of users that match a user or a group of the filter, if it has any
abbrev pub users_left_by_filter : List Line → Filter → List Member → List Member
users_left_by_filter lines f ms =
    if is_filter_without_users f then ms
    else filter (λ m. is_any_value_matched lines User is_atom_matching_user_name f.users (m ∷ []) || is_any_value_matched lines User is_atom_matching_group_name f.groups (m ∷ [])) ms

abbrev pub hosts_left_by_filter : List Line → Filter → List Member → List Member
hosts_left_by_filter lines f ms = if is_list_without_items f.hosts then ms else filter (λ m. is_any_value_matched lines Host is_atom_matching_host_name f.hosts (m ∷ [])) ms

-- ---- lines

-- A list of this kind matches; nothing is asked of users to run as, nor of commands.
abbrev pub is_list_in_filter : List Line → Filter → Kind → List Member → Bool
is_list_in_filter lines f User ms = is_user_list_in_filter lines f ms
is_list_in_filter lines f Host ms = is_host_list_in_filter lines f ms
is_list_in_filter lines f Runas ms = true
is_list_in_filter lines f Cmnd ms = true

abbrev pub is_scope_in_filter : List Line → Filter → Option Scope → Bool
is_scope_in_filter lines f None = true
is_scope_in_filter lines f (Some s) = is_list_in_filter lines f s.kind s.members

abbrev pub host_group_pruned_if_wanted : List Line → Filter → Bool → HostGroup → HostGroup
host_group_pruned_if_wanted lines f prune g = record { hosts = if prune then hosts_left_by_filter lines f g.hosts else g.hosts; commands = g.commands }

-- the host groups that match
abbrev pub host_groups_left_by_filter : List Line → Filter → Bool → List HostGroup → List HostGroup
host_groups_left_by_filter lines f prune gs = map (host_group_pruned_if_wanted lines f prune) (filter (λ (g : HostGroup). is_host_list_in_filter lines f g.hosts) gs)

-- A user specification stays if its users match, and one of its host groups.
abbrev pub spec_or_blank_of_left_groups : List Line → Filter → Bool → List Member → List HostGroup → Node
spec_or_blank_of_left_groups lines f prune users [] = node.Blank
spec_or_blank_of_left_groups lines f prune users (g ∷ gs) = node.Spec (if prune then users_left_by_filter lines f users else users) (g ∷ gs)

-- What is left of a line; a line that does not match says nothing. Definitions stay here.
abbrev pub node_or_blank_left_by_filter : List Line → Filter → Bool → Node → Node
node_or_blank_left_by_filter lines f prune (node.Spec users groups) =
    if is_user_list_in_filter lines f users then spec_or_blank_of_left_groups lines f prune users (host_groups_left_by_filter lines f prune groups) else node.Blank
node_or_blank_left_by_filter lines f prune (node.Defaults scope params) = if is_scope_in_filter lines f scope then node.Defaults scope params else node.Blank
node_or_blank_left_by_filter lines f prune (node.Alias k defs) = node.Alias k defs
node_or_blank_left_by_filter lines f prune node.Blank = node.Blank
node_or_blank_left_by_filter lines f prune node.Comment = node.Comment
node_or_blank_left_by_filter lines f prune (node.Include dir path) = node.Include dir path
