-- The members of the lists of one kind, and the mentions of one name, are picked from the members of all lists.
use Rattle.sudoers_tree.proofs.Common.{Bool, CmdSpec, Cmnd, Def, Host, HostGroup, Kind, List, ListedMember, Member, Node, None, Option, Runas, RunasSpec, Some, User, [], alias_member_of_atom, aliases_among_listed}
use Rattle.sudoers_tree.proofs.Common.{aliases_in_node, ap, append-nil, ap₂, arith, flat_map, if◌then◌else◌, is_equal_kind, listed_members_of_command, listed_members_of_host_group, members_of_kind_among_listed}
use Rattle.sudoers_tree.proofs.Common.{listed_members_of_node, listed_members_of_runas, members_in_host_group, members_listed_as_kind, members_of_kind_in_line, members_of_runas, mention_span_if_alias_named}
use Rattle.sudoers_tree.proofs.Common.{mention_span_of_member, mention_spans_among_members, mentions_in_line, refl, sym, ℕ, ◌&&◌, ◌++◌, ◌∙◌, ◌∷◌, ◌≡◌}
use Rattle.std.proofs.Common.{bytes_eq}
use Rattle.std.proofs.lemmas.List.Concat.{flat_map-append, flat_map_single}
use Rattle.sudoers_grammar.specs.declared.node.Atom.{Atom}
use Rattle.sudoers_grammar.specs.declared.node.Atom.TheVariants as atom
use Rattle.sudoers_grammar.specs.Node as node

-- ---- lists one after another

members_of_kind_in_append_are_appended : (k : Kind) (xs ys : List ListedMember) → members_of_kind_among_listed k (xs ++ ys) ≡ members_of_kind_among_listed k xs ++ members_of_kind_among_listed k ys
members_of_kind_in_append_are_appended k [] ys = refl
members_of_kind_in_append_are_appended k (x ∷ xs) ys = grind (arith, members_of_kind_in_append_are_appended k xs ys)

-- the members of two parts
members_of_kind_in_two_parts_are_appended : (k : Kind) (xs ys : List ListedMember) {ms ns : List Member} → members_of_kind_among_listed k xs ≡ ms → members_of_kind_among_listed k ys ≡ ns → members_of_kind_among_listed k (xs ++ ys) ≡ ms ++ ns
members_of_kind_in_two_parts_are_appended k xs ys a b = members_of_kind_in_append_are_appended k xs ys ∙ ap₂ (λ x y. x ++ y) a b

-- the members of many parts
members_of_kind_in_flat_map_are_flat_map : {X : Type 0} (k : Kind) (f : X → List ListedMember) (g : X → List Member) → ((x : X) → members_of_kind_among_listed k (f x) ≡ g x) → (xs : List X)
    → members_of_kind_among_listed k (flat_map f xs) ≡ flat_map g xs
members_of_kind_in_flat_map_are_flat_map k f g one [] = refl
members_of_kind_in_flat_map_are_flat_map k f g one (x ∷ xs) = members_of_kind_in_two_parts_are_appended k (f x) (flat_map f xs) (one x) (members_of_kind_in_flat_map_are_flat_map k f g one xs)

-- parts that hold none
flat_map_of_nothing_is_empty : {X : Type 0} (xs : List X) → (let none : List Member = [] in flat_map (λ (x : X). none) xs ≡ none)
flat_map_of_nothing_is_empty [] = refl
flat_map_of_nothing_is_empty (x ∷ xs) = flat_map_of_nothing_is_empty xs

conditional_of_empty_lists_is_empty : {X : Type 0} (b : Bool) → (let none : List X = [] in none ≡ (if b then none else none))
conditional_of_empty_lists_is_empty b = grind arith

-- ---- each list of a line

-- one list of a kind
members_listed_as_kind_are_those_of_kind : (k j : Kind) (ms : List Member) → members_of_kind_among_listed k (members_listed_as_kind j ms) ≡ (if is_equal_kind k j then ms else [])
members_listed_as_kind_are_those_of_kind k j [] = conditional_of_empty_lists_is_empty (is_equal_kind k j)
members_listed_as_kind_are_those_of_kind k j (m ∷ ms) = grind (arith, members_listed_as_kind_are_those_of_kind k j ms)

-- what stands in parentheses
members_of_kind_in_runas : (k : Kind) (r : Option RunasSpec) → members_of_kind_among_listed k (listed_members_of_runas r) ≡ (if is_equal_kind k Runas then members_of_runas r else [])
members_of_kind_in_runas k None = conditional_of_empty_lists_is_empty (is_equal_kind k Runas)
members_of_kind_in_runas k (Some r) =
    members_of_kind_in_two_parts_are_appended k (members_listed_as_kind Runas r.users) (members_listed_as_kind Runas r.groups) (members_listed_as_kind_are_those_of_kind k Runas r.users) (members_listed_as_kind_are_those_of_kind k Runas r.groups) ∙ grind arith

abbrev members_of_kind_in_command : Kind → CmdSpec → List Member
members_of_kind_in_command User c = []
members_of_kind_in_command Runas c = members_of_runas c.runas
members_of_kind_in_command Host c = []
members_of_kind_in_command Cmnd c = c.member ∷ []

listed_members_of_command_are_those_of_kind : (k : Kind) (c : CmdSpec) → members_of_kind_among_listed k (listed_members_of_command c) ≡ members_of_kind_in_command k c
listed_members_of_command_are_those_of_kind Runas c = members_of_kind_in_two_parts_are_appended Runas (listed_members_of_runas c.runas) ((Cmnd, c.member) ∷ []) (members_of_kind_in_runas Runas c.runas) refl ∙ append-nil (members_of_runas c.runas)
listed_members_of_command_are_those_of_kind k c = members_of_kind_in_two_parts_are_appended k (listed_members_of_runas c.runas) ((Cmnd, c.member) ∷ []) (members_of_kind_in_runas k c.runas) refl

hosts_and_command_members_are_group_members : (k : Kind) (g : HostGroup) → (if is_equal_kind k Host then g.hosts else []) ++ flat_map (members_of_kind_in_command k) g.commands ≡ members_in_host_group k g
hosts_and_command_members_are_group_members User g = flat_map_of_nothing_is_empty g.commands
hosts_and_command_members_are_group_members Runas g = refl
hosts_and_command_members_are_group_members Host g = ap (λ ms. g.hosts ++ ms) (flat_map_of_nothing_is_empty g.commands) ∙ append-nil g.hosts
hosts_and_command_members_are_group_members Cmnd g = flat_map_single (λ (c : CmdSpec). c.member) g.commands

listed_members_of_group_are_those_of_kind : (k : Kind) (g : HostGroup) → members_of_kind_among_listed k (listed_members_of_host_group g) ≡ members_in_host_group k g
listed_members_of_group_are_those_of_kind k g =
    members_of_kind_in_two_parts_are_appended k (members_listed_as_kind Host g.hosts) (flat_map listed_members_of_command g.commands) (members_listed_as_kind_are_those_of_kind k Host g.hosts) (members_of_kind_in_flat_map_are_flat_map k listed_members_of_command (members_of_kind_in_command k) (listed_members_of_command_are_those_of_kind k) g.commands)
    ∙ hosts_and_command_members_are_group_members k g

users_and_group_members_are_spec_members : (k : Kind) (users : List Member) (groups : List HostGroup)
    → (if is_equal_kind k User then users else []) ++ flat_map (members_in_host_group k) groups ≡ members_of_kind_in_line k (node.Spec users groups)
users_and_group_members_are_spec_members User users groups = ap (λ ms. users ++ ms) (flat_map_of_nothing_is_empty groups) ∙ append-nil users
users_and_group_members_are_spec_members k users groups = refl

-- ---- the members of a line

listed_members_of_node_are_those_of_kind : (k : Kind) (n : Node) → members_of_kind_among_listed k (listed_members_of_node n) ≡ members_of_kind_in_line k n
listed_members_of_node_are_those_of_kind k (node.Defaults None params) = refl
listed_members_of_node_are_those_of_kind k (node.Defaults (Some s) params) = members_listed_as_kind_are_those_of_kind k s.kind s.members
listed_members_of_node_are_those_of_kind k (node.Alias j defs) =
    members_of_kind_in_flat_map_are_flat_map k (λ (d : Def). members_listed_as_kind j d.members) (λ (d : Def). if is_equal_kind k j then d.members else []) (λ d. members_listed_as_kind_are_those_of_kind k j d.members) defs
    ∙ grind (arith, flat_map_of_nothing_is_empty defs)
listed_members_of_node_are_those_of_kind k (node.Spec users groups) =
    members_of_kind_in_two_parts_are_appended k (members_listed_as_kind User users) (flat_map listed_members_of_host_group groups) (members_listed_as_kind_are_those_of_kind k User users) (members_of_kind_in_flat_map_are_flat_map k listed_members_of_host_group (members_in_host_group k) (listed_members_of_group_are_those_of_kind k) groups)
    ∙ users_and_group_members_are_spec_members k users groups
listed_members_of_node_are_those_of_kind k n = refl

-- the members of lists of a kind are those that stand in such lists, of all
pub members_of_kind_are_listed_members : (k : Kind) (n : Node) → members_of_kind_in_line k n ≡ members_of_kind_among_listed k (listed_members_of_node n)
members_of_kind_are_listed_members k n = sym (listed_members_of_node_are_those_of_kind k n)

-- ---- the places of a name

conjunction_test_is_nested_test : {X : Type 0} (b c : Bool) (x : X) → (if b && c then x ∷ [] else []) ++ [] ≡ (if b then (if c then x ∷ [] else []) else [])
conjunction_test_is_nested_test b c x = grind arith

-- one member
mention_of_member_is_mention_of_its_alias : (k j : Kind) (name : List ℕ) (line : ℕ) (m : Member) (a : Atom)
    → flat_map (mention_span_if_alias_named k name line) (alias_member_of_atom j m a) ≡ (if is_equal_kind k j then mention_span_of_member line name m a else [])
mention_of_member_is_mention_of_its_alias k j name line m (atom.Alias other) = conjunction_test_is_nested_test (is_equal_kind k j) (bytes_eq name other) _
mention_of_member_is_mention_of_its_alias k j name line m a = conditional_of_empty_lists_is_empty (is_equal_kind k j)

-- members of lists
mentions_among_members_are_those_of_aliases : (k : Kind) (name : List ℕ) (line : ℕ) (ls : List ListedMember) → mention_spans_among_members line name (members_of_kind_among_listed k ls) ≡ flat_map (mention_span_if_alias_named k name line) (aliases_among_listed ls)
mentions_among_members_are_those_of_aliases k name line [] = refl
mentions_among_members_are_those_of_aliases k name line (l ∷ ls) = grind (
  arith,
  mentions_among_members_are_those_of_aliases k name line ls,
  mention_of_member_is_mention_of_its_alias k l.0 name line l.1 l.1.atom,
  flat_map-append (mention_span_if_alias_named k name line) (alias_member_of_atom l.0 l.1 l.1.atom) (aliases_among_listed ls),
)

-- the mentions of a name in a line are picked from the aliases in it
pub mentions_in_line_are_those_of_its_aliases : (k : Kind) (name : List ℕ) (line : ℕ) (n : Node) → mentions_in_line k name line n ≡ flat_map (mention_span_if_alias_named k name line) (aliases_in_node n)
mentions_in_line_are_those_of_its_aliases k name line n = ap (mention_spans_among_members line name) (members_of_kind_are_listed_members k n) ∙ mentions_among_members_are_those_of_aliases k name line (listed_members_of_node n)
