-- The mentions of all names hold those of each.
use Rattle.sudoers_check.proofs.Common.{Atom, Bool, CmdSpec, Cmnd, Def, Host, HostGroup, Kind, Line, List, ListedMember, Member, Mention, Node, None, Option, Runas, RunasSpec, Some, User, [], alias_member_of_atom}
use Rattle.sudoers_check.proofs.Common.{alias_names_of_atom, aliases_among_listed, aliases_in_node, all_mentions_in_lines, ap, append-nil, append_assoc, ap₂, bytes_eq, bytes_eq-Decides, cond, false, filter, flat_map}
use Rattle.sudoers_check.proofs.Common.{if◌then◌else◌, is_equal_kind, is_mention_of_name, length, listed_members_of_command, listed_members_of_host_group, listed_members_of_node, listed_members_of_runas, map}
use Rattle.sudoers_check.proofs.Common.{map-append, members_listed_as_kind, mention_of_alias_member, mention_of_atom, mentions_among_listed_members, mentions_in_lines_numbered_from, mentions_in_node, refl, sym, true, ℕ, ◌&&◌, ◌++◌}
use Rattle.sudoers_check.proofs.Common.{◌+◌, ◌-◌, ◌∙◌, ◌∷◌, ◌≡◌}
use Rattle.sudoers_grammar.specs.declared.node.Atom.TheVariants as atom
use Rattle.sudoers_grammar.specs.Node as node
use Rattle.sudoers_tree.specs.declared.place.Span.{Span}
use Rattle.sudoers_tree.specs.Mention.{mention_span_of_member, members_of_runas, members_in_host_group, members_of_kind_in_line, mentions_from_line_number, mentions_in_lines}

pub flat_map_of_appended_is_appended : {X Y : Type 0} (f : X → List Y) (xs ys : List X) → flat_map f (xs ++ ys) ≡ flat_map f xs ++ flat_map f ys
flat_map_of_appended_is_appended f [] ys = refl
flat_map_of_appended_is_appended f (x ∷ xs) ys = ap (λ zs. f x ++ zs) (flat_map_of_appended_is_appended f xs ys) ∙ sym (append_assoc (f x) (flat_map f xs) (flat_map f ys))

flat_map_to_nothing_is_empty : {X Y : Type 0} (xs : List X) → (let none : List Y = [] in flat_map (λ (x : X). none) xs ≡ none)
flat_map_to_nothing_is_empty [] = refl
flat_map_to_nothing_is_empty (x ∷ xs) = flat_map_to_nothing_is_empty xs

-- the mentions among members of lists one after another
mentions_among_appended_are_appended : (line : ℕ) (xs ys : List ListedMember) → mentions_among_listed_members line (xs ++ ys) ≡ mentions_among_listed_members line xs ++ mentions_among_listed_members line ys
mentions_among_appended_are_appended line xs ys = flat_map_of_appended_is_appended (λ (l : ListedMember). mention_of_atom line l.0 l.1 l.1.atom) xs ys

-- THE ALIASES OF A LINE

mention_of_alias_member_is_of_atom : (line : ℕ) (k : Kind) (m : Member) (a : Atom) → map (mention_of_alias_member line) (alias_member_of_atom k m a) ≡ mention_of_atom line k m a
mention_of_alias_member_is_of_atom line k m (atom.Alias name) = refl
mention_of_alias_member_is_of_atom line k m a = refl

mentions_of_listed_aliases_are_mentions : (line : ℕ) (ls : List ListedMember) → map (mention_of_alias_member line) (aliases_among_listed ls) ≡ mentions_among_listed_members line ls
mentions_of_listed_aliases_are_mentions line [] = refl
mentions_of_listed_aliases_are_mentions line (l ∷ ls) =
    map-append (mention_of_alias_member line) (alias_member_of_atom l.0 l.1 l.1.atom) (aliases_among_listed ls)
    ∙ ap₂ (λ x y. x ++ y) (mention_of_alias_member_is_of_atom line l.0 l.1 l.1.atom) (mentions_of_listed_aliases_are_mentions line ls)

-- what a line mentions are its aliases, each where it stands
pub mentions_of_node_aliases_are_in_node : (line : ℕ) (says : Node) → map (mention_of_alias_member line) (aliases_in_node says) ≡ mentions_in_node line says
mentions_of_node_aliases_are_in_node line says = mentions_of_listed_aliases_are_mentions line (listed_members_of_node says)

-- THE MEMBERS OF ONE KIND

-- What is picked of the mentions of a line is what t gives of the members of one kind.
abbrev pub PicksFromMentionsOfKind : {Y : Type 0} → Kind → ℕ → (Mention → List Y) → (Member → List Y) → Type 0
PicksFromMentionsOfKind k line pick t = (j : Kind) (m : Member) → flat_map pick (mention_of_atom line j m m.atom) ≡ (if is_equal_kind k j then t m else [])

-- what is picked of the members of lists
abbrev items_picked_from_listed_mentions : {Y : Type 0} → (Mention → List Y) → ℕ → List ListedMember → List Y
items_picked_from_listed_mentions pick line ls = flat_map pick (mentions_among_listed_members line ls)

-- of lists one after another
items_picked_from_appended_are_appended : {Y : Type 0} (pick : Mention → List Y) (line : ℕ) (xs ys : List ListedMember) → items_picked_from_listed_mentions pick line (xs ++ ys) ≡ items_picked_from_listed_mentions pick line xs ++ items_picked_from_listed_mentions pick line ys
items_picked_from_appended_are_appended pick line xs ys =
    ap (flat_map pick) (mentions_among_appended_are_appended line xs ys)
    ∙ flat_map_of_appended_is_appended pick (mentions_among_listed_members line xs) (mentions_among_listed_members line ys)

both_branches_empty_is_empty : {X : Type 0} (b : Bool) → (let none : List X = [] in none ≡ (if b then none else none))
both_branches_empty_is_empty true = refl
both_branches_empty_is_empty false = refl

-- one list of a kind
items_picked_from_list_are_of_members : {Y : Type 0} (k j : Kind) (line : ℕ) (pick : Mention → List Y) (t : Member → List Y) → PicksFromMentionsOfKind k line pick t → (ms : List Member)
    → items_picked_from_listed_mentions pick line (members_listed_as_kind j ms) ≡ flat_map t (if is_equal_kind k j then ms else [])
items_picked_from_list_are_of_members k j line pick t one [] = ap (flat_map t) (both_branches_empty_is_empty (is_equal_kind k j))
items_picked_from_list_are_of_members k j line pick t one (m ∷ ms) =
    items_picked_from_appended_are_appended pick line ((j, m) ∷ []) (members_listed_as_kind j ms)
    ∙ ap₂ (λ x y. x ++ y) (ap (flat_map pick) (append-nil (mention_of_atom line j m m.atom)) ∙ one j m) (items_picked_from_list_are_of_members k j line pick t one ms)
    ∙ elim (is_equal_kind k j) as (λ b. (if b then t m else []) ++ flat_map t (if b then ms else []) ≡ flat_map t (if b then m ∷ ms else [])) [
      | true ↦ refl
      | false ↦ refl
    ]

-- ---- a user specification

abbrev members_in_command_of_kind : Kind → CmdSpec → List Member
members_in_command_of_kind User c = []
members_in_command_of_kind Runas c = members_of_runas c.runas
members_in_command_of_kind Host c = []
members_in_command_of_kind Cmnd c = c.member ∷ []

-- both are those of parts one after another
items_picked_from_two_parts_are_joined : {Y : Type 0} (line : ℕ) (pick : Mention → List Y) (t : Member → List Y) (xs ys : List ListedMember) (ms ns : List Member) → items_picked_from_listed_mentions pick line xs ≡ flat_map t ms
    → items_picked_from_listed_mentions pick line ys ≡ flat_map t ns → items_picked_from_listed_mentions pick line (xs ++ ys) ≡ flat_map t (ms ++ ns)
items_picked_from_two_parts_are_joined line pick t xs ys ms ns a b = items_picked_from_appended_are_appended pick line xs ys ∙ ap₂ (λ x y. x ++ y) a b ∙ sym (flat_map_of_appended_is_appended t ms ns)

items_picked_from_flat_parts_are_joined : {X Y : Type 0} (line : ℕ) (pick : Mention → List Y) (t : Member → List Y) (f : X → List ListedMember) (g : X → List Member) (xs : List X)
    → ((x : X) → items_picked_from_listed_mentions pick line (f x) ≡ flat_map t (g x)) → items_picked_from_listed_mentions pick line (flat_map f xs) ≡ flat_map t (flat_map g xs)
items_picked_from_flat_parts_are_joined line pick t f g [] each = refl
items_picked_from_flat_parts_are_joined line pick t f g (x ∷ xs) each = items_picked_from_two_parts_are_joined line pick t (f x) (flat_map f xs) (g x) (flat_map g xs) (each x) (items_picked_from_flat_parts_are_joined line pick t f g xs each)

items_picked_from_runas_are_of_members : {Y : Type 0} (k : Kind) (line : ℕ) (pick : Mention → List Y) (t : Member → List Y) → PicksFromMentionsOfKind k line pick t → (r : Option RunasSpec)
    → items_picked_from_listed_mentions pick line (listed_members_of_runas r) ≡ flat_map t (if is_equal_kind k Runas then members_of_runas r else [])
items_picked_from_runas_are_of_members k line pick t one None = ap (flat_map t) (both_branches_empty_is_empty (is_equal_kind k Runas))
items_picked_from_runas_are_of_members k line pick t one (Some r) =
    items_picked_from_two_parts_are_joined line pick t (members_listed_as_kind Runas r.users) (members_listed_as_kind Runas r.groups) (if is_equal_kind k Runas then r.users else []) (if is_equal_kind k Runas then r.groups else [])
    (items_picked_from_list_are_of_members k Runas line pick t one r.users) (items_picked_from_list_are_of_members k Runas line pick t one r.groups)
    ∙ ap (flat_map t) (elim (is_equal_kind k Runas) as (λ b. (if b then r.users else []) ++ (if b then r.groups else []) ≡ (if b then r.users ++ r.groups else [])) [ true ↦ refl | false ↦ refl ])

command_members_are_runas_and_own : (j : Kind) (c : CmdSpec) → (if is_equal_kind j Runas then members_of_runas c.runas else []) ++ (if is_equal_kind j Cmnd then c.member ∷ [] else []) ≡ members_in_command_of_kind j c
command_members_are_runas_and_own User c = refl
command_members_are_runas_and_own Runas c = append-nil (members_of_runas c.runas)
command_members_are_runas_and_own Host c = refl
command_members_are_runas_and_own Cmnd c = refl

items_picked_from_command_are_of_members : {Y : Type 0} (k : Kind) (line : ℕ) (pick : Mention → List Y) (t : Member → List Y) → PicksFromMentionsOfKind k line pick t → (c : CmdSpec)
    → items_picked_from_listed_mentions pick line (listed_members_of_command c) ≡ flat_map t (members_in_command_of_kind k c)
items_picked_from_command_are_of_members k line pick t one c =
    items_picked_from_two_parts_are_joined line pick t (listed_members_of_runas c.runas) ((Cmnd, c.member) ∷ []) (if is_equal_kind k Runas then members_of_runas c.runas else []) (if is_equal_kind k Cmnd then c.member ∷ [] else [])
    (items_picked_from_runas_are_of_members k line pick t one c.runas) (items_picked_from_list_are_of_members k Cmnd line pick t one (c.member ∷ []))
    ∙ ap (flat_map t) (command_members_are_runas_and_own k c)

command_members_of_commands_are_mapped : (cs : List CmdSpec) → flat_map (members_in_command_of_kind Cmnd) cs ≡ map (λ (c : CmdSpec). c.member) cs
command_members_of_commands_are_mapped [] = refl
command_members_of_commands_are_mapped (c ∷ cs) = ap (λ ms. c.member ∷ ms) (command_members_of_commands_are_mapped cs)

group_members_are_hosts_and_commands : (j : Kind) (g : HostGroup) → (if is_equal_kind j Host then g.hosts else []) ++ flat_map (members_in_command_of_kind j) g.commands ≡ members_in_host_group j g
group_members_are_hosts_and_commands User g = flat_map_to_nothing_is_empty g.commands
group_members_are_hosts_and_commands Runas g = refl
group_members_are_hosts_and_commands Host g = ap (λ ms. g.hosts ++ ms) (flat_map_to_nothing_is_empty g.commands) ∙ append-nil g.hosts
group_members_are_hosts_and_commands Cmnd g = command_members_of_commands_are_mapped g.commands

items_picked_from_group_are_of_members : {Y : Type 0} (k : Kind) (line : ℕ) (pick : Mention → List Y) (t : Member → List Y) → PicksFromMentionsOfKind k line pick t → (g : HostGroup)
    → items_picked_from_listed_mentions pick line (listed_members_of_host_group g) ≡ flat_map t (members_in_host_group k g)
items_picked_from_group_are_of_members k line pick t one g =
    items_picked_from_two_parts_are_joined line pick t (members_listed_as_kind Host g.hosts) (flat_map listed_members_of_command g.commands) (if is_equal_kind k Host then g.hosts else []) (flat_map (members_in_command_of_kind k) g.commands)
    (items_picked_from_list_are_of_members k Host line pick t one g.hosts) (items_picked_from_flat_parts_are_joined line pick t listed_members_of_command (members_in_command_of_kind k) g.commands (items_picked_from_command_are_of_members k line pick t one))
    ∙ ap (flat_map t) (group_members_are_hosts_and_commands k g)

-- ---- lines

spec_members_are_users_and_groups : (j : Kind) (users : List Member) (groups : List HostGroup) → (if is_equal_kind j User then users else []) ++ flat_map (members_in_host_group j) groups ≡ members_of_kind_in_line j (node.Spec users groups)
spec_members_are_users_and_groups User users groups = ap (λ ms. users ++ ms) (flat_map_to_nothing_is_empty groups) ∙ append-nil users
spec_members_are_users_and_groups Runas users groups = refl
spec_members_are_users_and_groups Host users groups = refl
spec_members_are_users_and_groups Cmnd users groups = refl

pub items_picked_from_node_are_of_members : {Y : Type 0} (k : Kind) (line : ℕ) (pick : Mention → List Y) (t : Member → List Y) → PicksFromMentionsOfKind k line pick t → (n : Node)
    → flat_map pick (mentions_in_node line n) ≡ flat_map t (members_of_kind_in_line k n)
items_picked_from_node_are_of_members k line pick t one node.Blank = refl
items_picked_from_node_are_of_members k line pick t one node.Comment = refl
items_picked_from_node_are_of_members k line pick t one (node.Include dir path) = refl
items_picked_from_node_are_of_members k line pick t one (node.Defaults None params) = refl
items_picked_from_node_are_of_members k line pick t one (node.Defaults (Some s) params) = items_picked_from_list_are_of_members k s.kind line pick t one s.members
items_picked_from_node_are_of_members k line pick t one (node.Alias j defs) =
    items_picked_from_flat_parts_are_joined line pick t (λ (d : Def). members_listed_as_kind j d.members) (λ (d : Def). if is_equal_kind k j then d.members else []) defs (λ d. items_picked_from_list_are_of_members k j line pick t one d.members)
    ∙ ap (flat_map t) (elim (is_equal_kind k j) as (λ b. flat_map (λ (d : Def). if b then d.members else []) defs ≡ (if b then flat_map (λ (d : Def). d.members) defs else [])) [
      | true ↦ refl
      | false ↦ flat_map_to_nothing_is_empty defs
    ])
items_picked_from_node_are_of_members k line pick t one (node.Spec users groups) =
    items_picked_from_two_parts_are_joined line pick t (members_listed_as_kind User users) (flat_map listed_members_of_host_group groups) (if is_equal_kind k User then users else []) (flat_map (members_in_host_group k) groups)
    (items_picked_from_list_are_of_members k User line pick t one users) (items_picked_from_flat_parts_are_joined line pick t listed_members_of_host_group (members_in_host_group k) groups (items_picked_from_group_are_of_members k line pick t one))
    ∙ ap (flat_map t) (spec_members_are_users_and_groups k users groups)

-- THE PLACES OF ONE NAME

abbrev span_if_mention_of_name : Kind → List ℕ → Mention → List Span
span_if_mention_of_name k name m = if is_mention_of_name k name m then m.span ∷ [] else []

abbrev span_of_name_at_member_end : ℕ → List ℕ → Member → Span
span_of_name_at_member_end line name m = record { line = line; start = m.stop - length name; stop = m.stop }

mention_span_is_picked_from_member : (k : Kind) (name : List ℕ) (line : ℕ) → PicksFromMentionsOfKind k line (span_if_mention_of_name k name) (λ (m : Member). mention_span_of_member line name m m.atom)
mention_span_is_picked_from_member k name line j m = by_atom m.atom
  where
    by_name : (other : List ℕ) (b c : Bool) → bytes_eq name other ≡ c
        → (if b && c then span_of_name_at_member_end line other m ∷ [] else []) ++ [] ≡ (if b then (if c then span_of_name_at_member_end line name m ∷ [] else []) else [])
    by_name other false c e = refl
    by_name other true false e = refl
    by_name other true true e = ap (λ n. span_of_name_at_member_end line n m ∷ []) (sym ((bytes_eq-Decides name other).0 e))

    by_atom : (a : Atom) → flat_map (span_if_mention_of_name k name) (mention_of_atom line j m a) ≡ (if is_equal_kind k j then mention_span_of_member line name m a else [])
    by_atom (atom.Alias other) = by_name other (is_equal_kind k j) (bytes_eq name other) refl
    by_atom atom.All = both_branches_empty_is_empty (is_equal_kind k j)
    by_atom (atom.Name n) = both_branches_empty_is_empty (is_equal_kind k j)
    by_atom (atom.Id n) = both_branches_empty_is_empty (is_equal_kind k j)
    by_atom (atom.Group n) = both_branches_empty_is_empty (is_equal_kind k j)
    by_atom (atom.GroupId n) = both_branches_empty_is_empty (is_equal_kind k j)
    by_atom (atom.NonUnix n) = both_branches_empty_is_empty (is_equal_kind k j)
    by_atom (atom.Netgroup n) = both_branches_empty_is_empty (is_equal_kind k j)
    by_atom (atom.Host n) = both_branches_empty_is_empty (is_equal_kind k j)
    by_atom (atom.Address n) = both_branches_empty_is_empty (is_equal_kind k j)
    by_atom (atom.Network n o) = both_branches_empty_is_empty (is_equal_kind k j)
    by_atom atom.Listing = both_branches_empty_is_empty (is_equal_kind k j)
    by_atom (atom.Path n o) = both_branches_empty_is_empty (is_equal_kind k j)
    by_atom (atom.Sudoedit n) = both_branches_empty_is_empty (is_equal_kind k j)

spans_picked_are_of_mentions_of_name : (k : Kind) (name : List ℕ) (ms : List Mention) → flat_map (span_if_mention_of_name k name) ms ≡ map (λ (m : Mention). m.span) (filter (is_mention_of_name k name) ms)
spans_picked_are_of_mentions_of_name k name [] = refl
spans_picked_are_of_mentions_of_name k name (m ∷ ms) =
    ap (λ zs. span_if_mention_of_name k name m ++ zs) (spans_picked_are_of_mentions_of_name k name ms)
    ∙ elim (is_mention_of_name k name m) as (λ b. (if b then m.span ∷ [] else []) ++ map (λ (x : Mention). x.span) (filter (is_mention_of_name k name) ms) ≡ map (λ (x : Mention). x.span) (cond b (m ∷ filter (is_mention_of_name k name) ms) (filter (is_mention_of_name k name) ms))) [
      | true ↦ refl
      | false ↦ refl
    ]

mentions_from_line_are_picked_spans : (k : Kind) (name : List ℕ) (n : ℕ) (lines : List Line) → mentions_from_line_number k name n lines ≡ flat_map (span_if_mention_of_name k name) (mentions_in_lines_numbered_from n lines)
mentions_from_line_are_picked_spans k name n [] = refl
mentions_from_line_are_picked_spans k name n (line ∷ lines) =
    ap₂ (λ x y. x ++ y) (sym (items_picked_from_node_are_of_members k n (span_if_mention_of_name k name) (λ (m : Member). mention_span_of_member n name m m.atom) (mention_span_is_picked_from_member k name n) line.node)) (mentions_from_line_are_picked_spans k name (n + 1) lines)
    ∙ sym (flat_map_of_appended_is_appended (span_if_mention_of_name k name) (mentions_in_node n line.node) (mentions_in_lines_numbered_from (n + 1) lines))

pub mentions_in_lines_are_mention_spans : (lines : List Line) (k : Kind) (name : List ℕ) → mentions_in_lines k name lines ≡ map (λ (m : Mention). m.span) (filter (is_mention_of_name k name) (all_mentions_in_lines lines))
mentions_in_lines_are_mention_spans lines k name = mentions_from_line_are_picked_spans k name 0 lines ∙ spans_picked_are_of_mentions_of_name k name (all_mentions_in_lines lines)

-- THE NAMES OF ONE KIND

abbrev pub name_if_mention_of_kind : Kind → Mention → List (List ℕ)
name_if_mention_of_kind k m = if is_equal_kind k m.kind then m.name ∷ [] else []

pub mention_name_is_picked_from_member : (k : Kind) (line : ℕ) → PicksFromMentionsOfKind k line (name_if_mention_of_kind k) (λ (m : Member). alias_names_of_atom m.atom)
mention_name_is_picked_from_member k line j m = by_atom m.atom
  where
    by_atom : (a : Atom) → flat_map (name_if_mention_of_kind k) (mention_of_atom line j m a) ≡ (if is_equal_kind k j then alias_names_of_atom a else [])
    by_atom (atom.Alias other) = append-nil (if is_equal_kind k j then other ∷ [] else [])
    by_atom atom.All = both_branches_empty_is_empty (is_equal_kind k j)
    by_atom (atom.Name n) = both_branches_empty_is_empty (is_equal_kind k j)
    by_atom (atom.Id n) = both_branches_empty_is_empty (is_equal_kind k j)
    by_atom (atom.Group n) = both_branches_empty_is_empty (is_equal_kind k j)
    by_atom (atom.GroupId n) = both_branches_empty_is_empty (is_equal_kind k j)
    by_atom (atom.NonUnix n) = both_branches_empty_is_empty (is_equal_kind k j)
    by_atom (atom.Netgroup n) = both_branches_empty_is_empty (is_equal_kind k j)
    by_atom (atom.Host n) = both_branches_empty_is_empty (is_equal_kind k j)
    by_atom (atom.Address n) = both_branches_empty_is_empty (is_equal_kind k j)
    by_atom (atom.Network n o) = both_branches_empty_is_empty (is_equal_kind k j)
    by_atom atom.Listing = both_branches_empty_is_empty (is_equal_kind k j)
    by_atom (atom.Path n o) = both_branches_empty_is_empty (is_equal_kind k j)
    by_atom (atom.Sudoedit n) = both_branches_empty_is_empty (is_equal_kind k j)
