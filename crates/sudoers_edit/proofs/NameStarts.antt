-- Where a name stands in what a line says, told for one kind and for an alias.
use Rattle.sudoers_edit.proofs.Common.{Atom, Bool, CmdSpec, Cmnd, Def, Host, HostGroup, Kind, List, Member, Node, None, Runas, RunasSpec, Some, Span, User, [], alias_offsets_in_atom, alias_offsets_in_command}
use Rattle.sudoers_edit.proofs.Common.{alias_offsets_in_definition, alias_offsets_in_host_group, alias_offsets_in_member, alias_offsets_in_node, alias_offsets_in_runas_option, ap, append-nil, ap₂, bytes_eq, false}
use Rattle.sudoers_edit.proofs.Common.{flat_map, flat_map-append, if◌then◌else◌, is_equal_kind, length, map, members_in_host_group, members_of_runas, mention_offset_of_member, mention_span_of_member}
use Rattle.sudoers_edit.proofs.Common.{name_offsets_in_definition, name_offsets_in_line, named_alias_of_kind_and_name, refl, sym, true, ℕ, ◌&&◌, ◌++◌, ◌-◌, ◌∙◌, ◌∷◌, ◌≡◌}
use Rattle.std.specs.Prelude.{Option}
use Rattle.sudoers_grammar.specs.declared.node.Atom.TheVariants as atom
use Rattle.sudoers_grammar.specs.Node as node

-- ---- lists of lists

pub flat_map_of_empty_is_empty : {X A : Type 0} (f : X → List A) (xs : List X) → ((x : X) → f x ≡ []) → flat_map f xs ≡ []
flat_map_of_empty_is_empty f [] none = refl
flat_map_of_empty_is_empty f (x ∷ xs) none = ap₂ (λ ys zs. ys ++ zs) (none x) (flat_map_of_empty_is_empty f xs none)

flat_maps_of_equal_functions_are_equal : {X A : Type 0} (f g : X → List A) (xs : List X) → ((x : X) → f x ≡ g x) → flat_map f xs ≡ flat_map g xs
flat_maps_of_equal_functions_are_equal f g [] same = refl
flat_maps_of_equal_functions_are_equal f g (x ∷ xs) same = ap₂ (λ ys zs. ys ++ zs) (same x) (flat_maps_of_equal_functions_are_equal f g xs same)

pub flat_map_of_map_composes : {X Y A : Type 0} (f : Y → List A) (g : X → Y) (xs : List X) → flat_map f (map g xs) ≡ flat_map (λ (x : X). f (g x)) xs
flat_map_of_map_composes f g [] = refl
flat_map_of_map_composes f g (x ∷ xs) = ap (λ zs. f (g x) ++ zs) (flat_map_of_map_composes f g xs)

pub flat_map_of_flat_map_composes : {X Y A : Type 0} (f : Y → List A) (g : X → List Y) (xs : List X) → flat_map f (flat_map g xs) ≡ flat_map (λ (x : X). flat_map f (g x)) xs
flat_map_of_flat_map_composes f g [] = refl
flat_map_of_flat_map_composes f g (x ∷ xs) = flat_map-append f (g x) (flat_map g xs) ∙ ap (λ zs. flat_map f (g x) ++ zs) (flat_map_of_flat_map_composes f g xs)

-- ---- members

start_of_optional_span_is_its_start : (b : Bool) (s : Span) → (if b then s.start ∷ [] else []) ≡ map (λ (t : Span). t.start) (if b then s ∷ [] else [])
start_of_optional_span_is_its_start true s = refl
start_of_optional_span_is_its_start false s = refl

atom_offsets_of_same_kind_are_mentions : (k : Kind) (name : List ℕ) (m : Member) (a : Atom)
    → alias_offsets_in_atom (named_alias_of_kind_and_name k name) true m.stop a ≡ map (λ (s : Span). s.start) (mention_span_of_member 0 name m a)
atom_offsets_of_same_kind_are_mentions k name m (atom.Alias word) = start_of_optional_span_is_its_start (bytes_eq name word) (record { line = 0; start = m.stop - length name; stop = m.stop })
atom_offsets_of_same_kind_are_mentions k name m a = refl

atom_of_other_kind_has_no_offset : (k : Kind) (name : List ℕ) (stop : ℕ) (a : Atom) → alias_offsets_in_atom (named_alias_of_kind_and_name k name) false stop a ≡ []
atom_of_other_kind_has_no_offset k name stop (atom.Alias word) = refl
atom_of_other_kind_has_no_offset k name stop a = refl

member_offsets_of_same_kind_are_mentions : (k j : Kind) (name : List ℕ) → is_equal_kind k j ≡ true → (m : Member) → alias_offsets_in_member (named_alias_of_kind_and_name k name) j m ≡ mention_offset_of_member name m
member_offsets_of_same_kind_are_mentions k j name is m = ap (λ (b : Bool). alias_offsets_in_atom (named_alias_of_kind_and_name k name) b m.stop m.atom) is ∙ atom_offsets_of_same_kind_are_mentions k name m m.atom

member_of_other_kind_has_no_offset : (k j : Kind) (name : List ℕ) → is_equal_kind k j ≡ false → (m : Member) → alias_offsets_in_member (named_alias_of_kind_and_name k name) j m ≡ []
member_of_other_kind_has_no_offset k j name is m = ap (λ (b : Bool). alias_offsets_in_atom (named_alias_of_kind_and_name k name) b m.stop m.atom) is ∙ atom_of_other_kind_has_no_offset k name m.stop m.atom

members_offsets_of_same_kind_are_mentions : (k j : Kind) (name : List ℕ) → is_equal_kind k j ≡ true → (ms : List Member)
    → flat_map (alias_offsets_in_member (named_alias_of_kind_and_name k name) j) ms ≡ flat_map (mention_offset_of_member name) ms
members_offsets_of_same_kind_are_mentions k j name is ms = flat_maps_of_equal_functions_are_equal (alias_offsets_in_member (named_alias_of_kind_and_name k name) j) (mention_offset_of_member name) ms (member_offsets_of_same_kind_are_mentions k j name is)

members_of_other_kind_have_no_offset : (k j : Kind) (name : List ℕ) → is_equal_kind k j ≡ false → (ms : List Member) → flat_map (alias_offsets_in_member (named_alias_of_kind_and_name k name) j) ms ≡ []
members_of_other_kind_have_no_offset k j name is ms = flat_map_of_empty_is_empty (alias_offsets_in_member (named_alias_of_kind_and_name k name) j) ms (member_of_other_kind_has_no_offset k j name is)

join_of_empty_lists_is_empty : {A : Type 0} (xs ys : List A) → xs ≡ [] → ys ≡ [] → xs ++ ys ≡ []
join_of_empty_lists_is_empty xs ys a b = rw (a, b) refl

join_with_empty_second_is_first : {A : Type 0} (xs ys zs : List A) → xs ≡ zs → ys ≡ [] → xs ++ ys ≡ zs
join_with_empty_second_is_first xs ys zs a b = ap₂ (λ us vs. us ++ vs) a b ∙ append-nil zs

join_with_empty_first_is_second : {A : Type 0} (xs ys zs : List A) → xs ≡ [] → ys ≡ zs → xs ++ ys ≡ zs
join_with_empty_first_is_second xs ys zs a b = ap₂ (λ us vs. us ++ vs) a b

-- ---- users and groups before a command

runas_offsets_of_runas_alias_are_mentions : (name : List ℕ) (o : Option RunasSpec) → alias_offsets_in_runas_option (named_alias_of_kind_and_name Runas name) o ≡ flat_map (mention_offset_of_member name) (members_of_runas o)
runas_offsets_of_runas_alias_are_mentions name None = refl
runas_offsets_of_runas_alias_are_mentions name (Some r) =
    ap₂ (λ us vs. us ++ vs) (members_offsets_of_same_kind_are_mentions Runas Runas name refl r.users) (members_offsets_of_same_kind_are_mentions Runas Runas name refl r.groups)
    ∙ sym (flat_map-append (mention_offset_of_member name) r.users r.groups)

runas_has_no_offset_of_other_kind : (k : Kind) (name : List ℕ) → is_equal_kind k Runas ≡ false → (o : Option RunasSpec) → alias_offsets_in_runas_option (named_alias_of_kind_and_name k name) o ≡ []
runas_has_no_offset_of_other_kind k name is None = refl
runas_has_no_offset_of_other_kind k name is (Some r) =
    join_of_empty_lists_is_empty (flat_map (alias_offsets_in_member (named_alias_of_kind_and_name k name) Runas) r.users) (flat_map (alias_offsets_in_member (named_alias_of_kind_and_name k name) Runas) r.groups)
    (members_of_other_kind_have_no_offset k Runas name is r.users) (members_of_other_kind_have_no_offset k Runas name is r.groups)

-- ---- commands

command_offsets_of_runas_alias_are_mentions : (name : List ℕ) (c : CmdSpec) → alias_offsets_in_command (named_alias_of_kind_and_name Runas name) c ≡ flat_map (mention_offset_of_member name) (members_of_runas c.runas)
command_offsets_of_runas_alias_are_mentions name c =
    join_with_empty_second_is_first (alias_offsets_in_runas_option (named_alias_of_kind_and_name Runas name) c.runas) (alias_offsets_in_member (named_alias_of_kind_and_name Runas name) Cmnd c.member)
    (flat_map (mention_offset_of_member name) (members_of_runas c.runas)) (runas_offsets_of_runas_alias_are_mentions name c.runas) (member_of_other_kind_has_no_offset Runas Cmnd name refl c.member)

command_offsets_of_cmnd_alias_are_mentions : (name : List ℕ) (c : CmdSpec) → alias_offsets_in_command (named_alias_of_kind_and_name Cmnd name) c ≡ mention_offset_of_member name c.member
command_offsets_of_cmnd_alias_are_mentions name c =
    join_with_empty_first_is_second (alias_offsets_in_runas_option (named_alias_of_kind_and_name Cmnd name) c.runas) (alias_offsets_in_member (named_alias_of_kind_and_name Cmnd name) Cmnd c.member) (mention_offset_of_member name c.member)
    (runas_has_no_offset_of_other_kind Cmnd name refl c.runas) (member_offsets_of_same_kind_are_mentions Cmnd Cmnd name refl c.member)

command_has_no_offset_of_other_kind : (k : Kind) (name : List ℕ) → is_equal_kind k Runas ≡ false → is_equal_kind k Cmnd ≡ false → (c : CmdSpec) → alias_offsets_in_command (named_alias_of_kind_and_name k name) c ≡ []
command_has_no_offset_of_other_kind k name a b c =
    join_of_empty_lists_is_empty (alias_offsets_in_runas_option (named_alias_of_kind_and_name k name) c.runas) (alias_offsets_in_member (named_alias_of_kind_and_name k name) Cmnd c.member)
    (runas_has_no_offset_of_other_kind k name a c.runas) (member_of_other_kind_has_no_offset k Cmnd name b c.member)

-- ---- hosts and the commands on them

host_group_offsets_are_mentions : (k : Kind) (name : List ℕ) (g : HostGroup) → alias_offsets_in_host_group (named_alias_of_kind_and_name k name) g ≡ flat_map (mention_offset_of_member name) (members_in_host_group k g)
host_group_offsets_are_mentions User name g =
    join_of_empty_lists_is_empty (flat_map (alias_offsets_in_member (named_alias_of_kind_and_name User name) Host) g.hosts) (flat_map (alias_offsets_in_command (named_alias_of_kind_and_name User name)) g.commands)
    (members_of_other_kind_have_no_offset User Host name refl g.hosts) (flat_map_of_empty_is_empty (alias_offsets_in_command (named_alias_of_kind_and_name User name)) g.commands (command_has_no_offset_of_other_kind User name refl refl))
host_group_offsets_are_mentions Runas name g =
    join_with_empty_first_is_second (flat_map (alias_offsets_in_member (named_alias_of_kind_and_name Runas name) Host) g.hosts) (flat_map (alias_offsets_in_command (named_alias_of_kind_and_name Runas name)) g.commands)
    (flat_map (mention_offset_of_member name) (members_in_host_group Runas g)) (members_of_other_kind_have_no_offset Runas Host name refl g.hosts)
    (flat_maps_of_equal_functions_are_equal (alias_offsets_in_command (named_alias_of_kind_and_name Runas name)) (λ (c : CmdSpec). flat_map (mention_offset_of_member name) (members_of_runas c.runas)) g.commands (command_offsets_of_runas_alias_are_mentions name)
    ∙ sym (flat_map_of_flat_map_composes (mention_offset_of_member name) (λ (c : CmdSpec). members_of_runas c.runas) g.commands))
host_group_offsets_are_mentions Host name g =
    join_with_empty_second_is_first (flat_map (alias_offsets_in_member (named_alias_of_kind_and_name Host name) Host) g.hosts) (flat_map (alias_offsets_in_command (named_alias_of_kind_and_name Host name)) g.commands)
    (flat_map (mention_offset_of_member name) g.hosts) (members_offsets_of_same_kind_are_mentions Host Host name refl g.hosts)
    (flat_map_of_empty_is_empty (alias_offsets_in_command (named_alias_of_kind_and_name Host name)) g.commands (command_has_no_offset_of_other_kind Host name refl refl))
host_group_offsets_are_mentions Cmnd name g =
    join_with_empty_first_is_second (flat_map (alias_offsets_in_member (named_alias_of_kind_and_name Cmnd name) Host) g.hosts) (flat_map (alias_offsets_in_command (named_alias_of_kind_and_name Cmnd name)) g.commands)
    (flat_map (mention_offset_of_member name) (members_in_host_group Cmnd g)) (members_of_other_kind_have_no_offset Cmnd Host name refl g.hosts)
    (flat_maps_of_equal_functions_are_equal (alias_offsets_in_command (named_alias_of_kind_and_name Cmnd name)) (λ (c : CmdSpec). mention_offset_of_member name c.member) g.commands (command_offsets_of_cmnd_alias_are_mentions name)
    ∙ sym (flat_map_of_map_composes (mention_offset_of_member name) (λ (c : CmdSpec). c.member) g.commands))

host_groups_offsets_are_mentions : (k : Kind) (name : List ℕ) (groups : List HostGroup)
    → flat_map (alias_offsets_in_host_group (named_alias_of_kind_and_name k name)) groups ≡ flat_map (mention_offset_of_member name) (flat_map (members_in_host_group k) groups)
host_groups_offsets_are_mentions k name groups =
    flat_maps_of_equal_functions_are_equal (alias_offsets_in_host_group (named_alias_of_kind_and_name k name)) (λ (g : HostGroup). flat_map (mention_offset_of_member name) (members_in_host_group k g)) groups (host_group_offsets_are_mentions k name)
    ∙ sym (flat_map_of_flat_map_composes (mention_offset_of_member name) (members_in_host_group k) groups)

spec_offsets_of_other_kind_are_group_ones : (k : Kind) (name : List ℕ) (users : List Member) (groups : List HostGroup) → is_equal_kind k User ≡ false
    → alias_offsets_in_node (named_alias_of_kind_and_name k name) (node.Spec users groups) ≡ flat_map (mention_offset_of_member name) (flat_map (members_in_host_group k) groups)
spec_offsets_of_other_kind_are_group_ones k name users groups is =
    join_with_empty_first_is_second (flat_map (alias_offsets_in_member (named_alias_of_kind_and_name k name) User) users) (flat_map (alias_offsets_in_host_group (named_alias_of_kind_and_name k name)) groups)
    (flat_map (mention_offset_of_member name) (flat_map (members_in_host_group k) groups)) (members_of_other_kind_have_no_offset k User name is users) (host_groups_offsets_are_mentions k name groups)

spec_offsets_are_name_offsets : (k : Kind) (name : List ℕ) (users : List Member) (groups : List HostGroup)
    → alias_offsets_in_node (named_alias_of_kind_and_name k name) (node.Spec users groups) ≡ name_offsets_in_line k name (node.Spec users groups)
spec_offsets_are_name_offsets User name users groups =
    join_with_empty_second_is_first (flat_map (alias_offsets_in_member (named_alias_of_kind_and_name User name) User) users) (flat_map (alias_offsets_in_host_group (named_alias_of_kind_and_name User name)) groups)
    (flat_map (mention_offset_of_member name) users) (members_offsets_of_same_kind_are_mentions User User name refl users)
    (flat_map_of_empty_is_empty (alias_offsets_in_host_group (named_alias_of_kind_and_name User name)) groups (host_group_offsets_are_mentions User name))
spec_offsets_are_name_offsets Runas name users groups = spec_offsets_of_other_kind_are_group_ones Runas name users groups refl
spec_offsets_are_name_offsets Host name users groups = spec_offsets_of_other_kind_are_group_ones Host name users groups refl
spec_offsets_are_name_offsets Cmnd name users groups = spec_offsets_of_other_kind_are_group_ones Cmnd name users groups refl

-- ---- definitions, and what a Defaults line is for

definition_offsets_of_same_kind_are_names : (k j : Kind) (name : List ℕ) → is_equal_kind k j ≡ true → (d : Def) → alias_offsets_in_definition (named_alias_of_kind_and_name k name) j d ≡ name_offsets_in_definition name d
definition_offsets_of_same_kind_are_names k j name is d =
    ap₂ (λ us vs. us ++ vs) (ap (λ (b : Bool). if b && bytes_eq name d.name then d.start ∷ [] else []) is) (members_offsets_of_same_kind_are_mentions k j name is d.members)

definition_of_other_kind_has_no_offset : (k j : Kind) (name : List ℕ) → is_equal_kind k j ≡ false → (d : Def) → alias_offsets_in_definition (named_alias_of_kind_and_name k name) j d ≡ []
definition_of_other_kind_has_no_offset k j name is d =
    ap₂ (λ us vs. us ++ vs) (ap (λ (b : Bool). if b && bytes_eq name d.name then d.start ∷ [] else []) is) (members_of_other_kind_have_no_offset k j name is d.members)

definitions_offsets_are_name_offsets : (k j : Kind) (name : List ℕ) (defs : List Def)
    → flat_map (alias_offsets_in_definition (named_alias_of_kind_and_name k name) j) defs ≡ (if is_equal_kind k j then flat_map (name_offsets_in_definition name) defs else [])
definitions_offsets_are_name_offsets k j name defs = by (is_equal_kind k j) refl
  where
    by : (b : Bool) → is_equal_kind k j ≡ b → flat_map (alias_offsets_in_definition (named_alias_of_kind_and_name k name) j) defs ≡ (if b then flat_map (name_offsets_in_definition name) defs else [])
    by true is = flat_maps_of_equal_functions_are_equal (alias_offsets_in_definition (named_alias_of_kind_and_name k name) j) (name_offsets_in_definition name) defs (definition_offsets_of_same_kind_are_names k j name is)
    by false is = flat_map_of_empty_is_empty (alias_offsets_in_definition (named_alias_of_kind_and_name k name) j) defs (definition_of_other_kind_has_no_offset k j name is)

scope_offsets_are_mentions_of_kind : (k j : Kind) (name : List ℕ) (ms : List Member)
    → flat_map (alias_offsets_in_member (named_alias_of_kind_and_name k name) j) ms ≡ flat_map (mention_offset_of_member name) (if is_equal_kind k j then ms else [])
scope_offsets_are_mentions_of_kind k j name ms = by (is_equal_kind k j) refl
  where
    by : (b : Bool) → is_equal_kind k j ≡ b → flat_map (alias_offsets_in_member (named_alias_of_kind_and_name k name) j) ms ≡ flat_map (mention_offset_of_member name) (if b then ms else [])
    by true is = members_offsets_of_same_kind_are_mentions k j name is ms
    by false is = members_of_other_kind_have_no_offset k j name is ms

-- ---- lines

pub alias_offsets_of_node_are_name_offsets : (k : Kind) (name : List ℕ) (says : Node) → alias_offsets_in_node (named_alias_of_kind_and_name k name) says ≡ name_offsets_in_line k name says
alias_offsets_of_node_are_name_offsets k name (node.Alias j defs) = definitions_offsets_are_name_offsets k j name defs
alias_offsets_of_node_are_name_offsets k name node.Blank = refl
alias_offsets_of_node_are_name_offsets k name node.Comment = refl
alias_offsets_of_node_are_name_offsets k name (node.Include dir path) = refl
alias_offsets_of_node_are_name_offsets k name (node.Defaults None params) = refl
alias_offsets_of_node_are_name_offsets k name (node.Defaults (Some s) params) = scope_offsets_are_mentions_of_kind k s.kind name s.members
alias_offsets_of_node_are_name_offsets k name (node.Spec users groups) = spec_offsets_are_name_offsets k name users groups
