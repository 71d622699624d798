-- The mentions of aliases.
use Rattle.std.specs.Prelude.{ℕ, ◌+◌, ◌-◌, ◌&&◌, List, [], ◌∷◌, ◌++◌, length, map, Option, None, Some, if◌then◌else◌}
use Rattle.std.specs.List.{flat_map}
use Rattle.std.specs.Str.{bytes_eq}
use Rattle.sudoers_grammar.specs.declared.node.Kind.{Kind}
use Rattle.sudoers_grammar.specs.declared.node.Kind.TheVariants.{User, Runas, Host, Cmnd}
use Rattle.sudoers_grammar.specs.declared.node.Atom.{Atom}
use Rattle.sudoers_grammar.specs.declared.node.Atom.TheVariants as atom
use Rattle.sudoers_grammar.specs.Node.{Member, Def, RunasSpec, CmdSpec, HostGroup, Scope, Node}
use Rattle.sudoers_grammar.specs.Node as node
use Rattle.sudoers_grammar.specs.Listed.{ListedMember, AliasMember}
use Rattle.sudoers_tree.specs.Line.{Line}
use Rattle.sudoers_tree.specs.declared.place.Span.{Span}
use Rattle.sudoers_tree.specs.Definition.{is_equal_kind}

-- ---- the lists of each kind (sudoers(5), Aliases, User specification, Defaults)

-- both parts of what stands in parentheses
abbrev pub members_of_runas : Option RunasSpec → List Member
members_of_runas None = []
members_of_runas (Some r) = r.users ++ r.groups

-- the members of this kind that hosts and commands have
abbrev pub members_in_host_group : Kind → HostGroup → List Member
members_in_host_group User g = []
members_in_host_group Runas g = flat_map (λ (c : CmdSpec). members_of_runas c.runas) g.commands
members_in_host_group Host g = g.hosts
members_in_host_group Cmnd g = map (λ (c : CmdSpec). c.member) g.commands

-- the members of this kind of a user specification
abbrev pub members_in_user_spec : Kind → List Member → List HostGroup → List Member
members_in_user_spec User users groups = users
members_in_user_spec Runas users groups = flat_map (members_in_host_group Runas) groups
members_in_user_spec Host users groups = flat_map (members_in_host_group Host) groups
members_in_user_spec Cmnd users groups = flat_map (members_in_host_group Cmnd) groups

abbrev pub members_in_scope : Kind → Option Scope → List Member
members_in_scope k None = []
members_in_scope k (Some s) = if is_equal_kind k s.kind then s.members else []

-- the members of all lists of this kind in what a line says, in their order
abbrev pub members_of_kind_in_line : Kind → Node → List Member
members_of_kind_in_line k (node.Defaults scope params) = members_in_scope k scope
members_of_kind_in_line k (node.Alias j defs) = if is_equal_kind k j then flat_map (λ (d : Def). d.members) defs else []
members_of_kind_in_line k (node.Spec users groups) = members_in_user_spec k users groups
members_of_kind_in_line k node.Blank = []
members_of_kind_in_line k node.Comment = []
members_of_kind_in_line k (node.Include dir path) = []

-- ---- mentions

-- the place of the name, where it is what is mentioned: its bytes are the member's last
abbrev pub mention_span_of_member : ℕ → List ℕ → Member → Atom → List Span
mention_span_of_member line name m (atom.Alias other) =
    if bytes_eq name other then record { line = line; start = m.stop - length name; stop = m.stop } ∷ [] else []
mention_span_of_member line name m a = []

-- the places of the name among members
abbrev pub mention_spans_among_members : ℕ → List ℕ → List Member → List Span
mention_spans_among_members line name members = flat_map (λ (m : Member). mention_span_of_member line name m m.atom) members

-- the mentions of the name in the line with this number, from 0, that says this
abbrev pub mentions_in_line : Kind → List ℕ → ℕ → Node → List Span
mentions_in_line k name line n = mention_spans_among_members line name (members_of_kind_in_line k n)

-- the mentions in lines that are numbered from this number on
abbrev pub mentions_from_line_number : Kind → List ℕ → ℕ → List Line → List Span
mentions_from_line_number k name n [] = []
mentions_from_line_number k name n (line ∷ lines) = mentions_in_line k name n line.node ++ mentions_from_line_number k name (n + 1) lines

-- all mentions of a name in lists of a kind, in the order of the lines
abbrev pub mentions_in_lines : Kind → List ℕ → List Line → List Span
mentions_in_lines k name lines = mentions_from_line_number k name 0 lines

-- ---- the same, picked from the members of all lists

-- those of the members that stand in lists of this kind
abbrev pub members_of_kind_among_listed : Kind → List ListedMember → List Member
members_of_kind_among_listed k [] = []
members_of_kind_among_listed k (l ∷ ls) = if is_equal_kind k l.0 then l.1 ∷ members_of_kind_among_listed k ls else members_of_kind_among_listed k ls

-- the place of an alias, if it is this name in a list of this kind
abbrev pub mention_span_if_alias_named : Kind → List ℕ → ℕ → AliasMember → List Span
mention_span_if_alias_named k name line a = if is_equal_kind k a.kind && bytes_eq name a.name then record { line = line; start = a.stop - length name; stop = a.stop } ∷ [] else []
