-- The members of all lists in a line, and the aliases among them.
use Rattle.std.specs.Prelude.{ℕ, List, [], ◌∷◌, ◌++◌, map, Option, Some, None}
use Rattle.std.specs.List.{flat_map}
use Rattle.sudoers_grammar.specs.declared.node.Kind.{Kind}
use Rattle.sudoers_grammar.specs.declared.node.Kind.TheVariants.{User, Runas, Host, Cmnd}
use Rattle.sudoers_grammar.specs.declared.node.Atom.{Atom}
use Rattle.sudoers_grammar.specs.declared.node.Atom.TheVariants as atom
use Rattle.sudoers_grammar.specs.Node.{Member, Def, RunasSpec, CmdSpec, HostGroup, Scope, Node}
use Rattle.sudoers_grammar.specs.Node as node

-- a member of a list of this kind
abbrev pub ListedMember : Type 0
ListedMember = Kind × Member

abbrev pub members_listed_as_kind : Kind → List Member → List ListedMember
members_listed_as_kind k members = map (λ (m : Member). (k, m)) members

abbrev pub listed_members_of_runas : Option RunasSpec → List ListedMember
listed_members_of_runas None = []
listed_members_of_runas (Some r) = members_listed_as_kind Runas r.users ++ members_listed_as_kind Runas r.groups

abbrev pub listed_members_of_command : CmdSpec → List ListedMember
listed_members_of_command c = listed_members_of_runas c.runas ++ (Cmnd, c.member) ∷ []

abbrev pub listed_members_of_host_group : HostGroup → List ListedMember
listed_members_of_host_group g = members_listed_as_kind Host g.hosts ++ flat_map listed_members_of_command g.commands

abbrev pub listed_members_of_scope : Option Scope → List ListedMember
listed_members_of_scope None = []
listed_members_of_scope (Some s) = members_listed_as_kind s.kind s.members

-- the members of all lists in what a line says, in the order in which they stand there (sudoers(5), Aliases, Defaults, User
-- Specification)
abbrev pub listed_members_of_node : Node → List ListedMember
listed_members_of_node (node.Defaults scope params) = listed_members_of_scope scope
listed_members_of_node (node.Alias k defs) = flat_map (λ (d : Def). members_listed_as_kind k d.members) defs
listed_members_of_node (node.Spec users groups) = members_listed_as_kind User users ++ flat_map listed_members_of_host_group groups
listed_members_of_node node.Blank = []
listed_members_of_node node.Comment = []
listed_members_of_node (node.Include dir path) = []

-- an alias that is a member of a list of this kind, and where it ends in the line
pub record AliasMember : Type 0 where
  pub kind : Kind
  pub name : List ℕ
  pub stop : ℕ

abbrev pub alias_member_of_atom : Kind → Member → Atom → List AliasMember
alias_member_of_atom k m (atom.Alias name) = record { kind = k; name = name; stop = m.stop } ∷ []
alias_member_of_atom k m other = []

abbrev pub aliases_among_listed : List ListedMember → List AliasMember
aliases_among_listed ls = flat_map (λ (l : ListedMember). alias_member_of_atom l.0 l.1 l.1.atom) ls

-- the aliases among the members of all lists in what a line says
abbrev pub aliases_in_node : Node → List AliasMember
aliases_in_node says = aliases_among_listed (listed_members_of_node says)
