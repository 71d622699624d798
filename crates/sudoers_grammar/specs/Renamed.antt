-- A line in which the name of an alias is replaced by another, and what it says.
use Rattle.std.specs.Prelude.{◌≡◌, ℕ, ◌+◌, ◌-◌, nat_lt, Bool, ◌&&◌, List, [], ◌∷◌, ◌++◌, take, drop, slice_range, map, length, Option, Some, None, if◌then◌else◌}
use Rattle.std.specs.List.{flat_map}
use Rattle.std.specs.Str.{bytes_eq}
use Rattle.sudoers_text.specs.Renamed.{offset_after_replacement}
use Rattle.sudoers_grammar.specs.declared.node.Kind.{Kind}
use Rattle.sudoers_grammar.specs.declared.node.Kind.TheVariants.{User, Runas, Host, Cmnd}
use Rattle.sudoers_grammar.specs.declared.node.Atom.{Atom}
use Rattle.sudoers_grammar.specs.declared.node.Atom.TheVariants as atom
use Rattle.sudoers_grammar.specs.Node.{Member, Def, RunasSpec, CmdSpec, HostGroup, Scope, Node}
use Rattle.sudoers_grammar.specs.Node as node

-- An alias: its name, and in lists of which kinds the name means it.
pub record NamedAlias : Type 0 where
  pub name : List ℕ
  pub kinds : Kind → Bool

-- Another name for an alias, and where an offset of the line lies then.
pub record AliasRenaming : Type 0 where
  pub old : NamedAlias
  pub fresh : List ℕ
  pub at : ℕ → ℕ

-- ---- where the name stands

-- Each function gives the offsets at which an alias is named in a part of what a line says, in their order.

-- in an atom that ends at this offset; meant: the name means the alias here
abbrev pub alias_offsets_in_atom : NamedAlias → Bool → ℕ → Atom → List ℕ
alias_offsets_in_atom alias meant stop (atom.Alias word) = if meant && bytes_eq alias.name word then (stop - length alias.name) ∷ [] else []
alias_offsets_in_atom alias meant stop a = []

-- in a member of a list of this kind
abbrev pub alias_offsets_in_member : NamedAlias → Kind → Member → List ℕ
alias_offsets_in_member alias k m = alias_offsets_in_atom alias (alias.kinds k) m.stop m.atom

-- in the members of such a list
abbrev pub alias_offsets_in_members : NamedAlias → Kind → List Member → List ℕ
alias_offsets_in_members alias k ms = flat_map (alias_offsets_in_member alias k) ms

-- in a definition of an alias of this kind: as its name, and in its members
abbrev pub alias_offsets_in_definition : NamedAlias → Kind → Def → List ℕ
alias_offsets_in_definition alias k d = (if alias.kinds k && bytes_eq alias.name d.name then d.start ∷ [] else []) ++ alias_offsets_in_members alias k d.members

-- in the users and groups before a command
abbrev pub alias_offsets_in_runas : NamedAlias → RunasSpec → List ℕ
alias_offsets_in_runas alias r = alias_offsets_in_members alias Runas r.users ++ alias_offsets_in_members alias Runas r.groups

-- in these, where some stand there
abbrev pub alias_offsets_in_runas_option : NamedAlias → Option RunasSpec → List ℕ
alias_offsets_in_runas_option alias None = []
alias_offsets_in_runas_option alias (Some r) = alias_offsets_in_runas alias r

-- in a command, with what stands before it
abbrev pub alias_offsets_in_command : NamedAlias → CmdSpec → List ℕ
alias_offsets_in_command alias s = alias_offsets_in_runas_option alias s.runas ++ alias_offsets_in_member alias Cmnd s.member

-- in hosts and the commands on them
abbrev pub alias_offsets_in_host_group : NamedAlias → HostGroup → List ℕ
alias_offsets_in_host_group alias g = alias_offsets_in_members alias Host g.hosts ++ flat_map (alias_offsets_in_command alias) g.commands

-- in what a Defaults line is for
abbrev pub alias_offsets_in_scope : NamedAlias → Option Scope → List ℕ
alias_offsets_in_scope alias None = []
alias_offsets_in_scope alias (Some s) = alias_offsets_in_members alias s.kind s.members

-- in what a line says
abbrev pub alias_offsets_in_node : NamedAlias → Node → List ℕ
alias_offsets_in_node alias node.Blank = []
alias_offsets_in_node alias node.Comment = []
alias_offsets_in_node alias (node.Include dir path) = []
alias_offsets_in_node alias (node.Defaults scope params) = alias_offsets_in_scope alias scope
alias_offsets_in_node alias (node.Alias k defs) = flat_map (alias_offsets_in_definition alias k) defs
alias_offsets_in_node alias (node.Spec users groups) = alias_offsets_in_members alias User users ++ flat_map (alias_offsets_in_host_group alias) groups

-- The name stands in the line at this offset.
abbrev pub NameStandsAtOffset : List ℕ → List ℕ → ℕ → Type 0
NameStandsAtOffset line name start = slice_range line start (start + length name) ≡ name

-- ---- what is said with another name

-- Each function gives a part of what a line says, with the other name wherever the old one means the alias.

-- an atom; meant: the name means the alias here
abbrev pub atom_with_alias_renamed : AliasRenaming → Bool → Atom → Atom
atom_with_alias_renamed r meant (atom.Alias word) = atom.Alias (if meant && bytes_eq r.old.name word then r.fresh else word)
atom_with_alias_renamed r meant a = a

-- a member of a list of this kind
abbrev pub member_with_alias_renamed : AliasRenaming → Kind → Member → Member
member_with_alias_renamed r k m = record {
  start = r.at m.start;
  stop = r.at m.stop;
  negated = m.negated;
  digests = m.digests;
  atom = atom_with_alias_renamed r (r.old.kinds k) m.atom;
}

-- the members of such a list
abbrev pub members_with_alias_renamed : AliasRenaming → Kind → List Member → List Member
members_with_alias_renamed r k ms = map (member_with_alias_renamed r k) ms

-- a definition of an alias of this kind
abbrev pub definition_with_alias_renamed : AliasRenaming → Kind → Def → Def
definition_with_alias_renamed r k d = record {
  name = if r.old.kinds k && bytes_eq r.old.name d.name then r.fresh else d.name;
  start = r.at d.start;
  stop = r.at d.stop;
  members = members_with_alias_renamed r k d.members;
}

-- the users and groups before a command
abbrev pub runas_with_alias_renamed : AliasRenaming → RunasSpec → RunasSpec
runas_with_alias_renamed r s = record { users = members_with_alias_renamed r Runas s.users; groups = members_with_alias_renamed r Runas s.groups }

-- these, where some stand there
abbrev pub runas_option_with_alias_renamed : AliasRenaming → Option RunasSpec → Option RunasSpec
runas_option_with_alias_renamed r None = None
runas_option_with_alias_renamed r (Some s) = Some (runas_with_alias_renamed r s)

-- a command, with what stands before it
abbrev pub command_with_alias_renamed : AliasRenaming → CmdSpec → CmdSpec
command_with_alias_renamed r s = record {
  runas = runas_option_with_alias_renamed r s.runas;
  options = s.options;
  tags = s.tags;
  member = member_with_alias_renamed r Cmnd s.member;
}

-- hosts and the commands on them
abbrev pub host_group_with_alias_renamed : AliasRenaming → HostGroup → HostGroup
host_group_with_alias_renamed r g = record { hosts = members_with_alias_renamed r Host g.hosts; commands = map (command_with_alias_renamed r) g.commands }

-- what a Defaults line is for
abbrev pub scope_with_alias_renamed : AliasRenaming → Option Scope → Option Scope
scope_with_alias_renamed r None = None
scope_with_alias_renamed r (Some s) = Some (record { kind = s.kind; members = members_with_alias_renamed r s.kind s.members })

-- what a line says
abbrev pub node_with_alias_renamed : AliasRenaming → Node → Node
node_with_alias_renamed r node.Blank = node.Blank
node_with_alias_renamed r node.Comment = node.Comment
node_with_alias_renamed r (node.Include dir path) = node.Include dir path
node_with_alias_renamed r (node.Defaults scope params) = node.Defaults (scope_with_alias_renamed r scope) params
node_with_alias_renamed r (node.Alias k defs) = node.Alias k (map (definition_with_alias_renamed r k) defs)
node_with_alias_renamed r (node.Spec users groups) = node.Spec (members_with_alias_renamed r User users) (map (host_group_with_alias_renamed r) groups)

-- ---- the line with another name

-- the bytes with others in place of so many at this offset
abbrev pub bytes_replaced_at : ℕ → List ℕ → ℕ → List ℕ → List ℕ
bytes_replaced_at size fresh start line = take start line ++ (fresh ++ drop (start + size) line)

-- the same at each of these offsets, the last one first
abbrev pub bytes_replaced_at_offsets : ℕ → List ℕ → List ℕ → List ℕ → List ℕ
bytes_replaced_at_offsets size fresh [] line = line
bytes_replaced_at_offsets size fresh (start ∷ starts) line = bytes_replaced_at size fresh start (bytes_replaced_at_offsets size fresh starts line)

-- where an offset lies once a part of the one size, at each of these offsets, has the other size
abbrev pub offset_after_renames : ℕ → ℕ → List ℕ → ℕ → ℕ
offset_after_renames old new [] at = at
offset_after_renames old new (start ∷ starts) at = if nat_lt start at then offset_after_replacement old new (offset_after_renames old new starts at) else at

-- the line that says this, with another name for an alias
abbrev pub line_text_after_rename : NamedAlias → List ℕ → Node → List ℕ → List ℕ
line_text_after_rename alias fresh n line = bytes_replaced_at_offsets (length alias.name) fresh (alias_offsets_in_node alias n) line

-- the alias with its new name
abbrev pub renamed_alias : NamedAlias → List ℕ → NamedAlias
renamed_alias alias fresh = record { name = fresh; kinds = alias.kinds }

-- another name for an alias in a line that says this
abbrev pub renaming_of_alias_in_node : NamedAlias → List ℕ → Node → AliasRenaming
renaming_of_alias_in_node alias fresh n = record {
  old = alias;
  fresh = fresh;
  at = offset_after_renames (length alias.name) (length fresh) (alias_offsets_in_node alias n);
}
