-- A device of the proof, which no public contract cites: bits of the names that stand in a line.
use Rattle.std.specs.Prelude.{ℕ, List, [], ◌∷◌, ◌++◌, Option, None, Some}
use Rattle.std.specs.Int.Bits.{bit_or}
use Rattle.std.specs.List.{flat_map}
use Rattle.sudoers_grammar.specs.declared.node.Atom.{Atom}
use Rattle.sudoers_grammar.specs.declared.node.Atom.TheVariants as atom
use Rattle.sudoers_grammar.specs.Node.{CmdSpec, HostGroup, Member, Node, RunasSpec, Scope}
use Rattle.sudoers_tree.specs.NameBits.{bits_of_name}
use Rattle.sudoers_tree.specs.Standing.{alias_names_in_line}

-- the bits `bits` with those of these names
abbrev pub bits_with_names_added : ℕ → List (List ℕ) → ℕ
bits_with_names_added bits [] = bits
bits_with_names_added bits (name ∷ names) = bits_with_names_added (bit_or bits (bits_of_name name)) names

-- the bits of the names that stand in a line which says this
abbrev pub bits_of_alias_names_in : Node → ℕ
bits_of_alias_names_in says = bits_with_names_added 0 (alias_names_in_line says)

-- ---- the names of the aliases among members, in their order

abbrev pub alias_names_in_atom : Atom → List (List ℕ)
alias_names_in_atom (atom.Alias name) = name ∷ []
alias_names_in_atom other = []

abbrev pub alias_names_in_members : List Member → List (List ℕ)
alias_names_in_members members = flat_map (λ (m : Member). alias_names_in_atom m.atom) members

abbrev pub alias_names_in_runas : Option RunasSpec → List (List ℕ)
alias_names_in_runas None = []
alias_names_in_runas (Some r) = alias_names_in_members r.users ++ alias_names_in_members r.groups

abbrev pub alias_names_in_command : CmdSpec → List (List ℕ)
alias_names_in_command c = alias_names_in_runas c.runas ++ alias_names_in_atom c.member.atom

abbrev pub alias_names_in_host_group : HostGroup → List (List ℕ)
alias_names_in_host_group g = alias_names_in_members g.hosts ++ flat_map alias_names_in_command g.commands

abbrev pub alias_names_in_scope : Option Scope → List (List ℕ)
alias_names_in_scope None = []
alias_names_in_scope (Some s) = alias_names_in_members s.members
