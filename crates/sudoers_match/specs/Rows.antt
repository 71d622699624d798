-- Rows: each way in which the user specifications may let a command run (sudoers(5), User specification).
use Rattle.std.specs.Prelude.{◌≡◌, ℕ, List, [], ◌∷◌, map}
use Rattle.sudoers_grammar.specs.declared.node.Kind.TheVariants.{Cmnd}
use Rattle.sudoers_grammar.specs.Node.{Member, HostGroup}
use Rattle.sudoers_tree.specs.Line.{Line}
use Rattle.sudoers_match_list.specs.Flat.{SignedAtom, IsFlatListOf}
use Rattle.sudoers_match.specs.Heads.{AccumulatedCommandSettings, empty_command_settings, commands_with_settings}
use Rattle.sudoers_match.specs.Specs.{UserSpec, user_specs_of_lines, IsConcatenationOfParts}

-- A command that is no defined alias, with its sign, and all that holds of it. The numbers are those of the user specification, of
-- its host group and of the command that was written there, from 0.
pub record PrivilegeRow : Type 0 where
  pub spec : ℕ
  pub host_group : ℕ
  pub command : ℕ
  pub users : List Member
  pub hosts : List Member
  pub head : AccumulatedCommandSettings
  pub atom : SignedAtom

abbrev pub privilege_row_of : ℕ → ℕ → List Member → List Member → ℕ → AccumulatedCommandSettings → SignedAtom → PrivilegeRow
privilege_row_of i j users hosts k head s = record { spec = i; host_group = j; command = k; users = users; hosts = hosts; head = head; atom = s }

-- The rows of a command: one for each atom of its flat list.
abbrev pub AreRowsPerFlatAtomOfCommand : List Line → ℕ → ℕ → List Member → List Member → ℕ → AccumulatedCommandSettings × Member → List PrivilegeRow → Type 0
AreRowsPerFlatAtomOfCommand lines i j users hosts k c rows =
    (flat : List SignedAtom) × IsFlatListOf Cmnd lines (c.1 ∷ []) flat × (rows ≡ map (privilege_row_of i j users hosts k c.0) flat)

-- The rows of a host group: its commands inherit from those before them in their list, and from no other.
abbrev pub AreRowsPerFlatAtomOfHostGroup : List Line → ℕ → List Member → ℕ → HostGroup → List PrivilegeRow → Type 0
AreRowsPerFlatAtomOfHostGroup lines i users j g rows = IsConcatenationOfParts (AreRowsPerFlatAtomOfCommand lines i j users g.hosts) 0 (commands_with_settings empty_command_settings g.commands) rows

abbrev pub AreRowsPerFlatAtomOfSpec : List Line → ℕ → UserSpec → List PrivilegeRow → Type 0
AreRowsPerFlatAtomOfSpec lines i s rows = IsConcatenationOfParts (AreRowsPerFlatAtomOfHostGroup lines i s.users) 0 s.groups rows

-- The rows of all user specifications, in file order.
abbrev pub AreRowsPerFlatAtomOfPolicy : List Line → List PrivilegeRow → Type 0
AreRowsPerFlatAtomOfPolicy lines rows = IsConcatenationOfParts (AreRowsPerFlatAtomOfSpec lines) 0 (user_specs_of_lines lines) rows
