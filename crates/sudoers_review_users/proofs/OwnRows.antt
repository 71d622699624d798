-- The rows of flat specifications for a user on a host are those of all their rows that are for him there.
use Rattle.std.proofs.Common.{◌≡◌, ℕ, Bool, true, false, ◌&&◌, List, [], ◌∷◌, ◌++◌, map, refl, sym, ap, ap₂, ◌∙◌, if◌then◌else◌}
use Rattle.std.specs.List.{flat_map}
use Rattle.sudoers_line_rows.specs.declared.rows.Tables.{Tables}
use Rattle.sudoers_match_member.specs.declared.people_and_commands.Who.{Who}
use Rattle.sudoers_match_member.specs.Hits.{is_user_atom_match, is_host_atom_match}
use Rattle.sudoers_match_list.specs.Flat.{SignedAtom}
use Rattle.laws_compare.specs.Effective.{is_allowed_by_flat_list, is_flat_row_for_user_on_host}
use Rattle.sudoers_compare.specs.declared.flat_specs.FlatCommand.{FlatCommand}
use Rattle.sudoers_compare.specs.declared.flat_specs.FlatHostGroup.{FlatHostGroup}
use Rattle.sudoers_compare.specs.declared.flat_specs.FlatSpec.{FlatSpec}
use Rattle.sudoers_compare.specs.FlatSpecs.{PlacedRow, placed_rows_of_flat_command, placed_rows_of_flat_host_group, placed_rows_of_flat_spec, placed_rows_of_flat_specs, row_at_place, row_of_flat_command, signed_atoms_in_tables}
use Rattle.sudoers_review_users.specs.FlatRows.{own_rows_of_flat_host_group, own_rows_of_flat_spec, own_rows_of_flat_specs}
use Rattle.sudoers_review_users.specs.UserRows.{placed_rows_for_user_on_host, row_without_users_and_hosts}

module _ (who : Who) where
  -- the user may run what is behind this list of users
  abbrev may : List SignedAtom → Bool
  may users = is_allowed_by_flat_list (is_user_atom_match who.user) users

  -- the host is one of the list
  abbrev there : List SignedAtom → Bool
  there hosts = is_allowed_by_flat_list (is_host_atom_match who) hosts

  own_row : PlacedRow → PlacedRow
  own_row placed = row_at_place placed.line placed.start (row_without_users_and_hosts placed.row)

  own_rows_of_two_lists : (xs ys : List PlacedRow)
      → placed_rows_for_user_on_host who (xs ++ ys) ≡ placed_rows_for_user_on_host who xs ++ placed_rows_for_user_on_host who ys
  own_rows_of_two_lists [] ys = refl
  own_rows_of_two_lists (x ∷ xs) ys = by (own_rows_of_two_lists xs ys) (is_flat_row_for_user_on_host who x.row)
    where
      by : placed_rows_for_user_on_host who (xs ++ ys) ≡ placed_rows_for_user_on_host who xs ++ placed_rows_for_user_on_host who ys → (b : Bool)
          → (if b then row_at_place x.line x.start (row_without_users_and_hosts x.row) ∷ placed_rows_for_user_on_host who (xs ++ ys) else placed_rows_for_user_on_host who (xs ++ ys))
          ≡ (if b then row_at_place x.line x.start (row_without_users_and_hosts x.row) ∷ placed_rows_for_user_on_host who xs else placed_rows_for_user_on_host who xs) ++ placed_rows_for_user_on_host who ys
      by e true = ap (λ (rows : List PlacedRow). row_at_place x.line x.start (row_without_users_and_hosts x.row) ∷ rows) e
      by e false = e

  -- The rows of each item are these, so the rows of all are, too.
  own_rows_of_each : {X : Type 0} → (rows own : X → List PlacedRow) → ((x : X) → placed_rows_for_user_on_host who (rows x) ≡ own x) → (xs : List X)
      → placed_rows_for_user_on_host who (flat_map rows xs) ≡ flat_map own xs
  own_rows_of_each rows own each [] = refl
  own_rows_of_each rows own each (x ∷ xs) =
      own_rows_of_two_lists (rows x) (flat_map rows xs) ∙ ap₂ (λ (front behind : List PlacedRow). front ++ behind) (each x) (own_rows_of_each rows own each xs)

  no_rows_of_each : {X : Type 0} → (rows : X → List PlacedRow) → ((x : X) → placed_rows_for_user_on_host who (rows x) ≡ []) → (xs : List X)
      → placed_rows_for_user_on_host who (flat_map rows xs) ≡ []
  no_rows_of_each rows none [] = refl
  no_rows_of_each rows none (x ∷ xs) =
      own_rows_of_two_lists (rows x) (flat_map rows xs) ∙ ap₂ (λ (front behind : List PlacedRow). front ++ behind) (none x) (no_rows_of_each rows none xs)

  module _ (t : Tables) (line : ℕ) (users hosts : List SignedAtom) where
    own_rows_of_atoms : (command : FlatCommand) → (may users && there hosts) ≡ true → (atoms : List SignedAtom)
        → placed_rows_for_user_on_host who (map (row_at_place line command.start) (map (row_of_flat_command t users hosts command) atoms))
        ≡ map (row_at_place line command.start) (map (row_of_flat_command t [] [] command) atoms)
    own_rows_of_atoms command e [] = refl
    own_rows_of_atoms command e (s ∷ atoms) =
        let rest = placed_rows_for_user_on_host who (map (row_at_place line command.start) (map (row_of_flat_command t users hosts command) atoms)) in
        let own = row_at_place line command.start (row_of_flat_command t [] [] command s) in
        ap (λ (b : Bool). if b then own ∷ rest else rest) e ∙ ap (λ (rows : List PlacedRow). own ∷ rows) (own_rows_of_atoms command e atoms)

    no_rows_of_atoms : (command : FlatCommand) → (may users && there hosts) ≡ false → (atoms : List SignedAtom)
        → placed_rows_for_user_on_host who (map (row_at_place line command.start) (map (row_of_flat_command t users hosts command) atoms)) ≡ []
    no_rows_of_atoms command e [] = refl
    no_rows_of_atoms command e (s ∷ atoms) =
        let rest = placed_rows_for_user_on_host who (map (row_at_place line command.start) (map (row_of_flat_command t users hosts command) atoms)) in
        let own = row_at_place line command.start (row_of_flat_command t [] [] command s) in
        ap (λ (b : Bool). if b then own ∷ rest else rest) e ∙ no_rows_of_atoms command e atoms

    own_rows_of_commands : (may users && there hosts) ≡ true → (commands : List FlatCommand)
        → placed_rows_for_user_on_host who (flat_map (placed_rows_of_flat_command t line users hosts) commands) ≡ flat_map (placed_rows_of_flat_command t line [] []) commands
    own_rows_of_commands e commands =
        own_rows_of_each (placed_rows_of_flat_command t line users hosts) (placed_rows_of_flat_command t line [] [])
        (λ (command : FlatCommand). own_rows_of_atoms command e (signed_atoms_in_tables t command.members.items)) commands

    no_rows_of_commands : (may users && there hosts) ≡ false → (commands : List FlatCommand)
        → placed_rows_for_user_on_host who (flat_map (placed_rows_of_flat_command t line users hosts) commands) ≡ []
    no_rows_of_commands e commands =
        no_rows_of_each (placed_rows_of_flat_command t line users hosts)
        (λ (command : FlatCommand). no_rows_of_atoms command e (signed_atoms_in_tables t command.members.items)) commands

  own_rows_of_group : (t : Tables) (line : ℕ) (users : List SignedAtom) → may users ≡ true → (group : FlatHostGroup)
      → placed_rows_for_user_on_host who (placed_rows_of_flat_host_group t line users group) ≡ own_rows_of_flat_host_group who t line group
  own_rows_of_group t line users allowed group = by (there (signed_atoms_in_tables t group.hosts.items)) refl
    where
      by : (b : Bool) → there (signed_atoms_in_tables t group.hosts.items) ≡ b
          → placed_rows_for_user_on_host who (placed_rows_of_flat_host_group t line users group)
          ≡ (if b then flat_map (placed_rows_of_flat_command t line [] []) group.commands.items else [])
      by true e = own_rows_of_commands t line users (signed_atoms_in_tables t group.hosts.items) (ap₂ (λ (a b : Bool). a && b) allowed e) group.commands.items
      by false e = no_rows_of_commands t line users (signed_atoms_in_tables t group.hosts.items) (ap₂ (λ (a b : Bool). a && b) allowed e) group.commands.items

  no_rows_of_group : (t : Tables) (line : ℕ) (users : List SignedAtom) → may users ≡ false → (group : FlatHostGroup)
      → placed_rows_for_user_on_host who (placed_rows_of_flat_host_group t line users group) ≡ []
  no_rows_of_group t line users refused group =
      no_rows_of_commands t line users (signed_atoms_in_tables t group.hosts.items) (ap (λ (a : Bool). a && there (signed_atoms_in_tables t group.hosts.items)) refused) group.commands.items

  own_rows_of_spec : (t : Tables) (spec : FlatSpec) → placed_rows_for_user_on_host who (placed_rows_of_flat_spec t spec) ≡ own_rows_of_flat_spec who t spec
  own_rows_of_spec t spec = by (may (signed_atoms_in_tables t spec.users.items)) refl
    where
      by : (b : Bool) → may (signed_atoms_in_tables t spec.users.items) ≡ b
          → placed_rows_for_user_on_host who (placed_rows_of_flat_spec t spec)
          ≡ (if b then flat_map (own_rows_of_flat_host_group who t spec.line) spec.groups.items else [])
      by true e = own_rows_of_each (placed_rows_of_flat_host_group t spec.line (signed_atoms_in_tables t spec.users.items)) (own_rows_of_flat_host_group who t spec.line)
          (own_rows_of_group t spec.line (signed_atoms_in_tables t spec.users.items) e) spec.groups.items
      by false e = no_rows_of_each (placed_rows_of_flat_host_group t spec.line (signed_atoms_in_tables t spec.users.items))
          (no_rows_of_group t spec.line (signed_atoms_in_tables t spec.users.items) e) spec.groups.items

  pub own_rows_are_rows_for_user : (t : Tables) (specs : List FlatSpec)
      → own_rows_of_flat_specs who t specs ≡ placed_rows_for_user_on_host who (placed_rows_of_flat_specs t specs)
  own_rows_are_rows_for_user t specs = sym (own_rows_of_each (placed_rows_of_flat_spec t) (own_rows_of_flat_spec who t) (own_rows_of_spec t) specs)
