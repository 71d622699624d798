-- Where the lists of rows stand, with their bits. A device of the code, which no public contract cites.
use Rattle.std.specs.Prelude.{◌≡◌, ℕ, List, [], Option, Some, None, slice_get}
use Rattle.std.specs.Borrow.{Bor}
use Rattle.sudoers_line_rows.specs.declared.rows.Tables.{Tables}
use Rattle.sudoers_match_list.specs.Flat.{SignedAtom}
use Rattle.laws_compare.specs.Content.{FlatPrivilegeRow}
use Rattle.sudoers_compare.specs.declared.flat_specs.FlatHostGroup.{FlatHostGroup}
use Rattle.sudoers_compare.specs.declared.flat_specs.FlatSpec.{FlatSpec}
use Rattle.sudoers_compare.specs.declared.row_lists.RowLists.{RowLists}
use Rattle.sudoers_compare.specs.AtomNumbers.{given_bits, needed_bits}
use Rattle.sudoers_compare.specs.FlatSpecs.{PlacedRow, signed_atoms_in_tables}

-- Users by the number of their user specification, and hosts by that number and the number of their host group there.
pub record NumberedLists : Type 0 where
  pub users : ℕ → List SignedAtom
  pub hosts : ℕ → ℕ → List SignedAtom

-- the users and hosts of a row, and their bits
pub record ListsWithBits : Type 0 where
  pub users : List SignedAtom
  pub hosts : List SignedAtom
  pub users_needed : ℕ
  pub users_given : ℕ
  pub hosts_needed : ℕ
  pub hosts_given : ℕ

abbrev pub lists_with_bits : List SignedAtom → List SignedAtom → ListsWithBits
lists_with_bits users hosts = record {
  users = users;
  hosts = hosts;
  users_needed = needed_bits users;
  users_given = given_bits users;
  hosts_needed = needed_bits hosts;
  hosts_given = given_bits hosts;
}

abbrev pub lists_of_row : FlatPrivilegeRow → ListsWithBits
lists_of_row row = lists_with_bits row.users row.hosts

-- what is kept of a row's lists
abbrev pub lists_of_kept : NumberedLists → RowLists → ListsWithBits
lists_of_kept all kept = record {
  users = all.users kept.spec;
  hosts = all.hosts kept.spec kept.group;
  users_needed = kept.users.needed;
  users_given = kept.users.given;
  hosts_needed = kept.hosts.needed;
  hosts_given = kept.hosts.given;
}

-- Of each row for which something is kept, its lists are kept.
abbrev pub AreListsKept : NumberedLists → List RowLists → List FlatPrivilegeRow → Type 0
AreListsKept all kept rows = (j : ℕ) (lists : RowLists) (row : FlatPrivilegeRow) → slice_get kept j ≡ Some lists → slice_get rows j ≡ Some row → lists_of_kept all lists ≡ lists_of_row row

-- If anything is kept of the lists of the row, it is right.
abbrev pub AreListsKeptIfAny : NumberedLists → Option (Bor RowLists) → FlatPrivilegeRow → Type 0
AreListsKeptIfAny all None row = Unit {0}
AreListsKeptIfAny all (Some kept) row = lists_of_kept all kept.now ≡ lists_of_row row

-- ---- the lists of user specifications

abbrev pub users_of_optional_spec : Tables → Option FlatSpec → List SignedAtom
users_of_optional_spec t None = []
users_of_optional_spec t (Some spec) = signed_atoms_in_tables t spec.users.items

abbrev pub hosts_of_optional_group : Tables → Option FlatHostGroup → List SignedAtom
hosts_of_optional_group t None = []
hosts_of_optional_group t (Some group) = signed_atoms_in_tables t group.hosts.items

abbrev pub hosts_of_optional_spec : Tables → Option FlatSpec → ℕ → List SignedAtom
hosts_of_optional_spec t None group = []
hosts_of_optional_spec t (Some spec) group = hosts_of_optional_group t (slice_get spec.groups.items group)

abbrev pub numbered_lists_of_specs : Tables → List FlatSpec → NumberedLists
numbered_lists_of_specs t specs = record {
  users = λ spec. users_of_optional_spec t (slice_get specs spec);
  hosts = λ spec group. hosts_of_optional_spec t (slice_get specs spec) group;
}

abbrev pub lists_of_placed_row : PlacedRow → ListsWithBits
lists_of_placed_row placed = lists_of_row placed.row
