-- What a row says that the code holds, its lists flat.
use Rattle.std.specs.Prelude.{List, map, Option}
use Rattle.std.specs.Option.{option_map}
use Rattle.sudoers_line_rows.specs.declared.row_lists.RowsOfTable.{RowsOfTable}
use Rattle.sudoers_line_rows.specs.declared.rows.MemberRow.{MemberRow}
use Rattle.sudoers_line_rows.specs.View.{member_of_view, members_of_view}
use Rattle.sudoers_match_list.specs.Flat.{SignedAtom, signed_atom_of_member}
use Rattle.sudoers_match.specs.Values.{option_values_of_view}
use Rattle.laws_compare.specs.Content.{FlatRunasSpec, flat_runas_spec_of_lists, Grant, FlatPrivilegeRow}
use Rattle.sudoers_compare.specs.declared.flat_row.FlatRow.{FlatRow}
use Rattle.sudoers_compare.specs.declared.flat_row.FlatRunasView.{FlatRunasView}

abbrev pub signed_atoms_of_view : RowsOfTable MemberRow → List SignedAtom
signed_atoms_of_view members = map signed_atom_of_member (members_of_view members)

abbrev pub optional_signed_atoms_of_view : Option (RowsOfTable MemberRow) → Option (List SignedAtom)
optional_signed_atoms_of_view members = option_map signed_atoms_of_view members

abbrev pub flat_runas_spec_of_view : FlatRunasView → FlatRunasSpec
flat_runas_spec_of_view spec = flat_runas_spec_of_lists (optional_signed_atoms_of_view spec.users) (optional_signed_atoms_of_view spec.groups)

-- what the row allows its users on its hosts, or forbids them
abbrev pub grant_of_view : FlatRow → Grant
grant_of_view row = record {
  runas = option_map flat_runas_spec_of_view row.runas;
  options = option_values_of_view row.options;
  tags = row.tags;
  atom = signed_atom_of_member (member_of_view row.member);
}

abbrev pub flat_row_of_view : FlatRow → FlatPrivilegeRow
flat_row_of_view row = record { users = signed_atoms_of_view row.users; hosts = signed_atoms_of_view row.hosts; grant = grant_of_view row }
