-- What the code holds of the Runas_Spec of a row.
use Rattle.std.specs.Prelude.{List, [], Option, Some, None}
use Rattle.sudoers_grammar.specs.Node.{Member, RunasSpec}
use Rattle.sudoers_line_rows.specs.declared.row_lists.RowsOfTable.{RowsOfTable}
use Rattle.sudoers_line_rows.specs.declared.rows.MemberRow.{MemberRow}
use Rattle.sudoers_line_rows.specs.View.{members_of_view}
use Rattle.sudoers_compare.specs.declared.flat_row.FlatRunasView.{FlatRunasView}

-- An absent list has no members.
abbrev pub members_of_optional_view : Option (RowsOfTable MemberRow) → List Member
members_of_optional_view None = []
members_of_optional_view (Some members) = members_of_view members

abbrev pub runas_of_flat_view : FlatRunasView → RunasSpec
runas_of_flat_view runas = record { users = members_of_optional_view runas.users; groups = members_of_optional_view runas.groups }
