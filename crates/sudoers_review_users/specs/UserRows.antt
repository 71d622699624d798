-- The rows of a policy for one user on one host, as they are compared.
use Rattle.std.specs.Prelude.{List, [], ◌∷◌, map, if◌then◌else◌}
use Rattle.std.specs.Option.{is_some}
use Rattle.sudoers_match_member.specs.declared.people_and_commands.Who.{Who}
use Rattle.laws_compare.specs.Content.{FlatPrivilegeRow}
use Rattle.laws_compare.specs.Effective.{is_flat_row_for_user_on_host}
use Rattle.sudoers_compare.specs.declared.overruled.Overruling.{Overruling}
use Rattle.sudoers_compare.specs.FlatSpecs.{PlacedRow, row_at_place}
use Rattle.sudoers_compare.specs.Overruled.{overrulings_of_rows}
use Rattle.sudoers_review.specs.ChangedText.{row_of_placed}

-- what a row says to those whom it is for: its users and hosts do not count
abbrev pub row_without_users_and_hosts : FlatPrivilegeRow → FlatPrivilegeRow
row_without_users_and_hosts row = record { users = []; hosts = []; grant = row.grant }

-- of these rows, those for the user and the host
abbrev pub placed_rows_for_user_on_host : Who → List PlacedRow → List PlacedRow
placed_rows_for_user_on_host who [] = []
placed_rows_for_user_on_host who (placed ∷ rows) =
    if is_flat_row_for_user_on_host who placed.row
    then row_at_place placed.line placed.start (row_without_users_and_hosts placed.row) ∷ placed_rows_for_user_on_host who rows
    else placed_rows_for_user_on_host who rows

-- of these rows, those of which it is found that no later one covers them
abbrev pub rows_not_overruled : List PlacedRow → List Overruling → List PlacedRow
rows_not_overruled [] found = []
rows_not_overruled (placed ∷ rows) [] = []
rows_not_overruled (placed ∷ rows) (one ∷ found) = if is_some one.by then rows_not_overruled rows found else placed ∷ rows_not_overruled rows found

-- of these rows, those that no later one is found to cover
abbrev pub rows_that_may_decide : List PlacedRow → List PlacedRow
rows_that_may_decide rows = rows_not_overruled rows (overrulings_of_rows 0 (map row_of_placed rows))

-- The rows of a user on a host that may decide: those for him there, without the ones that a later one of them is found to cover.
abbrev pub deciding_rows_of_user : Who → List PlacedRow → List PlacedRow
deciding_rows_of_user who rows = rows_that_may_decide (placed_rows_for_user_on_host who rows)
