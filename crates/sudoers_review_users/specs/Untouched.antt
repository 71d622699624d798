-- Whether a user has one of the rows in which two policies differ. No public contract cites it.
use Rattle.std.specs.Prelude.{◌||◌, Bool, true, false, List, [], ◌∷◌}
use Rattle.sudoers_match_member.specs.declared.people_and_commands.Who.{Who}
use Rattle.laws_compare.specs.Content.{FlatPrivilegeRow}
use Rattle.laws_compare.specs.Effective.{is_flat_row_for_user_on_host}

-- One of these rows has a mark, and is for the user and the host.
abbrev pub has_marked_row_for_user : Who → List Bool → List FlatPrivilegeRow → Bool
has_marked_row_for_user who marks [] = false
has_marked_row_for_user who [] (row ∷ rows) = false
has_marked_row_for_user who (true ∷ marks) (row ∷ rows) = is_flat_row_for_user_on_host who row || has_marked_row_for_user who marks rows
has_marked_row_for_user who (false ∷ marks) (row ∷ rows) = has_marked_row_for_user who marks rows
