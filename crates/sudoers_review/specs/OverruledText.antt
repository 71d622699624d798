-- What is printed of the commands that never decide.
use Rattle.std.specs.Prelude.{ℕ, Bool, true, false, if◌then◌else◌, List, [], ◌∷◌, ◌++◌, codes, length, map, slice_get, Option, Some, None, option_and_then}
use Rattle.std.specs.Fmt.{decimal}
use Rattle.sudoers_grammar.specs.declared.node.Kind.TheVariants.{Cmnd}
use Rattle.sudoers_tree.specs.Load.{LoadedPolicy}
use Rattle.sudoers_cvt_spell.specs.Members.{printed_member}
use Rattle.sudoers_list.specs.Reason.{place_text_on_walk_line}
use Rattle.sudoers_compare.specs.declared.overruled.Overruling.{Overruling}
use Rattle.sudoers_compare.specs.FlatSpecs.{PlacedRow, placed_rows_of_policy}
use Rattle.sudoers_compare.specs.Overruled.{overrulings_of_rows}
use Rattle.sudoers_compare.specs.SameRow.{have_same_effect}
use Rattle.sudoers_review.specs.RowText.{member_of_signed_atom}

-- where the command of a row stands
abbrev pub place_text_of_row : LoadedPolicy → PlacedRow → List ℕ
place_text_of_row policy placed = place_text_on_walk_line policy placed.line placed.start

abbrev pub command_text_of_row : PlacedRow → List ℕ
command_text_of_row placed = printed_member false Cmnd (member_of_signed_atom placed.row.grant.atom)

-- A command is useless if the row that decides has its sign, its tags and its options. Else it is overruled.
abbrev pub useless_or_overruled_words : Bool → List ℕ
useless_or_overruled_words true = codes ": useless "
useless_or_overruled_words false = codes ": overruled "

-- the line on a row that a later one covers
abbrev pub overruled_row_line : LoadedPolicy → PlacedRow → PlacedRow → List ℕ
overruled_row_line policy placed later =
    place_text_of_row policy placed ++ useless_or_overruled_words (have_same_effect placed.row.grant later.row.grant) ++ command_text_of_row placed
    ++ codes ": " ++ place_text_of_row policy later ++ codes " decides\n"

abbrev pub overruled_row_line_if_any : LoadedPolicy → PlacedRow → Option PlacedRow → List ℕ
overruled_row_line_if_any policy placed None = []
overruled_row_line_if_any policy placed (Some later) = overruled_row_line policy placed later

-- The lines on these rows, of each of which this is found. The rows that decide are numbered in `all`.
abbrev pub overruled_lines : LoadedPolicy → List PlacedRow → List PlacedRow → List Overruling → List ℕ
overruled_lines policy all [] found = []
overruled_lines policy all (placed ∷ rows) [] = []
overruled_lines policy all (placed ∷ rows) (one ∷ found) = overruled_row_line_if_any policy placed (option_and_then (slice_get all) one.by) ++ overruled_lines policy all rows found

-- the rows of which it is not decided whether a later one covers them
abbrev pub undecided_rows : List PlacedRow → List Overruling → List PlacedRow
undecided_rows [] found = []
undecided_rows (placed ∷ rows) [] = []
undecided_rows (placed ∷ rows) (one ∷ found) = if one.are_rows_left_out then placed ∷ undecided_rows rows found else undecided_rows rows found

-- the line on these rows
abbrev pub undecided_rows_line : LoadedPolicy → List PlacedRow → List ℕ
undecided_rows_line policy [] = []
undecided_rows_line policy (placed ∷ rows) =
    place_text_of_row policy placed ++ codes ": not decided: " ++ command_text_of_row placed ++ codes "; commands with more than 64 later rows: "
    ++ decimal (length (placed ∷ rows)) ++ codes "\n"

abbrev pub text_of_overrulings : LoadedPolicy → List PlacedRow → List Overruling → List ℕ
text_of_overrulings policy rows found = overruled_lines policy rows rows found ++ undecided_rows_line policy (undecided_rows rows found)

-- what is printed of the rows of a policy
abbrev pub overruled_text : LoadedPolicy → List ℕ
overruled_text policy =
    let rows = placed_rows_of_policy policy.walk.lines in
    text_of_overrulings policy rows (overrulings_of_rows 0 (map (λ (placed : PlacedRow). placed.row) rows))
