-- Rows that a later row covers, as they are looked for: so many of the rows behind a row are compared with it.
use Rattle.std.specs.Prelude.{ℕ, zero, suc, ◌+◌, ◌&&◌, ◌||◌, not, nat_lt, Bool, List, [], ◌∷◌, codes, Option, Some, None, length, if◌then◌else◌}
use Rattle.std.specs.List.{filter}
use Rattle.std.specs.Option.{is_some, option_or}
use Rattle.std.specs.Str.{bytes_eq}
use Rattle.sudoers_grammar.specs.declared.node.Atom.{Atom}
use Rattle.sudoers_grammar.specs.declared.node.Atom.TheVariants as atom
use Rattle.sudoers_match_list.specs.Flat.{is_all_atom}
use Rattle.laws_compare.specs.Content.{FlatPrivilegeRow}
use Rattle.laws_compare.specs.Decided.{is_covering_row}
use Rattle.sudoers_compare.specs.declared.overruled.Overruling.{Overruling}

-- the command of a row, whatever its arguments, as bytes
abbrev pub command_key : Atom → List ℕ
command_key (atom.Path path args) = path
command_key (atom.Sudoedit args) = codes "sudoedit"
command_key (atom.Alias name) = name
command_key atom.Listing = codes "list"
command_key atom.All = codes "ALL"
command_key other = []

abbrev pub is_row_of_same_command : FlatPrivilegeRow → FlatPrivilegeRow → Bool
is_row_of_same_command row later = bytes_eq (command_key row.grant.atom.atom) (command_key later.grant.atom.atom)

abbrev pub is_row_of_all : FlatPrivilegeRow → Bool
is_row_of_all row = is_all_atom row.grant.atom.atom

-- how many rows of the same command, and how many of `ALL`, are compared with a row
abbrev pub compared_row_limit : ℕ
compared_row_limit = 64

-- Of these rows, numbered from n on, the number of the first that covers the row, among the first `most` that pass.
abbrev pub covering_row_number : (FlatPrivilegeRow → Bool) → FlatPrivilegeRow → ℕ → ℕ → List FlatPrivilegeRow → Option ℕ
covering_row_number passes row zero n rows = None
covering_row_number passes row (suc most) n [] = None
covering_row_number passes row (suc most) n (later ∷ rows) =
    if passes later then (if is_covering_row later row then Some n else covering_row_number passes row most (n + 1) rows)
    else covering_row_number passes row (suc most) (n + 1) rows

-- The number of a row behind this one that covers it: one of the same command, or else one of `ALL`.
abbrev pub overruling_row_number : FlatPrivilegeRow → ℕ → List FlatPrivilegeRow → Option ℕ
overruling_row_number row n behind =
    option_or (covering_row_number (is_row_of_same_command row) row compared_row_limit n behind) (covering_row_number is_row_of_all row compared_row_limit n behind)

-- more rows pass than are compared
abbrev pub are_more_than_compared : (FlatPrivilegeRow → Bool) → List FlatPrivilegeRow → Bool
are_more_than_compared passes rows = nat_lt compared_row_limit (length (filter passes rows))

-- What is found of a row: what overrules it, and if nothing does, whether rows behind it were left out.
abbrev pub overruling_of_row : FlatPrivilegeRow → ℕ → List FlatPrivilegeRow → Overruling
overruling_of_row row n behind = record {
  by = overruling_row_number row n behind;
  are_rows_left_out = not (is_some (overruling_row_number row n behind)) && (are_more_than_compared (is_row_of_same_command row) behind || are_more_than_compared is_row_of_all behind);
}

-- what is found of each row; the rows are numbered from n on
abbrev pub overrulings_of_rows : ℕ → List FlatPrivilegeRow → List Overruling
overrulings_of_rows n [] = []
overrulings_of_rows n (row ∷ rows) = overruling_of_row row (n + 1) rows ∷ overrulings_of_rows (n + 1) rows
