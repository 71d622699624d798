-- The next rows of the same command, and what is found among them. A device of the code, which no public contract cites.
use Rattle.std.specs.Prelude.{◌≡◌, ℕ, ◌+◌, ◌&&◌, ◌||◌, not, nat_lt, Bool, true, List, [], ◌∷◌, drop, length, Option, Some, None, if◌then◌else◌, slice_get}
use Rattle.std.specs.List.{filter}
use Rattle.std.specs.Option.{is_some, option_or}
use Rattle.laws_compare.specs.Content.{FlatPrivilegeRow}
use Rattle.sudoers_compare.specs.declared.overruled.Overruling.{Overruling}
use Rattle.sudoers_compare.specs.Overruled.{covering_row_number, is_row_of_all, is_row_of_same_command}

-- Of these rows, numbered from n on, the number of the first that passes.
abbrev pub first_passing_number : (FlatPrivilegeRow → Bool) → ℕ → List FlatPrivilegeRow → Option ℕ
first_passing_number passes n [] = None
first_passing_number passes n (row ∷ rows) = if passes row then Some n else first_passing_number passes (n + 1) rows

-- For each of these rows, numbered from n on, the number of the next row that passes for it.
abbrev pub next_row_numbers : (FlatPrivilegeRow → FlatPrivilegeRow → Bool) → ℕ → List FlatPrivilegeRow → List (Option ℕ)
next_row_numbers passes_for n [] = []
next_row_numbers passes_for n (row ∷ rows) = first_passing_number (passes_for row) (n + 1) rows ∷ next_row_numbers passes_for (n + 1) rows

-- the number of the next row of the same command, for each row
abbrev pub next_numbers_of_same_command : List FlatPrivilegeRow → List (Option ℕ)
next_numbers_of_same_command rows = next_row_numbers is_row_of_same_command 0 rows

abbrev pub is_next_row_of_all : FlatPrivilegeRow → FlatPrivilegeRow → Bool
is_next_row_of_all row later = is_row_of_all later

-- the number of the next row of `ALL`, for each row
abbrev pub next_numbers_of_all : List FlatPrivilegeRow → List (Option ℕ)
next_numbers_of_all rows = next_row_numbers is_next_row_of_all 0 rows

-- From each row that passes, the next one that passes is known.
abbrev pub AreNextNumbers : (FlatPrivilegeRow → Bool) → List FlatPrivilegeRow → List (Option ℕ) → Type 0
AreNextNumbers passes rows next =
    (j : ℕ) (row : FlatPrivilegeRow) → slice_get rows j ≡ Some row → passes row ≡ true → slice_get next j ≡ Some (first_passing_number passes (j + 1) (drop (j + 1) rows))

-- what is found of a row among so many of these rows that pass
abbrev pub overruling_among_passing : (FlatPrivilegeRow → Bool) → FlatPrivilegeRow → ℕ → ℕ → List FlatPrivilegeRow → Overruling
overruling_among_passing passes row most n rows = record {
  by = covering_row_number passes row most n rows;
  are_rows_left_out = not (is_some (covering_row_number passes row most n rows)) && nat_lt most (length (filter passes rows));
}

-- what is found of a row, from what is found in two searches
abbrev pub overruling_of_two : Overruling → Overruling → Overruling
overruling_of_two first second = record {
  by = option_or first.by second.by;
  are_rows_left_out = not (is_some (option_or first.by second.by)) && (first.are_rows_left_out || second.are_rows_left_out);
}
