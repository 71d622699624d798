-- A device of the proof, which no public contract cites: the changes that take changes of one file's lines back.
use Rattle.std.specs.Prelude.{ℕ, ◌+◌, ◌-◌, List, [], ◌∷◌, slice_index_or}
use Rattle.sudoers_tree.specs.declared.line_change.LineChange.{LineChange}
use Rattle.sudoers_tree.specs.declared.line_change.LineChange.TheVariants.{Put, Swap, Take}
use Rattle.sudoers_edit.specs.Landing.{LineTexts}

-- What takes a change of the lines back. Before it so many lines were put in, and so many taken out.
abbrev pub inverse_of_one_change : ℕ → ℕ → LineTexts → LineChange → LineChange
inverse_of_one_change put taken lines (Put file at text) = Take file (at + put - taken)
inverse_of_one_change put taken lines (Swap file at text) = Swap file (at + put - taken) (slice_index_or lines at [])
inverse_of_one_change put taken lines (Take file at) = Put file (at + put - taken) (slice_index_or lines at [])

-- how many lines a change puts in, and how many it takes out
abbrev pub lines_put_count_of_change : LineChange → ℕ
lines_put_count_of_change (Put file at text) = 1
lines_put_count_of_change (Swap file at text) = 0
lines_put_count_of_change (Take file at) = 0

abbrev pub lines_taken_count_of_change : LineChange → ℕ
lines_taken_count_of_change (Put file at text) = 0
lines_taken_count_of_change (Swap file at text) = 0
lines_taken_count_of_change (Take file at) = 1

-- What takes these changes back.
abbrev pub inverse_of_changes_in_file : ℕ → ℕ → LineTexts → List LineChange → List LineChange
inverse_of_changes_in_file put taken lines [] = []
inverse_of_changes_in_file put taken lines (change ∷ changes) =
    inverse_of_one_change put taken lines change ∷ inverse_of_changes_in_file (put + lines_put_count_of_change change) (taken + lines_taken_count_of_change change) lines changes
