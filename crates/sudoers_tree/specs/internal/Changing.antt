-- A device of the proof, which no public contract cites: the changes of one file after another.
use Rattle.std.specs.Prelude.{ℕ, ◌+◌, ◌==◌, if◌then◌else◌, List, [], ◌∷◌}
use Rattle.sudoers_tree.specs.declared.line_change.LineChange.{LineChange}
use Rattle.sudoers_tree.specs.Changed.{file_number_of_change}

-- how many of the first changes are of the file with this number
abbrev pub leading_change_count_of_file : ℕ → List LineChange → ℕ
leading_change_count_of_file f [] = 0
leading_change_count_of_file f (change ∷ changes) = if file_number_of_change change == f then 1 + leading_change_count_of_file f changes else 0
