-- The files of an included folder (sudoers(5), Including other files from within sudoers).
use Rattle.std.specs.Prelude.{ℕ, List, [], ◌∷◌, ◌++◌, map}
use Rattle.std.specs.Ordering.{nat_cmp}
use Rattle.std.specs.Cmp.Lexicographic.{slice_cmp}
use Rattle.std.specs.BTreeSet.{insert_key}

-- the names `before`, which are in the order of their bytes, and the other names, all in that order and each once
abbrev pub sorted_names_with_names_inserted : List (List ℕ) → List (List ℕ) → List (List ℕ)
sorted_names_with_names_inserted before [] = before
sorted_names_with_names_inserted before (name ∷ names) = sorted_names_with_names_inserted (insert_key (slice_cmp nat_cmp) before name) names

-- the whole name of the file `base` in the folder `dir`
abbrev pub file_name_of_base_in_folder : List ℕ → List ℕ → List ℕ
file_name_of_base_in_folder dir base = dir ++ 47 ∷ base

-- the whole names of the files `bases` of a folder, in the order of their bytes
abbrev pub sorted_file_names_in_folder : List ℕ → List (List ℕ) → List (List ℕ)
sorted_file_names_in_folder dir bases = map (file_name_of_base_in_folder dir) (sorted_names_with_names_inserted [] bases)
