-- The files to which an include line leads (sudoers(5), Including other files from within sudoers).
use Rattle.std.specs.Prelude.{ℕ, ◌+◌, ◌==◌, ◌&&◌, not, Bool, false, List, [], ◌∷◌, ◌++◌, length, drop, Option, Some, None, if◌then◌else◌}
use Rattle.std.specs.Option.{option_map}
use Rattle.std.specs.Ordering.{is_lt, nat_cmp}
use Rattle.std.specs.Cmp.Lexicographic.{slice_cmp}
use Rattle.std.specs.Str.{bytes_eq}
use Rattle.sudoers_grammar.specs.Piece.{has_byte}
use Rattle.sudoers_tree.specs.declared.include_leads.Lead.{Lead}
use Rattle.sudoers_tree.specs.declared.include_leads.Lead.TheVariants.{File, Dir}
use Rattle.sudoers_tree.specs.Lead.{folder_of}
use Rattle.sudoers_tree.specs.Files.{ParsedFile, name_of_numbered_file}

-- the last byte is `~`
abbrev pub ends_in_tilde : List ℕ → Bool
ends_in_tilde [] = false
ends_in_tilde (b ∷ []) = b == 126
ends_in_tilde (b ∷ c ∷ bytes) = ends_in_tilde (c ∷ bytes)

-- the name without its folder
abbrev pub base_name_of_file_name : List ℕ → List ℕ
base_name_of_file_name name = drop (length (folder_of name)) name

-- An include of a folder leads to a file of this name in it: one without `/` and `.` that does not end in `~`.
abbrev pub is_includable_base_name : List ℕ → Bool
is_includable_base_name base = not (has_byte 47 base) && not (has_byte 46 base) && not (ends_in_tilde base)

-- An include of the folder leads to the file `name`. The name of the folder ends in `/`.
abbrev pub is_includable_from_folder : List ℕ → List ℕ → Bool
is_includable_from_folder folder name = bytes_eq (folder_of name) folder && is_includable_base_name (base_name_of_file_name name)

-- the number of the first file of this name, of files that are numbered from n on
abbrev pub number_of_first_file_named : List ℕ → ℕ → List ParsedFile → Option ℕ
number_of_first_file_named name n [] = None
number_of_first_file_named name n (file ∷ more) = if bytes_eq name file.name then Some n else number_of_first_file_named name (n + 1) more

-- The first of two files stands before the other in the order of the bytes of their names.
abbrev pub is_file_name_before : List ParsedFile → ℕ → ℕ → Bool
is_file_name_before files f g = is_lt (slice_cmp nat_cmp (name_of_numbered_file files f) (name_of_numbered_file files g))

-- the files in the order of their names, with the file f inserted
abbrev pub file_inserted_in_name_order : List ParsedFile → ℕ → List ℕ → List ℕ
file_inserted_in_name_order files f [] = f ∷ []
file_inserted_in_name_order files f (g ∷ more) = if is_file_name_before files f g then f ∷ g ∷ more else g ∷ file_inserted_in_name_order files f more

-- the numbers of the files to which an include of the folder leads, in the order of their names, among the last files, numbered from n on
abbrev pub included_files_of_folder : List ParsedFile → List ℕ → ℕ → List ParsedFile → List ℕ
included_files_of_folder files folder n [] = []
included_files_of_folder files folder n (file ∷ more) =
    if is_includable_from_folder folder file.name then file_inserted_in_name_order files n (included_files_of_folder files folder (n + 1) more) else included_files_of_folder files folder (n + 1) more

-- The numbers of the files to which an include leads: the named one, or those of the folder. No list if the named file is missing.
abbrev pub targets_of_lead : List ParsedFile → Lead → Option (List ℕ)
targets_of_lead files (File name) = option_map (λ f. f ∷ []) (number_of_first_file_named name 0 files)
targets_of_lead files (Dir dir) = Some (included_files_of_folder files (dir ++ 47 ∷ []) 0 files)

-- the name that a lead has
abbrev pub name_of_lead : Lead → List ℕ
name_of_lead (File name) = name
name_of_lead (Dir name) = name
