-- What the include lines of a policy's files do not read (sudoers(5), Including other files from within sudoers).
use Rattle.std.specs.Prelude.{ℕ, List, [], ◌∷◌, map, Option, Some, None}
use Rattle.std.specs.List.{flat_map}
use Rattle.sudoers_text.specs.Cut.{cut_outcome_of_text}
use Rattle.sudoers_tree.specs.declared.named_files.NamedFile.{NamedFile}
use Rattle.sudoers_tree.specs.declared.include_leads.Lead.{Lead}
use Rattle.sudoers_tree.specs.declared.include_leads.Lead.TheVariants.{File as FileLead, Dir}
use Rattle.sudoers_files.specs.declared.unread_includes.MissingFolderOrSkippedFile.{MissingFolderOrSkippedFile}
use Rattle.sudoers_files.specs.declared.unread_includes.MissingFolderOrSkippedFile.TheVariants.{Folder, File}
use Rattle.sudoers_files.specs.Shelf.{unread_base_names_in}
use Rattle.sudoers_files.specs.Folder.{sorted_names_with_names_inserted, sorted_file_names_in_folder}
use Rattle.sudoers_files.specs.Included.{names_from_include_leads_of_lines, lines_of_cut_or_none}

-- the folder that a line includes
abbrev pub folder_of_lead : Option Lead → List (List ℕ)
folder_of_lead None = []
folder_of_lead (Some (FileLead name)) = []
folder_of_lead (Some (Dir dir)) = dir ∷ []

-- the folders that the lines of these files include
abbrev pub folders_included_by_files : List NamedFile → List (List ℕ)
folders_included_by_files files = flat_map (λ (file : NamedFile). names_from_include_leads_of_lines folder_of_lead file.name (lines_of_cut_or_none (cut_outcome_of_text file.bytes))) files

-- the missing folder, or the names there that an include of it does not read
abbrev pub unread_includes_of_folder_listing : List ℕ → Option (List (List ℕ)) → List MissingFolderOrSkippedFile
unread_includes_of_folder_listing dir None = Folder dir ∷ []
unread_includes_of_folder_listing dir (Some bases) = map File (sorted_file_names_in_folder dir bases)

-- what the lines of the files `found` do not read, folder by folder in the order of their names
abbrev pub unread_includes_of_files : List NamedFile → List NamedFile → List MissingFolderOrSkippedFile
unread_includes_of_files files found = flat_map (λ (dir : List ℕ). unread_includes_of_folder_listing dir (unread_base_names_in dir files)) (sorted_names_with_names_inserted [] (folders_included_by_files found))
