-- The names of the files to which the lines of a file lead.
use Rattle.std.specs.Prelude.{ℕ, List, [], ◌∷◌, ◌++◌, Option, Some, None, Result, Ok, Err}
use Rattle.sudoers_text.specs.Cut.{cut_outcome_of_text}
use Rattle.sudoers_text.specs.declared.fault.TextFault.{TextFault}
use Rattle.sudoers_tree.specs.declared.named_files.NamedFile.{NamedFile}
use Rattle.sudoers_tree.specs.declared.include_leads.Lead.{Lead}
use Rattle.sudoers_tree.specs.declared.include_leads.Lead.TheVariants.{File, Dir}
use Rattle.sudoers_tree.specs.Lead.{include_lead_of_line}
use Rattle.sudoers_files.specs.Shelf.{included_base_names_in}
use Rattle.sudoers_files.specs.Folder.{sorted_file_names_in_folder}

-- the names of the files to which a line leads: the named file, also if it is missing; or the files of a folder that an include of it reads
abbrev pub file_names_of_lead : List NamedFile → Option Lead → List (List ℕ)
file_names_of_lead files None = []
file_names_of_lead files (Some (File name)) = name ∷ []
file_names_of_lead files (Some (Dir dir)) = sorted_file_names_in_folder dir (included_base_names_in dir files)

-- the names that `names_of` gives for each of these lines of the file `name`, in the order of the lines
abbrev pub names_from_include_leads_of_lines : (Option Lead → List (List ℕ)) → List ℕ → List (List ℕ) → List (List ℕ)
names_from_include_leads_of_lines names_of name [] = []
names_from_include_leads_of_lines names_of name (line ∷ lines) = names_of (include_lead_of_line name line) ++ names_from_include_leads_of_lines names_of name lines

-- the names of the files to which these lines of the file `name` lead, in the order of the lines
abbrev pub file_names_included_by_lines : List NamedFile → List ℕ → List (List ℕ) → List (List ℕ)
file_names_included_by_lines files = names_from_include_leads_of_lines (file_names_of_lead files)

-- the lines of a text; none if the text cannot be cut
abbrev pub lines_of_cut_or_none : Result (List (List ℕ)) TextFault → List (List ℕ)
lines_of_cut_or_none (Ok lines) = lines
lines_of_cut_or_none (Err fault) = []

-- the names of the files to which a file leads, in the order of its lines
abbrev pub file_names_included_by_file : List NamedFile → NamedFile → List (List ℕ)
file_names_included_by_file files file = file_names_included_by_lines files file.name (lines_of_cut_or_none (cut_outcome_of_text file.bytes))
