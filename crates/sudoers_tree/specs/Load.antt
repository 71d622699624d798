-- The outcome of loading files: a policy of several files, or their first fault.
use Rattle.std.specs.Prelude.{◌≡◌, ◌≤◌, ◌*◌, ℕ, ◌+◌, Bool, List, [], ◌∷◌, ◌++◌, codes, length, map, nat_lt, slice_get, Option, Some, None, Result, Ok, Err, if◌then◌else◌}
use Rattle.std.specs.List.{list_any}
use Rattle.std.specs.Option.{option_map}
use Rattle.std.specs.Str.{bytes_eq}
use Rattle.sudoers_text.specs.Cut.{cut_outcome_of_text}
use Rattle.sudoers_text.specs.Fault.{text_limit}
use Rattle.sudoers_text.specs.Line.{join}
use Rattle.sudoers_text.specs.Word.{is_reserved}
use Rattle.sudoers_text.specs.declared.fault.TextFault.{TextFault}
use Rattle.sudoers_tree.specs.Line.{Line}
use Rattle.sudoers_tree.specs.declared.fault.ReadFault.{ReadFault}
use Rattle.sudoers_tree.specs.declared.fault.ReadFault.TheVariants.{Text, Reserved}
use Rattle.sudoers_tree.specs.declared.named_files.NamedFile.{NamedFile}
use Rattle.sudoers_tree.specs.declared.load_fault.LoadFault.{LoadFault}
use Rattle.sudoers_tree.specs.declared.load_fault.LoadFault.TheVariants.{InFile, SameName, TooManyFiles}
use Rattle.sudoers_tree.specs.Definition.{PlacedDefinition, definitions_in_line}
use Rattle.sudoers_tree.specs.Fault.{syntax_fault_as_read_fault}
use Rattle.sudoers_tree.specs.Reading.{first_of_two_faults}
use Rattle.sudoers_tree.specs.Policy.{texts_of_lines}
use Rattle.sudoers_tree.specs.Files.{ParsedFile, lines_of_numbered_file, parsed_file_of_texts}
use Rattle.sudoers_tree.specs.declared.place.WalkLineSpot.{WalkLineSpot}
use Rattle.sudoers_tree.specs.Walk.{WalkState, load_result_and_then, is_file_on_walk, spot_of_file_line, value_unless_file_fault, walk_or_fault_of_files}

-- how many files there may be
abbrev pub file_limit : ℕ
file_limit = 256

-- one of these names is `name`
abbrev pub is_name_among : List ℕ → List (List ℕ) → Bool
is_name_among name names = list_any (bytes_eq name) names

-- one of these files has this name
abbrev pub has_file_with_name : List ℕ → List NamedFile → Bool
has_file_with_name name files = is_name_among name (map (λ (file : NamedFile). file.name) files)

-- the first name of these files that is the name of an earlier one, or among the names `before`
abbrev pub first_repeated_file_name : List (List ℕ) → List NamedFile → Option (List ℕ)
first_repeated_file_name before [] = None
first_repeated_file_name before (file ∷ files) = if is_name_among file.name before then Some file.name else first_repeated_file_name (before ++ file.name ∷ []) files

abbrev pub result_unless_repeated_name : {A : Type 0} → Option (List ℕ) → Result A LoadFault → Result A LoadFault
result_unless_repeated_name None next = next
result_unless_repeated_name (Some name) next = Err (SameName name)

-- a file with this cut of its text, as it is read, or the fault of the cut
abbrev pub parsed_file_of_cut_or_fault : List ℕ → Result (List (List ℕ)) TextFault → Result ParsedFile LoadFault
parsed_file_of_cut_or_fault name (Ok lines) = Ok (parsed_file_of_texts name lines)
parsed_file_of_cut_or_fault name (Err fault) = Err (InFile name (Text fault))

-- the files `before`, and then these files as they are read, or the fault of the first text that cannot be cut
abbrev pub parsed_files_or_cut_fault : List ParsedFile → List NamedFile → Result (List ParsedFile) LoadFault
parsed_files_or_cut_fault before [] = Ok before
parsed_files_or_cut_fault before (file ∷ files) = load_result_and_then (parsed_file_of_cut_or_fault file.name (cut_outcome_of_text file.bytes)) (λ reading. parsed_files_or_cut_fault (before ++ reading ∷ []) files)

-- ---- files that are not on the walk

-- the fault of the first of these definitions that defines a reserved word
abbrev pub reserved_name_fault_of_definitions : List PlacedDefinition → Option ReadFault
reserved_name_fault_of_definitions [] = None
reserved_name_fault_of_definitions (d ∷ ds) = if is_reserved d.def.name then Some (Reserved d.kind d.def.name) else reserved_name_fault_of_definitions ds

abbrev pub reserved_name_fault_in_lines : List Line → Option ReadFault
reserved_name_fault_in_lines [] = None
reserved_name_fault_in_lines (line ∷ lines) = first_of_two_faults (reserved_name_fault_of_definitions (definitions_in_line 0 line.node)) (reserved_name_fault_in_lines lines)

-- the first fault of a file that is not on the walk: a reserved word that is defined, or else a line that does not parse
abbrev pub first_fault_of_unreached_file : ParsedFile → Option ReadFault
first_fault_of_unreached_file file = first_of_two_faults (reserved_name_fault_in_lines file.lines) (option_map syntax_fault_as_read_fault file.fault)

-- what is on the walk; or the first fault of those of these files, numbered from n on, that are not on it
abbrev pub walk_or_unreached_file_fault : WalkState → ℕ → List ParsedFile → Result WalkState LoadFault
walk_or_unreached_file_fault w n [] = Ok w
walk_or_unreached_file_fault w n (file ∷ files) =
    load_result_and_then (if is_file_on_walk w n then Ok w else value_unless_file_fault file.name w (first_fault_of_unreached_file file)) (λ same. walk_or_unreached_file_fault w (n + 1) files)

-- ---- all files

-- a policy of several files: each file as it is read, and the walk over them
pub record LoadedPolicy : Type 0 where
  pub files : List ParsedFile
  pub walk : WalkState

-- a file that is read, with its bytes: those of its lines
abbrev pub named_file_of_parsed : ParsedFile → NamedFile
named_file_of_parsed file = record { name = file.name; bytes = join (texts_of_lines file.lines) }

-- the files of a policy with their bytes
abbrev pub named_files_of_policy : LoadedPolicy → List NamedFile
named_files_of_policy policy = map named_file_of_parsed policy.files

-- the walk over files that are read; or the first fault of the walk, or else that of a file that is not on it
abbrev pub walk_or_first_fault : List ParsedFile → Result WalkState LoadFault
walk_or_first_fault read = load_result_and_then (walk_or_fault_of_files read) (λ w. walk_or_unreached_file_fault w 0 read)

abbrev pub policy_of_parsed_files : List ParsedFile → Result LoadedPolicy LoadFault
policy_of_parsed_files read = load_result_and_then (walk_or_first_fault read) (λ w. Ok (record { files = read; walk = w }))

-- the list of one file, which has the name `policy` and this text
abbrev pub single_file_named_policy : List ℕ → List NamedFile
single_file_named_policy text = record { name = codes "policy"; bytes = text } ∷ []

-- The line stands at the spot: it is that line of that file, and begins on that row.
pub record IsLineAtSpot (files : List ParsedFile) (at : WalkLineSpot) (line : Line) : Type 0 where
  pub is_spot : at ≡ spot_of_file_line files at.file at.line
  pub is_line : slice_get (lines_of_numbered_file files at.file) at.line ≡ Some line

-- Each line stands at its spot.
abbrev pub AreLinesAtSpots : List ParsedFile → List WalkLineSpot → List Line → Type 0
AreLinesAtSpots files [] [] = Unit {0}
AreLinesAtSpots files (at ∷ spots) (line ∷ lines) = IsLineAtSpot files at line × AreLinesAtSpots files spots lines
AreLinesAtSpots files [] (line ∷ lines) = ⊥
AreLinesAtSpots files (at ∷ spots) [] = ⊥

-- The line with this number of the walk stands at its spot. Its row and the length of its text together are at most twice the limit of a
-- text, plus one.
pub record IsLineAtBoundedSpot (policy : LoadedPolicy) (number : ℕ) (line : Line) : Type 0 where
  pub at : WalkLineSpot
  pub is : slice_get policy.walk.spots number ≡ Some at
  pub stands : IsLineAtSpot policy.files at line
  pub fits : at.row + length line.text ≤ 2 * text_limit + 1

-- The outcome of loading these files: the policy, or the first of these faults. There are too many files; two files have one name; a text
-- cannot be cut; the walk has a fault; a file that is not on the walk has a fault.
unfoldable pub policy_or_load_fault : List NamedFile → Result LoadedPolicy LoadFault
policy_or_load_fault files =
    if nat_lt file_limit (length files) then Err TooManyFiles
    else result_unless_repeated_name (first_repeated_file_name [] files) (load_result_and_then (parsed_files_or_cut_fault [] files) policy_of_parsed_files)
