-- The walk over files: the lines of the first, each include line followed by the walk of the files to which it leads. Here it is a
-- function that computes. By the law `walk_is` it is the walk of `Goes.antt`.
use Rattle.std.specs.Prelude.{ℕ, zero, suc, ◌+◌, nat_eq, Bool, List, [], ◌∷◌, ◌++◌, length, slice_index_or, Option, Some, None, Result, Ok, Err, if◌then◌else◌}
use Rattle.std.specs.List.{list_any}
use Rattle.std.specs.Option.{option_map}
use Rattle.sudoers_tree.specs.Line.{Line}
use Rattle.sudoers_tree.specs.declared.include_leads.Lead.{Lead}
use Rattle.sudoers_tree.specs.declared.fault.ReadFault.{ReadFault}
use Rattle.sudoers_tree.specs.declared.load_fault.LoadFault.{LoadFault}
use Rattle.sudoers_tree.specs.declared.fault.ReadFault.TheVariants.{NotLoaded, Twice, TooDeep}
use Rattle.sudoers_tree.specs.declared.load_fault.LoadFault.TheVariants.{InFile}
use Rattle.sudoers_tree.specs.declared.place.WalkLineSpot.{WalkLineSpot}
use Rattle.sudoers_tree.specs.Definition.{definitions_of_lines, definitions_in_line}
use Rattle.sudoers_tree.specs.Reading.{first_definition_fault}
use Rattle.sudoers_tree.specs.Fault.{syntax_fault_as_read_fault}
use Rattle.sudoers_tree.specs.Lead.{lead_of_parsed_line}
use Rattle.sudoers_tree.specs.Files.{ParsedFile, fault_of_numbered_file, lines_of_numbered_file, name_of_numbered_file, physical_line_of_file_line}
use Rattle.sudoers_tree.specs.Targets.{name_of_lead, targets_of_lead}

-- how deep files may be nested below the first
abbrev pub include_depth_limit : ℕ
include_depth_limit = 128

-- what is on the walk: its lines, the spot of each, and the numbers of its files, all in the order of the walk
pub record WalkState : Type 0 where
  pub lines : List Line
  pub spots : List WalkLineSpot
  pub on : List ℕ

abbrev pub empty_walk : WalkState
empty_walk = record { lines = []; spots = []; on = [] }

abbrev pub is_file_on_walk : WalkState → ℕ → Bool
is_file_on_walk w f = list_any (nat_eq f) w.on

-- where the line with this number stands; each line has a spot
abbrev pub spot_of_walk_line : WalkState → ℕ → WalkLineSpot
spot_of_walk_line w n = slice_index_or w.spots n (record { file = 0; line = 0; row = 1 })

-- the walk with the file f appended
abbrev pub walk_with_file_entered : ℕ → WalkState → WalkState
walk_with_file_entered f w = record { lines = w.lines; spots = w.spots; on = w.on ++ f ∷ [] }

abbrev pub load_result_and_then : {A B : Type 0} → Result A LoadFault → (A → Result B LoadFault) → Result B LoadFault
load_result_and_then (Ok x) next = next x
load_result_and_then (Err fault) next = Err fault

-- the value x, or this fault in the file with this name, if there is one
abbrev pub value_unless_file_fault : {A : Type 0} → List ℕ → A → Option ReadFault → Result A LoadFault
value_unless_file_fault name x None = Ok x
value_unless_file_fault name x (Some fault) = Err (InFile name fault)

-- the walk with this line of the file with this name appended, or the fault of the first name that cannot be defined there
abbrev pub walk_with_line_appended : List ℕ → WalkLineSpot → Line → WalkState → Result WalkState LoadFault
walk_with_line_appended name at line w =
    value_unless_file_fault name (record { lines = w.lines ++ line ∷ []; spots = w.spots ++ at ∷ []; on = w.on })
    (first_definition_fault (definitions_of_lines w.lines) (definitions_in_line (length w.lines) line.node))

-- the site of an include line: the name of its file, and its physical line there, from 1
pub record IncludeSite : Type 0 where
  pub file : List ℕ
  pub row : ℕ

abbrev pub repeated_include_fault : List ParsedFile → IncludeSite → ℕ → LoadFault
repeated_include_fault files at f = InFile at.file (Twice at.row (name_of_numbered_file files f))

-- the first of these files that is on the walk
abbrev pub first_file_on_walk : WalkState → List ℕ → Option ℕ
first_file_on_walk w [] = None
first_file_on_walk w (f ∷ more) = if is_file_on_walk w f then Some f else first_file_on_walk w more

abbrev pub files_unless_on_walk : List ParsedFile → IncludeSite → List ℕ → Option ℕ → Result (List ℕ) LoadFault
files_unless_on_walk files at inner None = Ok inner
files_unless_on_walk files at inner (Some f) = Err (repeated_include_fault files at f)

abbrev pub files_unless_missing_or_on_walk : List ParsedFile → IncludeSite → Lead → WalkState → Option (List ℕ) → Result (List ℕ) LoadFault
files_unless_missing_or_on_walk files at lead w None = Err (InFile at.file (NotLoaded at.row (name_of_lead lead)))
files_unless_missing_or_on_walk files at lead w (Some inner) = files_unless_on_walk files at inner (first_file_on_walk w inner)

-- the files to which a line leads, or the fault that one is missing or on the walk already
abbrev pub files_opened_by_lead : List ParsedFile → IncludeSite → WalkState → Option Lead → Result (List ℕ) LoadFault
files_opened_by_lead files at w None = Ok []
files_opened_by_lead files at w (Some lead) = files_unless_missing_or_on_walk files at lead w (targets_of_lead files lead)

-- where the line with this number of a file stands
abbrev pub spot_of_file_line : List ParsedFile → ℕ → ℕ → WalkLineSpot
spot_of_file_line files f n = record { file = f; line = n; row = physical_line_of_file_line (lines_of_numbered_file files f) n }

-- the outcome of a visit of a file: by the site of the line that leads to it, its number, and what is on the walk before
abbrev pub FileVisit : Type 0
FileVisit = IncludeSite → ℕ → WalkState → Result WalkState LoadFault

-- the outcome of visits of these files, one after another
abbrev pub walk_after_file_visits : FileVisit → List ParsedFile → IncludeSite → List ℕ → WalkState → Result WalkState LoadFault
walk_after_file_visits walk_after_file_visit files at [] w = Ok w
walk_after_file_visits walk_after_file_visit files at (f ∷ more) w =
    if is_file_on_walk w f then Err (repeated_include_fault files at f) else load_result_and_then (walk_after_file_visit at f w) (walk_after_file_visits walk_after_file_visit files at more)

abbrev pub include_site_of_line : List ParsedFile → ℕ → ℕ → IncludeSite
include_site_of_line files f n = record { file = name_of_numbered_file files f; row = physical_line_of_file_line (lines_of_numbered_file files f) n }

abbrev pub lead_of_file_line : List ParsedFile → ℕ → Line → Option Lead
lead_of_file_line files f line = lead_of_parsed_line (name_of_numbered_file files f) line.node

-- the outcome of these lines of the file f, from the one with the number n on, and then of the fault of the file, if it has one
abbrev pub walk_after_file_lines : FileVisit → List ParsedFile → ℕ → ℕ → List Line → WalkState → Result WalkState LoadFault
walk_after_file_lines walk_after_file_visit files f n [] w = value_unless_file_fault (name_of_numbered_file files f) w (option_map syntax_fault_as_read_fault (fault_of_numbered_file files f))
walk_after_file_lines walk_after_file_visit files f n (line ∷ lines) w =
    load_result_and_then (walk_with_line_appended (name_of_numbered_file files f) (spot_of_file_line files f n) line w) (λ now.
    load_result_and_then (files_opened_by_lead files (include_site_of_line files f n) now (lead_of_file_line files f line)) (λ inner.
    load_result_and_then (walk_after_file_visits walk_after_file_visit files (include_site_of_line files f n) inner now) (walk_after_file_lines walk_after_file_visit files f (n + 1) lines)))

-- the outcome of a visit of the file f; below the file of the line that leads to it, files may be nested so many levels deep
abbrev pub walk_after_file_visit : ℕ → List ParsedFile → FileVisit
walk_after_file_visit zero files at f w = Err (InFile at.file (TooDeep at.row))
walk_after_file_visit (suc left) files at f w = walk_after_file_lines (walk_after_file_visit left files) files f 0 (lines_of_numbered_file files f) (walk_with_file_entered f w)

-- the walk over the first file and the files to which it leads, or its first fault
unfoldable pub walk_or_fault_of_files : List ParsedFile → Result WalkState LoadFault
walk_or_fault_of_files files = walk_after_file_lines (walk_after_file_visit include_depth_limit files) files 0 0 (lines_of_numbered_file files 0) (walk_with_file_entered 0 empty_walk)
