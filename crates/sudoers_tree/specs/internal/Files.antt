-- A device of the proof, which no public contract cites: files that are read into tables.
use Rattle.std.specs.Prelude.{◌≡◌, ◌⊎◌, ◌≤◌, List, length, map, Result, Ok, Err}
use Rattle.std.specs.List.{All, AllByRecursion}
use Rattle.sudoers_text.specs.Line.{join}
use Rattle.sudoers_text.specs.Fault.{text_limit}
use Rattle.sudoers_text.specs.Whole.{IsLogicalLine}
use Rattle.sudoers_line_rows.specs.declared.rows.Tables.{Tables}
use Rattle.sudoers_tree.specs.declared.files.ParsedFileRows.{ParsedFileRows}
use Rattle.sudoers_tree.specs.declared.files.FilesInTables.{FilesInTables}
use Rattle.sudoers_tree.specs.declared.load_fault.LoadFault.{LoadFault}
use Rattle.sudoers_tree.specs.declared.load_fault.LoadFault.TheVariants.{NoMemory}
use Rattle.sudoers_tree.specs.Files.{ParsedFile}
use Rattle.sudoers_tree.specs.Line.{line_of_row}
use Rattle.sudoers_tree.specs.Policy.{texts_of_lines}
use Rattle.sudoers_tree.specs.internal.Pieces.{AreWithinLineLimit}
use Rattle.sudoers_tree.specs.internal.Tree.{IsLastingLineRow}

-- what the rows of a file hold
abbrev pub parsed_file_of_rows : Tables → ParsedFileRows → ParsedFile
parsed_file_of_rows t file = record { name = file.name; lines = map (line_of_row t) file.rows.items; fault = file.fault }

abbrev pub parsed_files_of_view : FilesInTables → List ParsedFile
parsed_files_of_view files = map (parsed_file_of_rows files.tables.now) files.files.now

-- The rows of the file go on holding its lines. Each of these is one logical line within the limit, and all are within that of a text, and no
-- more than is noted.
pub record HasSoundFileRows (t : Tables) (file : ParsedFileRows) : Type 0 where
  pub stand : All (IsLastingLineRow t) file.rows.items
  pub whole : AllByRecursion IsLogicalLine (texts_of_lines (map (line_of_row t) file.rows.items))
  pub short : AreWithinLineLimit (texts_of_lines (map (line_of_row t) file.rows.items))
  pub fits : length (join (texts_of_lines (map (line_of_row t) file.rows.items))) ≤ text_limit
  pub held : length (join (texts_of_lines (map (line_of_row t) file.rows.items))) ≤ file.bytes

abbrev pub HaveSoundFileRows : FilesInTables → Type 0
HaveSoundFileRows files = All (HasSoundFileRows files.tables.now) files.files.now

-- These files are read; or the fault is the one that is wanted, or `NoMemory`.
abbrev pub IsFilesReadOutcome : Result (List ParsedFileRows) LoadFault → Tables → Result (List ParsedFile) LoadFault → Type 0
IsFilesReadOutcome (Ok files) t wanted = (wanted ≡ Ok (map (parsed_file_of_rows t) files)) × All (HasSoundFileRows t) files
IsFilesReadOutcome (Err fault) t wanted = (fault ≡ NoMemory) ⊎ (wanted ≡ Err fault)

-- This file is read; or the fault is the one that is wanted, or `NoMemory`.
abbrev pub IsFileReadOutcome : Result ParsedFileRows LoadFault → Tables → Result ParsedFile LoadFault → Type 0
IsFileReadOutcome (Ok file) t wanted = (wanted ≡ Ok (parsed_file_of_rows t file)) × HasSoundFileRows t file
IsFileReadOutcome (Err fault) t wanted = (fault ≡ NoMemory) ⊎ (wanted ≡ Err fault)
