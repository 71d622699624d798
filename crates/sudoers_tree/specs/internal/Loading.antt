-- A device of the proof, which no public contract cites: files with the walk over them, as they are kept.
use Rattle.std.specs.Prelude.{◌≡◌, ◌⊎◌, ℕ, List, map, Result, Ok, Err}
use Rattle.std.specs.List.{All}
use Rattle.sudoers_line_rows.specs.declared.rows.Tables.{Tables}
use Rattle.sudoers_tree.specs.declared.alias_index.AliasNameIndex.{AliasNameIndex}
use Rattle.sudoers_tree.specs.declared.load_fault.LoadFault.{LoadFault}
use Rattle.sudoers_tree.specs.declared.load_fault.LoadFault.TheVariants.{NoMemory}
use Rattle.sudoers_tree.specs.declared.files_and_walk.WalkedFiles.{WalkedFiles}
use Rattle.sudoers_tree.specs.declared.files_and_walk.FilesAndWalkAfterChange.{FilesAndWalkAfterChange}
use Rattle.sudoers_tree.specs.declared.files_and_walk.WalkAfterChange.{WalkAfterChange}
use Rattle.sudoers_tree.specs.declared.files_and_walk.WalkAfterChange.TheVariants.{Kept, Anew}
use Rattle.sudoers_tree.specs.declared.in_place_update.WalkBeforeChange.{WalkBeforeChange}
use Rattle.sudoers_tree.specs.declared.place.WalkLineSpot.{WalkLineSpot}
use Rattle.sudoers_tree.specs.Definition.{definitions_of_lines}
use Rattle.sudoers_tree.specs.Files.{ParsedFile}
use Rattle.sudoers_tree.specs.internal.Index.{IsIndexOfDefinitions, index_after_update}
use Rattle.sudoers_tree.specs.Line.{Line, line_of_row}
use Rattle.sudoers_tree.specs.Load.{LoadedPolicy, policy_of_parsed_files, walk_or_first_fault}
use Rattle.sudoers_tree.specs.Walk.{load_result_and_then}
use Rattle.sudoers_tree.specs.internal.Files.{HasSoundFileRows, parsed_file_of_rows}
use Rattle.sudoers_tree.specs.internal.KeptLines.{IsNewAliasNameFree, HasAliasRenamed}
use Rattle.sudoers_tree.specs.internal.Tree.{IsLastingLineRow}
use Rattle.sudoers_tree.specs.internal.Walking.{walk_state_of_builder}

-- the lines of the walk
abbrev pub lines_of_kept_walk : WalkedFiles → List Line
lines_of_kept_walk w = map (line_of_row w.tables) w.lines.items

-- the policy that is kept
abbrev pub policy_of_walked_files : WalkedFiles → LoadedPolicy
policy_of_walked_files w = record {
  files = map (parsed_file_of_rows w.tables) w.files.items;
  walk = record { lines = lines_of_kept_walk w; spots = w.spots.items; on = w.on.items };
}

-- The rows go on holding the lines of the files and of the walk, and the index has the names that the lines of the walk define.
pub record AreSoundWalkedFiles (w : WalkedFiles) : Type 0 where
  pub files : All (HasSoundFileRows w.tables) w.files.items
  pub stand : All (IsLastingLineRow w.tables) w.lines.items
  pub named : IsIndexOfDefinitions w.index (definitions_of_lines (lines_of_kept_walk w))

-- This is the walk over the files, where it was before over these spots and files with the names of this index: it stays, or is made anew. The
-- rows go on holding its lines, and the index has their names then.
abbrev pub IsWalkAfterChange : Tables → List WalkLineSpot → List ℕ → AliasNameIndex → List ParsedFile → WalkAfterChange → Type 0
IsWalkAfterChange t spots on index files (Kept new) =
    (walk_or_first_fault files ≡ Ok (record { lines = map (line_of_row t) new.lines.items; spots = spots; on = on }))
    × All (IsLastingLineRow t) new.lines.items
    × IsNewAliasNameFree index new.fresh
    × ((after : AliasNameIndex) → HasAliasRenamed index new.fresh after → IsIndexOfDefinitions after (definitions_of_lines (map (line_of_row t) new.lines.items)))
IsWalkAfterChange t spots on index files (Anew walking) =
    (walk_or_first_fault files ≡ Ok (walk_state_of_builder t walking))
    × All (IsLastingLineRow t) walking.lines.items
    × IsIndexOfDefinitions (index_after_update index walking.names) (definitions_of_lines (map (line_of_row t) walking.lines.items))

-- Files are read in these tables, with the walk over them; or the fault is that of the reading, or of the walk, or `NoMemory`.
abbrev pub IsChangedWalkOutcome : Result FilesAndWalkAfterChange LoadFault → Tables → WalkBeforeChange → Result (List ParsedFile) LoadFault → Type 0
IsChangedWalkOutcome (Ok new) t b read =
    (read ≡ Ok (map (parsed_file_of_rows t) new.files.items))
    × All (HasSoundFileRows t) new.files.items
    × IsWalkAfterChange t b.spots.now b.on.now b.index.now (map (parsed_file_of_rows t) new.files.items) new.walk
IsChangedWalkOutcome (Err fault) t b read = (fault ≡ NoMemory) ⊎ (load_result_and_then read policy_of_parsed_files ≡ Err fault)
