-- A device of the proof, which no public contract cites: the walk that is under way.
use Rattle.std.specs.Prelude.{◌≡◌, ◌⊎◌, ℕ, List, map, Result, Ok, Err}
use Rattle.std.specs.List.{All}
use Rattle.sudoers_line_rows.specs.declared.rows.Tables.{Tables}
use Rattle.sudoers_tree.specs.declared.files.FilesInTables.{FilesInTables}
use Rattle.sudoers_tree.specs.declared.alias_index.AliasNameIndex.{AliasNameIndex}
use Rattle.sudoers_tree.specs.declared.walking.WalkBuilder.{WalkBuilder}
use Rattle.sudoers_tree.specs.declared.load_fault.LoadFault.{LoadFault}
use Rattle.sudoers_tree.specs.declared.load_fault.LoadFault.TheVariants.{NoMemory}
use Rattle.sudoers_tree.specs.Definition.{definitions_of_lines}
use Rattle.sudoers_tree.specs.Files.{ParsedFile}
use Rattle.sudoers_tree.specs.internal.Index.{index_after_update, IsIndexOfDefinitions}
use Rattle.sudoers_tree.specs.Line.{Line, line_of_row}
use Rattle.sudoers_tree.specs.Walk.{FileVisit, WalkState, load_result_and_then, lead_of_file_line, files_opened_by_lead, include_site_of_line, walk_after_file_visits}
use Rattle.sudoers_tree.specs.internal.Tree.{IsLastingLineRow}

-- what is on the walk
abbrev pub walk_state_of_builder : Tables → WalkBuilder → WalkState
walk_state_of_builder t w = record { lines = map (line_of_row t) w.lines.items; spots = w.spots.items; on = w.on.items }

-- The rows go on holding the lines of the walk, and the names are those that these define.
pub record IsSoundWalkBuilder (files : FilesInTables) (known : AliasNameIndex) (w : WalkBuilder) : Type 0 where
  pub stand : All (IsLastingLineRow files.tables.now) w.lines.items
  pub named : IsIndexOfDefinitions (index_after_update known w.names) (definitions_of_lines (map (line_of_row files.tables.now) w.lines.items))

-- A call has continued the walk to the one that is wanted; or its fault is the one that is wanted. `NoMemory` may come instead.
abbrev pub IsWalkStepOutcome : Result (Unit {0}) LoadFault → FilesInTables → AliasNameIndex → WalkBuilder → Result WalkState LoadFault → Type 0
IsWalkStepOutcome (Ok u) files known new wanted = (wanted ≡ Ok (walk_state_of_builder files.tables.now new)) × IsSoundWalkBuilder files known new
IsWalkStepOutcome (Err fault) files known new wanted = (fault ≡ NoMemory) ⊎ (wanted ≡ Err fault)

-- the outcome of visits of the files to which a line leads
abbrev pub walk_after_included_files : FileVisit → List ParsedFile → ℕ → ℕ → Line → WalkState → Result WalkState LoadFault
walk_after_included_files visit files f n line now =
    load_result_and_then (files_opened_by_lead files (include_site_of_line files f n) now (lead_of_file_line files f line)) (λ inner. walk_after_file_visits visit files (include_site_of_line files f n) inner now)
