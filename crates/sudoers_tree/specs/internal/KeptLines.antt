-- A device of the proof, which no public contract cites: the rows of a walk that stays.
use Rattle.std.specs.Prelude.{◌≡◌, ◌<◌, ℕ, false, if◌then◌else◌, List, [], length, map, slice_get, Option, Some, None, Ok}
use Rattle.std.specs.List.{All}
use Rattle.sudoers_text.specs.Word.{is_reserved}
use Rattle.sudoers_line_rows.specs.declared.rows.Tables.{Tables}
use Rattle.sudoers_line_rows.specs.Tables.{text_in_tables}
use Rattle.sudoers_grammar.specs.declared.node.Kind.{Kind}
use Rattle.sudoers_tree.specs.declared.alias_index.AliasNameIndex.{AliasNameIndex}
use Rattle.sudoers_tree.specs.declared.in_place_update.NewAliasName.{NewAliasName}
use Rattle.sudoers_tree.specs.declared.in_place_update.InPlaceWalkUpdate.{InPlaceWalkUpdate}
use Rattle.sudoers_tree.specs.declared.in_place_update.WalkBeforeChange.{WalkBeforeChange}
use Rattle.sudoers_tree.specs.declared.place.WalkLineSpot.{WalkLineSpot}
use Rattle.sudoers_tree.specs.declared.defined_names_change.DefinedNamesChange.{DefinedNamesChange}
use Rattle.sudoers_tree.specs.declared.defined_names_change.DefinedNamesChange.TheVariants.{Nothing, One, Other}
use Rattle.sudoers_tree.specs.Definition.{definitions_of_lines, is_equal_kind}
use Rattle.sudoers_tree.specs.Files.{ParsedFile, fault_of_numbered_file, lines_of_numbered_file}
use Rattle.sudoers_tree.specs.internal.Index.{IsIndexOfDefinitions, place_of_named_entry, index_entries_of_kind, number_of_named_entry}
use Rattle.sudoers_tree.specs.Line.{Line, line_of_row}
use Rattle.sudoers_tree.specs.Reading.{first_definition_fault}
use Rattle.sudoers_tree.specs.Walk.{WalkState, walk_or_fault_of_files}
use Rattle.sudoers_tree.specs.internal.Files.{parsed_file_of_rows}
use Rattle.sudoers_tree.specs.internal.Keys.{entries_with_one_renamed}
use Rattle.sudoers_tree.specs.internal.KeptWalk.{HasSameLeadAndLineEnds, walk_with_lines_replaced}
use Rattle.sudoers_tree.specs.internal.Tree.{IsLastingLineRow}

-- the files, and the walk over them, before lines change
abbrev pub files_before_change : Tables → WalkBeforeChange → List ParsedFile
files_before_change t b = map (parsed_file_of_rows t) b.files.now

abbrev pub walk_lines_before_change : Tables → WalkBeforeChange → List Line
walk_lines_before_change t b = map (line_of_row t) b.lines.now

abbrev pub walk_before_change : Tables → WalkBeforeChange → WalkState
walk_before_change t b = record { lines = walk_lines_before_change t b; spots = b.spots.now; on = b.on.now }

-- It is the walk over the files. Its rows go on holding its lines. No name that these define has a fault, and the index has these names.
pub record IsSoundWalkBeforeChange (t : Tables) (b : WalkBeforeChange) : Type 0 where
  pub walk : walk_or_fault_of_files (files_before_change t b) ≡ Ok (walk_before_change t b)
  pub paired : length b.spots.now ≡ length b.lines.now
  pub sound : first_definition_fault [] (definitions_of_lines (walk_lines_before_change t b)) ≡ None
  pub stand : All (IsLastingLineRow t) b.lines.now
  pub named : IsIndexOfDefinitions b.index.now (definitions_of_lines (walk_lines_before_change t b))

-- The file with this number has as many lines as before, and no fault.
abbrev pub KeepsLineCountWithoutFault : List ParsedFile → List ParsedFile → ℕ → Type 0
KeepsLineCountWithoutFault files others f = (length (lines_of_numbered_file others f) ≡ length (lines_of_numbered_file files f)) × (fault_of_numbered_file others f ≡ None)

-- The line `new` stands at the spot, and beside the line `old`.
abbrev pub ReplacesLineAtSpot : List ParsedFile → WalkLineSpot → Line → Line → Type 0
ReplacesLineAtSpot others at old new = (slice_get (lines_of_numbered_file others at.file) at.line ≡ Some new) × ((name : List ℕ) → HasSameLeadAndLineEnds name old new)

-- Each of the lines `news` stands at its spot, and beside the old line there.
abbrev pub ReplaceLinesAtSpots : List ParsedFile → List Line → List WalkLineSpot → List Line → Type 0
ReplaceLinesAtSpots others olds spots news = (i : ℕ) (at : WalkLineSpot) (old : Line) → i < length news → slice_get spots i ≡ Some at → slice_get olds i ≡ Some old
    → (new : Line) × (slice_get news i ≡ Some new) × ReplacesLineAtSpot others at old new

-- The index has another name for one alias, or is as it was.
abbrev pub HasAliasRenamed : AliasNameIndex → Option NewAliasName → AliasNameIndex → Type 0
HasAliasRenamed index None new = (k : Kind) → index_entries_of_kind k new ≡ index_entries_of_kind k index
HasAliasRenamed index (Some f) new =
    (k : Kind) → index_entries_of_kind k new ≡ (if is_equal_kind k f.kind then entries_with_one_renamed f.number f.name.items (index_entries_of_kind k index) else index_entries_of_kind k index)

-- The name can be given: there is an alias of that number, and none has the name.
abbrev pub IsNewAliasNameFree : AliasNameIndex → Option NewAliasName → Type 0
IsNewAliasNameFree index None = Unit {0}
IsNewAliasNameFree index (Some f) = (f.number < length (index_entries_of_kind f.kind index)) × (place_of_named_entry f.name.items (index_entries_of_kind f.kind index) ≡ None)

-- The alias `name` can have the name `fresh`, which is not reserved: it is the one of this number.
pub record IsAcceptedAliasName (index : AliasNameIndex) (kind : Kind) (name fresh : List ℕ) (f : NewAliasName) : Type 0 where
  pub kind_is : f.kind ≡ kind
  pub name_is : f.name.items ≡ fresh
  pub number_is : number_of_named_entry name (index_entries_of_kind kind index) ≡ Some f.number
  pub unreserved : is_reserved fresh ≡ false
  pub free : number_of_named_entry fresh (index_entries_of_kind kind index) ≡ None

-- The change of the names is this.
abbrev pub IsAcceptedNamesChange : Tables → AliasNameIndex → DefinedNamesChange → Option NewAliasName → Type 0
IsAcceptedNamesChange t index Nothing None = Unit {0}
IsAcceptedNamesChange t index Nothing (Some f) = ⊥
IsAcceptedNamesChange t index (One place kind name fresh) None = ⊥
IsAcceptedNamesChange t index (One place kind name fresh) (Some f) = IsAcceptedAliasName index kind (text_in_tables t name) (text_in_tables t fresh) f
IsAcceptedNamesChange t index Other f = ⊥

-- These files have the walk of before with these lines. The rows go on holding them, and the index has their names once it is renamed.
pub record IsInPlaceWalkUpdate (t : Tables) (b : WalkBeforeChange) (others : List ParsedFile) (kept : InPlaceWalkUpdate) : Type 0 where
  pub walk : walk_or_fault_of_files others ≡ Ok (walk_with_lines_replaced (map (line_of_row t) kept.lines.items) (walk_before_change t b))
  pub stand : All (IsLastingLineRow t) kept.lines.items
  pub fresh : IsNewAliasNameFree b.index.now kept.fresh
  pub named : (index : AliasNameIndex) → HasAliasRenamed b.index.now kept.fresh index → IsIndexOfDefinitions index (definitions_of_lines (map (line_of_row t) kept.lines.items))
