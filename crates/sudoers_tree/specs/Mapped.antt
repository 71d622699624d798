-- Files of which lines are changed, where each line that leads to files still leads to them.
use Rattle.std.specs.Prelude.{◌≡◌, ◌≤◌, ℕ, ◌+◌, true, false, List, [], ◌∷◌, ◌++◌, map, slice_get, Some, None, Ok}
use Rattle.std.specs.List.{AllByRecursion}
use Rattle.sudoers_text.specs.Cut.{cut_outcome_of_text}
use Rattle.sudoers_text.specs.Line.{join}
use Rattle.sudoers_grammar.specs.declared.node.Kind.{Kind}
use Rattle.sudoers_tree.specs.declared.line_change.LineChange.{LineChange}
use Rattle.sudoers_tree.specs.declared.place.WalkLineSpot.{WalkLineSpot}
use Rattle.sudoers_tree.specs.Changed.{lines_after_changes}
use Rattle.sudoers_tree.specs.ChangedFiles.{changes_of_file}
use Rattle.sudoers_tree.specs.Line.{Line}
use Rattle.sudoers_tree.specs.Lead.{lead_of_parsed_line}
use Rattle.sudoers_tree.specs.Definition.{definitions_of_lines}
use Rattle.sudoers_tree.specs.Policy.{HaveDistinctNames, HasUnreservedName, IsCorrectlyParsed, alias_limit_of_each_kind, definition_count_of_kind, texts_of_lines}
use Rattle.sudoers_tree.specs.Files.{ParsedFile, fault_of_numbered_file, lines_of_numbered_file, name_of_numbered_file}
use Rattle.sudoers_tree.specs.Walk.{WalkState, is_file_on_walk}

-- the lines that come of a line, by the number of its file, its own number there, and the line
abbrev pub LineToLinesMapping : Type 0
LineToLinesMapping = ℕ → ℕ → Line → List Line

-- the lines that come of these lines of the file f, of which the first has the number n
abbrev pub mapped_lines_from_number : LineToLinesMapping → ℕ → ℕ → List Line → List Line
mapped_lines_from_number g f n [] = []
mapped_lines_from_number g f n (line ∷ lines) = g f n line ++ mapped_lines_from_number g f (n + 1) lines

-- the lines that come of lines that stand at these spots
abbrev pub mapped_lines_at_spots : LineToLinesMapping → List WalkLineSpot → List Line → List Line
mapped_lines_at_spots g [] lines = []
mapped_lines_at_spots g (at ∷ spots) [] = []
mapped_lines_at_spots g (at ∷ spots) (line ∷ lines) = g at.file at.line line ++ mapped_lines_at_spots g spots lines

-- A line of the file `name` keeps its lead where these lines stand in its place.
pub data KeepsIncludeLead (name : List ℕ) (line : Line) : List Line → Type 0 where
  -- one line, which leads where the old one led
  one : (new : Line) → lead_of_parsed_line name new.node ≡ lead_of_parsed_line name line.node → KeepsIncludeLead name line (new ∷ [])
  -- lines that lead nowhere, in the place of one that leads nowhere
  nowhere : (news : List Line) → lead_of_parsed_line name line.node ≡ None → AllByRecursion (λ (new : Line). lead_of_parsed_line name new.node ≡ None) news
      → KeepsIncludeLead name line news

abbrev pub file_names : List ParsedFile → List (List ℕ)
file_names files = map (λ (file : ParsedFile). file.name) files

-- Each line of the files on the walk w keeps its lead.
abbrev pub KeepIncludeLeads : LineToLinesMapping → List ParsedFile → WalkState → Type 0
KeepIncludeLeads g files w =
    (f n : ℕ) (line : Line) → is_file_on_walk w f ≡ true → slice_get (lines_of_numbered_file files f) n ≡ Some line → KeepsIncludeLead (name_of_numbered_file files f) line (g f n line)

-- The files `others` are `files` with lines changed. They have the same names in the same order. The lines of a file on the walk w are those
-- that come of its lines, and each parses. Each line of such a file keeps its lead.
pub record AreFilesMapped (g : LineToLinesMapping) (files others : List ParsedFile) (w : WalkState) : Type 0 where
  pub names : file_names others ≡ file_names files
  pub lines : (f : ℕ) → is_file_on_walk w f ≡ true → lines_of_numbered_file others f ≡ mapped_lines_from_number g f 0 (lines_of_numbered_file files f)
  pub parse : (f : ℕ) → is_file_on_walk w f ≡ true → fault_of_numbered_file others f ≡ None
  pub leads : KeepIncludeLeads g files w

-- The changes make, of the lines of a file on the walk w, the lines that come of them. Each of these says what is kept of it. Each line
-- keeps its lead.
pub record MakeMappedLines (g : LineToLinesMapping) (changes : List LineChange) (files : List ParsedFile) (w : WalkState) : Type 0 where
  pub lines : (f : ℕ) → is_file_on_walk w f ≡ true
      → lines_after_changes (changes_of_file f changes) (texts_of_lines (lines_of_numbered_file files f)) ≡ texts_of_lines (mapped_lines_from_number g f 0 (lines_of_numbered_file files f))
  pub says : (f : ℕ) → is_file_on_walk w f ≡ true → AllByRecursion IsCorrectlyParsed (mapped_lines_from_number g f 0 (lines_of_numbered_file files f))
  pub leads : KeepIncludeLeads g files w

-- The lines define no reserved word, no name twice in a kind, and not too many names of a kind.
pub record AreDefinedNamesValid (lines : List Line) : Type 0 where
  pub free : AllByRecursion HasUnreservedName (definitions_of_lines lines)
  pub once : HaveDistinctNames (definitions_of_lines lines)
  pub few : (k : Kind) → definition_count_of_kind k (definitions_of_lines lines) ≤ alias_limit_of_each_kind

-- The walk `other` passes the files of the walk w in their order. Its lines are those that come of the lines of w.
pub record IsMappedWalk (g : LineToLinesMapping) (w other : WalkState) : Type 0 where
  pub lines : other.lines ≡ mapped_lines_at_spots g w.spots w.lines
  pub on : other.on ≡ w.on

-- The files `others` can be loaded in the place of `files`. A file that is not on the walk w is as it was. The lines of a file on the walk
-- are those of its text, and each says what is kept of it.
pub record CanReplaceFiles (files others : List ParsedFile) (w : WalkState) : Type 0 where
  pub stay : (f : ℕ) → is_file_on_walk w f ≡ false → slice_get others f ≡ slice_get files f
  pub cut : (f : ℕ) → is_file_on_walk w f ≡ true → cut_outcome_of_text (join (texts_of_lines (lines_of_numbered_file others f))) ≡ Ok (texts_of_lines (lines_of_numbered_file others f))
  pub says : (f : ℕ) → is_file_on_walk w f ≡ true → AllByRecursion IsCorrectlyParsed (lines_of_numbered_file others f)
