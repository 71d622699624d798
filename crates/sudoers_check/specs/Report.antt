-- What is noted of a policy, and the text of it.
use Rattle.std.specs.Prelude.{ℕ, ◌+◌, ◌&&◌, Bool, true, false, not, if◌then◌else◌, List, [], ◌∷◌, ◌++◌, codes, map, take, slice_index_or}
use Rattle.std.specs.List.{flat_map, list_any}
use Rattle.std.specs.Fmt.{decimal}
use Rattle.sudoers_text.specs.Fault.{lf_count}
use Rattle.sudoers_grammar.specs.declared.node.Kind.{Kind}
use Rattle.sudoers_tree.specs.Line.{Line}
use Rattle.sudoers_tree.specs.Physical.{column_behind}
use Rattle.sudoers_tree.specs.declared.place.WalkLineSpot.{WalkLineSpot}
use Rattle.sudoers_tree.specs.Files.{name_of_numbered_file}
use Rattle.sudoers_tree.specs.Walk.{WalkState, spot_of_walk_line}
use Rattle.sudoers_tree.specs.Load.{LoadedPolicy}
use Rattle.sudoers_tree.specs.Definition.{PlacedDefinition, definitions_of_lines, first_definition_of}
use Rattle.sudoers_grammar.specs.Kind.{alias_line_keyword}
use Rattle.sudoers_tree.specs.Policy.{texts_of_lines}
use Rattle.sudoers_tree.specs.Fault.{is_some}
use Rattle.sudoers_check.specs.declared.report.Note.{Note}
use Rattle.sudoers_check.specs.declared.report.Report.{Report}
use Rattle.sudoers_check.specs.Mentioned.{Mention, all_mentions_in_lines, is_mention_of_name}
use Rattle.sudoers_check.specs.Led.{unused_definitions_of_lines, cyclic_definitions_of_lines}

-- ---- undefined names

-- the mention is of a name that is not defined, and none of these before it is of the same
abbrev pub is_first_mention_of_undefined : List PlacedDefinition → List Mention → Mention → Bool
is_first_mention_of_undefined ds before m = not (is_some (first_definition_of m.kind m.name ds)) && not (list_any (is_mention_of_name m.kind m.name) before)

-- those of the mentions behind these
abbrev pub new_undefined_mentions : List PlacedDefinition → List Mention → List Mention → List Mention
new_undefined_mentions ds before [] = []
new_undefined_mentions ds before (m ∷ ms) =
    (if is_first_mention_of_undefined ds before m then m ∷ [] else []) ++ new_undefined_mentions ds (before ++ m ∷ []) ms

-- the undefined names, each where it is first mentioned
abbrev pub undefined_mentions_of_lines : List Line → List Mention
undefined_mentions_of_lines lines = new_undefined_mentions (definitions_of_lines lines) [] (all_mentions_in_lines lines)

-- ---- notes

abbrev pub text_of_line_at : List Line → ℕ → List ℕ
text_of_line_at lines line = slice_index_or (texts_of_lines lines) line []

-- a note of a name that begins at this byte of a line that stands here: its file, its physical line there and its column, both from 1
abbrev pub note_in_line_text : WalkLineSpot → List ℕ → Kind → List ℕ → ℕ → Note
note_in_line_text at text k name start = record {
  kind = k;
  name = name;
  file = at.file;
  line = at.row + lf_count (take start text);
  col = column_behind (take start text);
}

-- a note of a name that begins at this byte of the line with this number of the walk
abbrev pub note_in_walk_line : WalkState → Kind → List ℕ → ℕ → ℕ → Note
note_in_walk_line walk k name line start = note_in_line_text (spot_of_walk_line walk line) (text_of_line_at walk.lines line) k name start

abbrev pub note_of_mention : WalkState → Mention → Note
note_of_mention walk m = note_in_walk_line walk m.kind m.name m.span.line m.span.start

abbrev pub note_of_definition : WalkState → PlacedDefinition → Note
note_of_definition walk d = note_in_walk_line walk d.kind d.def.name d.place.line d.def.start

-- undefined names at their first mention and in the order of these, the others at and in order of their definitions
abbrev pub report_of_walk : WalkState → Report
report_of_walk walk = record {
  undefined = map (note_of_mention walk) (undefined_mentions_of_lines walk.lines);
  cyclic = map (note_of_definition walk) (cyclic_definitions_of_lines walk.lines);
  unused = map (note_of_definition walk) (unused_definitions_of_lines walk.lines);
}

-- ---- the text of a report

abbrev pub note_place_text : LoadedPolicy → Note → List ℕ
note_place_text policy n = name_of_numbered_file policy.files n.file ++ codes ":" ++ decimal n.line ++ codes ":" ++ decimal n.col ++ codes ": "

abbrev pub note_finding_and_alias_text : List ℕ → Note → List ℕ
note_finding_and_alias_text word n = word ++ codes " " ++ alias_line_keyword n.kind ++ codes " " ++ n.name ++ codes "\n"

-- FILE:LINE:COL: WORD KIND NAME, where FILE is the name of the file of the note
abbrev pub note_text : LoadedPolicy → List ℕ → Note → List ℕ
note_text policy word n = note_place_text policy n ++ note_finding_and_alias_text word n

abbrev pub is_empty : List Note → Bool
is_empty [] = true
is_empty (n ∷ ns) = false

-- there are no undefined names and no cycles, or these are no faults
abbrev pub is_report_parsed_ok : Bool → Report → Bool
is_report_parsed_ok false report = true
is_report_parsed_ok true report = is_empty report.undefined && is_empty report.cyclic

abbrev pub parsed_ok_or_faults_found_ending : Bool → List ℕ
parsed_ok_or_faults_found_ending true = codes ": parsed OK\n"
parsed_ok_or_faults_found_ending false = codes ": faults found\n"

-- a line for each note, and a last one, which names the first file
abbrev pub report_text : LoadedPolicy → Bool → Report → List ℕ
report_text policy strict report =
    flat_map (note_text policy (codes "undefined")) report.undefined ++ flat_map (note_text policy (codes "cyclic")) report.cyclic
    ++ flat_map (note_text policy (codes "unused")) report.unused ++ name_of_numbered_file policy.files 0 ++ parsed_ok_or_faults_found_ending (is_report_parsed_ok strict report)
