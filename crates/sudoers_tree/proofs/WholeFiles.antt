-- Each line of the walk over loaded files is one logical line.
use Rattle.sudoers_tree.proofs.Common.{AllByRecursion, AreLinesAtSpots, Err, IsLogicalLine, Line, List, LoadedPolicy, NamedFile, Ok, ParsedFile, Result, Some, TextFault, WalkLineSpot, [], cut_outcome_of_text}
use Rattle.sudoers_tree.proofs.Common.{lines_of_numbered_file, load_result_and_then, parsed_file_of_texts, parsed_file_of_cut_or_fault, parsed_files_or_cut_fault, policy_or_load_fault, refl, slice_get, subst, suc}
use Rattle.sudoers_tree.proofs.Common.{texts_of_lines, zero, ℕ, ◌++◌, ◌∷◌, ◌≡◌}
use Rattle.sudoers_tree.proofs.FileRows.{property_of_lines_holds_of_parsed_lines}
use Rattle.sudoers_tree.proofs.WalkSound.{loaded_policy_is_load_of_files}

-- the lines of a text are logical lines
abbrev pub CutLinesAreLogical : Type 0
CutLinesAreLogical = (text : List ℕ) (lines : List (List ℕ)) → cut_outcome_of_text text ≡ Ok lines → AllByRecursion IsLogicalLine lines

abbrev HasOnlyLogicalLines : ParsedFile → Type 0
HasOnlyLogicalLines file = AllByRecursion IsLogicalLine (texts_of_lines file.lines)

parsed_file_has_only_logical_lines : (name : List ℕ) (lines : List (List ℕ)) → AllByRecursion IsLogicalLine lines → HasOnlyLogicalLines (parsed_file_of_texts name lines)
unfolding parsed_file_of_texts
parsed_file_has_only_logical_lines name lines all = property_of_lines_holds_of_parsed_lines IsLogicalLine [] lines all

appended_file_keeps_only_logical_lines : (files : List ParsedFile) (file : ParsedFile) → AllByRecursion HasOnlyLogicalLines files → HasOnlyLogicalLines file → AllByRecursion HasOnlyLogicalLines (files ++ file ∷ [])
appended_file_keeps_only_logical_lines [] file all is = (is, tt)
appended_file_keeps_only_logical_lines (f ∷ files) file all is = (all.0, appended_file_keeps_only_logical_lines files file all.1 is)

parsed_files_have_only_logical_lines : CutLinesAreLogical → (before read : List ParsedFile) (files : List NamedFile) → AllByRecursion HasOnlyLogicalLines before → parsed_files_or_cut_fault before files ≡ Ok read → AllByRecursion HasOnlyLogicalLines read
parsed_files_have_only_logical_lines cuts before read [] all is = subst (AllByRecursion HasOnlyLogicalLines) (let same : before ≡ read = cc in same) all
parsed_files_have_only_logical_lines cuts before read (file ∷ files) all is =
    by (cut_outcome_of_text file.bytes) (cuts file.bytes) is
    (λ lines whole. parsed_files_have_only_logical_lines cuts (before ++ parsed_file_of_texts file.name lines ∷ []) read files (appended_file_keeps_only_logical_lines before (parsed_file_of_texts file.name lines) all (parsed_file_has_only_logical_lines file.name lines whole)))
  where
    by : (r : Result (List (List ℕ)) TextFault) → ((lines : List (List ℕ)) → r ≡ Ok lines → AllByRecursion IsLogicalLine lines)
        → load_result_and_then (parsed_file_of_cut_or_fault file.name r) (λ reading. parsed_files_or_cut_fault (before ++ reading ∷ []) files) ≡ Ok read
        → ((lines : List (List ℕ)) → AllByRecursion IsLogicalLine lines → parsed_files_or_cut_fault (before ++ parsed_file_of_texts file.name lines ∷ []) files ≡ Ok read → AllByRecursion HasOnlyLogicalLines read)
        → AllByRecursion HasOnlyLogicalLines read
    by (Ok lines) whole e later = later lines (whole lines refl) e
    by (Err fault) whole e later = absurd cc

numbered_file_has_only_logical_lines : (files : List ParsedFile) (f : ℕ) → AllByRecursion HasOnlyLogicalLines files → AllByRecursion IsLogicalLine (texts_of_lines (lines_of_numbered_file files f))
numbered_file_has_only_logical_lines [] f all = tt
numbered_file_has_only_logical_lines (file ∷ files) zero all = all.0
numbered_file_has_only_logical_lines (file ∷ files) (suc f) all = numbered_file_has_only_logical_lines files f all.1

numbered_line_is_logical : (lines : List Line) (n : ℕ) (line : Line) → AllByRecursion IsLogicalLine (texts_of_lines lines) → slice_get lines n ≡ Some line → IsLogicalLine line.text
numbered_line_is_logical [] n line all is = absurd cc
numbered_line_is_logical (l ∷ lines) zero line all is =
    let same : l ≡ line = cc in subst (λ (x : Line). IsLogicalLine x.text) same all.0
numbered_line_is_logical (l ∷ lines) (suc n) line all is = numbered_line_is_logical lines n line all.1 is

lines_at_spots_are_logical : (files : List ParsedFile) (spots : List WalkLineSpot) (lines : List Line) → AllByRecursion HasOnlyLogicalLines files → AreLinesAtSpots files spots lines → AllByRecursion IsLogicalLine (texts_of_lines lines)
lines_at_spots_are_logical files [] [] all stand = tt
lines_at_spots_are_logical files (at ∷ spots) (line ∷ lines) all stand =
    (numbered_line_is_logical (lines_of_numbered_file files at.file) at.line line (numbered_file_has_only_logical_lines files at.file all) stand.0.is_line, lines_at_spots_are_logical files spots lines all stand.1)
lines_at_spots_are_logical files [] (line ∷ lines) all stand = absurd stand
lines_at_spots_are_logical files (at ∷ spots) [] all stand = absurd stand

pub loaded_walk_lines_are_logical : CutLinesAreLogical → ((files : List NamedFile) (p : LoadedPolicy) → policy_or_load_fault files ≡ Ok p → AreLinesAtSpots p.files p.walk.spots p.walk.lines)
    → (files : List NamedFile) (p : LoadedPolicy) → policy_or_load_fault files ≡ Ok p → AllByRecursion IsLogicalLine (texts_of_lines p.walk.lines)
loaded_walk_lines_are_logical cuts stand files p is =
    let load = loaded_policy_is_load_of_files files p is in
    lines_at_spots_are_logical p.files p.walk.spots p.walk.lines (parsed_files_have_only_logical_lines cuts [] p.files files tt load.reads) (stand files p is)
