-- The numbers of lines and of physical lines, and the places of definitions, are far below what a number can be.
use Rattle.sudoers_tree.proofs.Common.{All, All-cons, All-nil, AllByRecursion, AreLinesAtSpots, AreSoundWalkedFiles, Bool, IsLogicalLine, Kind, Def, Line, List, Node, Ok, ParsedFile, Place}
use Rattle.sudoers_tree.proofs.Common.{WalkLineSpot, WalkedFiles, [], ap, arith, definitions_from_line_number, definitions_from_place, definitions_in_line, entries_of_definitions}
use Rattle.sudoers_tree.proofs.Common.{if◌then◌else◌, false, index_entries_of_kind, is_equal_kind, join, length, length-append, lines_of_kept_walk, lines_of_numbered_file, named_files_of_policy, parsed_file_of_rows, physical_line_of_file_line}
use Rattle.sudoers_tree.proofs.Common.{policy_of_walked_files, policy_or_load_fault, refl, slice_get_within, subst, sym, text_limit, texts_of_lines, true, ℕ, ◌+◌, ◌<◌, ◌∷◌, ◌≡◌, ◌≤◌}
use Rattle.sudoers_grammar.specs.Node as node
use Rattle.std.proofs.Common.{◌^◌}
use Rattle.std.proofs.lemmas.List.{length-map}
use Rattle.std.proofs.lemmas.List.Elements.{All-append}
use Rattle.sudoers_tree.proofs.Common.{HasSoundFileRows, Option, None, ParsedFileRows, Some, Tables, lines_of_optional_file, map, slice_get}
use Rattle.sudoers_text.proofs.LogicalLine.{logical_line_is_not_empty}
use Rattle.sudoers_tree.proofs.Entries.{entries_of_appended_definitions_are_appended}
use Rattle.sudoers_tree.proofs.FileRows.{lines_of_numbered_file_fit_text_limit, numbered_file_has_sound_rows, numbered_file_of_rows_is_parsed_file}
use Rattle.sudoers_tree.proofs.Known.{loaded_walk_is_distinct_and_within_limit, lines_cut_from_text_are_within_limits, loaded_walk_lines_are_at_their_spots}
use Rattle.sudoers_tree.proofs.LineRows.{physical_line_plus_line_length_is_bounded}
use Rattle.sudoers_tree.proofs.WholeFiles.{loaded_walk_lines_are_logical}
use Rattle.sudoers_tree.specs.internal.InPlace.{IsPlaceWithinReach, IsSpotWithinReach}

-- Logical lines are no more than their bytes.
pub logical_lines_are_no_more_than_bytes : (lines : List (List ℕ)) → AllByRecursion IsLogicalLine lines → length lines ≤ length (join lines)
logical_lines_are_no_more_than_bytes [] all = omega arith
logical_lines_are_no_more_than_bytes (line ∷ lines) all =
    omega (arith, logical_line_is_not_empty line all.0, logical_lines_are_no_more_than_bytes lines all.1, length-append line (join lines))

-- ---- spots

lines_of_sound_file_are_logical : (t : Tables) (files : List ParsedFileRows) (f : ℕ) → All (HasSoundFileRows t) files → AllByRecursion IsLogicalLine (texts_of_lines (lines_of_numbered_file (map (parsed_file_of_rows t) files) f))
lines_of_sound_file_are_logical t files f are = by (slice_get files f) refl
  where
    Logical : Option ParsedFile → Type 0
    Logical o = AllByRecursion IsLogicalLine (texts_of_lines (lines_of_optional_file o))

    by : (o : Option ParsedFileRows) → slice_get files f ≡ o → AllByRecursion IsLogicalLine (texts_of_lines (lines_of_numbered_file (map (parsed_file_of_rows t) files) f))
    by None is = subst Logical (sym (numbered_file_of_rows_is_parsed_file t files f None is)) tt
    by (Some file) is = subst Logical (sym (numbered_file_of_rows_is_parsed_file t files f (Some file) is)) (numbered_file_has_sound_rows t files f file are is).whole

-- A sound file has no more lines than a text may have bytes.
pub sound_file_has_few_lines : (t : Tables) (files : List ParsedFileRows) (f : ℕ) → All (HasSoundFileRows t) files → length (lines_of_numbered_file (map (parsed_file_of_rows t) files) f) ≤ text_limit
sound_file_has_few_lines t files f are =
    let lines : List Line = lines_of_numbered_file (map (parsed_file_of_rows t) files) f in
    omega (arith, length-map lines (λ (line : Line). line.text), logical_lines_are_no_more_than_bytes (texts_of_lines lines) (lines_of_sound_file_are_logical t files f are), lines_of_numbered_file_fit_text_limit t files f are)

spots_of_lines_are_within_reach : (files : List ParsedFile) → ((g : ℕ) → length (join (texts_of_lines (lines_of_numbered_file files g))) ≤ text_limit) → ((g : ℕ) → length (lines_of_numbered_file files g) ≤ text_limit)
    → (spots : List WalkLineSpot) (lines : List Line) → AreLinesAtSpots files spots lines → All IsSpotWithinReach spots
spots_of_lines_are_within_reach files fit few [] [] stand = All-nil IsSpotWithinReach
spots_of_lines_are_within_reach files fit few [] (line ∷ lines) stand = absurd stand
spots_of_lines_are_within_reach files fit few (at ∷ spots) [] stand = absurd stand
spots_of_lines_are_within_reach files fit few (at ∷ spots) (line ∷ lines) stand =
    let within : at.line < length (lines_of_numbered_file files at.file) = slice_get_within (lines_of_numbered_file files at.file) at.line line stand.0.is_line in
    let row : at.row ≡ physical_line_of_file_line (lines_of_numbered_file files at.file) at.line = ap (λ (s : WalkLineSpot). s.row) stand.0.is_spot in
    let low : at.row ≤ 2097153 = omega (arith, row, physical_line_plus_line_length_is_bounded (lines_of_numbered_file files at.file) at.line line stand.0.is_line (fit at.file)) in
    let few_here : at.line ≤ 1048576 = omega (arith, within, few at.file) in
    All-cons IsSpotWithinReach at spots (omega (arith, few_here), omega (arith, low)) (spots_of_lines_are_within_reach files fit few spots lines stand.1)

pub spots_of_walked_files_are_within_reach : (w : WalkedFiles) → AreSoundWalkedFiles w → policy_or_load_fault (named_files_of_policy (policy_of_walked_files w)) ≡ Ok (policy_of_walked_files w) → All IsSpotWithinReach w.spots.items
spots_of_walked_files_are_within_reach w walked loaded =
    spots_of_lines_are_within_reach (policy_of_walked_files w).files (λ g. lines_of_numbered_file_fit_text_limit w.tables w.files.items g walked.files)
    (λ g. sound_file_has_few_lines w.tables w.files.items g walked.files) w.spots.items (lines_of_kept_walk w)
    (loaded_walk_lines_are_at_their_spots (named_files_of_policy (policy_of_walked_files w)) (policy_of_walked_files w) loaded)

-- ---- places

abbrev IsEntryBelow : ℕ → List ℕ × Place → Type 0
IsEntryBelow limit e = e.1.line < limit

entries_of_list_are_below : (limit : ℕ) (j k : Kind) (i n : ℕ) (ds : List Def) → i < limit → All (IsEntryBelow limit) (entries_of_definitions j (definitions_from_place k i n ds))
entries_of_list_are_below limit j k i n [] less = All-nil (IsEntryBelow limit)
entries_of_list_are_below limit j k i n (d ∷ ds) less = by (is_equal_kind j k) (entries_of_list_are_below limit j k i (n + 1) ds less)
  where
    rest : List (List ℕ × Place)
    rest = entries_of_definitions j (definitions_from_place k i (n + 1) ds)

    by : (b : Bool) → All (IsEntryBelow limit) rest → All (IsEntryBelow limit) (if b then (d.name, record { line = i; def = n }) ∷ rest else rest)
    by true later = All-cons (IsEntryBelow limit) (d.name, record { line = i; def = n }) rest less later
    by false later = later

entries_of_line_are_below : (limit : ℕ) (j : Kind) (i : ℕ) (says : Node) → i < limit → All (IsEntryBelow limit) (entries_of_definitions j (definitions_in_line i says))
entries_of_line_are_below limit j i (node.Alias k defs) less = entries_of_list_are_below limit j k i 0 defs less
entries_of_line_are_below limit j i node.Blank less = All-nil (IsEntryBelow limit)
entries_of_line_are_below limit j i node.Comment less = All-nil (IsEntryBelow limit)
entries_of_line_are_below limit j i (node.Include dir path) less = All-nil (IsEntryBelow limit)
entries_of_line_are_below limit j i (node.Defaults scope params) less = All-nil (IsEntryBelow limit)
entries_of_line_are_below limit j i (node.Spec users groups) less = All-nil (IsEntryBelow limit)

entries_of_lines_are_below : (limit : ℕ) (j : Kind) (i : ℕ) (lines : List Line) → i + length lines ≤ limit → All (IsEntryBelow limit) (entries_of_definitions j (definitions_from_line_number i lines))
entries_of_lines_are_below limit j i [] le = All-nil (IsEntryBelow limit)
entries_of_lines_are_below limit j i (line ∷ lines) le =
    subst (All (IsEntryBelow limit)) (sym (entries_of_appended_definitions_are_appended j (definitions_in_line i line.node) (definitions_from_line_number (i + 1) lines)))
    (All-append (IsEntryBelow limit) (entries_of_definitions j (definitions_in_line i line.node)) (entries_of_definitions j (definitions_from_line_number (i + 1) lines))
    (entries_of_line_are_below limit j i line.node (omega (arith, le))) (entries_of_lines_are_below limit j (i + 1) lines (omega (arith, le))))

walk_has_few_lines : (w : WalkedFiles) → policy_or_load_fault (named_files_of_policy (policy_of_walked_files w)) ≡ Ok (policy_of_walked_files w) → length (lines_of_kept_walk w) < 2 ^ 63
walk_has_few_lines w loaded =
    let files = named_files_of_policy (policy_of_walked_files w) in
    let logical : AllByRecursion IsLogicalLine (texts_of_lines (lines_of_kept_walk w)) =
    loaded_walk_lines_are_logical (λ text lines cut. (lines_cut_from_text_are_within_limits text lines cut).whole) loaded_walk_lines_are_at_their_spots files (policy_of_walked_files w) loaded in
    let few : length (lines_of_kept_walk w) ≤ 268435456 =
    omega (arith, length-map (lines_of_kept_walk w) (λ (line : Line). line.text), logical_lines_are_no_more_than_bytes (texts_of_lines (lines_of_kept_walk w)) logical, (loaded_walk_is_distinct_and_within_limit files (policy_of_walked_files w) loaded).1) in
    omega (arith, few)

pub places_of_walked_files_are_within_reach : (w : WalkedFiles) → AreSoundWalkedFiles w → policy_or_load_fault (named_files_of_policy (policy_of_walked_files w)) ≡ Ok (policy_of_walked_files w)
    → (k : Kind) → All (λ (e : List ℕ × Place). IsPlaceWithinReach e.1) (index_entries_of_kind k w.index)
places_of_walked_files_are_within_reach w walked loaded k =
    subst (All (λ (e : List ℕ × Place). IsPlaceWithinReach e.1)) (sym (walked.named k)) (entries_of_lines_are_below (2 ^ 63) k 0 (lines_of_kept_walk w) (omega (arith, walk_has_few_lines w loaded)))
