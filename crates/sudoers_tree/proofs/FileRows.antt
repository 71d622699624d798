-- Files by their rows.
use Rattle.sudoers_tree.proofs.Common.{All, All-get_or, All-head, All-tail, All-weaker, AllByRecursion, AreWithinLineLimit, EachIsOneLineWhenCut, Err, HasSoundFileRows, IsLastingLineRow, IsLogicalLine}
use Rattle.sudoers_tree.proofs.Common.{IsWithinLineLimit, Line, LineFault, List, Node, None, Ok, Option, ParsedFile, ParsedFileRows, Result, Some, SyntaxFault, Tables, TablesHaveGrown, [], ap, ap₂, arith}
use Rattle.sudoers_tree.proofs.Common.{cut_outcome_of_text, false, get_or_from_slice_get, has_inner_line_without_lf, is_logical_line, join, length, length-append, line_limit, line_of_row, lines_of_numbered_file}
use Rattle.sudoers_tree.proofs.Common.{lines_of_optional_file, lines_parsed_until_fault, map, option_map, outcome_of_line, parsed_file_from_pair, parsed_file_of_rows, parsed_file_of_texts, parsed_lines_from_outcome}
use Rattle.sudoers_tree.proofs.Common.{refl, slice_get, slice_get-map, slice_get_within, subst, sym, text_limit, texts_of_lines, true, ℕ, ◌++◌, ◌<◌, ◌∙◌, ◌∷◌, ◌≡◌, ◌≤◌}
use Rattle.sudoers_grammar.specs.declared.fault.LineFault.TheVariants as line_fault
use Rattle.sudoers_tree.proofs.ReadPieces.{lines_cut_as_themselves_are_within_limit}
use Rattle.sudoers_tree.proofs.TreeLines.{TableGrowthIsTransitive, grown_tables_keep_rows_lasting, grown_tables_keep_lines_of_rows}
use Rattle.sudoers_tree.proofs.WholeLines.{lines_cut_as_themselves_are_logical}

-- the file with this number
pub numbered_file_of_rows_is_parsed_file : (t : Tables) (files : List ParsedFileRows) (f : ℕ) (o : Option ParsedFileRows) → slice_get files f ≡ o → slice_get (map (parsed_file_of_rows t) files) f ≡ option_map (parsed_file_of_rows t) o
numbered_file_of_rows_is_parsed_file t files f o is = slice_get-map (parsed_file_of_rows t) files f ∙ ap (option_map (parsed_file_of_rows t)) is

pub numbered_file_has_sound_rows : (t : Tables) (files : List ParsedFileRows) (f : ℕ) (file : ParsedFileRows) → All (HasSoundFileRows t) files → slice_get files f ≡ Some file → HasSoundFileRows t file
numbered_file_has_sound_rows t files f file are is =
    subst (HasSoundFileRows t) (get_or_from_slice_get files f file file is) (All-get_or (HasSoundFileRows t) files f file (slice_get_within files f file is) are)

-- The lines of a file are within the limit of a text.
pub lines_of_numbered_file_fit_text_limit : (t : Tables) (files : List ParsedFileRows) (f : ℕ) → All (HasSoundFileRows t) files → length (join (texts_of_lines (lines_of_numbered_file (map (parsed_file_of_rows t) files) f))) ≤ text_limit
lines_of_numbered_file_fit_text_limit t files f are = by (slice_get files f) refl
  where
    Fits : Option ParsedFile → Type 0
    Fits o = length (join (texts_of_lines (lines_of_optional_file o))) ≤ text_limit

    by : (o : Option ParsedFileRows) → slice_get files f ≡ o → length (join (texts_of_lines (lines_of_numbered_file (map (parsed_file_of_rows t) files) f))) ≤ text_limit
    by None is = subst Fits (sym (numbered_file_of_rows_is_parsed_file t files f None is)) (omega arith)
    by (Some file) is = subst Fits (sym (numbered_file_of_rows_is_parsed_file t files f (Some file) is)) (numbered_file_has_sound_rows t files f file are is).fits

-- ---- tables that grow

pub grown_tables_keep_file_rows_sound : TableGrowthIsTransitive → (t u : Tables) → TablesHaveGrown t u → (file : ParsedFileRows) → HasSoundFileRows t file → HasSoundFileRows u file
grown_tables_keep_file_rows_sound on t u g file is = record {
  stand = grown_tables_keep_rows_lasting on t u g file.rows.items is.stand;
  whole = subst (λ (ls : List Line). AllByRecursion IsLogicalLine (texts_of_lines ls)) (sym (grown_tables_keep_lines_of_rows t u g file.rows.items is.stand)) is.whole;
  short = subst (λ (ls : List Line). AreWithinLineLimit (texts_of_lines ls)) (sym (grown_tables_keep_lines_of_rows t u g file.rows.items is.stand)) is.short;
  fits = subst (λ (ls : List Line). length (join (texts_of_lines ls)) ≤ text_limit) (sym (grown_tables_keep_lines_of_rows t u g file.rows.items is.stand)) is.fits;
  held = subst (λ (ls : List Line). length (join (texts_of_lines ls)) ≤ file.bytes) (sym (grown_tables_keep_lines_of_rows t u g file.rows.items is.stand)) is.held;
}

pub grown_tables_keep_all_file_rows_sound : TableGrowthIsTransitive → (t u : Tables) → TablesHaveGrown t u → (files : List ParsedFileRows) → All (HasSoundFileRows t) files → All (HasSoundFileRows u) files
grown_tables_keep_all_file_rows_sound on t u g files are = All-weaker (HasSoundFileRows t) (HasSoundFileRows u) (grown_tables_keep_file_rows_sound on t u g) files are

pub grown_tables_keep_parsed_files : (t u : Tables) → TablesHaveGrown t u → (files : List ParsedFileRows) → All (HasSoundFileRows t) files → map (parsed_file_of_rows u) files ≡ map (parsed_file_of_rows t) files
grown_tables_keep_parsed_files t u g [] are = refl
grown_tables_keep_parsed_files t u g (file ∷ files) are =
    ap₂ (λ (ls : List Line) (rs : List ParsedFile). let r : ParsedFile = record { name = file.name; lines = ls; fault = file.fault } in r ∷ rs)
    (grown_tables_keep_lines_of_rows t u g file.rows.items (All-head (HasSoundFileRows t) file files are).stand)
    (grown_tables_keep_parsed_files t u g files (All-tail (HasSoundFileRows t) file files are))

-- ---- the lines that are read of a text

-- The lines that are read are no longer than all.
pub parsed_lines_are_no_longer_than_all : (before : List Line) (lines : List (List ℕ)) → length (join (texts_of_lines (lines_parsed_until_fault before lines).0)) ≤ length (join lines)
parsed_lines_are_no_longer_than_all before [] = omega arith
parsed_lines_are_no_longer_than_all before (text ∷ more) = by (outcome_of_line text) refl (λ line. parsed_lines_are_no_longer_than_all (before ++ line ∷ []) more)
  where
    Later : Type 0
    Later = (line : Line) → length (join (texts_of_lines (lines_parsed_until_fault (before ++ line ∷ []) more).0)) ≤ length (join more)

    Fits : Result Node LineFault → Type 0
    Fits o = length (join (texts_of_lines (parsed_lines_from_outcome before text o (λ line. lines_parsed_until_fault (before ++ line ∷ []) more)).0)) ≤ length (join (text ∷ more))

    by : (o : Result Node LineFault) → outcome_of_line text ≡ o → Later → Fits (outcome_of_line text)
    by (Ok says) is later =
        let line : Line = record { text = text; node = says } in
        let rest = (lines_parsed_until_fault (before ++ line ∷ []) more).0 in
        subst Fits (sym is) (omega (arith, later line, length-append text (join (texts_of_lines rest)), length-append text (join more)))
    by (Err (line_fault.Syntax at why)) is later = subst Fits (sym is) (omega arith)
    by (Err line_fault.NoMemory) is later = subst Fits (sym is) (omega arith)

-- a file of which the lines are read
pub file_rows_are_parsed_file_of_texts : (t : Tables) (file : ParsedFileRows) (name : List ℕ) (lines : List (List ℕ)) → file.name ≡ name
    → (let r : List Line × Option SyntaxFault = (map (line_of_row t) file.rows.items, file.fault) in r) ≡ lines_parsed_until_fault [] lines → parsed_file_of_rows t file ≡ parsed_file_of_texts name lines
unfolding parsed_file_of_texts
file_rows_are_parsed_file_of_texts t file name lines named is = ap₂ parsed_file_from_pair named is

-- What holds of each line of a text holds of those that are read.
pub property_of_lines_holds_of_parsed_lines : (P : List ℕ → Type 0) (before : List Line) (lines : List (List ℕ)) → AllByRecursion P lines → AllByRecursion P (texts_of_lines (lines_parsed_until_fault before lines).0)
property_of_lines_holds_of_parsed_lines P before [] all = tt
property_of_lines_holds_of_parsed_lines P before (text ∷ more) all = by (outcome_of_line text) (λ line. property_of_lines_holds_of_parsed_lines P (before ++ line ∷ []) more all.1)
  where
    by : (r : Result Node LineFault) → ((line : Line) → AllByRecursion P (texts_of_lines (lines_parsed_until_fault (before ++ line ∷ []) more).0))
        → AllByRecursion P (texts_of_lines (parsed_lines_from_outcome before text r (λ line. lines_parsed_until_fault (before ++ line ∷ []) more)).0)
    by (Ok says) later = (all.0, later (record { text = text; node = says }))
    by (Err (line_fault.Syntax at why)) later = tt
    by (Err line_fault.NoMemory) later = tt

-- The lines of a text that is cut: each is one logical line within the limit, and all are within that of a text.
pub record AreLogicalLinesWithinLimits (lines : List (List ℕ)) : Type 0 where
  pub whole : AllByRecursion IsLogicalLine lines
  pub short : AreWithinLineLimit lines
  pub fits : length (join lines) ≤ text_limit

pub rows_of_cut_lines_are_sound : (t : Tables) (file : ParsedFileRows) (lines : List (List ℕ)) → All (IsLastingLineRow t) file.rows.items
    → (let r : List Line × Option SyntaxFault = (map (line_of_row t) file.rows.items, file.fault) in r) ≡ lines_parsed_until_fault [] lines → AreLogicalLinesWithinLimits lines → length (join lines) ≤ file.bytes → HasSoundFileRows t file
rows_of_cut_lines_are_sound t file lines stand is cut held =
    let same : map (line_of_row t) file.rows.items ≡ (lines_parsed_until_fault [] lines).0 = ap (λ (r : List Line × Option SyntaxFault). r.0) is in
    let size : length (join (texts_of_lines (map (line_of_row t) file.rows.items))) ≡ length (join (texts_of_lines (lines_parsed_until_fault [] lines).0)) = ap (λ (ls : List Line). length (join (texts_of_lines ls))) same in
    record {
      stand = stand;
      whole = subst (λ (ls : List Line). AllByRecursion IsLogicalLine (texts_of_lines ls)) (sym same) (property_of_lines_holds_of_parsed_lines IsLogicalLine [] lines cut.whole);
      short = subst (λ (ls : List Line). AreWithinLineLimit (texts_of_lines ls)) (sym same) (property_of_lines_holds_of_parsed_lines IsWithinLineLimit [] lines cut.short);
      fits = omega (arith, size, parsed_lines_are_no_longer_than_all [] lines, cut.fits);
      held = omega (arith, size, parsed_lines_are_no_longer_than_all [] lines, held);
    }

-- a text that is cut
pub lines_of_cut_text_are_within_limits : ((line : List ℕ) → cut_outcome_of_text line ≡ Ok (line ∷ []) → is_logical_line line ≡ true) → ((line : List ℕ) → is_logical_line line ≡ true → IsLogicalLine line)
    → ((line : List ℕ) → cut_outcome_of_text line ≡ Ok (line ∷ []) → (0 < length line) × (length line ≤ line_limit)) → (text : List ℕ) (lines : List (List ℕ))
    → EachIsOneLineWhenCut lines × (has_inner_line_without_lf lines ≡ false) × (join lines ≡ text) × (length text ≤ text_limit) → AreLogicalLinesWithinLimits lines
lines_of_cut_text_are_within_limits whole tells size text lines (alone, ended, joined, fits) = record {
  whole = lines_cut_as_themselves_are_logical whole tells lines alone;
  short = lines_cut_as_themselves_are_within_limit size lines alone;
  fits = omega (arith, ap length joined, fits);
}
