-- Lines that stay and lines that come are read, up to the first that does not parse.
use Rattle.sudoers_tree.proofs.Common.{All, All-cons, All-head, All-nil, All-push, All-same, All-tail, All-weaker, AllByRecursion, AreWithinLineLimit, ContinuesReadingLines, EachIsOneLineWhenCut, Err, HasKeptRows}
use Rattle.sudoers_tree.proofs.Common.{IsKeptRow, IsLastingLineRow, IsLogicalLine, Line, LineRow, List, New, None, Ok, Old, OldOrNewLines, Some, SyntaxFault, Tables, TablesHaveGrown, Why, [], ap, append-nil}
use Rattle.sudoers_tree.proofs.Common.{append_assoc, arith, cut_outcome_of_text, drop, get_or, is_logical_line, join, length, lf_count, lf_count_of_lines, line_before_parsed_lines, line_limit, line_of_row}
use Rattle.sudoers_tree.proofs.Common.{line_texts_of_piece, line_texts_of_pieces, lines_parsed_until_fault, map, map-append, outcome_of_line, parsed_lines_from_outcome, physical_line_after_bytes, refl, subst, sym}
use Rattle.sudoers_tree.proofs.Common.{syntax_fault_at_byte, text_in_tables, text_limit, texts_of_lines, true, ℕ, ◌++◌, ◌+◌, ◌<◌, ◌∙◌, ◌∷◌, ◌≡◌, ◌≤◌}
use Rattle.sudoers_grammar.specs.declared.fault.LineFault.TheVariants as line_fault
use Rattle.sudoers_tree.proofs.LineEnds.{lf_count_is_at_most_length}
use Rattle.sudoers_tree.proofs.PieceLines.{lf_count_of_lines_is_that_of_join, empty_piece_of_old_rows, lines_of_pieces_are_those_of_first_and_later}
use Rattle.sudoers_tree.proofs.ReadUntil.{AreLinesReadBeforeRest, LinesAndSyntaxFault, texts_read_to_end_are_outcome, next_texts_fit_text_limit, reading_goes_on_after_texts, faulty_text_ends_reading, reading_with_lines_prepended}
use Rattle.sudoers_tree.proofs.TreeLines.{TableGrowthIsTransitive, grown_tables_keep_rows_lasting, grown_tables_keep_lines_of_rows}

-- ---- lines that stay

pub texts_of_lasting_rows_are_parsed_as_rows : (t : Tables) (before : List Line) (rows : List LineRow) (more : List (List ℕ)) → All (IsLastingLineRow t) rows
    → lines_parsed_until_fault before (texts_of_lines (map (line_of_row t) rows) ++ more) ≡ reading_with_lines_prepended (map (line_of_row t) rows) (lines_parsed_until_fault (before ++ map (line_of_row t) rows) more)
texts_of_lasting_rows_are_parsed_as_rows t before [] more all = ap (λ ls. lines_parsed_until_fault ls more) (sym (append-nil before))
texts_of_lasting_rows_are_parsed_as_rows t before (row ∷ rows) more all =
    let line : Line = line_of_row t row in
    let stands : IsLastingLineRow t row = All-head (IsLastingLineRow t) row rows all in
    ap (λ o. parsed_lines_from_outcome before line.text o (λ l. lines_parsed_until_fault (before ++ l ∷ []) (texts_of_lines (map (line_of_row t) rows) ++ more))) stands.says
    ∙ ap (line_before_parsed_lines line) (texts_of_lasting_rows_are_parsed_as_rows t (before ++ line ∷ []) rows more (All-tail (IsLastingLineRow t) row rows all))
    ∙ ap (λ ls. line_before_parsed_lines line (reading_with_lines_prepended (map (line_of_row t) rows) (lines_parsed_until_fault ls more))) (append_assoc before (line ∷ []) (map (line_of_row t) rows))

pub kept_rows_are_lasting_rows : (t : Tables) (rows : List LineRow) → All (IsKeptRow t) rows → All (IsLastingLineRow t) rows
kept_rows_are_lasting_rows t rows all = All-weaker (IsKeptRow t) (IsLastingLineRow t) (λ row kept. kept.stands) rows all

-- rows that stand, of lines within the limit
pub lasting_rows_within_limit_are_kept : (t : Tables) (rows : List LineRow) → All (IsLastingLineRow t) rows → AreWithinLineLimit (texts_of_lines (map (line_of_row t) rows)) → All (IsKeptRow t) rows
lasting_rows_within_limit_are_kept t [] all short = All-nil (IsKeptRow t)
lasting_rows_within_limit_are_kept t (row ∷ rows) all short =
    All-cons (IsKeptRow t) row rows (record { stands = All-head (IsLastingLineRow t) row rows all; short = short.0 }) (lasting_rows_within_limit_are_kept t rows (All-tail (IsLastingLineRow t) row rows all) short.1)

-- ---- tables that have grown

grown_tables_keep_row_kept : TableGrowthIsTransitive → (t u : Tables) → TablesHaveGrown t u → (row : LineRow) → IsKeptRow t row → IsKeptRow u row
grown_tables_keep_row_kept on t u g row kept =
    let stands : IsLastingLineRow u row =
    All-head (IsLastingLineRow u) row [] (grown_tables_keep_rows_lasting on t u g (row ∷ []) (All-push (IsLastingLineRow t) [] row (λ k d less. absurd (omega (arith, less))) kept.stands)) in
    record { stands = stands; short = subst (λ (line : Line). length line.text ≤ 65536) (sym (kept.stands.lasts u g)) kept.short }

pub grown_tables_keep_rows_of_piece_kept : TableGrowthIsTransitive → (t u : Tables) → TablesHaveGrown t u → (piece : OldOrNewLines) → HasKeptRows t piece → HasKeptRows u piece
grown_tables_keep_rows_of_piece_kept on t u g (Old rows) kept = All-weaker (IsKeptRow t) (IsKeptRow u) (grown_tables_keep_row_kept on t u g) rows.now kept
grown_tables_keep_rows_of_piece_kept on t u g (New text) kept = tt

pub grown_tables_keep_texts_of_piece : (t u : Tables) → TablesHaveGrown t u → (piece : OldOrNewLines) → HasKeptRows t piece → line_texts_of_piece u piece ≡ line_texts_of_piece t piece
grown_tables_keep_texts_of_piece t u g (Old rows) kept = ap texts_of_lines (grown_tables_keep_lines_of_rows t u g rows.now (kept_rows_are_lasting_rows t rows.now kept))
grown_tables_keep_texts_of_piece t u g (New text) kept = refl

-- ---- a line that comes

module _ (on : TableGrowthIsTransitive) (t u : Tables) (g : TablesHaveGrown t u) (rows : List LineRow) (stand : All (IsLastingLineRow t) rows) where
  before : List Line
  before = map (line_of_row t) rows

  pub same_before : map (line_of_row u) rows ≡ map (line_of_row t) rows
  same_before = grown_tables_keep_lines_of_rows t u g rows stand

  -- the physical line behind those that are read
  pub lines_end : lf_count_of_lines (texts_of_lines (map (line_of_row u) rows)) ≡ lf_count (join (texts_of_lines (map (line_of_row t) rows)))
  lines_end = ap (λ ls. lf_count_of_lines (texts_of_lines ls)) same_before ∙ lf_count_of_lines_is_that_of_join (texts_of_lines (map (line_of_row t) rows))

  pub end_within : (more : ℕ) → length (join (texts_of_lines (map (line_of_row t) rows))) + more ≤ text_limit → lf_count_of_lines (texts_of_lines (map (line_of_row u) rows)) + more ≤ text_limit
  end_within more fits = omega (arith, lines_end, lf_count_is_at_most_length (join (texts_of_lines (map (line_of_row t) rows))), fits)

  pub reads_text : (new : List LineRow) (row : LineRow) (text : List ℕ) → new ≡ rows ++ row ∷ [] → IsLastingLineRow u row → text_in_tables u row.text ≡ text
      → ContinuesReadingLines None (map (line_of_row t) rows) (map (line_of_row u) new) (text ∷ [])
  reads_text new row text is stands says =
      let line : Line = line_of_row u row in
      let after : map (line_of_row u) new ≡ map (line_of_row t) rows ++ line ∷ [] =
      ap (map (line_of_row u)) is ∙ map-append (line_of_row u) rows (row ∷ []) ∙ ap (λ ls. ls ++ line ∷ []) same_before in (
        line ∷ [],
        after,
        ap (λ b. b ∷ []) says,
        λ more.
            ap (λ b. lines_parsed_until_fault (map (line_of_row t) rows) (b ∷ more)) (sym says)
            ∙ ap (λ o. parsed_lines_from_outcome (map (line_of_row t) rows) line.text o (λ l. lines_parsed_until_fault (map (line_of_row t) rows ++ l ∷ []) more)) stands.says
            ∙ ap (λ ls. reading_with_lines_prepended (line ∷ []) (lines_parsed_until_fault ls more)) (sym after),
      )

  pub stops_text : (text : List ℕ) (at : ℕ) (why : Why) (row : ℕ) (fault : SyntaxFault) → outcome_of_line text ≡ Err (line_fault.Syntax at why)
      → row ≡ 1 + lf_count_of_lines (texts_of_lines (map (line_of_row u) rows)) → fault ≡ syntax_fault_at_byte row text at why
      → ContinuesReadingLines (Some fault) (map (line_of_row t) rows) (map (line_of_row u) rows) (text ∷ [])
  stops_text text at why row fault is count fault_is =
      let place : row ≡ physical_line_after_bytes (join (texts_of_lines (map (line_of_row t) rows))) = omega (arith, count, lines_end) in (
        same_before,
        λ more.
            ap (λ o. parsed_lines_from_outcome (map (line_of_row t) rows) text o (λ l. lines_parsed_until_fault (map (line_of_row t) rows ++ l ∷ []) more)) is
            ∙ ap (λ n. let read : LinesAndSyntaxFault = ([], Some (syntax_fault_at_byte n text at why)) in read) (sym place)
            ∙ ap (λ f. let read : LinesAndSyntaxFault = ([], Some f) in read) (sym fault_is),
      )

  pub stand_pushed : (new : List LineRow) (row : LineRow) → new ≡ rows ++ row ∷ [] → IsLastingLineRow u row → All (IsLastingLineRow u) new
  stand_pushed new row is stands = All-same (IsLastingLineRow u) new (rows ++ row ∷ []) is (All-push (IsLastingLineRow u) rows row (grown_tables_keep_rows_lasting on t u g rows stand) stands)

-- lines that stay are read on
pub old_rows_continue_reading_lines : (t : Tables) (rows old new : List LineRow) → new ≡ rows ++ old → All (IsKeptRow t) old
    → ContinuesReadingLines None (map (line_of_row t) rows) (map (line_of_row t) new) (texts_of_lines (map (line_of_row t) old))
old_rows_continue_reading_lines t rows old new is kept =
    let after : map (line_of_row t) new ≡ map (line_of_row t) rows ++ map (line_of_row t) old = ap (map (line_of_row t)) is ∙ map-append (line_of_row t) rows old in (
      map (line_of_row t) old,
      after,
      refl,
      λ more. texts_of_lasting_rows_are_parsed_as_rows t (map (line_of_row t) rows) old more (kept_rows_are_lasting_rows t old kept) ∙ ap (λ ls. reading_with_lines_prepended (map (line_of_row t) old) (lines_parsed_until_fault ls more)) (sym after),
    )

-- ---- all pieces

-- After so many of the pieces these lines are read. Reading the rest then gives the outcome of all.
abbrev pub ArePiecesReadUpToNumber : Tables → List OldOrNewLines → List Line → ℕ → Type 0
ArePiecesReadUpToNumber t pieces read i = AreLinesReadBeforeRest (line_texts_of_pieces t pieces) read (line_texts_of_pieces t (drop i pieces))

-- the next piece is within the limit
pub next_piece_fits_text_limit : (t : Tables) (pieces : List OldOrNewLines) (read : List Line) (i : ℕ) → i < length pieces → ArePiecesReadUpToNumber t pieces read i → length (join (line_texts_of_pieces t pieces)) ≤ text_limit
    → length (join (texts_of_lines read)) + length (join (line_texts_of_piece t (get_or pieces i empty_piece_of_old_rows))) ≤ text_limit
next_piece_fits_text_limit t pieces read i less state fits =
    next_texts_fit_text_limit (line_texts_of_pieces t pieces) read _ (line_texts_of_piece t (get_or pieces i empty_piece_of_old_rows)) (line_texts_of_pieces t (drop (i + 1) pieces)) (lines_of_pieces_are_those_of_first_and_later t pieces i less) state fits

-- one more piece is read
pub reading_goes_on_after_piece : (t : Tables) (pieces : List OldOrNewLines) (read after : List Line) (i : ℕ) → i < length pieces → ArePiecesReadUpToNumber t pieces read i
    → ContinuesReadingLines None read after (line_texts_of_piece t (get_or pieces i empty_piece_of_old_rows)) → ArePiecesReadUpToNumber t pieces after (i + 1)
reading_goes_on_after_piece t pieces read after i less state on =
    reading_goes_on_after_texts (line_texts_of_pieces t pieces) read after _ (line_texts_of_piece t (get_or pieces i empty_piece_of_old_rows)) (line_texts_of_pieces t (drop (i + 1) pieces)) (lines_of_pieces_are_those_of_first_and_later t pieces i less) state on

-- a piece whose line does not parse
pub faulty_piece_ends_reading : (t : Tables) (pieces : List OldOrNewLines) (read after : List Line) (i : ℕ) (fault : SyntaxFault) → i < length pieces → ArePiecesReadUpToNumber t pieces read i
    → ContinuesReadingLines (Some fault) read after (line_texts_of_piece t (get_or pieces i empty_piece_of_old_rows)) → (let r : LinesAndSyntaxFault = (after, Some fault) in r) ≡ lines_parsed_until_fault [] (line_texts_of_pieces t pieces)
faulty_piece_ends_reading t pieces read after i fault less state stops =
    faulty_text_ends_reading (line_texts_of_pieces t pieces) read after _ (line_texts_of_piece t (get_or pieces i empty_piece_of_old_rows)) (line_texts_of_pieces t (drop (i + 1) pieces)) fault (lines_of_pieces_are_those_of_first_and_later t pieces i less) state stops

-- all pieces are read
pub pieces_read_to_end_are_outcome : (t : Tables) (pieces : List OldOrNewLines) (read : List Line) (i : ℕ) → drop i pieces ≡ [] → ArePiecesReadUpToNumber t pieces read i
    → (let r : LinesAndSyntaxFault = (read, None) in r) ≡ lines_parsed_until_fault [] (line_texts_of_pieces t pieces)
pieces_read_to_end_are_outcome t pieces read i none state = texts_read_to_end_are_outcome (line_texts_of_pieces t pieces) read (line_texts_of_pieces t (drop i pieces)) (ap (line_texts_of_pieces t) none) state

-- ---- the outcome of the text

-- lines that are each one logical line within the limit
pub short_logical_lines_are_cut_as_themselves : ((text : List ℕ) → IsLogicalLine text → is_logical_line text ≡ true)
    → ((line : List ℕ) → is_logical_line line ≡ true → length line ≤ line_limit → cut_outcome_of_text line ≡ Ok (line ∷ []))
    → (ls : List (List ℕ)) → AllByRecursion IsLogicalLine ls → AreWithinLineLimit ls → EachIsOneLineWhenCut ls
short_logical_lines_are_cut_as_themselves is alone [] whole short = tt
short_logical_lines_are_cut_as_themselves is alone (line ∷ ls) whole short = (alone line (is line whole.0) short.0, short_logical_lines_are_cut_as_themselves is alone ls whole.1 short.1)

-- lines that stand alone
pub lines_cut_as_themselves_are_within_limit : ((line : List ℕ) → cut_outcome_of_text line ≡ Ok (line ∷ []) → (0 < length line) × (length line ≤ line_limit)) → (ls : List (List ℕ)) → EachIsOneLineWhenCut ls → AreWithinLineLimit ls
lines_cut_as_themselves_are_within_limit size [] alone = tt
lines_cut_as_themselves_are_within_limit size (line ∷ ls) alone = ((size line alone.0).1, lines_cut_as_themselves_are_within_limit size ls alone.1)
