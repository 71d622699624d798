-- What a loop over a list keeps: the rows so far, and what is left to read.
use Rattle.std.proofs.Common.{◌≡◌, Ok, Err, Bool, true, false, List, [], ◌∷◌, ◌++◌, map, length, refl, sym, ap, ◌∙◌, append_assoc, append-nil, length-append, arith}
use Rattle.std.specs.Prelude.{slice_range}
use Rattle.std.proofs.lemmas.List.{map-append}
use Rattle.sudoers_grammar.specs.Piece.{TokenWithBytes}
use Rattle.sudoers_line_rows.specs.declared.rows.Tables.{Tables}
use Rattle.sudoers_line_rows.specs.declared.rows.RowRange.{RowRange}
use Rattle.sudoers_line_reader.specs.declared.cursor.HaltCause.{HaltCause}
use Rattle.sudoers_line_reader.specs.declared.cursor.HaltCause.TheVariants.{Fault, NoMemory}
use Rattle.sudoers_line_reader.specs.Reader.{Read, TokenReader, ReaderConsumesTokens, is_next_token, repetition_reader, snoc}
use Rattle.sudoers_line_rows.specs.Tables.{IsExtendedList, TablesHaveGrown, RowMeaningLasts, IsRowRangeFromTo, values_of_row_range}
use Rattle.sudoers_line_reader.specs.internal.Answer.{RowReadsAsOutcome}
use Rattle.sudoers_line_reader.proofs.Repeats.{next_read, next_halt, next_none}
use Rattle.sudoers_line_rows.proofs.Growth.{tables_have_grown_from_themselves, table_growth_is_transitive, appended_rows_stand_in_their_range}

-- The rows stand in the range of the table.
pub record AreRowsOfRange {R : Type 0} (table : List R) (range : RowRange) (rows : List R) : Type 0 where
  pub before : List R
  pub behind : List R
  pub whole : table ≡ (before ++ rows) ++ behind
  pub from : range.from ≡ length before
  pub to : range.to ≡ length (before ++ rows)

pub appended_row_is_row_of_range : {R : Type 0} (old new : List R) (range : RowRange) (row : R) → new ≡ old ++ row ∷ [] → IsRowRangeFromTo range (length old) (length new) → AreRowsOfRange new range (row ∷ [])
appended_row_is_row_of_range old new range row kept is = record {
  before = old;
  behind = [];
  whole = kept ∙ sym (append-nil (old ++ row ∷ []));
  from = is.0;
  to = is.1 ∙ ap length kept;
}

pub rows_stand_in_range_of_longer_table : {R : Type 0} {table : List R} {range : RowRange} {rows : List R} (stand : AreRowsOfRange table range rows) (longer : List R) → IsExtendedList table longer → slice_range longer range.from range.to ≡ rows
rows_stand_in_range_of_longer_table {R} {table} {range} {rows} stand longer (more, e) =
    appended_rows_stand_in_their_range stand.before (stand.before ++ rows) longer rows range.from range.to refl stand.from stand.to
    (stand.behind ++ more, e ∙ ap (λ (l : List R). l ++ more) stand.whole ∙ append_assoc (stand.before ++ rows) stand.behind more)

list_without_length_is_empty : {R : Type 0} (xs : List R) → length xs ≡ 0 → xs ≡ []
list_without_length_is_empty [] e = refl
list_without_length_is_empty (x ∷ xs) e = absurd (omega arith)

-- one row more, directly behind them
pub row_behind_rows_joins_them : {R : Type 0} (table longer new : List R) (range kept joined : RowRange) (rows : List R) (row : R) → AreRowsOfRange table range rows → IsExtendedList table longer → new ≡ longer ++ row ∷ [] → IsRowRangeFromTo kept (length longer) (length new) → range.to ≡ kept.from → joined.from ≡ range.from → joined.to ≡ kept.to → AreRowsOfRange new joined (rows ++ row ∷ [])
row_behind_rows_joins_them {R} table longer new range kept joined rows row stand (more, e) appended is next from to =
    let parts : longer ≡ (stand.before ++ rows) ++ (stand.behind ++ more) = e ∙ ap (λ (l : List R). l ++ more) stand.whole ∙ append_assoc (stand.before ++ rows) stand.behind more in
    let none : stand.behind ++ more ≡ [] = list_without_length_is_empty (stand.behind ++ more) (omega (arith, ap length parts, length-append (stand.before ++ rows) (stand.behind ++ more), is.0, next, stand.to)) in
    let all : longer ≡ stand.before ++ rows = parts ∙ ap (λ (l : List R). (stand.before ++ rows) ++ l) none ∙ append-nil (stand.before ++ rows) in
    let whole : new ≡ stand.before ++ (rows ++ row ∷ []) = appended ∙ ap (λ (l : List R). l ++ row ∷ []) all ∙ append_assoc stand.before rows (row ∷ []) in
    record {
      before = stand.before;
      behind = [];
      whole = whole ∙ sym (append-nil (stand.before ++ (rows ++ row ∷ [])));
      from = from ∙ stand.from;
      to = to ∙ is.1 ∙ ap length whole;
    }

-- acc: what was read before the loop, in these tables
pub record IsRepetitionReadSoFar {R X : Type 0} (view : Tables → R → X) (begins : TokenWithBytes → Bool) (p : TokenReader X) (acc : List X) (begun : Tables) (all : List TokenWithBytes) (now : Tables) (left : List TokenWithBytes) (rows : List R) : Type 0 where
  pub reads : repetition_reader snoc begins p acc all ≡ repetition_reader snoc begins p (map (view now) rows) left
  pub lasts : (u : Tables) → TablesHaveGrown now u → map (view u) rows ≡ map (view now) rows
  pub grown : TablesHaveGrown begun now

-- One row was read before the loop.
pub one_row_is_read : {R X : Type 0} (view : Tables → R → X) (begins : TokenWithBytes → Bool) (p : TokenReader X) (t : Tables) (all : List TokenWithBytes) (row : R) (rows : List R) → RowMeaningLasts view t row → rows ≡ row ∷ [] → IsRepetitionReadSoFar view begins p (view t row ∷ []) t all t all rows
one_row_is_read view begins p t all row rows lasts is = record {
  reads = ap (λ rs. repetition_reader snoc begins p (map (view t) rs) all) (sym is);
  lasts = λ u later. ap (map (view u)) is ∙ ap (λ x. x ∷ []) (lasts u later) ∙ ap (map (view t)) (sym is);
  grown = tables_have_grown_from_themselves t;
}

-- Nothing was read before the row that halts.
pub first_row_halts : {R X S : Type 0} (view : Tables → R → X) (begins : TokenWithBytes → Bool) (p : TokenReader X) → ReaderConsumesTokens p → (lists : Tables → S → List X) (all : List TokenWithBytes) (next : Tables) (end : List TokenWithBytes) (h : HaltCause)
    → is_next_token begins all ≡ true → RowReadsAsOutcome (p all) view next (Err h) end → RowReadsAsOutcome (repetition_reader snoc begins p [] all) lists next (Err h) end
first_row_halts view begins p sh lists all next end Fault c e = next_halt snoc begins p sh [] all end c e
first_row_halts view begins p sh lists all next end NoMemory c e = tt

module _ {R X : Type 0} {view : Tables → R → X} {begins : TokenWithBytes → Bool} {p : TokenReader X} {acc : List X} {begun : Tables} {all : List TokenWithBytes} {now : Tables} {left : List TokenWithBytes} {rows : List R} (sh : ReaderConsumesTokens p) (so : IsRepetitionReadSoFar view begins p acc begun all now left rows) where
  pub next_taken : (next : Tables) (behind_it : List TokenWithBytes) (row : R) → is_next_token begins left ≡ true → p left ≡ Read (view next row) behind_it → RowMeaningLasts view next row → TablesHaveGrown now next → IsRepetitionReadSoFar view begins p acc begun all next behind_it (rows ++ row ∷ [])
  next_taken next behind_it row c e lasts g = record {
    reads = so.reads
        ∙ next_read snoc begins p sh (map (view now) rows) (view next row) left behind_it c e
        ∙ ap (λ xs. repetition_reader snoc begins p (xs ++ view next row ∷ []) behind_it) (sym (so.lasts next g))
        ∙ ap (λ xs. repetition_reader snoc begins p xs behind_it) (sym (map-append (view next) rows (row ∷ [])));
    lasts = λ u later. map-append (view u) rows (row ∷ [])
        ∙ ap (λ xs. xs ++ view u row ∷ []) (so.lasts u (table_growth_is_transitive now next u g later) ∙ sym (so.lasts next g))
        ∙ ap (λ x. map (view next) rows ++ x ∷ []) (lasts u later)
        ∙ sym (map-append (view next) rows (row ∷ []));
    grown = table_growth_is_transitive begun now next so.grown g;
  }

  pub next_halted : {S : Type 0} (lists : Tables → S → List X) (next : Tables) (end : List TokenWithBytes) (h : HaltCause) → is_next_token begins left ≡ true → RowReadsAsOutcome (p left) view next (Err h) end → RowReadsAsOutcome (repetition_reader snoc begins p acc all) lists next (Err h) end
  next_halted lists next end Fault c e = so.reads ∙ next_halt snoc begins p sh (map (view now) rows) left end c e
  next_halted lists next end NoMemory c e = tt

  -- The tables grow.
  pub tables_grown : (next : Tables) → TablesHaveGrown now next → IsRepetitionReadSoFar view begins p acc begun all next left rows
  tables_grown next g = record {
    reads = so.reads ∙ ap (λ xs. repetition_reader snoc begins p xs left) (sym (so.lasts next g));
    lasts = λ u later. so.lasts u (table_growth_is_transitive now next u g later) ∙ sym (so.lasts next g);
    grown = table_growth_is_transitive begun now next so.grown g;
  }

  -- The rows stand in their table.
  pub all_stand : (rows_of : Tables → List R) → ((t u : Tables) → TablesHaveGrown t u → IsExtendedList (rows_of t) (rows_of u)) → (r : RowRange) → is_next_token begins left ≡ false → AreRowsOfRange (rows_of now) r rows
      → RowReadsAsOutcome (repetition_reader snoc begins p acc all) (λ t. values_of_row_range (rows_of t) (view t)) now (Ok r) left
  all_stand rows_of grows r c stand =
      let holds : (u : Tables) → TablesHaveGrown now u → values_of_row_range (rows_of u) (view u) r ≡ map (view u) rows =
      λ u h. ap (map (view u)) (rows_stand_in_range_of_longer_table stand (rows_of u) (grows now u h)) in
      let here = sym (holds now (tables_have_grown_from_themselves now)) in (
        so.reads ∙ next_none snoc begins p sh (map (view now) rows) left c ∙ ap (λ xs. Read xs left) here,
        λ u h. holds u h ∙ so.lasts u h ∙ here,
      )

-- What a loop keeps that appends each row to its table.
pub record IsListReadSoFar {R X : Type 0} (view : Tables → R → X) (begins : TokenWithBytes → Bool) (p : TokenReader X) (acc : List X) (begun : Tables) (all : List TokenWithBytes) (now : Tables) (left : List TokenWithBytes) (table : List R) (range : RowRange) : Type 0 where
  pub rows : List R
  pub so : IsRepetitionReadSoFar view begins p acc begun all now left rows
  pub stand : AreRowsOfRange table range rows
