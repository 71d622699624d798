-- The lines of pieces.
use Rattle.sudoers_tree.proofs.Common.{All, All-drop, All-head, All-tail, All-take, AreChangesInOrder, AreKeptPieces, AreWithinLineLimit, HasKeptRows, IsKeptRow, Line, LineChange, LineRow, List, Old, OldOrNewLines}
use Rattle.sudoers_tree.proofs.Common.{Put, Swap, Tables, Take, [], ap, append-nil, append_assoc, arith, byte_count_of_lines, drop, drop-drop, drop-map, drop_more, get_or, join, length, length-append, length-drop}
use Rattle.sudoers_tree.proofs.Common.{length-map, lf_count, lf_count_of_lines, line_number_of_change, line_of_row, line_texts_of_piece, line_texts_of_pieces, lines_changed_from_number, map}
use Rattle.sudoers_tree.proofs.Common.{min_line_number_after_change, option_to_list, subst, suc, sym, take, take-map, take_all, text_of_change, texts_of_lines, zero, ℕ, ◌++◌, ◌+◌, ◌-◌, ◌<◌, ◌∙◌, ◌∷◌, ◌≡◌, ◌≤◌}
use Rattle.std.proofs.lemmas.Grind.{flat_map-append}
use Rattle.sudoers_tree.proofs.Joined.{lf_count_adds_over_append}
use Rattle.sudoers_tree.proofs.ChangedLines.{first_change_splits_changed_lines, ordered_changes_begin_within_count}

pub lines_of_pieces_with_last_are_appended : (t : Tables) (ps : List OldOrNewLines) (p : OldOrNewLines) → line_texts_of_pieces t (ps ++ p ∷ []) ≡ line_texts_of_pieces t ps ++ line_texts_of_piece t p
lines_of_pieces_with_last_are_appended t ps p = flat_map-append (line_texts_of_piece t) ps (p ∷ []) ∙ ap (λ ls. line_texts_of_pieces t ps ++ ls) (append-nil (line_texts_of_piece t p))

-- the texts of the rows from the number n on
abbrev pub texts_of_rows_from_number : Tables → List LineRow → ℕ → List (List ℕ)
texts_of_rows_from_number t rows n = texts_of_lines (map (line_of_row t) (drop n rows))

first_texts_of_rows_are_those_of_first_rows : (t : Tables) (k : ℕ) (rows : List LineRow) → take k (texts_of_lines (map (line_of_row t) rows)) ≡ texts_of_lines (map (line_of_row t) (take k rows))
first_texts_of_rows_are_those_of_first_rows t k rows = take-map (λ (l : Line). l.text) k (map (line_of_row t) rows) ∙ ap texts_of_lines (take-map (line_of_row t) k rows)

later_texts_of_rows_are_those_of_later_rows : (t : Tables) (k : ℕ) (rows : List LineRow) → drop k (texts_of_lines (map (line_of_row t) rows)) ≡ texts_of_lines (map (line_of_row t) (drop k rows))
later_texts_of_rows_are_those_of_later_rows t k rows = drop-map (λ (l : Line). l.text) k (map (line_of_row t) rows) ∙ ap texts_of_lines (drop-map (line_of_row t) k rows)

number_and_later_text_count_are_row_count : (t : Tables) (n : ℕ) (rows : List LineRow) → n ≤ length rows → n + length (texts_of_rows_from_number t rows n) ≡ length rows
number_and_later_text_count_are_row_count t n rows within =
    omega (arith, within, length-map (map (line_of_row t) (drop n rows)) (λ (l : Line). l.text), length-map (drop n rows) (line_of_row t), length-drop n rows)

-- A change is appended.
pub appended_change_keeps_changed_lines : (t : Tables) (rows : List LineRow) (n : ℕ) (c : LineChange) (cs : List LineChange) (old new : List OldOrNewLines) → AreChangesInOrder n (c ∷ cs) (length rows)
    → line_texts_of_pieces t new ≡ line_texts_of_pieces t old ++ (texts_of_lines (map (line_of_row t) (take (line_number_of_change c - n) (drop n rows))) ++ option_to_list (text_of_change c))
    → line_texts_of_pieces t new ++ lines_changed_from_number (min_line_number_after_change c) cs (texts_of_rows_from_number t rows (min_line_number_after_change c))
    ≡ line_texts_of_pieces t old ++ lines_changed_from_number n (c ∷ cs) (texts_of_rows_from_number t rows n)
appended_change_keeps_changed_lines t rows n c cs old new order is =
    let front : List (List ℕ) = texts_of_lines (map (line_of_row t) (take (line_number_of_change c - n) (drop n rows))) in
    let text : List (List ℕ) = option_to_list (text_of_change c) in
    let next : List (List ℕ) = lines_changed_from_number (min_line_number_after_change c) cs (texts_of_rows_from_number t rows (min_line_number_after_change c)) in
    let within : n ≤ length rows = ordered_changes_begin_within_count n (c ∷ cs) (length rows) order in
    let behind : drop (min_line_number_after_change c - n) (texts_of_rows_from_number t rows n) ≡ texts_of_rows_from_number t rows (min_line_number_after_change c) =
    later_texts_of_rows_are_those_of_later_rows t (min_line_number_after_change c - n) (drop n rows)
    ∙ ap (λ rs. texts_of_lines (map (line_of_row t) rs)) (drop-drop (min_line_number_after_change c - n) n rows)
    ∙ ap (texts_of_rows_from_number t rows) (forward c order.0) in
    ap (λ ls. ls ++ next) is
    ∙ append_assoc (line_texts_of_pieces t old) (front ++ text) next
    ∙ ap (λ ls. line_texts_of_pieces t old ++ ls) (append_assoc front text next)
    ∙ sym (ap (λ ls. line_texts_of_pieces t old ++ ls) (first_change_splits_changed_lines n c cs (length rows) (texts_of_rows_from_number t rows n) (number_and_later_text_count_are_row_count t n rows within) order
    ∙ ap (λ ls. ls ++ (text ++ lines_changed_from_number (min_line_number_after_change c) cs (drop (min_line_number_after_change c - n) (texts_of_rows_from_number t rows n)))) (first_texts_of_rows_are_those_of_first_rows t (line_number_of_change c - n) (drop n rows))
    ∙ ap (λ ls. front ++ (text ++ lines_changed_from_number (min_line_number_after_change c) cs ls)) behind))
  where
    forward : (c : LineChange) → n ≤ line_number_of_change c → n + (min_line_number_after_change c - n) ≡ min_line_number_after_change c
    forward (Put file at text) h = omega (arith, h)
    forward (Swap file at text) h = omega (arith, h)
    forward (Take file at) h = omega (arith, h)

pub line_number_of_change_is_within_count : (n : ℕ) (c : LineChange) (cs : List LineChange) (count : ℕ) → AreChangesInOrder n (c ∷ cs) count → line_number_of_change c ≤ count
line_number_of_change_is_within_count n (Put file at text) cs count is = ordered_changes_begin_within_count at cs count is.1
line_number_of_change_is_within_count n (Swap file at text) cs count is = omega (arith, ordered_changes_begin_within_count (at + 1) cs count is.1)
line_number_of_change_is_within_count n (Take file at) cs count is = omega (arith, ordered_changes_begin_within_count (at + 1) cs count is.1)

pub texts_of_taken_rows_are_texts_from_number : (t : Tables) (rows : List LineRow) (n count : ℕ) → count ≡ length rows → texts_of_lines (map (line_of_row t) (take (count - n) (drop n rows))) ≡ texts_of_rows_from_number t rows n
texts_of_taken_rows_are_texts_from_number t rows n count is = ap (λ rs. texts_of_lines (map (line_of_row t) rs)) (take_all (count - n) (drop n rows) (omega (arith, is, length-drop n rows)))

-- the items from the one with this number on
pub drop_is_item_and_next_drop : {X : Type 0} (xs : List X) (i : ℕ) (x : X) → i < length xs → x ≡ get_or xs i x → drop i xs ≡ x ∷ drop (i + 1) xs
drop_is_item_and_next_drop xs i x less is = drop_more xs i x less ∙ ap (λ y. y ∷ drop (i + 1) xs) (sym is)

pub remaining_changes_stay_in_order : (changes : List LineChange) (i : ℕ) (c : LineChange) (n count : ℕ) → i < length changes → c ≡ get_or changes i c → AreChangesInOrder n (drop i changes) count
    → AreChangesInOrder n (c ∷ drop (i + 1) changes) count
remaining_changes_stay_in_order changes i c n count less is order = subst (λ cs. AreChangesInOrder n cs count) (drop_is_item_and_next_drop changes i c less is) order

pub line_number_after_change_is_within_count : (n : ℕ) (c : LineChange) (cs : List LineChange) (count : ℕ) → AreChangesInOrder n (c ∷ cs) count → min_line_number_after_change c ≤ count
line_number_after_change_is_within_count n c cs count is = ordered_changes_begin_within_count (min_line_number_after_change c) cs count is.1

-- the default of a list of pieces
abbrev pub empty_piece_of_old_rows : OldOrNewLines
empty_piece_of_old_rows = Old (record { ref_ptr = (0, 0); now = [] })

-- the pieces from the one with this number on
pub lines_of_pieces_are_those_of_first_and_later : (t : Tables) (pieces : List OldOrNewLines) (i : ℕ) → i < length pieces
    → line_texts_of_pieces t (drop i pieces) ≡ line_texts_of_piece t (get_or pieces i empty_piece_of_old_rows) ++ line_texts_of_pieces t (drop (i + 1) pieces)
lines_of_pieces_are_those_of_first_and_later t pieces i less = ap (line_texts_of_pieces t) (drop_more pieces i empty_piece_of_old_rows less)

-- ---- kept rows

pub appended_piece_keeps_pieces_kept : (t : Tables) (ps : List OldOrNewLines) (p : OldOrNewLines) → AreKeptPieces t ps → HasKeptRows t p → AreKeptPieces t (ps ++ p ∷ [])
appended_piece_keeps_pieces_kept t [] p all is = (is, tt)
appended_piece_keeps_pieces_kept t (q ∷ ps) p all is = (all.0, appended_piece_keeps_pieces_kept t ps p all.1 is)

pub part_of_kept_rows_is_kept : (t : Tables) (rows : List LineRow) (n k : ℕ) → All (IsKeptRow t) rows → All (IsKeptRow t) (take k (drop n rows))
part_of_kept_rows_is_kept t rows n k all = All-take (IsKeptRow t) k (drop n rows) (All-drop (IsKeptRow t) n rows all)

pub numbered_piece_has_kept_rows : (t : Tables) (ps : List OldOrNewLines) (i : ℕ) → i < length ps → AreKeptPieces t ps → HasKeptRows t (get_or ps i empty_piece_of_old_rows)
numbered_piece_has_kept_rows t [] i less all = absurd (omega (arith, less))
numbered_piece_has_kept_rows t (p ∷ ps) zero less all = all.0
numbered_piece_has_kept_rows t (p ∷ ps) (suc i) less all = numbered_piece_has_kept_rows t ps i (omega (arith, less)) all.1

-- ---- bytes and line ends

pub byte_count_of_lines_is_length_of_join : (lines : List (List ℕ)) → byte_count_of_lines lines ≡ length (join lines)
byte_count_of_lines_is_length_of_join [] = omega arith
byte_count_of_lines_is_length_of_join (line ∷ lines) = omega (arith, byte_count_of_lines_is_length_of_join lines, length-append line (join lines))

pub lf_count_of_lines_is_that_of_join : (lines : List (List ℕ)) → lf_count_of_lines lines ≡ lf_count (join lines)
lf_count_of_lines_is_that_of_join [] = omega arith
lf_count_of_lines_is_that_of_join (line ∷ lines) = omega (arith, lf_count_of_lines_is_that_of_join lines, lf_count_adds_over_append line (join lines))

pub byte_count_of_lines_adds_over_append : (xs ys : List (List ℕ)) → byte_count_of_lines (xs ++ ys) ≡ byte_count_of_lines xs + byte_count_of_lines ys
byte_count_of_lines_adds_over_append [] ys = omega arith
byte_count_of_lines_adds_over_append (x ∷ xs) ys = omega (arith, byte_count_of_lines_adds_over_append xs ys)

pub appended_lines_are_within_line_limit : (xs ys : List (List ℕ)) → AreWithinLineLimit xs → AreWithinLineLimit ys → AreWithinLineLimit (xs ++ ys)
appended_lines_are_within_line_limit [] ys some more = more
appended_lines_are_within_line_limit (x ∷ xs) ys some more = (some.0, appended_lines_are_within_line_limit xs ys some.1 more)

pub texts_of_kept_rows_are_within_line_limit : (t : Tables) (rows : List LineRow) → All (IsKeptRow t) rows → AreWithinLineLimit (texts_of_lines (map (line_of_row t) rows))
texts_of_kept_rows_are_within_line_limit t [] all = tt
texts_of_kept_rows_are_within_line_limit t (row ∷ rows) all = ((All-head (IsKeptRow t) row rows all).short, texts_of_kept_rows_are_within_line_limit t rows (All-tail (IsKeptRow t) row rows all))
