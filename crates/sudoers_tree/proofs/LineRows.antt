-- The physical lines on which the lines of a file begin.
use Rattle.sudoers_tree.proofs.Common.{Line, List, Some, [], ap, arith, drop, get_or_from_slice_get, join, length, length-append, lf_count, map-append, min, physical_line_after_bytes, physical_line_of_file_line}
use Rattle.sudoers_tree.proofs.Common.{slice_get, slice_get_within, suc, sym, take, take-append-drop, take_all, take_more, text_limit, texts_of_lines, zero, ℕ, ◌*◌, ◌++◌, ◌+◌, ◌∙◌, ◌∷◌, ◌≡◌, ◌≤◌}
use Rattle.sudoers_tree.proofs.Joined.{join_of_appended_lines_is_appended, join_with_last_line_appends_its_text, lf_count_adds_over_append}
use Rattle.sudoers_tree.proofs.LineEnds.{lf_count_is_at_most_length}
use Rattle.sudoers_tree.proofs.Numbered.{drop_begins_with_numbered_item}

-- the physical line after one more line
physical_line_after_line_adds_its_lf_count : (before : List Line) (line : Line) (row more : ℕ) → row ≡ physical_line_after_bytes (join (texts_of_lines before)) → more ≡ lf_count line.text
    → row + more ≡ physical_line_after_bytes (join (texts_of_lines (before ++ line ∷ [])))
physical_line_after_line_adds_its_lf_count before line row more is count =
    let behind : lf_count (join (texts_of_lines (before ++ line ∷ []))) ≡ lf_count (join (texts_of_lines before)) + lf_count line.text =
    ap lf_count (join_with_last_line_appends_its_text before line) ∙ lf_count_adds_over_append (join (texts_of_lines before)) line.text in
    omega (arith, is, count, behind)

-- the physical line of the next line
pub physical_line_of_next_line_adds_lf_count : (lines : List Line) (n row lfs : ℕ) (line : Line) → slice_get lines n ≡ Some line → row ≡ physical_line_of_file_line lines n → lfs ≡ lf_count line.text
    → row + lfs ≡ physical_line_of_file_line lines (n + 1)
physical_line_of_next_line_adds_lf_count lines n row lfs line at is count =
    let more : take (n + 1) lines ≡ take n lines ++ line ∷ [] =
    take_more lines n line (slice_get_within lines n line at) ∙ ap (λ x. take n lines ++ x ∷ []) (get_or_from_slice_get lines n line line at) in
    physical_line_after_line_adds_its_lf_count (take n lines) line row lfs is count ∙ ap (λ ls. physical_line_after_bytes (join (texts_of_lines ls))) (sym more)

-- It is within the limit.
pub physical_line_of_next_line_is_within_limit : (lines : List Line) (n row lfs : ℕ) (line : Line) → slice_get lines n ≡ Some line → row ≡ physical_line_of_file_line lines n → lfs ≡ lf_count line.text
    → length (join (texts_of_lines lines)) ≤ text_limit → row + lfs ≤ 1048577
physical_line_of_next_line_is_within_limit lines n row lfs line at is count fits =
    let front = join (texts_of_lines (take (n + 1) lines)) in
    let behind = join (texts_of_lines (drop (n + 1) lines)) in
    let whole : length (join (texts_of_lines lines)) ≡ length (front ++ behind) =
    ap length (ap (λ ls. join (texts_of_lines ls)) (sym (take-append-drop (n + 1) lines))
    ∙ ap join (map-append (λ (l : Line). l.text) (take (n + 1) lines) (drop (n + 1) lines))
    ∙ join_of_appended_lines_is_appended (texts_of_lines (take (n + 1) lines)) (texts_of_lines (drop (n + 1) lines))) in
    omega (arith, physical_line_of_next_line_adds_lf_count lines n row lfs line at is count, lf_count_is_at_most_length front, whole, length-append front behind, fits)

-- The row on which a line begins and the length of its text together are at most twice the limit of a text, plus one.
pub physical_line_plus_line_length_is_bounded : (lines : List Line) (n : ℕ) (line : Line) → slice_get lines n ≡ Some line → length (join (texts_of_lines lines)) ≤ text_limit
    → physical_line_of_file_line lines n + length line.text ≤ 2 * text_limit + 1
physical_line_plus_line_length_is_bounded lines n line at fits =
    let front = join (texts_of_lines (take n lines)) in
    let behind = join (texts_of_lines (drop (n + 1) lines)) in
    let whole : length (join (texts_of_lines lines)) ≡ length (front ++ (line.text ++ behind)) =
    ap length (ap (λ ls. join (texts_of_lines ls)) (sym (take-append-drop n lines))
    ∙ ap (λ ls. join (texts_of_lines (take n lines ++ ls))) (drop_begins_with_numbered_item lines n line at)
    ∙ ap join (map-append (λ (l : Line). l.text) (take n lines) (line ∷ drop (n + 1) lines))
    ∙ join_of_appended_lines_is_appended (texts_of_lines (take n lines)) (texts_of_lines (line ∷ drop (n + 1) lines))) in
    omega (arith, lf_count_is_at_most_length front, whole, length-append front (line.text ++ behind), length-append line.text behind, fits)

-- For a number past the last line it is the physical line after all of them.
pub physical_line_past_last_is_that_after_all : (lines : List Line) (n k : ℕ) → k ≡ min n (length lines) → physical_line_of_file_line lines k ≡ physical_line_of_file_line lines n
physical_line_past_last_is_that_after_all lines n k is = ap (λ ls. physical_line_after_bytes (join (texts_of_lines ls))) (taken lines n k is)
  where
    taken : (xs : List Line) (n k : ℕ) → k ≡ min n (length xs) → take k xs ≡ take n xs
    taken [] n k is = take_all k [] (omega arith) ∙ sym (take_all n [] (omega arith))
    taken (x ∷ xs) zero k is =
        let none : k ≡ 0 = omega (arith, is) in ap (λ j. take j (x ∷ xs)) none
    taken (x ∷ xs) (suc n) zero is = absurd (omega (arith, is))
    taken (x ∷ xs) (suc n) (suc k) is = ap (λ ys. x ∷ ys) (taken xs n k (omega (arith, is)))
