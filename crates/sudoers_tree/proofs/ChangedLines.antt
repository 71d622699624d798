-- Lines after changes: stretch by stretch.
use Rattle.sudoers_tree.proofs.Common.{AllByRecursion, AreChangesInOrder, Bool, IsLogicalLine, LineChange, List, Put, Swap, Take, [], ap, arith, drop, eq-eqb, false, if◌then◌else◌, insert, length, line_after_changes}
use Rattle.sudoers_tree.proofs.Common.{line_number_of_change, lines_after_changes, lines_changed_from_number, lines_with_one_replaced, min_line_number_after_change, ne_eqb, option_to_list, refl, remove, suc, take}
use Rattle.sudoers_tree.proofs.Common.{text_of_change, texts_of_changes, texts_put_before_line, true, zero, ℕ, ◌++◌, ◌+◌, ◌-◌, ◌<◌, ◌==◌, ◌∙◌, ◌∷◌, ◌≡◌, ◌≤◌}

smaller_number_is_not_equal : (at n : ℕ) → n < at → (at == n) ≡ false
smaller_number_is_not_equal at n before = ne_eqb at n (λ is. omega (arith, before, is))

larger_number_is_not_equal : (at n : ℕ) → at < n → (at == n) ≡ false
larger_number_is_not_equal at n before = ne_eqb at n (λ is. omega (arith, before, is))

number_equals_itself : (n : ℕ) → (n == n) ≡ true
number_equals_itself n = eq-eqb n n refl

-- no place is past the end
pub ordered_changes_begin_within_count : (n : ℕ) (cs : List LineChange) (count : ℕ) → AreChangesInOrder n cs count → n ≤ count
ordered_changes_begin_within_count n [] count is = is
ordered_changes_begin_within_count n (Put file at text ∷ cs) count is = omega (arith, is.0, ordered_changes_begin_within_count at cs count is.1)
ordered_changes_begin_within_count n (Swap file at text ∷ cs) count is = omega (arith, is.0, ordered_changes_begin_within_count (at + 1) cs count is.1)
ordered_changes_begin_within_count n (Take file at ∷ cs) count is = omega (arith, is.0, ordered_changes_begin_within_count (at + 1) cs count is.1)

-- ---- before the first place

nothing_is_put_before_first_change : (n m : ℕ) (cs : List LineChange) (count : ℕ) → n < m → AreChangesInOrder m cs count → texts_put_before_line n cs ≡ []
nothing_is_put_before_first_change n m [] count h is = refl
nothing_is_put_before_first_change n m (Put file at text ∷ cs) count h is =
    ap (λ b. if b then text ∷ texts_put_before_line n cs else texts_put_before_line n cs) (smaller_number_is_not_equal at n (omega (arith, h, is.0)))
    ∙ nothing_is_put_before_first_change n at cs count (omega (arith, h, is.0)) is.1
nothing_is_put_before_first_change n m (Swap file at text ∷ cs) count h is = nothing_is_put_before_first_change n (at + 1) cs count (omega (arith, h, is.0)) is.1
nothing_is_put_before_first_change n m (Take file at ∷ cs) count h is = nothing_is_put_before_first_change n (at + 1) cs count (omega (arith, h, is.0)) is.1

line_before_first_change_is_unchanged : (n m : ℕ) (cs : List LineChange) (count : ℕ) (line : List ℕ) → n < m → AreChangesInOrder m cs count → line_after_changes n cs line ≡ line ∷ []
line_before_first_change_is_unchanged n m [] count line h is = refl
line_before_first_change_is_unchanged n m (Put file at text ∷ cs) count line h is = line_before_first_change_is_unchanged n at cs count line (omega (arith, h, is.0)) is.1
line_before_first_change_is_unchanged n m (Swap file at text ∷ cs) count line h is =
    ap (λ b. if b then text ∷ [] else line_after_changes n cs line) (smaller_number_is_not_equal at n (omega (arith, h, is.0)))
    ∙ line_before_first_change_is_unchanged n (at + 1) cs count line (omega (arith, h, is.0)) is.1
line_before_first_change_is_unchanged n m (Take file at ∷ cs) count line h is =
    ap (λ b. if b then [] else line_after_changes n cs line) (smaller_number_is_not_equal at n (omega (arith, h, is.0)))
    ∙ line_before_first_change_is_unchanged n (at + 1) cs count line (omega (arith, h, is.0)) is.1

lines_up_to_first_change_are_unchanged : (k n m : ℕ) (cs : List LineChange) (count : ℕ) (lines : List (List ℕ)) → m ≡ n + k → k ≤ length lines → AreChangesInOrder m cs count
    → lines_changed_from_number n cs lines ≡ take k lines ++ lines_changed_from_number m cs (drop k lines)
lines_up_to_first_change_are_unchanged zero n m cs count lines e within is = ap (λ i. lines_changed_from_number i cs lines) (omega (arith, e))
lines_up_to_first_change_are_unchanged (suc k) n m cs count [] e within is = absurd (omega (arith, within))
lines_up_to_first_change_are_unchanged (suc k) n m cs count (line ∷ lines) e within is =
    ap (λ ps. ps ++ (line_after_changes n cs line ++ lines_changed_from_number (n + 1) cs lines)) (nothing_is_put_before_first_change n m cs count (omega (arith, e)) is)
    ∙ ap (λ ls. ls ++ lines_changed_from_number (n + 1) cs lines) (line_before_first_change_is_unchanged n m cs count line (omega (arith, e)) is)
    ∙ ap (λ ls. line ∷ ls) (lines_up_to_first_change_are_unchanged k (n + 1) m cs count lines (omega (arith, e)) (omega (arith, within)) is)

-- ---- a change whose place is past

passed_put_changes_nothing : (file n at : ℕ) (text : List ℕ) (cs : List LineChange) (lines : List (List ℕ)) → at < n → lines_changed_from_number n (Put file at text ∷ cs) lines ≡ lines_changed_from_number n cs lines
passed_put_changes_nothing file n at text cs [] h = ap (λ b. if b then text ∷ texts_put_before_line n cs else texts_put_before_line n cs) (larger_number_is_not_equal at n h)
passed_put_changes_nothing file n at text cs (line ∷ lines) h =
    ap (λ b. (if b then text ∷ texts_put_before_line n cs else texts_put_before_line n cs) ++ (line_after_changes n cs line ++ lines_changed_from_number (n + 1) (Put file at text ∷ cs) lines)) (larger_number_is_not_equal at n h)
    ∙ ap (λ ls. texts_put_before_line n cs ++ (line_after_changes n cs line ++ ls)) (passed_put_changes_nothing file (n + 1) at text cs lines (omega (arith, h)))

passed_swap_changes_nothing : (file n at : ℕ) (text : List ℕ) (cs : List LineChange) (lines : List (List ℕ)) → at < n → lines_changed_from_number n (Swap file at text ∷ cs) lines ≡ lines_changed_from_number n cs lines
passed_swap_changes_nothing file n at text cs [] h = refl
passed_swap_changes_nothing file n at text cs (line ∷ lines) h =
    ap (λ b. texts_put_before_line n cs ++ ((if b then text ∷ [] else line_after_changes n cs line) ++ lines_changed_from_number (n + 1) (Swap file at text ∷ cs) lines)) (larger_number_is_not_equal at n h)
    ∙ ap (λ ls. texts_put_before_line n cs ++ (line_after_changes n cs line ++ ls)) (passed_swap_changes_nothing file (n + 1) at text cs lines (omega (arith, h)))

passed_take_changes_nothing : (file n at : ℕ) (cs : List LineChange) (lines : List (List ℕ)) → at < n → lines_changed_from_number n (Take file at ∷ cs) lines ≡ lines_changed_from_number n cs lines
passed_take_changes_nothing file n at cs [] h = refl
passed_take_changes_nothing file n at cs (line ∷ lines) h =
    ap (λ b. texts_put_before_line n cs ++ ((if b then [] else line_after_changes n cs line) ++ lines_changed_from_number (n + 1) (Take file at ∷ cs) lines)) (larger_number_is_not_equal at n h)
    ∙ ap (λ ls. texts_put_before_line n cs ++ (line_after_changes n cs line ++ ls)) (passed_take_changes_nothing file (n + 1) at cs lines (omega (arith, h)))

-- ---- a change at the place

put_at_number_adds_text : (file n : ℕ) (text : List ℕ) (cs : List LineChange) (lines : List (List ℕ)) → lines_changed_from_number n (Put file n text ∷ cs) lines ≡ text ∷ lines_changed_from_number n cs lines
put_at_number_adds_text file n text cs [] = ap (λ b. if b then text ∷ texts_put_before_line n cs else texts_put_before_line n cs) (number_equals_itself n)
put_at_number_adds_text file n text cs (line ∷ lines) =
    ap (λ b. (if b then text ∷ texts_put_before_line n cs else texts_put_before_line n cs) ++ (line_after_changes n cs line ++ lines_changed_from_number (n + 1) (Put file n text ∷ cs) lines)) (number_equals_itself n)
    ∙ ap (λ ls. text ∷ texts_put_before_line n cs ++ (line_after_changes n cs line ++ ls)) (passed_put_changes_nothing file (n + 1) n text cs lines (omega arith))

swap_at_number_replaces_line : (file n : ℕ) (text : List ℕ) (cs : List LineChange) (count : ℕ) (line : List ℕ) (lines : List (List ℕ)) → AreChangesInOrder (n + 1) cs count
    → lines_changed_from_number n (Swap file n text ∷ cs) (line ∷ lines) ≡ text ∷ lines_changed_from_number (n + 1) cs lines
swap_at_number_replaces_line file n text cs count line lines is =
    ap (λ ps. ps ++ ((if n == n then text ∷ [] else line_after_changes n cs line) ++ lines_changed_from_number (n + 1) (Swap file n text ∷ cs) lines)) (nothing_is_put_before_first_change n (n + 1) cs count (omega arith) is)
    ∙ ap (λ b. (if b then text ∷ [] else line_after_changes n cs line) ++ lines_changed_from_number (n + 1) (Swap file n text ∷ cs) lines) (number_equals_itself n)
    ∙ ap (λ ls. text ∷ ls) (passed_swap_changes_nothing file (n + 1) n text cs lines (omega arith))

take_at_number_removes_line : (file n : ℕ) (cs : List LineChange) (count : ℕ) (line : List ℕ) (lines : List (List ℕ)) → AreChangesInOrder (n + 1) cs count
    → lines_changed_from_number n (Take file n ∷ cs) (line ∷ lines) ≡ lines_changed_from_number (n + 1) cs lines
take_at_number_removes_line file n cs count line lines is =
    ap (λ ps. ps ++ ((if n == n then [] else line_after_changes n cs line) ++ lines_changed_from_number (n + 1) (Take file n ∷ cs) lines)) (nothing_is_put_before_first_change n (n + 1) cs count (omega arith) is)
    ∙ ap (λ b. (if b then [] else line_after_changes n cs line) ++ lines_changed_from_number (n + 1) (Take file n ∷ cs) lines) (number_equals_itself n)
    ∙ passed_take_changes_nothing file (n + 1) n cs lines (omega arith)

-- ---- the first change: the lines up to its place, what it brings, and the lines behind

-- the line at a place, and the lines behind it
drop_within_list_has_first_item : {X : Type 0} (k : ℕ) (xs : List X) → k < length xs → (x : X) × (drop k xs ≡ x ∷ drop (suc k) xs)
drop_within_list_has_first_item zero [] h = absurd (omega (arith, h))
drop_within_list_has_first_item zero (x ∷ xs) h = (x, refl)
drop_within_list_has_first_item (suc k) [] h = absurd (omega (arith, h))
drop_within_list_has_first_item (suc k) (x ∷ xs) h = drop_within_list_has_first_item k xs (omega (arith, h))

abbrev pub texts_brought_by_change : LineChange → List (List ℕ)
texts_brought_by_change c = option_to_list (text_of_change c)

first_put_adds_text_after_front : (file k n at : ℕ) (text : List ℕ) (cs : List LineChange) (count : ℕ) (lines : List (List ℕ)) → at ≡ n + k → k ≤ length lines → AreChangesInOrder at cs count
    → lines_changed_from_number n (Put file at text ∷ cs) lines ≡ take k lines ++ text ∷ lines_changed_from_number at cs (drop k lines)
first_put_adds_text_after_front file k n at text cs count lines e within is =
    lines_up_to_first_change_are_unchanged k n at (Put file at text ∷ cs) count lines e within (omega arith, is)
    ∙ ap (λ ls. take k lines ++ ls) (put_at_number_adds_text file at text cs (drop k lines))

first_swap_replaces_line_after_front : (file k n at : ℕ) (text : List ℕ) (cs : List LineChange) (count : ℕ) (lines : List (List ℕ)) → at ≡ n + k → k < length lines → AreChangesInOrder (at + 1) cs count
    → lines_changed_from_number n (Swap file at text ∷ cs) lines ≡ take k lines ++ text ∷ lines_changed_from_number (at + 1) cs (drop (suc k) lines)
first_swap_replaces_line_after_front file k n at text cs count lines e within is =
    let (line, split) = drop_within_list_has_first_item k lines within in
    lines_up_to_first_change_are_unchanged k n at (Swap file at text ∷ cs) count lines e (omega (arith, within)) (omega arith, is)
    ∙ ap (λ ls. take k lines ++ lines_changed_from_number at (Swap file at text ∷ cs) ls) split
    ∙ ap (λ ls. take k lines ++ ls) (swap_at_number_replaces_line file at text cs count line (drop (suc k) lines) is)

first_take_removes_line_after_front : (file k n at : ℕ) (cs : List LineChange) (count : ℕ) (lines : List (List ℕ)) → at ≡ n + k → k < length lines → AreChangesInOrder (at + 1) cs count
    → lines_changed_from_number n (Take file at ∷ cs) lines ≡ take k lines ++ lines_changed_from_number (at + 1) cs (drop (suc k) lines)
first_take_removes_line_after_front file k n at cs count lines e within is =
    let (line, split) = drop_within_list_has_first_item k lines within in
    lines_up_to_first_change_are_unchanged k n at (Take file at ∷ cs) count lines e (omega (arith, within)) (omega arith, is)
    ∙ ap (λ ls. take k lines ++ lines_changed_from_number at (Take file at ∷ cs) ls) split
    ∙ ap (λ ls. take k lines ++ ls) (take_at_number_removes_line file at cs count line (drop (suc k) lines) is)

-- the lines from the number n on, `count` in all: those up to the place of the first change, what it brings, and what the other changes
-- make of the lines behind
pub first_change_splits_changed_lines : (n : ℕ) (c : LineChange) (cs : List LineChange) (count : ℕ) (lines : List (List ℕ)) → n + length lines ≡ count → AreChangesInOrder n (c ∷ cs) count
    → lines_changed_from_number n (c ∷ cs) lines ≡ take (line_number_of_change c - n) lines ++ (texts_brought_by_change c ++ lines_changed_from_number (min_line_number_after_change c) cs (drop (min_line_number_after_change c - n) lines))
first_change_splits_changed_lines n (Put file at text) cs count lines size is =
    first_put_adds_text_after_front file (at - n) n at text cs count lines (omega (arith, is.0)) (omega (arith, size, ordered_changes_begin_within_count at cs count is.1)) is.1
first_change_splits_changed_lines n (Swap file at text) cs count lines size is =
    let behind : suc (at - n) ≡ at + 1 - n = omega (arith, is.0) in
    first_swap_replaces_line_after_front file (at - n) n at text cs count lines (omega (arith, is.0)) (omega (arith, size, is.0, ordered_changes_begin_within_count (at + 1) cs count is.1)) is.1
    ∙ ap (λ k. take (at - n) lines ++ text ∷ lines_changed_from_number (at + 1) cs (drop k lines)) behind
first_change_splits_changed_lines n (Take file at) cs count lines size is =
    let behind : suc (at - n) ≡ at + 1 - n = omega (arith, is.0) in
    first_take_removes_line_after_front file (at - n) n at cs count lines (omega (arith, is.0)) (omega (arith, size, is.0, ordered_changes_begin_within_count (at + 1) cs count is.1)) is.1
    ∙ ap (λ k. take (at - n) lines ++ lines_changed_from_number (at + 1) cs (drop k lines)) behind

pub no_changes_leave_lines_unchanged : (n : ℕ) (lines : List (List ℕ)) → lines_changed_from_number n [] lines ≡ lines
no_changes_leave_lines_unchanged n [] = refl
no_changes_leave_lines_unchanged n (line ∷ lines) = ap (λ ls. line ∷ ls) (no_changes_leave_lines_unchanged (n + 1) lines)

-- ---- one change

front_text_and_rest_are_insert : (lines : List (List ℕ)) (at : ℕ) (text : List ℕ) → at ≤ length lines → take at lines ++ text ∷ drop at lines ≡ insert lines at text
front_text_and_rest_are_insert lines zero text h = refl
front_text_and_rest_are_insert [] (suc at) text h = absurd (omega (arith, h))
front_text_and_rest_are_insert (line ∷ lines) (suc at) text h = ap (λ ls. line ∷ ls) (front_text_and_rest_are_insert lines at text (omega (arith, h)))

front_and_later_rest_are_remove : (lines : List (List ℕ)) (at : ℕ) → at < length lines → take at lines ++ drop (suc at) lines ≡ remove lines at
front_and_later_rest_are_remove [] at h = absurd (omega (arith, h))
front_and_later_rest_are_remove (line ∷ lines) zero h = refl
front_and_later_rest_are_remove (line ∷ lines) (suc at) h = ap (λ ls. line ∷ ls) (front_and_later_rest_are_remove lines at (omega (arith, h)))

front_text_and_later_rest_are_replacement : (lines : List (List ℕ)) (at : ℕ) (text : List ℕ) → at < length lines → take at lines ++ text ∷ drop (suc at) lines ≡ lines_with_one_replaced at text lines
front_text_and_later_rest_are_replacement [] at text h = absurd (omega (arith, h))
front_text_and_later_rest_are_replacement (line ∷ lines) zero text h = refl
front_text_and_later_rest_are_replacement (line ∷ lines) (suc at) text h = ap (λ ls. line ∷ ls) (front_text_and_later_rest_are_replacement lines at text (omega (arith, h)))

pub single_put_is_insert : (lines : List (List ℕ)) (file at : ℕ) (text : List ℕ) → at ≤ length lines → lines_after_changes (Put file at text ∷ []) lines ≡ insert lines at text
single_put_is_insert lines file at text h =
    first_put_adds_text_after_front file at 0 at text [] at lines (omega arith) h (omega arith)
    ∙ ap (λ ls. take at lines ++ text ∷ ls) (no_changes_leave_lines_unchanged at (drop at lines))
    ∙ front_text_and_rest_are_insert lines at text h

pub single_take_is_remove : (lines : List (List ℕ)) (file at : ℕ) → at < length lines → lines_after_changes (Take file at ∷ []) lines ≡ remove lines at
single_take_is_remove lines file at h =
    first_take_removes_line_after_front file at 0 at [] (at + 1) lines (omega arith) h (omega arith)
    ∙ ap (λ ls. take at lines ++ ls) (no_changes_leave_lines_unchanged (at + 1) (drop (suc at) lines))
    ∙ front_and_later_rest_are_remove lines at h

pub single_swap_is_replacement : (lines : List (List ℕ)) (file at : ℕ) (text : List ℕ) → at < length lines → lines_after_changes (Swap file at text ∷ []) lines ≡ lines_with_one_replaced at text lines
single_swap_is_replacement lines file at text h =
    first_swap_replaces_line_after_front file at 0 at text [] (at + 1) lines (omega arith) h (omega arith)
    ∙ ap (λ ls. take at lines ++ text ∷ ls) (no_changes_leave_lines_unchanged (at + 1) (drop (suc at) lines))
    ∙ front_text_and_later_rest_are_replacement lines at text h

abbrev AreTextsLogicalLines : List (List ℕ) → Type 0
AreTextsLogicalLines lines = AllByRecursion IsLogicalLine lines

appended_logical_lines_are_logical : (xs ys : List (List ℕ)) → AreTextsLogicalLines xs → AreTextsLogicalLines ys → AreTextsLogicalLines (xs ++ ys)
appended_logical_lines_are_logical [] ys some more = more
appended_logical_lines_are_logical (x ∷ xs) ys some more = (some.0, appended_logical_lines_are_logical xs ys some.1 more)

texts_put_before_line_are_logical_lines : (n : ℕ) (cs : List LineChange) → AreTextsLogicalLines (texts_of_changes cs) → AreTextsLogicalLines (texts_put_before_line n cs)
texts_put_before_line_are_logical_lines n [] all = tt
texts_put_before_line_are_logical_lines n (Put file at text ∷ cs) all = by (at == n) (texts_put_before_line_are_logical_lines n cs all.1)
  where
    by : (b : Bool) → AreTextsLogicalLines (texts_put_before_line n cs) → AreTextsLogicalLines (if b then text ∷ texts_put_before_line n cs else texts_put_before_line n cs)
    by true later = (all.0, later)
    by false later = later
texts_put_before_line_are_logical_lines n (Swap file at text ∷ cs) all = texts_put_before_line_are_logical_lines n cs all.1
texts_put_before_line_are_logical_lines n (Take file at ∷ cs) all = texts_put_before_line_are_logical_lines n cs all

line_after_changes_is_logical_line : (n : ℕ) (cs : List LineChange) (line : List ℕ) → IsLogicalLine line → AreTextsLogicalLines (texts_of_changes cs) → AreTextsLogicalLines (line_after_changes n cs line)
line_after_changes_is_logical_line n [] line is all = (is, tt)
line_after_changes_is_logical_line n (Put file at text ∷ cs) line is all = line_after_changes_is_logical_line n cs line is all.1
line_after_changes_is_logical_line n (Swap file at text ∷ cs) line is all = by (at == n) (line_after_changes_is_logical_line n cs line is all.1)
  where
    by : (b : Bool) → AreTextsLogicalLines (line_after_changes n cs line) → AreTextsLogicalLines (if b then text ∷ [] else line_after_changes n cs line)
    by true later = (all.0, tt)
    by false later = later
line_after_changes_is_logical_line n (Take file at ∷ cs) line is all = by (at == n) (line_after_changes_is_logical_line n cs line is all)
  where
    by : (b : Bool) → AreTextsLogicalLines (line_after_changes n cs line) → AreTextsLogicalLines (if b then [] else line_after_changes n cs line)
    by true later = tt
    by false later = later

pub changed_lines_are_logical_lines : (n : ℕ) (cs : List LineChange) (lines : List (List ℕ)) → AreTextsLogicalLines lines → AreTextsLogicalLines (texts_of_changes cs) → AreTextsLogicalLines (lines_changed_from_number n cs lines)
changed_lines_are_logical_lines n cs [] whole all = texts_put_before_line_are_logical_lines n cs all
changed_lines_are_logical_lines n cs (line ∷ lines) whole all =
    appended_logical_lines_are_logical (texts_put_before_line n cs) (line_after_changes n cs line ++ lines_changed_from_number (n + 1) cs lines) (texts_put_before_line_are_logical_lines n cs all)
    (appended_logical_lines_are_logical (line_after_changes n cs line) (lines_changed_from_number (n + 1) cs lines) (line_after_changes_is_logical_line n cs line whole.0 all) (changed_lines_are_logical_lines (n + 1) cs lines whole.1 all))
