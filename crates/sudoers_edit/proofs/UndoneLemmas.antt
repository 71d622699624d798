-- What takes changes of one file's lines back leads to the lines before them.
use Rattle.sudoers_edit.proofs.Common.{AllByRecursion, AreChangesInOrder, FirstChangeLaw, IsLogicalLine, LineChange, LineTexts, List, NoChangesLaw, Put, Swap, Take, [], ap, ap₂, arith, drop}
use Rattle.sudoers_edit.proofs.Common.{inverse_of_changes_in_file, length, line_number_of_change, lines_changed_from_number, min_line_number_after_change, option_to_list, refl, slice_index_or, subst, suc, sym, take}
use Rattle.sudoers_edit.proofs.Common.{text_of_change, texts_of_changes, zero, ℕ, ◌++◌, ◌+◌, ◌-◌, ◌<◌, ◌∙◌, ◌∷◌, ◌≡◌, ◌≤◌}

-- LISTS

pub zero_plus_number_is_number : (n : ℕ) → 0 + n ≡ n
zero_plus_number_is_number n = omega arith

front_of_front_is_front : (k : ℕ) (xs ys : LineTexts) → k ≤ length xs → take k (take k xs ++ ys) ≡ take k xs
front_of_front_is_front zero xs ys within = refl
front_of_front_is_front (suc k) [] ys within = absurd (omega (arith, within))
front_of_front_is_front (suc k) (x ∷ xs) ys within = ap (λ (z : LineTexts). x ∷ z) (front_of_front_is_front k xs ys (omega (arith, within)))

pub successor_plus_is_successor_of_sum : (k j : ℕ) → suc k + j ≡ suc (k + j)
successor_plus_is_successor_of_sum k j = omega arith

drop_past_front_is_drop_of_rest : (k j : ℕ) (xs ys : LineTexts) → k ≤ length xs → drop (k + j) (take k xs ++ ys) ≡ drop j ys
drop_past_front_is_drop_of_rest zero j xs ys within = ap (λ i. drop i ys) (zero_plus_number_is_number j)
drop_past_front_is_drop_of_rest (suc k) j [] ys within = absurd (omega (arith, within))
drop_past_front_is_drop_of_rest (suc k) j (x ∷ xs) ys within =
    ap (λ i. drop i (take (suc k) (x ∷ xs) ++ ys)) (successor_plus_is_successor_of_sum k j) ∙ drop_past_front_is_drop_of_rest k j xs ys (omega (arith, within))

size_of_front_and_rest_is_sum : (k : ℕ) (xs ys : LineTexts) → k ≤ length xs → length (take k xs ++ ys) ≡ k + length ys
size_of_front_and_rest_is_sum zero xs ys within = sym (zero_plus_number_is_number (length ys))
size_of_front_and_rest_is_sum (suc k) [] ys within = absurd (omega (arith, within))
size_of_front_and_rest_is_sum (suc k) (x ∷ xs) ys within = ap suc (size_of_front_and_rest_is_sum k xs ys (omega (arith, within))) ∙ sym (successor_plus_is_successor_of_sum k (length ys))

pub front_and_rest_are_lines : (k : ℕ) (xs : LineTexts) → take k xs ++ drop k xs ≡ xs
front_and_rest_are_lines zero xs = refl
front_and_rest_are_lines (suc k) [] = refl
front_and_rest_are_lines (suc k) (x ∷ xs) = ap (λ (z : LineTexts). x ∷ z) (front_and_rest_are_lines k xs)

numbered_line_heads_rest : (k : ℕ) (xs : LineTexts) → k < length xs → slice_index_or xs k [] ∷ drop (suc k) xs ≡ drop k xs
numbered_line_heads_rest k [] within = absurd (omega (arith, within))
numbered_line_heads_rest zero (x ∷ xs) within = refl
numbered_line_heads_rest (suc k) (x ∷ xs) within = numbered_line_heads_rest k xs (omega (arith, within))

line_of_rest_is_line_of_all : (k i : ℕ) (xs : LineTexts) → slice_index_or (drop k xs) i [] ≡ slice_index_or xs (k + i) []
line_of_rest_is_line_of_all zero i xs = ap (λ j. slice_index_or xs j []) (sym (zero_plus_number_is_number i))
line_of_rest_is_line_of_all (suc k) i [] = refl
line_of_rest_is_line_of_all (suc k) i (x ∷ xs) = line_of_rest_is_line_of_all k i xs ∙ ap (λ j. slice_index_or (x ∷ xs) j []) (sym (successor_plus_is_successor_of_sum k i))

pub front_and_rest_lengths_make_length : (k : ℕ) (xs : LineTexts) → k ≤ length xs → k + length (drop k xs) ≡ length xs
front_and_rest_lengths_make_length zero xs within = zero_plus_number_is_number (length xs)
front_and_rest_lengths_make_length (suc k) [] within = absurd (omega (arith, within))
front_and_rest_lengths_make_length (suc k) (x ∷ xs) within = successor_plus_is_successor_of_sum k (length (drop k xs)) ∙ ap suc (front_and_rest_lengths_make_length k xs (omega (arith, within)))

pub changed_line_is_at_most_next_line : (change : LineChange) → line_number_of_change change ≤ min_line_number_after_change change
changed_line_is_at_most_next_line (Put file at text) = omega arith
changed_line_is_at_most_next_line (Swap file at text) = omega arith
changed_line_is_at_most_next_line (Take file at) = omega arith

pub ordered_changes_start_by_count : (n : ℕ) (changes : List LineChange) (count : ℕ) → AreChangesInOrder n changes count → n ≤ count
ordered_changes_start_by_count n [] count order = order
ordered_changes_start_by_count n (change ∷ changes) count order =
    omega (arith, order.0, changed_line_is_at_most_next_line change, ordered_changes_start_by_count (min_line_number_after_change change) changes count order.1)

-- THE WAY BACK

-- The changes `back`, counted from m on, take back the changes of the lines, which are counted from n on.
pub record AreInverseChangesFrom (n m : ℕ) (rest : LineTexts) (changes back : List LineChange) : Type 0 where
  pub made : lines_changed_from_number m back (lines_changed_from_number n changes rest) ≡ rest
  pub order : AreChangesInOrder m back (m + length (lines_changed_from_number n changes rest))

-- The lines from n on of all lines are these.
abbrev AreLinesFromNumber : ℕ → LineTexts → LineTexts → Type 0
AreLinesFromNumber n all rest = (i : ℕ) → slice_index_or all (n + i) [] ≡ slice_index_or rest i []

lines_from_number_drop_to_later_number : (n k : ℕ) (all rest : LineTexts) → AreLinesFromNumber n all rest → AreLinesFromNumber (n + k) all (drop k rest)
lines_from_number_drop_to_later_number n k all rest are i =
    ap (λ j. slice_index_or all j []) (omega arith) ∙ are (k + i) ∙ sym (line_of_rest_is_line_of_all k i rest)

-- a line, and those behind it
numbered_line_of_all_heads_rest : (n at k : ℕ) (rest all : LineTexts) → AreLinesFromNumber n all rest → n + k ≡ at → k < length rest → slice_index_or all at [] ∷ drop (suc k) rest ≡ drop k rest
numbered_line_of_all_heads_rest n at k rest all are to inside =
    ap (λ (line : List ℕ). line ∷ drop (suc k) rest) (ap (λ j. slice_index_or all j []) (sym to) ∙ are k) ∙ numbered_line_heads_rest k rest inside

-- what is behind one line, and behind none
drop_of_one_behind_text_is_rest : (p : ℕ) (text : List ℕ) (behind : LineTexts) → drop (p + 1 - p) (text ∷ behind) ≡ behind
drop_of_one_behind_text_is_rest p text behind = let one : p + 1 - p ≡ 1 = omega arith in ap (λ j. drop j (text ∷ behind)) one

drop_of_none_is_same_lines : (p : ℕ) (behind : LineTexts) → drop (p - p) behind ≡ behind
drop_of_none_is_same_lines p behind = let none : p - p ≡ 0 = omega arith in ap (λ j. drop j behind) none

-- a change of one line is taken back by another there, if the later changes are
one_change_before_undone_changes_is_undone : FirstChangeLaw → (n m : ℕ) (rest behind new left : LineTexts) (change other : LineChange) (changes back : List LineChange)
    → n ≤ line_number_of_change change → line_number_of_change other ≡ m + (line_number_of_change change - n)
    → line_number_of_change change - n ≤ length rest
    → AreChangesInOrder n (change ∷ changes) (n + length rest)
    → lines_changed_from_number (min_line_number_after_change change) changes (drop (min_line_number_after_change change - n) rest) ≡ behind
    → new ≡ option_to_list (text_of_change change) ++ behind
    → drop (min_line_number_after_change other - line_number_of_change other) new ≡ behind
    → min_line_number_after_change other - line_number_of_change other ≤ length new
    → option_to_list (text_of_change other) ++ left ≡ drop (line_number_of_change change - n) rest
    → lines_changed_from_number (min_line_number_after_change other) back behind ≡ left
    → AreChangesInOrder (min_line_number_after_change other) back (min_line_number_after_change other + length behind)
    → AreInverseChangesFrom n m rest (change ∷ changes) (other ∷ back)
one_change_before_undone_changes_is_undone first n m rest behind new left change other changes back inside place within order is new_is drop_of_one_behind_text_is_rest goes whole made ordered =
    record {
      made =
          ap (lines_changed_from_number m (other ∷ back)) all_new
          ∙ first m other back (take k rest ++ new) other_order
          ∙ ap₂ (λ (xs ys : LineTexts). xs ++ ys)
          (ap (λ j. take j (take k rest ++ new)) (omega (arith, place)) ∙ front_of_front_is_front k rest new within)
          (ap (λ (xs : LineTexts). option_to_list (text_of_change other) ++ lines_changed_from_number (min_line_number_after_change other) back xs)
          (ap (λ j. drop j (take k rest ++ new)) (omega (arith, place, changed_line_is_at_most_next_line other))
          ∙ drop_past_front_is_drop_of_rest k (min_line_number_after_change other - line_number_of_change other) rest new within ∙ drop_of_one_behind_text_is_rest)
          ∙ ap (λ (xs : LineTexts). option_to_list (text_of_change other) ++ xs) made ∙ whole)
          ∙ front_and_rest_are_lines k rest;
      order = subst (λ (xs : LineTexts). AreChangesInOrder m (other ∷ back) (m + length xs)) (sym all_new) other_order;
    }
  where
    k : ℕ
    k = line_number_of_change change - n

    all_new : lines_changed_from_number n (change ∷ changes) rest ≡ take k rest ++ new
    all_new =
        first n change changes rest order
        ∙ ap (λ (xs : LineTexts). take k rest ++ (option_to_list (text_of_change change) ++ xs)) is
        ∙ ap (λ (xs : LineTexts). take k rest ++ xs) (sym new_is)

    size : min_line_number_after_change other + length behind ≡ m + length (take k rest ++ new)
    size = omega (arith, place, size_of_front_and_rest_is_sum k rest new within, changed_line_is_at_most_next_line other, goes, front_and_rest_lengths_make_length (min_line_number_after_change other - line_number_of_change other) new goes, ap length drop_of_one_behind_text_is_rest)

    other_order : AreChangesInOrder m (other ∷ back) (m + length (take k rest ++ new))
    other_order = (omega (arith, place), subst (AreChangesInOrder (min_line_number_after_change other) back) size ordered)

inverse_changes_undo_changes_from_number : NoChangesLaw → FirstChangeLaw → (put taken n m : ℕ) → m + taken ≡ n + put → (all rest : LineTexts) → AreLinesFromNumber n all rest → (changes : List LineChange)
    → AreChangesInOrder n changes (n + length rest) → AreInverseChangesFrom n m rest changes (inverse_of_changes_in_file put taken all changes)
inverse_changes_undo_changes_from_number none first put taken n m sum all rest are [] order =
    record {
      made = none m (lines_changed_from_number n [] rest) ∙ none n rest;
      order = omega arith;
    }
inverse_changes_undo_changes_from_number none first put taken n m sum all rest are (Put file at text ∷ changes) order =
    let k : ℕ = at - n in
    let inside : k ≤ length rest = omega (arith, order.0, ordered_changes_start_by_count at changes (n + length rest) order.1) in
    let to : n + k ≡ at = omega (arith, order.0) in
    let p : ℕ = at + put - taken in
    let is : p ≡ m + k = omega (arith, sum, order.0) in
    let later = inverse_changes_undo_changes_from_number none first (put + 1) (taken + 0) at (p + 1) (omega (arith, sum, order.0)) all (drop k rest)
    (subst (λ j. AreLinesFromNumber j all (drop k rest)) to (lines_from_number_drop_to_later_number n k all rest are)) changes
    (subst (AreChangesInOrder at changes) (omega (arith, front_and_rest_lengths_make_length k rest inside, order.0)) order.1) in
    let behind : LineTexts = lines_changed_from_number at changes (drop k rest) in
    one_change_before_undone_changes_is_undone first n m rest behind (text ∷ behind) (drop k rest) (Put file at text) (Take file p) changes (inverse_of_changes_in_file (put + 1) (taken + 0) all changes)
    order.0 is inside order refl refl (drop_of_one_behind_text_is_rest p text behind) (omega arith) refl later.made later.order
inverse_changes_undo_changes_from_number none first put taken n m sum all rest are (Swap file at text ∷ changes) order =
    let k : ℕ = at - n in
    let inside : k < length rest = omega (arith, order.0, ordered_changes_start_by_count (at + 1) changes (n + length rest) order.1) in
    let step : at + 1 - n ≡ suc k = omega (arith, order.0) in
    let to : n + suc k ≡ at + 1 = omega (arith, order.0) in
    let p : ℕ = at + put - taken in
    let is : p ≡ m + k = omega (arith, sum, order.0) in
    let later = inverse_changes_undo_changes_from_number none first (put + 0) (taken + 0) (at + 1) (p + 1) (omega (arith, sum, order.0)) all (drop (suc k) rest)
    (subst (λ j. AreLinesFromNumber j all (drop (suc k) rest)) to (lines_from_number_drop_to_later_number n (suc k) all rest are)) changes
    (subst (AreChangesInOrder (at + 1) changes) (omega (arith, front_and_rest_lengths_make_length (suc k) rest (omega (arith, inside)), order.0)) order.1) in
    let behind : LineTexts = lines_changed_from_number (at + 1) changes (drop (suc k) rest) in
    let line : List ℕ = slice_index_or all at [] in
    one_change_before_undone_changes_is_undone first n m rest behind (text ∷ behind) (drop (suc k) rest) (Swap file at text) (Swap file p line) changes (inverse_of_changes_in_file (put + 0) (taken + 0) all changes)
    order.0 is (omega (arith, inside)) order (ap (λ j. lines_changed_from_number (at + 1) changes (drop j rest)) step) refl
    (drop_of_one_behind_text_is_rest p text behind) (omega arith) (numbered_line_of_all_heads_rest n at k rest all are (omega (arith, order.0)) inside) later.made later.order
inverse_changes_undo_changes_from_number none first put taken n m sum all rest are (Take file at ∷ changes) order =
    let k : ℕ = at - n in
    let inside : k < length rest = omega (arith, order.0, ordered_changes_start_by_count (at + 1) changes (n + length rest) order.1) in
    let step : at + 1 - n ≡ suc k = omega (arith, order.0) in
    let to : n + suc k ≡ at + 1 = omega (arith, order.0) in
    let p : ℕ = at + put - taken in
    let is : p ≡ m + k = omega (arith, sum, order.0) in
    let later = inverse_changes_undo_changes_from_number none first (put + 0) (taken + 1) (at + 1) p (omega (arith, sum, order.0)) all (drop (suc k) rest)
    (subst (λ j. AreLinesFromNumber j all (drop (suc k) rest)) to (lines_from_number_drop_to_later_number n (suc k) all rest are)) changes
    (subst (AreChangesInOrder (at + 1) changes) (omega (arith, front_and_rest_lengths_make_length (suc k) rest (omega (arith, inside)), order.0)) order.1) in
    let behind : LineTexts = lines_changed_from_number (at + 1) changes (drop (suc k) rest) in
    let line : List ℕ = slice_index_or all at [] in
    one_change_before_undone_changes_is_undone first n m rest behind behind (drop (suc k) rest) (Take file at) (Put file p line) changes (inverse_of_changes_in_file (put + 0) (taken + 1) all changes)
    order.0 is (omega (arith, inside)) order (ap (λ j. lines_changed_from_number (at + 1) changes (drop j rest)) step) refl
    (drop_of_none_is_same_lines p behind) (omega arith) (numbered_line_of_all_heads_rest n at k rest all are (omega (arith, order.0)) inside) later.made later.order

numbered_line_of_logical_lines_is_logical : (ls : LineTexts) (at : ℕ) → AllByRecursion IsLogicalLine ls → at < length ls → IsLogicalLine (slice_index_or ls at [])
numbered_line_of_logical_lines_is_logical [] at all within = absurd (omega (arith, within))
numbered_line_of_logical_lines_is_logical (l ∷ ls) zero all within = all.0
numbered_line_of_logical_lines_is_logical (l ∷ ls) (suc at) all within = numbered_line_of_logical_lines_is_logical ls at all.1 (omega (arith, within))

-- each text that they bring is a line of these
pub inverse_changes_bring_logical_lines : (put taken n : ℕ) (lines : LineTexts) → AllByRecursion IsLogicalLine lines → (changes : List LineChange) → AreChangesInOrder n changes (length lines)
    → AllByRecursion IsLogicalLine (texts_of_changes (inverse_of_changes_in_file put taken lines changes))
inverse_changes_bring_logical_lines put taken n lines whole [] order = tt
inverse_changes_bring_logical_lines put taken n lines whole (Put file at text ∷ changes) order = inverse_changes_bring_logical_lines (put + 1) (taken + 0) at lines whole changes order.1
inverse_changes_bring_logical_lines put taken n lines whole (Swap file at text ∷ changes) order =
    (numbered_line_of_logical_lines_is_logical lines at whole (omega (arith, ordered_changes_start_by_count (at + 1) changes (length lines) order.1)), inverse_changes_bring_logical_lines (put + 0) (taken + 0) (at + 1) lines whole changes order.1)
inverse_changes_bring_logical_lines put taken n lines whole (Take file at ∷ changes) order =
    (numbered_line_of_logical_lines_is_logical lines at whole (omega (arith, ordered_changes_start_by_count (at + 1) changes (length lines) order.1)), inverse_changes_bring_logical_lines (put + 0) (taken + 1) (at + 1) lines whole changes order.1)

-- what takes changes of these lines back
pub inverse_changes_undo_changes_of_lines : NoChangesLaw → FirstChangeLaw → (lines : LineTexts) (changes : List LineChange) → AreChangesInOrder 0 changes (length lines)
    → AreInverseChangesFrom 0 0 lines changes (inverse_of_changes_in_file 0 0 lines changes)
inverse_changes_undo_changes_of_lines none first lines changes order =
    inverse_changes_undo_changes_from_number none first 0 0 0 0 refl lines lines (λ i. ap (λ j. slice_index_or lines j []) (zero_plus_number_is_number i)) changes
    (subst (AreChangesInOrder 0 changes) (sym (zero_plus_number_is_number (length lines))) order)
