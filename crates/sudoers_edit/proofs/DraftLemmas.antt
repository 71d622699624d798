-- One change before others: what it makes of the lines that the others make.
use Rattle.sudoers_edit.proofs.Common.{AreChangesInOrder, FirstChangeLaw, LineChange, LineTexts, List, NoChangesLaw, Some, Swap, Take, [], ap, append_assoc, arith, drop, length, line_number_of_change}
use Rattle.sudoers_edit.proofs.Common.{lines_after_changes, lines_changed_from_number, lines_with_one_replaced, min_line_number_after_change, option_to_list, refl, remove, slice_get, subst, suc, sym, take}
use Rattle.sudoers_edit.proofs.Common.{text_of_change, zero, ℕ, ◌++◌, ◌+◌, ◌-◌, ◌<◌, ◌∙◌, ◌∷◌, ◌≡◌, ◌≤◌}
use Rattle.sudoers_edit.proofs.UndoneLemmas.{front_and_rest_are_lines, front_and_rest_lengths_make_length, changed_line_is_at_most_next_line, successor_plus_is_successor_of_sum, ordered_changes_start_by_count, zero_plus_number_is_number}

-- LISTS

two_drops_are_one_drop : (j k : ℕ) (xs : LineTexts) → drop j (drop k xs) ≡ drop (k + j) xs
two_drops_are_one_drop j zero xs = ap (λ i. drop i xs) (sym (zero_plus_number_is_number j))
two_drops_are_one_drop zero (suc k) [] = ap (λ i. drop i []) (sym (successor_plus_is_successor_of_sum k 0))
two_drops_are_one_drop (suc j) (suc k) [] = ap (λ i. drop i []) (sym (successor_plus_is_successor_of_sum k (suc j)))
two_drops_are_one_drop j (suc k) (x ∷ xs) = two_drops_are_one_drop j k xs ∙ ap (λ i. drop i (x ∷ xs)) (sym (successor_plus_is_successor_of_sum k j))

two_takes_are_one_take : (k j : ℕ) (xs : LineTexts) → take k xs ++ take j (drop k xs) ≡ take (k + j) xs
two_takes_are_one_take zero j xs = ap (λ i. take i xs) (sym (zero_plus_number_is_number j))
two_takes_are_one_take (suc k) zero [] = ap (λ i. take i []) (sym (successor_plus_is_successor_of_sum k 0))
two_takes_are_one_take (suc k) (suc j) [] = ap (λ i. take i []) (sym (successor_plus_is_successor_of_sum k (suc j)))
two_takes_are_one_take (suc k) j (x ∷ xs) = ap (λ (z : LineTexts). x ∷ z) (two_takes_are_one_take k j xs) ∙ ap (λ i. take i (x ∷ xs)) (sym (successor_plus_is_successor_of_sum k j))

lines_without_last_taken_are_fewer : (k : ℕ) (xs ys : LineTexts) → k < length xs → remove (take (suc k) xs ++ ys) k ≡ take k xs ++ ys
lines_without_last_taken_are_fewer k [] ys within = absurd (omega (arith, within))
lines_without_last_taken_are_fewer zero (x ∷ xs) ys within = refl
lines_without_last_taken_are_fewer (suc k) (x ∷ xs) ys within = ap (λ (z : LineTexts). x ∷ z) (lines_without_last_taken_are_fewer k xs ys (omega (arith, within)))

lines_with_last_taken_replaced : (k : ℕ) (text : List ℕ) (xs ys : LineTexts) → k < length xs → lines_with_one_replaced k text (take (suc k) xs ++ ys) ≡ take k xs ++ text ∷ ys
lines_with_last_taken_replaced k text [] ys within = absurd (omega (arith, within))
lines_with_last_taken_replaced zero text (x ∷ xs) ys within = refl
lines_with_last_taken_replaced (suc k) text (x ∷ xs) ys within = ap (λ (z : LineTexts). x ∷ z) (lines_with_last_taken_replaced k text xs ys (omega (arith, within)))

last_taken_line_is_numbered_line : (k : ℕ) (xs ys : LineTexts) → k < length xs → slice_get (take (suc k) xs ++ ys) k ≡ slice_get xs k
last_taken_line_is_numbered_line k [] ys within = absurd (omega (arith, within))
last_taken_line_is_numbered_line zero (x ∷ xs) ys within = refl
last_taken_line_is_numbered_line (suc k) (x ∷ xs) ys within = last_taken_line_is_numbered_line k xs ys (omega (arith, within))

second_replacement_of_line_overrides_first : (at : ℕ) (text other : List ℕ) (xs : LineTexts) → lines_with_one_replaced at text (lines_with_one_replaced at other xs) ≡ lines_with_one_replaced at text xs
second_replacement_of_line_overrides_first zero text other [] = refl
second_replacement_of_line_overrides_first (suc at) text other [] = refl
second_replacement_of_line_overrides_first zero text other (x ∷ xs) = refl
second_replacement_of_line_overrides_first (suc at) text other (x ∷ xs) = ap (λ (z : LineTexts). x ∷ z) (second_replacement_of_line_overrides_first at text other xs)

replaced_line_is_its_new_text : (at : ℕ) (text : List ℕ) (xs : LineTexts) → at < length xs → slice_get (lines_with_one_replaced at text xs) at ≡ Some text
replaced_line_is_its_new_text at text [] within = absurd (omega (arith, within))
replaced_line_is_its_new_text zero text (x ∷ xs) within = refl
replaced_line_is_its_new_text (suc at) text (x ∷ xs) within = replaced_line_is_its_new_text at text xs (omega (arith, within))

-- ORDER

pub order_of_changes_holds_from_lower_number : (n m : ℕ) (changes : List LineChange) (count : ℕ) → n ≤ m → AreChangesInOrder m changes count → AreChangesInOrder n changes count
order_of_changes_holds_from_lower_number n m [] count less order = omega (arith, less, order)
order_of_changes_holds_from_lower_number n m (change ∷ changes) count less order = (omega (arith, less, order.0), order.1)

-- CHANGES

-- the lines before all changes stay
changes_keep_lines_before_first_from_number : NoChangesLaw → FirstChangeLaw → (n k : ℕ) (changes : List LineChange) (rest : LineTexts) → AreChangesInOrder (n + k) changes (n + length rest)
    → lines_changed_from_number n changes rest ≡ take k rest ++ lines_changed_from_number (n + k) changes (drop k rest)
changes_keep_lines_before_first_from_number none first n k [] rest order =
    none n rest ∙ sym (front_and_rest_are_lines k rest) ∙ ap (λ (z : LineTexts). take k rest ++ z) (sym (none (n + k) (drop k rest)))
changes_keep_lines_before_first_from_number none first n k (change ∷ changes) rest order =
    let p : ℕ = line_number_of_change change in
    let q : ℕ = min_line_number_after_change change in
    let brings : LineTexts = option_to_list (text_of_change change) in
    let within : k ≤ length rest = omega (arith, order.0, changed_line_is_at_most_next_line change, ordered_changes_start_by_count q changes (n + length rest) order.1) in
    let size : n + length rest ≡ n + k + length (drop k rest) = omega (arith, front_and_rest_lengths_make_length k rest within) in
    let a : k + (p - (n + k)) ≡ p - n = omega (arith, order.0) in
    let b : k + (q - (n + k)) ≡ q - n = omega (arith, order.0, changed_line_is_at_most_next_line change) in
    let behind : LineTexts = brings ++ lines_changed_from_number q changes (drop (q - n) rest) in
    first n change changes rest (omega (arith, order.0), order.1)
    ∙ ap (λ i. take i rest ++ behind) (sym a)
    ∙ ap (λ (z : LineTexts). z ++ behind) (sym (two_takes_are_one_take k (p - (n + k)) rest))
    ∙ append_assoc (take k rest) (take (p - (n + k)) (drop k rest)) behind
    ∙ ap (λ (z : LineTexts). take k rest ++ z)
    (ap (λ (z : LineTexts). take (p - (n + k)) (drop k rest) ++ (brings ++ lines_changed_from_number q changes z))
    (ap (λ i. drop i rest) (sym b) ∙ sym (two_drops_are_one_drop (q - (n + k)) k rest))
    ∙ sym (first (n + k) change changes (drop k rest) (order.0, subst (AreChangesInOrder q changes) size order.1)))

changes_keep_lines_up_to_number : NoChangesLaw → FirstChangeLaw → (at : ℕ) (changes : List LineChange) (lines : LineTexts) → AreChangesInOrder (suc at) changes (length lines)
    → lines_after_changes changes lines ≡ take (suc at) lines ++ lines_changed_from_number (suc at) changes (drop (suc at) lines)
changes_keep_lines_up_to_number none first at changes lines order =
    let a : 0 + suc at ≡ suc at = zero_plus_number_is_number (suc at) in
    changes_keep_lines_before_first_from_number none first 0 (suc at) changes lines
    (subst (λ n. AreChangesInOrder n changes (0 + length lines)) (sym a) (subst (AreChangesInOrder (suc at) changes) (sym (zero_plus_number_is_number (length lines))) order))
    ∙ ap (λ n. take (suc at) lines ++ lines_changed_from_number n changes (drop (suc at) lines)) a

-- a line taken out before all changes
pub take_before_changes_removes_line : NoChangesLaw → FirstChangeLaw → (file at : ℕ) (changes : List LineChange) (lines : LineTexts) → AreChangesInOrder (at + 1) changes (length lines)
    → lines_after_changes (Take file at ∷ changes) lines ≡ remove (lines_after_changes changes lines) at
take_before_changes_removes_line none first file at changes lines order =
    let one : at + 1 ≡ suc at = omega arith in
    let a : at + 1 - 0 ≡ suc at = omega arith in
    let less : at - 0 ≡ at = omega arith in
    let later : AreChangesInOrder (suc at) changes (length lines) = subst (λ n. AreChangesInOrder n changes (length lines)) one order in
    first 0 (Take file at) changes lines (omega arith, subst (AreChangesInOrder (at + 1) changes) (sym (zero_plus_number_is_number (length lines))) order)
    ∙ ap (λ i. take (at - 0) lines ++ lines_changed_from_number (at + 1) changes (drop i lines)) a
    ∙ ap (λ i. take i lines ++ lines_changed_from_number (at + 1) changes (drop (suc at) lines)) less
    ∙ ap (λ i. take at lines ++ lines_changed_from_number i changes (drop (suc at) lines)) one
    ∙ sym (lines_without_last_taken_are_fewer at lines (lines_changed_from_number (suc at) changes (drop (suc at) lines)) (omega (arith, ordered_changes_start_by_count (suc at) changes (length lines) later)))
    ∙ ap (λ (z : LineTexts). remove z at) (sym (changes_keep_lines_up_to_number none first at changes lines later))

-- a line replaced before all changes
pub swap_before_changes_replaces_line : NoChangesLaw → FirstChangeLaw → (file at : ℕ) (text : List ℕ) (changes : List LineChange) (lines : LineTexts) → AreChangesInOrder (at + 1) changes (length lines)
    → lines_after_changes (Swap file at text ∷ changes) lines ≡ lines_with_one_replaced at text (lines_after_changes changes lines)
swap_before_changes_replaces_line none first file at text changes lines order =
    let one : at + 1 ≡ suc at = omega arith in
    let a : at + 1 - 0 ≡ suc at = omega arith in
    let less : at - 0 ≡ at = omega arith in
    let later : AreChangesInOrder (suc at) changes (length lines) = subst (λ n. AreChangesInOrder n changes (length lines)) one order in
    first 0 (Swap file at text) changes lines (omega arith, subst (AreChangesInOrder (at + 1) changes) (sym (zero_plus_number_is_number (length lines))) order)
    ∙ ap (λ i. take (at - 0) lines ++ text ∷ lines_changed_from_number (at + 1) changes (drop i lines)) a
    ∙ ap (λ i. take i lines ++ text ∷ lines_changed_from_number (at + 1) changes (drop (suc at) lines)) less
    ∙ ap (λ i. take at lines ++ text ∷ lines_changed_from_number i changes (drop (suc at) lines)) one
    ∙ sym (lines_with_last_taken_replaced at text lines (lines_changed_from_number (suc at) changes (drop (suc at) lines)) (omega (arith, ordered_changes_start_by_count (suc at) changes (length lines) later)))
    ∙ ap (lines_with_one_replaced at text) (sym (changes_keep_lines_up_to_number none first at changes lines later))

-- a line before all changes is as it was
pub line_before_changes_is_unchanged : NoChangesLaw → FirstChangeLaw → (at : ℕ) (changes : List LineChange) (lines : LineTexts) → AreChangesInOrder (at + 1) changes (length lines)
    → slice_get (lines_after_changes changes lines) at ≡ slice_get lines at
line_before_changes_is_unchanged none first at changes lines order =
    let one : at + 1 ≡ suc at = omega arith in
    let later : AreChangesInOrder (suc at) changes (length lines) = subst (λ n. AreChangesInOrder n changes (length lines)) one order in
    ap (λ (z : LineTexts). slice_get z at) (changes_keep_lines_up_to_number none first at changes lines later)
    ∙ last_taken_line_is_numbered_line at lines (lines_changed_from_number (suc at) changes (drop (suc at) lines)) (omega (arith, ordered_changes_start_by_count (suc at) changes (length lines) later))

-- a line replaced once more
pub second_swap_replaces_swapped_line : NoChangesLaw → FirstChangeLaw → (file at g : ℕ) (text other : List ℕ) (changes : List LineChange) (lines : LineTexts) → AreChangesInOrder (at + 1) changes (length lines)
    → lines_after_changes (Swap file at text ∷ changes) lines ≡ lines_with_one_replaced at text (lines_after_changes (Swap g at other ∷ changes) lines)
second_swap_replaces_swapped_line none first file at g text other changes lines order =
    swap_before_changes_replaces_line none first file at text changes lines order
    ∙ sym (second_replacement_of_line_overrides_first at text other (lines_after_changes changes lines))
    ∙ ap (lines_with_one_replaced at text) (sym (swap_before_changes_replaces_line none first g at other changes lines order))

-- it is there then
pub swapped_line_is_its_new_text : NoChangesLaw → FirstChangeLaw → (file at : ℕ) (text : List ℕ) (changes : List LineChange) (lines : LineTexts) → AreChangesInOrder (at + 1) changes (length lines)
    → at < length (lines_after_changes changes lines) → slice_get (lines_after_changes (Swap file at text ∷ changes) lines) at ≡ Some text
swapped_line_is_its_new_text none first file at text changes lines order within =
    ap (λ (z : LineTexts). slice_get z at) (swap_before_changes_replaces_line none first file at text changes lines order) ∙ replaced_line_is_its_new_text at text (lines_after_changes changes lines) within
