-- Bytes that are put into a line and taken out of it.
use Rattle.sudoers_edit.proofs.Common.{AreOrderedSpans, ByteExtent, List, [], ap, arith, bytes_between, drop, eqb-true, is_option_equal_to, length, length-drop, length-take-le, line_with_splice, line_without_bytes}
use Rattle.sudoers_edit.proofs.Common.{owned_bytes_start, owned_bytes_stop, refl, slice_get, subst, suc, sym, take, true, zero, ℕ, ◌++◌, ◌+◌, ◌-◌, ◌<◌, ◌∙◌, ◌∷◌, ◌≡◌, ◌≤◌}
use Rattle.std.proofs.Math.Dec.{eqb-suc-zero}
use Rattle.std.specs.Prelude.{map, Some, None, Option, option_map, ◌==◌, if◌then◌else◌}

drop_of_front_length_is_rest : (s line : List ℕ) (stop : ℕ) → stop ≡ length s → drop stop (s ++ line) ≡ line
drop_of_front_length_is_rest [] line zero is = refl
drop_of_front_length_is_rest [] line (suc stop) is = absurd (omega (arith, is))
drop_of_front_length_is_rest (b ∷ s) line zero is = absurd (omega (arith, is))
drop_of_front_length_is_rest (b ∷ s) line (suc stop) is = drop_of_front_length_is_rest s line stop (omega (arith, is))

splice_taken_out_at_stop_restores_line : (line s : List ℕ) (at stop : ℕ) → at ≤ length line → stop ≡ at + length s → line_without_bytes at stop (line_with_splice at s line) ≡ line
splice_taken_out_at_stop_restores_line line s zero stop within is = drop_of_front_length_is_rest s line stop (omega (arith, is))
splice_taken_out_at_stop_restores_line [] s (suc at) stop within is = absurd (omega (arith, within))
splice_taken_out_at_stop_restores_line (b ∷ line) s (suc at) zero within is = absurd (omega (arith, is))
splice_taken_out_at_stop_restores_line (b ∷ line) s (suc at) (suc stop) within is = ap (λ z. b ∷ z) (splice_taken_out_at_stop_restores_line line s at stop (omega (arith, within)) (omega (arith, is)))

bytes_put_in_at_start_restore_line : (line : List ℕ) (from to size : ℕ) → from ≤ to → to ≤ length line → size ≡ to - from
    → line_with_splice from (take size (drop from line)) (line_without_bytes from to line) ≡ line
bytes_put_in_at_start_restore_line line zero zero zero order within is = refl
bytes_put_in_at_start_restore_line line zero zero (suc size) order within is = absurd (omega (arith, is))
bytes_put_in_at_start_restore_line [] zero (suc to) size order within is = absurd (omega (arith, within))
bytes_put_in_at_start_restore_line (b ∷ line) zero (suc to) zero order within is = absurd (omega (arith, is))
bytes_put_in_at_start_restore_line (b ∷ line) zero (suc to) (suc size) order within is = ap (λ z. b ∷ z) (bytes_put_in_at_start_restore_line line zero to size (omega arith) (omega (arith, within)) (omega (arith, is)))
bytes_put_in_at_start_restore_line line (suc from) zero size order within is = absurd (omega (arith, order))
bytes_put_in_at_start_restore_line [] (suc from) (suc to) size order within is = absurd (omega (arith, within))
bytes_put_in_at_start_restore_line (b ∷ line) (suc from) (suc to) size order within is =
    ap (λ z. b ∷ z) (bytes_put_in_at_start_restore_line line from to size (omega (arith, order)) (omega (arith, within)) (omega (arith, is)))

-- a splice put in and taken out
pub splice_put_in_is_taken_out : (line s : List ℕ) (at : ℕ) → at ≤ length line → line_without_bytes at (at + length s) (line_with_splice at s line) ≡ line
splice_put_in_is_taken_out line s at within = splice_taken_out_at_stop_restores_line line s at (at + length s) within refl

-- a slice taken out and put in
pub bytes_taken_out_are_put_in_again : (line : List ℕ) (from to : ℕ) → from ≤ to → to ≤ length line → line_with_splice from (bytes_between from to line) (line_without_bytes from to line) ≡ line
bytes_taken_out_are_put_in_again line from to order within = bytes_put_in_at_start_restore_line line from to (to - from) order within refl

-- SIZES

pub start_and_size_of_slice_make_stop : (line : List ℕ) (from to : ℕ) → from ≤ to → to ≤ length line → from + length (bytes_between from to line) ≡ to
start_and_size_of_slice_make_stop line from to order within =
    let inside : to - from ≤ length (drop from line) = omega (arith, length-drop from line, order, within) in
    let size : from + length (take (to - from) (drop from line)) ≡ to = omega (arith, length-take-le (to - from) (drop from line) inside, order) in
    size

-- PLACES

pub option_told_equal_is_number : (n : ℕ) (o : Option ℕ) → is_option_equal_to n o ≡ true → o ≡ Some n
option_told_equal_is_number n None h = absurd (cc)
option_told_equal_is_number n (Some m) h = ap (λ k. Some k) (sym (eqb-true n m h))

number_of_found_value_is_below_length : {A : Type 0} (f : A → ℕ) (xs : List A) (at n : ℕ) → option_map f (slice_get xs at) ≡ Some n → at < length xs
number_of_found_value_is_below_length f [] at n h = absurd (cc)
number_of_found_value_is_below_length f (x ∷ xs) zero n h = omega arith
number_of_found_value_is_below_length f (x ∷ xs) (suc at) n h = let rest = number_of_found_value_is_below_length f xs at n h in omega (arith, rest)

choice_at_later_number_is_second : {A : Type 0} (x y : A) (at : ℕ) → (if suc at == 0 then x else y) ≡ y
choice_at_later_number_is_second x y at = rw (eqb-suc-zero at) refl

pub owned_start_implies_number_within_items : (xs : List ByteExtent) (at n : ℕ) → owned_bytes_start at xs ≡ Some n → at ≤ length xs
owned_start_implies_number_within_items xs zero n h = omega arith
owned_start_implies_number_within_items xs (suc at) n h =
    let inner = number_of_found_value_is_below_length (λ (x : ByteExtent). x.1) xs (suc at - 1) n (sym (choice_at_later_number_is_second (option_map (λ (x : ByteExtent). x.0) (slice_get xs 0)) (option_map (λ (x : ByteExtent). x.1) (slice_get xs (suc at - 1))) at) ∙ h) in
    omega (arith, inner)

pub owned_stop_implies_one_of_several : (xs : List ByteExtent) (at n : ℕ) → owned_bytes_stop at xs ≡ Some n → (at < length xs) × (2 ≤ length xs)
owned_stop_implies_one_of_several xs zero n h = let inner = number_of_found_value_is_below_length (λ (x : ByteExtent). x.0) xs 1 n h in (omega (arith, inner), omega (arith, inner))
owned_stop_implies_one_of_several xs (suc at) n h =
    let inner = number_of_found_value_is_below_length (λ (x : ByteExtent). x.1) xs (suc at) n (sym (choice_at_later_number_is_second (option_map (λ (x : ByteExtent). x.0) (slice_get xs 1)) (option_map (λ (x : ByteExtent). x.1) (slice_get xs (suc at))) at) ∙ h) in
    (inner, omega (arith, inner))

-- WITHIN THE LINE

pub ordered_spans_start_by_their_end : {X : Type 0} (begins ends : X → ℕ) (from to : ℕ) (xs : List X) → AreOrderedSpans begins ends from to xs → from ≤ to
ordered_spans_start_by_their_end begins ends from to [] a = a
ordered_spans_start_by_their_end begins ends from to (x ∷ xs) a = omega (arith, a.0, a.1, ordered_spans_start_by_their_end begins ends (ends x) to xs a.2)

-- where things stand
abbrev extents_by_start_and_end : {X : Type 0} → (X → ℕ) → (X → ℕ) → List X → List ByteExtent
extents_by_start_and_end begins ends xs = map (λ x. (begins x, ends x)) xs

abbrev start_of_extent_at : List ByteExtent → ℕ → Option ℕ
start_of_extent_at xs at = option_map (λ (x : ByteExtent). x.0) (slice_get xs at)

abbrev stop_of_extent_at : List ByteExtent → ℕ → Option ℕ
stop_of_extent_at xs at = option_map (λ (x : ByteExtent). x.1) (slice_get xs at)

stop_of_extent_is_within_spans : {X : Type 0} (begins ends : X → ℕ) (from to : ℕ) (xs : List X) (at n : ℕ) → AreOrderedSpans begins ends from to xs
    → stop_of_extent_at (extents_by_start_and_end begins ends xs) at ≡ Some n → (from ≤ n) × (n ≤ to)
stop_of_extent_is_within_spans begins ends from to [] at n a h = absurd (cc)
stop_of_extent_is_within_spans begins ends from to (x ∷ xs) zero n a h =
    let e : ends x ≡ n = cc in
    (omega (arith, a.0, a.1, e), omega (arith, ordered_spans_start_by_their_end begins ends (ends x) to xs a.2, e))
stop_of_extent_is_within_spans begins ends from to (x ∷ xs) (suc at) n a h =
    let rest = stop_of_extent_is_within_spans begins ends (ends x) to xs at n a.2 h in
    (omega (arith, a.0, a.1, rest.0), rest.1)

-- the ends of two of which one stands behind the other
stops_of_neighbours_are_ordered : {X : Type 0} (begins ends : X → ℕ) (from to : ℕ) (xs : List X) (at n m : ℕ) → AreOrderedSpans begins ends from to xs
    → stop_of_extent_at (extents_by_start_and_end begins ends xs) at ≡ Some n → stop_of_extent_at (extents_by_start_and_end begins ends xs) (suc at) ≡ Some m → (n ≤ m) × (m ≤ to)
stops_of_neighbours_are_ordered begins ends from to [] at n m a h later = absurd (cc)
stops_of_neighbours_are_ordered begins ends from to (x ∷ xs) zero n m a h later =
    let e : ends x ≡ n = cc in
    let rest = stop_of_extent_is_within_spans begins ends (ends x) to xs 0 m a.2 later in
    (omega (arith, rest.0, e), rest.1)
stops_of_neighbours_are_ordered begins ends from to (x ∷ xs) (suc at) n m a h later = stops_of_neighbours_are_ordered begins ends (ends x) to xs at n m a.2 h later

-- the starts of the first two
starts_of_first_two_are_ordered : {X : Type 0} (begins ends : X → ℕ) (from to : ℕ) (xs : List X) (n m : ℕ) → AreOrderedSpans begins ends from to xs
    → start_of_extent_at (extents_by_start_and_end begins ends xs) 0 ≡ Some n → start_of_extent_at (extents_by_start_and_end begins ends xs) 1 ≡ Some m → (n ≤ m) × (m ≤ to)
starts_of_first_two_are_ordered begins ends from to [] n m a h later = absurd (cc)
starts_of_first_two_are_ordered begins ends from to (x ∷ []) n m a h later = absurd (cc)
starts_of_first_two_are_ordered begins ends from to (x ∷ y ∷ xs) n m a h later =
    let first : begins x ≡ n = cc in
    let second : begins y ≡ m = cc in
    let rest = ordered_spans_start_by_their_end begins ends (ends y) to xs a.2.2 in
    (omega (arith, a.1, a.2.0, first, second), omega (arith, a.2.1, rest, second))

start_of_first_is_within_spans : {X : Type 0} (begins ends : X → ℕ) (from to : ℕ) (xs : List X) (n : ℕ) → AreOrderedSpans begins ends from to xs
    → start_of_extent_at (extents_by_start_and_end begins ends xs) 0 ≡ Some n → n ≤ to
start_of_first_is_within_spans begins ends from to [] n a h = absurd (cc)
start_of_first_is_within_spans begins ends from to (x ∷ xs) n a h =
    let e : begins x ≡ n = cc in
    omega (arith, a.1, ordered_spans_start_by_their_end begins ends (ends x) to xs a.2, e)

owned_start_is_stop_of_extent_before : (xs : List ByteExtent) (at n : ℕ) → owned_bytes_start (suc at) xs ≡ Some n → stop_of_extent_at xs at ≡ Some n
owned_start_is_stop_of_extent_before xs at n h =
    let there : stop_of_extent_at xs (suc at - 1) ≡ Some n = sym (choice_at_later_number_is_second (start_of_extent_at xs 0) (stop_of_extent_at xs (suc at - 1)) at) ∙ h in
    subst (λ i. stop_of_extent_at xs i ≡ Some n) (let e : suc at - 1 ≡ at = omega arith in e) there

-- What one owns begins in the line,
pub owned_start_is_within_spans : {X : Type 0} (begins ends : X → ℕ) (from to : ℕ) (xs : List X) (at n : ℕ) → AreOrderedSpans begins ends from to xs
    → owned_bytes_start at (extents_by_start_and_end begins ends xs) ≡ Some n → n ≤ to
owned_start_is_within_spans begins ends from to xs zero n a h = start_of_first_is_within_spans begins ends from to xs n a h
owned_start_is_within_spans begins ends from to xs (suc at) n a h = (stop_of_extent_is_within_spans begins ends from to xs at n a (owned_start_is_stop_of_extent_before (extents_by_start_and_end begins ends xs) at n h)).1

-- and goes on to a place in it.
pub owned_bytes_are_within_spans : {X : Type 0} (begins ends : X → ℕ) (from to : ℕ) (xs : List X) (at n m : ℕ) → AreOrderedSpans begins ends from to xs
    → owned_bytes_start at (extents_by_start_and_end begins ends xs) ≡ Some n → owned_bytes_stop at (extents_by_start_and_end begins ends xs) ≡ Some m → (n ≤ m) × (m ≤ to)
owned_bytes_are_within_spans begins ends from to xs zero n m a h later = starts_of_first_two_are_ordered begins ends from to xs n m a h later
owned_bytes_are_within_spans begins ends from to xs (suc at) n m a h later =
    stops_of_neighbours_are_ordered begins ends from to xs at n m a (owned_start_is_stop_of_extent_before (extents_by_start_and_end begins ends xs) at n h)
    (sym (choice_at_later_number_is_second (start_of_extent_at (extents_by_start_and_end begins ends xs) 1) (stop_of_extent_at (extents_by_start_and_end begins ends xs) (suc at)) at) ∙ later)
