-- Units lie within the bytes; how far they go, one after another.
use Rattle.std.proofs.Common.{◌≡◌, ℕ, zero, suc, ◌+◌, ◌-◌, ◌≤◌, ◌<◌, Bool, true, false, cond, ◌&&◌, List, [], ◌∷◌, length, take, drop, refl, sym, ap, ◌∙◌, arith}
use Rattle.std.specs.Prelude.{◌==◌, if◌then◌else◌}
use Rattle.std.proofs.lemmas.List.{length-drop, length-append, take_all, drop-drop}
use Rattle.sudoers_text.specs.declared.part.ByteRunKind.{ByteRunKind}
use Rattle.sudoers_text.specs.declared.part.ByteRunKind.TheVariants as rule
use Rattle.sudoers_text.specs.Unit.{LineUnit, Continuation, Pair, Quoted, Comment, Byte, bytes_of_unit, begins_line_end, unit_after_backslash, is_blank, is_digit, bytes_up_to_line_end}
use Rattle.sudoers_text.specs.Part.{size_of_one_matching_byte, first_nonzero_number, pair_size_of_unit, continuation_size_of_unit, pair_or_continuation_size_of_unit, backslash_unit_size_by, unclosed_quote_unit_size, run_unit_size, reach_past_first_byte, reach_of_units, leading_run_size, is_word_byte, is_byte_of_include_path, is_path_byte, is_value_byte, is_quoted_byte, is_quoted_byte_but_separator, is_byte_of_parameter_name, is_digest_byte, has_given_first_byte, quotes_and_run_between_size, argument_unit_size, argument_units_size}
use Rattle.sudoers_text.proofs.Reading.{unit_at_text_is_prefix_of_it}

-- a unit lies within the bytes
abbrev pub IsSizeWithinBytes : (List ℕ → ℕ) → Type 0
IsSizeWithinBytes unit = (bytes : List ℕ) → unit bytes ≤ length bytes

pub choice_of_bounded_sizes_is_within_bound : (t : Bool) (a b n : ℕ) → a ≤ n → b ≤ n → cond t a b ≤ n
choice_of_bounded_sizes_is_within_bound true a b n p q = p
choice_of_bounded_sizes_is_within_bound false a b n p q = q

pub one_byte_size_is_within_bytes : (test : ℕ → Bool) → IsSizeWithinBytes (size_of_one_matching_byte test)
one_byte_size_is_within_bytes test [] = omega arith
one_byte_size_is_within_bytes test (b ∷ rest) = choice_of_bounded_sizes_is_within_bound (test b) 1 0 (length (b ∷ rest)) (omega arith) (omega arith)

pub first_nonzero_of_bounded_is_within_bound : (a b n : ℕ) → a ≤ n → b ≤ n → first_nonzero_number a b ≤ n
first_nonzero_of_bounded_is_within_bound zero b n p q = q
first_nonzero_of_bounded_is_within_bound (suc a) b n p q = p

escaped_unit_is_within_bytes_and_backslash : (rest : List ℕ) → length (bytes_of_unit (unit_after_backslash rest)) ≤ suc (length rest)
escaped_unit_is_within_bytes_and_backslash rest =
    let front = unit_at_text_is_prefix_of_it [] (92 ∷ rest) (unit_after_backslash rest) refl in
    omega (arith, ap length front.1, length-append (bytes_of_unit (unit_after_backslash rest)) front.0)

-- A measure of units passes none of their bytes.
abbrev pub IsMeasureWithinUnitBytes : (LineUnit → ℕ) → Type 0
IsMeasureWithinUnitBytes size = (u : LineUnit) → size u ≤ length (bytes_of_unit u)

pub pair_size_is_within_unit_bytes : IsMeasureWithinUnitBytes pair_size_of_unit
pair_size_is_within_unit_bytes (Continuation crlf) = omega arith
pair_size_is_within_unit_bytes (Pair b) = choice_of_bounded_sizes_is_within_bound (b == 13) 0 2 2 (omega arith) (omega arith)
pair_size_is_within_unit_bytes (Quoted bytes) = omega arith
pair_size_is_within_unit_bytes (Comment bytes) = omega arith
pair_size_is_within_unit_bytes (Byte b) = omega arith

pub continuation_size_is_within_unit_bytes : IsMeasureWithinUnitBytes continuation_size_of_unit
continuation_size_is_within_unit_bytes (Continuation crlf) = omega arith
continuation_size_is_within_unit_bytes (Pair b) = omega arith
continuation_size_is_within_unit_bytes (Quoted bytes) = omega arith
continuation_size_is_within_unit_bytes (Comment bytes) = omega arith
continuation_size_is_within_unit_bytes (Byte b) = omega arith

pub escape_size_is_within_unit_bytes : IsMeasureWithinUnitBytes pair_or_continuation_size_of_unit
escape_size_is_within_unit_bytes (Continuation crlf) = omega arith
escape_size_is_within_unit_bytes (Pair b) = choice_of_bounded_sizes_is_within_bound (b == 13) 0 2 2 (omega arith) (omega arith)
escape_size_is_within_unit_bytes (Quoted bytes) = omega arith
escape_size_is_within_unit_bytes (Comment bytes) = omega arith
escape_size_is_within_unit_bytes (Byte b) = omega arith

pub backslash_unit_size_is_within_bytes : (size : LineUnit → ℕ) → IsMeasureWithinUnitBytes size → IsSizeWithinBytes (backslash_unit_size_by size)
backslash_unit_size_is_within_bytes size bounded [] = omega arith
backslash_unit_size_is_within_bytes size bounded (b ∷ rest) =
    choice_of_bounded_sizes_is_within_bound (b == 92) (size (unit_after_backslash rest)) 0 (length (b ∷ rest)) (omega (arith, bounded (unit_after_backslash rest), escaped_unit_is_within_bytes_and_backslash rest)) (omega arith)

pub unclosed_quote_size_is_within_bytes : IsSizeWithinBytes unclosed_quote_unit_size
unclosed_quote_size_is_within_bytes [] = omega arith
unclosed_quote_size_is_within_bytes (b ∷ rest) =
    choice_of_bounded_sizes_is_within_bound (begins_line_end (b ∷ rest)) 0 (cond (b == 92) (length (bytes_of_unit (unit_after_backslash rest))) 1) (length (b ∷ rest)) (omega arith)
    (choice_of_bounded_sizes_is_within_bound (b == 92) (length (bytes_of_unit (unit_after_backslash rest))) 1 (length (b ∷ rest)) (omega (arith, escaped_unit_is_within_bytes_and_backslash rest)) (omega arith))

byte_or_backslash_size_is_within_bytes : (test : ℕ → Bool) (size : LineUnit → ℕ) → IsMeasureWithinUnitBytes size → IsSizeWithinBytes (λ bytes. first_nonzero_number (size_of_one_matching_byte test bytes) (backslash_unit_size_by size bytes))
byte_or_backslash_size_is_within_bytes test size bounded bytes =
    first_nonzero_of_bounded_is_within_bound (size_of_one_matching_byte test bytes) (backslash_unit_size_by size bytes) (length bytes) (one_byte_size_is_within_bytes test bytes) (backslash_unit_size_is_within_bytes size bounded bytes)

pub run_unit_size_is_within_bytes : (r : ByteRunKind) (bytes : List ℕ) → run_unit_size r bytes ≤ length bytes
run_unit_size_is_within_bytes rule.Gap bytes = byte_or_backslash_size_is_within_bytes is_blank continuation_size_of_unit continuation_size_is_within_unit_bytes bytes
run_unit_size_is_within_bytes rule.Digits bytes = one_byte_size_is_within_bytes is_digit bytes
run_unit_size_is_within_bytes rule.Name bytes = one_byte_size_is_within_bytes is_byte_of_parameter_name bytes
run_unit_size_is_within_bytes rule.Digest bytes = one_byte_size_is_within_bytes is_digest_byte bytes
run_unit_size_is_within_bytes rule.Word bytes = byte_or_backslash_size_is_within_bytes is_word_byte pair_size_of_unit pair_size_is_within_unit_bytes bytes
run_unit_size_is_within_bytes rule.IncludePath bytes = byte_or_backslash_size_is_within_bytes is_byte_of_include_path pair_size_of_unit pair_size_is_within_unit_bytes bytes
run_unit_size_is_within_bytes rule.Path bytes = byte_or_backslash_size_is_within_bytes is_path_byte pair_size_of_unit pair_size_is_within_unit_bytes bytes
run_unit_size_is_within_bytes rule.Value bytes = byte_or_backslash_size_is_within_bytes is_value_byte pair_size_of_unit pair_size_is_within_unit_bytes bytes
run_unit_size_is_within_bytes rule.Quote bytes = byte_or_backslash_size_is_within_bytes is_quoted_byte pair_or_continuation_size_of_unit escape_size_is_within_unit_bytes bytes
run_unit_size_is_within_bytes rule.Clean bytes = byte_or_backslash_size_is_within_bytes is_quoted_byte_but_separator pair_or_continuation_size_of_unit escape_size_is_within_unit_bytes bytes

-- in the middle of a unit, what is left of it is passed first
pub reach_past_unit_is_sum_of_parts : (unit : List ℕ → ℕ) (k : ℕ) (bytes : List ℕ) → k ≤ length bytes → reach_of_units unit k bytes ≡ k + reach_of_units unit 0 (drop k bytes)
reach_past_unit_is_sum_of_parts unit zero bytes h = omega arith
reach_past_unit_is_sum_of_parts unit (suc k) [] h = absurd (omega arith)
reach_past_unit_is_sum_of_parts unit (suc k) (b ∷ bytes) h = ap suc (reach_past_unit_is_sum_of_parts unit k bytes (omega arith)) ∙ omega arith

pub reach_of_units_is_within_bytes : (unit : List ℕ → ℕ) → IsSizeWithinBytes unit → (k : ℕ) (bytes : List ℕ) → k ≤ length bytes → reach_of_units unit k bytes ≤ length bytes
reach_of_units_is_within_bytes unit within k [] h = omega arith
reach_of_units_is_within_bytes unit within (suc k) (b ∷ bytes) h = omega (arith, reach_of_units_is_within_bytes unit within k bytes (omega arith))
reach_of_units_is_within_bytes unit within zero (b ∷ bytes) h = past_within (unit (b ∷ bytes)) (within (b ∷ bytes)) (λ k l. reach_of_units_is_within_bytes unit within k bytes l)
  where
    past_within : (n : ℕ) → n ≤ suc (length bytes) → ((k : ℕ) → k ≤ length bytes → reach_of_units unit k bytes ≤ length bytes) → reach_past_first_byte n (λ k. reach_of_units unit k bytes) ≤ suc (length bytes)
    past_within zero l later = omega arith
    past_within (suc k) l later = omega (arith, later k (omega arith))

-- what is in the middle of a unit is reached
pub reach_of_units_includes_passed_bytes : (unit : List ℕ → ℕ) (k : ℕ) (bytes : List ℕ) → k ≤ length bytes → k ≤ reach_of_units unit k bytes
reach_of_units_includes_passed_bytes unit k bytes h = omega (arith, reach_past_unit_is_sum_of_parts unit k bytes h)

-- no unit begins, and nothing is reached
pub reach_without_first_unit_is_zero : (unit : List ℕ → ℕ) (bytes : List ℕ) → unit bytes ≡ 0 → reach_of_units unit 0 bytes ≡ 0
reach_without_first_unit_is_zero unit [] e = refl
reach_without_first_unit_is_zero unit (b ∷ bytes) e = rw e refl

reach_from_byte_begins_with_unit : (unit : List ℕ → ℕ) → IsSizeWithinBytes unit → (b : ℕ) (bytes : List ℕ) (n : ℕ) → unit (b ∷ bytes) ≡ n → 0 < n → reach_of_units unit 0 (b ∷ bytes) ≡ n + reach_of_units unit 0 (drop n (b ∷ bytes))
reach_from_byte_begins_with_unit unit within b bytes zero e h = absurd (omega arith)
reach_from_byte_begins_with_unit unit within b bytes (suc k) e h =
    let inside : k ≤ length bytes = omega (arith, within (b ∷ bytes), e) in
    rw e (ap suc (reach_past_unit_is_sum_of_parts unit k bytes inside) ∙ omega arith)

-- the first unit, and those of the rest
pub reach_begins_with_first_unit : (unit : List ℕ → ℕ) → IsSizeWithinBytes unit → (bytes : List ℕ) → 0 < unit bytes → reach_of_units unit 0 bytes ≡ unit bytes + reach_of_units unit 0 (drop (unit bytes) bytes)
reach_begins_with_first_unit unit within [] h = absurd (omega (arith, within []))
reach_begins_with_first_unit unit within (b ∷ bytes) h = reach_from_byte_begins_with_unit unit within b bytes (unit (b ∷ bytes)) refl h

-- what is left behind n bytes, as a slice has it
pub slice_from_count_to_end_is_drop : (n : ℕ) (bytes : List ℕ) → take (length bytes - n) (drop n bytes) ≡ drop n bytes
slice_from_count_to_end_is_drop n bytes = take_all (length bytes - n) (drop n bytes) (omega (arith, length-drop n bytes))

-- one unit more of those that begin the bytes
pub record IsNextUnitPartOfRun (unit : List ℕ → ℕ) (bytes : List ℕ) (len next : ℕ) : Type 0 where
  pub inside : len + next ≤ length bytes
  pub same : len + next + reach_of_units unit 0 (drop (len + next) bytes) ≡ reach_of_units unit 0 bytes

pub next_unit_is_part_of_run : (unit : List ℕ → ℕ) → IsSizeWithinBytes unit → (bytes : List ℕ) (len next : ℕ) → next ≡ unit (take (length bytes - len) (drop len bytes)) → (next ≡ 0 → ⊥) → len ≤ length bytes → len + reach_of_units unit 0 (drop len bytes) ≡ reach_of_units unit 0 bytes → IsNextUnitPartOfRun unit bytes len next
next_unit_is_part_of_run unit within bytes len next is some inside so_far =
    let e : next ≡ unit (drop len bytes) = is ∙ ap unit (slice_from_count_to_end_is_drop len bytes) in
    let step = reach_begins_with_first_unit unit within (drop len bytes) (omega arith) in
    let rest : drop (unit (drop len bytes)) (drop len bytes) ≡ drop (len + next) bytes =
    drop-drop (unit (drop len bytes)) len bytes ∙ ap (λ (n : ℕ). drop (len + n) bytes) (sym e) in
    record {
      inside = omega (arith, within (drop len bytes), length-drop len bytes, e);
      same = omega (arith, so_far, step, e, ap (reach_of_units unit 0) rest);
    }

pub leading_run_size_is_within_bytes : (r : ByteRunKind) (bytes : List ℕ) → leading_run_size r bytes ≤ length bytes
unfolding leading_run_size
leading_run_size_is_within_bytes r bytes = reach_of_units_is_within_bytes (run_unit_size r) (run_unit_size_is_within_bytes r) 0 bytes (omega arith)

-- A byte stands there, so it is no further than the end.
pub place_with_first_byte_is_within_bytes : (a n : ℕ) (bytes : List ℕ) → has_given_first_byte a (drop n bytes) ≡ true → n < length bytes
place_with_first_byte_is_within_bytes a zero [] h = absurd (cc)
place_with_first_byte_is_within_bytes a zero (b ∷ bytes) h = omega arith
place_with_first_byte_is_within_bytes a (suc n) [] h = absurd (cc)
place_with_first_byte_is_within_bytes a (suc n) (b ∷ bytes) h = omega (arith, place_with_first_byte_is_within_bytes a n bytes h)

-- both tests, or none of it
pub doubly_tested_size_is_within_bound : (s t : Bool) (m n : ℕ) → (t ≡ true → m ≤ n) → cond (s && t) m 0 ≤ n
doubly_tested_size_is_within_bound true true m n h = h refl
doubly_tested_size_is_within_bound true false m n h = omega arith
doubly_tested_size_is_within_bound false t m n h = omega arith

pub quoted_run_size_is_within_bytes : (r : ByteRunKind) → IsSizeWithinBytes (quotes_and_run_between_size r)
unfolding quotes_and_run_between_size
quoted_run_size_is_within_bytes r [] = omega arith
quoted_run_size_is_within_bytes r (b ∷ rest) =
    doubly_tested_size_is_within_bound (b == 34) (has_given_first_byte 34 (drop (leading_run_size r rest) rest)) (leading_run_size r rest + 2) (length (b ∷ rest))
    (λ t. omega (arith, place_with_first_byte_is_within_bytes 34 (leading_run_size r rest) rest t))

pub argument_unit_size_is_within_bytes : IsSizeWithinBytes argument_unit_size
argument_unit_size_is_within_bytes bytes =
    first_nonzero_of_bounded_is_within_bound (run_unit_size rule.Path bytes) (quotes_and_run_between_size rule.Clean bytes) (length bytes) (run_unit_size_is_within_bytes rule.Path bytes) (quoted_run_size_is_within_bytes rule.Clean bytes)

pub argument_units_size_is_within_bytes : (bytes : List ℕ) → argument_units_size bytes ≤ length bytes
unfolding argument_units_size
argument_units_size_is_within_bytes bytes = reach_of_units_is_within_bytes argument_unit_size argument_unit_size_is_within_bytes 0 bytes (omega arith)

chosen_bytes_with_first_are_one_longer : (t : Bool) (b n : ℕ) (rest : List ℕ) → length rest ≤ n → length (if t then [] else b ∷ rest) ≤ suc n
chosen_bytes_with_first_are_one_longer true b n rest h = omega arith
chosen_bytes_with_first_are_one_longer false b n rest h = omega arith

pub line_end_search_is_within_bytes : (bytes : List ℕ) → length (bytes_up_to_line_end bytes) ≤ length bytes
line_end_search_is_within_bytes [] = omega arith
line_end_search_is_within_bytes (b ∷ rest) = chosen_bytes_with_first_are_one_longer (begins_line_end (b ∷ rest)) b (length rest) (bytes_up_to_line_end rest) (line_end_search_is_within_bytes rest)
