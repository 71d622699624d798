-- What pieces are made of: bytes, pairs and continuations, one after another.
use Rattle.std.specs.Prelude.{ℕ, zero, suc, ◌+◌, ◌==◌, ◌&&◌, ◌||◌, not, Bool, false, List, [], ◌∷◌, length, drop, if◌then◌else◌, nat_le, nat_lt}
use Rattle.sudoers_text.specs.declared.part.ByteRunKind.{ByteRunKind}
use Rattle.sudoers_text.specs.declared.part.ByteRunKind.TheVariants as rule
use Rattle.sudoers_text.specs.Unit.{LineUnit, Continuation, Pair, bytes_of_unit, is_blank, is_digit, is_comma_colon_or_equals, begins_line_end, unit_after_backslash}

-- one of `! = : , ( )`
abbrev pub is_punct : ℕ → Bool
is_punct b = b == 33 || b == 61 || b == 58 || b == 44 || b == 40 || b == 41

-- a byte of an include's path: none of NUL, LF, CR, a blank, `"`, `#` and `\`
abbrev pub is_byte_of_include_path : ℕ → Bool
is_byte_of_include_path b = not (b == 0 || b == 10 || b == 13 || is_blank b || b == 34 || b == 35 || b == 92)

-- a byte of a word, of a command's path or its argument, of a parameter's value
abbrev pub is_word_byte : ℕ → Bool
is_word_byte b = is_byte_of_include_path b && not (is_punct b)

abbrev pub is_path_byte : ℕ → Bool
is_path_byte b = is_byte_of_include_path b && not (is_comma_colon_or_equals b)

abbrev pub is_value_byte : ℕ → Bool
is_value_byte b = is_byte_of_include_path b && not (b == 44)

-- a byte of a quoted part; one that is no `,`, `:` or `=`
abbrev pub is_quoted_byte : ℕ → Bool
is_quoted_byte b = not (b == 10 || b == 13 || b == 34 || b == 92)

abbrev pub is_quoted_byte_but_separator : ℕ → Bool
is_quoted_byte_but_separator b = is_quoted_byte b && not (is_comma_colon_or_equals b)

abbrev pub is_upper : ℕ → Bool
is_upper b = nat_le 65 b && nat_le b 90

abbrev pub is_alphanumeric : ℕ → Bool
is_alphanumeric b = is_digit b || is_upper b || (nat_le 97 b && nat_le b 122)

-- a letter, a digit or `_`
abbrev pub is_byte_of_parameter_name : ℕ → Bool
is_byte_of_parameter_name b = is_alphanumeric b || b == 95

-- a letter, a digit, `+`, `/` or `=`
abbrev pub is_digest_byte : ℕ → Bool
is_digest_byte b = is_alphanumeric b || b == 43 || b == 47 || b == 61

-- What a backslash begins, in bytes, by what it is of a line's units: a pair, but that a CR is in none; a continuation; either.
abbrev pub pair_size_of_unit : LineUnit → ℕ
pair_size_of_unit (Pair b) = if b == 13 then 0 else 2
pair_size_of_unit unit = 0

abbrev pub continuation_size_of_unit : LineUnit → ℕ
continuation_size_of_unit (Continuation crlf) = length (bytes_of_unit (Continuation crlf))
continuation_size_of_unit unit = 0

abbrev pub pair_or_continuation_size_of_unit : LineUnit → ℕ
pair_or_continuation_size_of_unit (Pair b) = if b == 13 then 0 else 2
pair_or_continuation_size_of_unit (Continuation crlf) = length (bytes_of_unit (Continuation crlf))
pair_or_continuation_size_of_unit unit = 0

-- the size by this measure of what the backslash begins with which the bytes begin
abbrev pub backslash_unit_size_by : (LineUnit → ℕ) → List ℕ → ℕ
backslash_unit_size_by size [] = 0
backslash_unit_size_by size (b ∷ rest) = if b == 92 then size (unit_after_backslash rest) else 0

-- one byte that passes the test
abbrev pub size_of_one_matching_byte : (ℕ → Bool) → List ℕ → ℕ
size_of_one_matching_byte test [] = 0
size_of_one_matching_byte test (b ∷ rest) = if test b then 1 else 0

-- what a line has behind a `"` that is never closed: all but a line end that is in no continuation
abbrev pub unclosed_quote_unit_size : List ℕ → ℕ
unclosed_quote_unit_size [] = 0
unclosed_quote_unit_size (b ∷ rest) =
    if begins_line_end (b ∷ rest) then 0
    else (if b == 92 then length (bytes_of_unit (unit_after_backslash rest))
    else 1)

-- the first number that is not 0
abbrev pub first_nonzero_number : ℕ → ℕ → ℕ
first_nonzero_number zero m = m
first_nonzero_number (suc n) m = suc n

-- how many bytes the unit has that begins the bytes, or none: what runs of each rule are made of
abbrev pub run_unit_size : ByteRunKind → List ℕ → ℕ
run_unit_size rule.Gap bytes = first_nonzero_number (size_of_one_matching_byte is_blank bytes) (backslash_unit_size_by continuation_size_of_unit bytes)
run_unit_size rule.Digits bytes = size_of_one_matching_byte is_digit bytes
run_unit_size rule.Name bytes = size_of_one_matching_byte is_byte_of_parameter_name bytes
run_unit_size rule.Digest bytes = size_of_one_matching_byte is_digest_byte bytes
run_unit_size rule.Word bytes = first_nonzero_number (size_of_one_matching_byte is_word_byte bytes) (backslash_unit_size_by pair_size_of_unit bytes)
run_unit_size rule.IncludePath bytes = first_nonzero_number (size_of_one_matching_byte is_byte_of_include_path bytes) (backslash_unit_size_by pair_size_of_unit bytes)
run_unit_size rule.Path bytes = first_nonzero_number (size_of_one_matching_byte is_path_byte bytes) (backslash_unit_size_by pair_size_of_unit bytes)
run_unit_size rule.Value bytes = first_nonzero_number (size_of_one_matching_byte is_value_byte bytes) (backslash_unit_size_by pair_size_of_unit bytes)
run_unit_size rule.Quote bytes = first_nonzero_number (size_of_one_matching_byte is_quoted_byte bytes) (backslash_unit_size_by pair_or_continuation_size_of_unit bytes)
run_unit_size rule.Clean bytes = first_nonzero_number (size_of_one_matching_byte is_quoted_byte_but_separator bytes) (backslash_unit_size_by pair_or_continuation_size_of_unit bytes)

-- where a unit begins, one byte and what is reached behind it
abbrev pub reach_past_first_byte : ℕ → (ℕ → ℕ) → ℕ
reach_past_first_byte zero go = 0
reach_past_first_byte (suc k) go = suc (go k)

-- How far units go, one after another; k bytes of the first are still to pass.
abbrev pub reach_of_units : (List ℕ → ℕ) → ℕ → List ℕ → ℕ
reach_of_units unit k [] = 0
reach_of_units unit (suc k) (b ∷ bytes) = suc (reach_of_units unit k bytes)
reach_of_units unit zero (b ∷ bytes) = reach_past_first_byte (unit (b ∷ bytes)) (λ k. reach_of_units unit k bytes)

-- how many bytes the units have that begin the bytes
unfoldable pub leading_run_size : ByteRunKind → List ℕ → ℕ
leading_run_size rule bytes = reach_of_units (run_unit_size rule) 0 bytes

-- The text is units, one after another; it is so, and not empty.
abbrev pub is_entire_run : ByteRunKind → List ℕ → Bool
is_entire_run rule text = leading_run_size rule text == length text

abbrev pub is_nonempty_run : ByteRunKind → List ℕ → Bool
is_nonempty_run rule text = nat_lt 0 (length text) && is_entire_run rule text

abbrev pub has_given_first_byte : ℕ → List ℕ → Bool
has_given_first_byte a [] = false
has_given_first_byte a (b ∷ rest) = b == a

-- how many bytes have the quotes that begin the bytes and a run between them, or none
unfoldable pub quotes_and_run_between_size : ByteRunKind → List ℕ → ℕ
quotes_and_run_between_size rule [] = 0
quotes_and_run_between_size rule (b ∷ rest) =
    if b == 34 && has_given_first_byte 34 (drop (leading_run_size rule rest) rest) then leading_run_size rule rest + 2 else 0

-- a quoted part that is closed
abbrev pub closed_quote_size : List ℕ → ℕ
closed_quote_size bytes = quotes_and_run_between_size rule.Quote bytes

-- a unit of an argument: a byte, a pair, or a quoted part without `,`, `:` and `=`
abbrev pub argument_unit_size : List ℕ → ℕ
argument_unit_size bytes = first_nonzero_number (run_unit_size rule.Path bytes) (quotes_and_run_between_size rule.Clean bytes)

-- how many bytes the units have that begin the bytes
unfoldable pub argument_units_size : List ℕ → ℕ
argument_units_size bytes = reach_of_units argument_unit_size 0 bytes

-- an argument that is no part of a quoted one which a `,`, `:` or `=` breaks off
abbrev pub is_whole_argument : List ℕ → Bool
is_whole_argument text = argument_units_size text == length text

-- how many bytes a quoted part has up to a `,`, `:` or `=` in it, its first quote included
unfoldable pub quoted_front_to_inner_separator_size : List ℕ → ℕ
quoted_front_to_inner_separator_size [] = 0
quoted_front_to_inner_separator_size (b ∷ rest) =
    if quotes_and_run_between_size rule.Clean (b ∷ rest) == 0 && not (closed_quote_size (b ∷ rest) == 0) then leading_run_size rule.Clean rest + 1 else 0
