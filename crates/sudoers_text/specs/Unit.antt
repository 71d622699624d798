-- The units that a line is made of, and what stands left of a place in it.
use Rattle.std.specs.Prelude.{◌≡◌, ℕ, Bool, true, false, not, ◌&&◌, ◌||◌, ◌==◌, nat_le, nat_eq, List, [], ◌∷◌, ◌++◌, drop, Option, None, Some, if◌then◌else◌}
use Rattle.std.specs.List.{starts_with}
use Rattle.std.specs.Str.{bytes_eq}

-- a backslash and the line end behind it (true: CR LF); a backslash and the byte behind it; a `"` and the rest
-- of the quoted part; a `#` and the bytes behind it up to the line end; a byte that stands for itself
pub data LineUnit : Type 0 where
  Continuation : Bool → LineUnit
  Pair : ℕ → LineUnit
  Quoted : List ℕ → LineUnit
  Comment : List ℕ → LineUnit
  Byte : ℕ → LineUnit

-- the bytes of a unit
abbrev pub bytes_of_unit : LineUnit → List ℕ
bytes_of_unit (Continuation false) = 92 ∷ 10 ∷ []
bytes_of_unit (Continuation true) = 92 ∷ 13 ∷ 10 ∷ []
bytes_of_unit (Pair b) = 92 ∷ b ∷ []
bytes_of_unit (Quoted bytes) = 34 ∷ bytes
bytes_of_unit (Comment bytes) = 35 ∷ bytes
bytes_of_unit (Byte b) = b ∷ []

-- the bytes of units that are listed the last one first, as one goes left
abbrev pub bytes_of_reversed_units : List LineUnit → List ℕ
bytes_of_reversed_units [] = []
bytes_of_reversed_units (u ∷ before) = bytes_of_reversed_units before ++ bytes_of_unit u

abbrev pub begins_lf : List ℕ → Bool
begins_lf [] = false
begins_lf (b ∷ _) = b == 10

abbrev pub is_blank : ℕ → Bool
is_blank b = b == 32 || b == 9

-- LF, or CR LF
abbrev pub begins_line_end : List ℕ → Bool
begins_line_end [] = false
begins_line_end (b ∷ rest) = b == 10 || (b == 13 && begins_lf rest)

-- how many bytes the line end has that begins the text, or none
abbrev pub line_end_size : List ℕ → ℕ
line_end_size [] = 0
line_end_size (b ∷ rest) = if b == 10 then 1 else (if b == 13 && begins_lf rest then 2 else 0)

-- a blank or a continuation
abbrev pub is_gap_unit : LineUnit → Bool
is_gap_unit (Continuation _) = true
is_gap_unit (Pair _) = false
is_gap_unit (Quoted _) = false
is_gap_unit (Comment _) = false
is_gap_unit (Byte b) = is_blank b

abbrev pub is_empty : List ℕ → Bool
is_empty [] = true
is_empty (_ ∷ _) = false

-- what the line has so far, without the blanks and continuations that it begins with
abbrev pub bytes_of_units_after_leading_gap : List LineUnit → List ℕ
bytes_of_units_after_leading_gap [] = []
bytes_of_units_after_leading_gap (u ∷ before) = if is_empty (bytes_of_units_after_leading_gap before) && is_gap_unit u then [] else bytes_of_units_after_leading_gap before ++ bytes_of_unit u

-- `Defaults`
abbrev pub defaults_word : List ℕ
defaults_word = 68 ∷ 101 ∷ 102 ∷ 97 ∷ 117 ∷ 108 ∷ 116 ∷ 115 ∷ []

-- `!`, `(` and `%`
abbrev pub is_sign_byte_before_id : ℕ → Bool
is_sign_byte_before_id b = b == 33 || b == 40 || b == 37

-- `,`, `:` and `=`
abbrev pub is_comma_colon_or_equals : ℕ → Bool
is_comma_colon_or_equals b = b == 44 || b == 58 || b == 61

-- Going left over blanks, continuations and signs one reaches the line's beginning, a separator, or the `>`
-- directly behind a `Defaults` that the line begins with.
abbrev pub is_id_position_after_units : List LineUnit → Bool
is_id_position_after_units [] = true
is_id_position_after_units (Continuation _ ∷ before) = is_id_position_after_units before
is_id_position_after_units (Pair _ ∷ before) = false
is_id_position_after_units (Quoted _ ∷ before) = false
is_id_position_after_units (Comment _ ∷ before) = false
is_id_position_after_units (Byte b ∷ before) =
    if is_blank b || is_sign_byte_before_id b then is_id_position_after_units before
    else is_comma_colon_or_equals b || (b == 62 && bytes_eq (bytes_of_units_after_leading_gap before) defaults_word)

abbrev pub is_digit : ℕ → Bool
is_digit b = nat_le 48 b && nat_le b 57

abbrev pub begins_digit : List ℕ → Bool
begins_digit [] = false
begins_digit (b ∷ _) = is_digit b

-- behind any blanks stands a byte that is no blank, no `#` and in no line end
abbrev pub has_path_after_blanks : List ℕ → Bool
has_path_after_blanks [] = false
has_path_after_blanks (b ∷ rest) = if is_blank b then has_path_after_blanks rest else not (b == 35) && not (begins_line_end (b ∷ rest))

-- one or more blanks, and then a path
abbrev pub has_blanks_and_path : List ℕ → Bool
has_blanks_and_path [] = false
has_blanks_and_path (b ∷ rest) = is_blank b && has_path_after_blanks rest

-- `include`, and `dir`
abbrev pub include_word : List ℕ
include_word = 105 ∷ 110 ∷ 99 ∷ 108 ∷ 117 ∷ 100 ∷ 101 ∷ []

abbrev pub includedir_word : List ℕ
includedir_word = 105 ∷ 110 ∷ 99 ∷ 108 ∷ 117 ∷ 100 ∷ 101 ∷ 100 ∷ 105 ∷ 114 ∷ []

-- what follows the `#` of an include
abbrev pub is_rest_of_hash_include : List ℕ → Bool
is_rest_of_hash_include rest =
    (starts_with nat_eq rest include_word && has_blanks_and_path (drop 7 rest))
    || (starts_with nat_eq rest includedir_word && has_blanks_and_path (drop 10 rest))

-- A `#` with this before it and that behind it begins a comment: it begins neither an ID nor an include.
abbrev pub is_hash_of_comment : List LineUnit → List ℕ → Bool
is_hash_of_comment before rest =
    not (is_id_position_after_units before && begins_digit rest)
    && not (is_empty (bytes_of_units_after_leading_gap before) && is_rest_of_hash_include rest)

-- What is left of a quoted part: up to its `"`, or up to a line end that is no continuation, or all. behind_backslash:
-- directly left stands a backslash that the next bytes make a pair or a continuation.
abbrev pub rest_of_quoted_part : Bool → List ℕ → List ℕ
rest_of_quoted_part behind_backslash [] = []
rest_of_quoted_part true (b ∷ rest) = b ∷ rest_of_quoted_part (b == 13 && begins_lf rest) rest
rest_of_quoted_part false (b ∷ rest) =
    if b == 34 then b ∷ []
    else (if begins_line_end (b ∷ rest) then []
    else b ∷ rest_of_quoted_part (b == 92) rest)

-- the bytes up to the line end
abbrev pub bytes_up_to_line_end : List ℕ → List ℕ
bytes_up_to_line_end [] = []
bytes_up_to_line_end (b ∷ rest) = if begins_line_end (b ∷ rest) then [] else b ∷ bytes_up_to_line_end rest

-- what a backslash begins, by the bytes behind it
abbrev pub unit_after_backslash : List ℕ → LineUnit
unit_after_backslash [] = Byte 92
unit_after_backslash (b ∷ rest) =
    if begins_line_end (b ∷ rest) then Continuation (b == 13) else Pair b

-- The unit that begins here: the first that fits of a continuation, a pair, a quoted part, a comment and a byte. None does
-- at a line end and at the text's end.
abbrev pub unit_at : List LineUnit → List ℕ → Option LineUnit
unit_at before [] = None
unit_at before (b ∷ rest) =
    if begins_line_end (b ∷ rest) then None
    else (if b == 92 then Some (unit_after_backslash rest)
    else (if b == 34 then Some (Quoted (rest_of_quoted_part false rest))
    else (if b == 35 && is_hash_of_comment before rest then Some (Comment (bytes_up_to_line_end rest))
    else Some (Byte b))))

-- The units, the last one first, stand before this text: each is the one that begins at its place.
abbrev pub AreUnitsBefore : List LineUnit → List ℕ → Type 0
AreUnitsBefore [] after = Unit {0}
AreUnitsBefore (u ∷ before) after = (unit_at before (bytes_of_unit u ++ after) ≡ Some u) × AreUnitsBefore before (bytes_of_unit u ++ after)
