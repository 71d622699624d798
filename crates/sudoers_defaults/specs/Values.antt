-- What parameters take as a value: a language for each type.
use Rattle.std.specs.Prelude.{ℕ, ◌+◌, ◌-◌, ◌*◌, ◌==◌, ◌&&◌, ◌||◌, nat_le, nat_lt, Bool, true, List, [], ◌∷◌, ◌++◌, length, take, codes, Option, Some, None, is_some, unwrap_or, if◌then◌else◌}
use Rattle.std.specs.List.{list_all}
use Rattle.std.specs.Str.{bytes_eq}
use Rattle.sudoers_text.specs.Unit.{is_digit, is_empty}
use Rattle.sudoers_grammar.specs.Number.{is_nonempty_digit_string, parts_around_first_byte}
use Rattle.sudoers_grammar.specs.Piece.{has_first_byte}
use Rattle.sudoers_defaults.specs.Numbers.{signed_number_up_to, number_up_to, number_extended_up_to, is_octal_number_of_digits, text_after_spaces, text_after_sign}
use Rattle.sudoers_defaults.specs.declared.parameter_group.WordSet.{WordSet}
use Rattle.sudoers_defaults.specs.declared.parameter_group.WordSet.TheVariants as set

-- ---- words

abbrev pub words_of_set : WordSet → List (List ℕ)
words_of_set set.Lecture = codes "never" ∷ codes "once" ∷ codes "always" ∷ []
words_of_set set.Commands = codes "never" ∷ codes "any" ∷ codes "all" ∷ codes "always" ∷ []
words_of_set set.Execution = codes "never" ∷ codes "digest_only" ∷ codes "always" ∷ []
words_of_set set.Tickets = codes "global" ∷ codes "ppid" ∷ codes "tty" ∷ codes "kernel" ∷ []
words_of_set set.LogFormat = codes "sudo" ∷ codes "json" ∷ []
words_of_set set.Interception = codes "dso" ∷ codes "trace" ∷ []
words_of_set set.Facility =
    codes "authpriv" ∷ codes "auth" ∷ codes "daemon" ∷ codes "user" ∷ codes "local0" ∷ codes "local1" ∷ codes "local2"
    ∷ codes "local3" ∷ codes "local4" ∷ codes "local5" ∷ codes "local6" ∷ codes "local7" ∷ []
words_of_set set.Priority =
    codes "alert" ∷ codes "crit" ∷ codes "debug" ∷ codes "emerg" ∷ codes "err" ∷ codes "info" ∷ codes "notice"
    ∷ codes "warning" ∷ codes "none" ∷ []

-- ---- paths

-- the number of bytes that no path of the system has (PATH_MAX of Linux)
abbrev pub path_size_limit : ℕ
path_size_limit = 4096

-- a path from the root
abbrev pub is_path : List ℕ → Bool
is_path text = has_first_byte 47 text && nat_lt (length text) path_size_limit

-- a path from the root or from a home, or `*`
abbrev pub is_path_or_star : List ℕ → Bool
is_path_or_star text = (has_first_byte 47 text || has_first_byte 126 text || bytes_eq text (codes "*")) && nat_lt (length text) path_size_limit

-- ---- numbers

abbrev pub is_integer : List ℕ → Bool
is_integer text = is_some (signed_number_up_to 2147483648 2147483647 text)

abbrev pub is_unsigned : List ℕ → Bool
is_unsigned text = is_some (signed_number_up_to 0 4294967295 text)

-- an octal mode up to 0777
abbrev pub is_mode : List ℕ → Bool
is_mode text = is_octal_number_of_digits (if has_first_byte 45 (text_after_spaces text) then 0 else 3) (text_after_sign (text_after_spaces text))

-- ---- minutes

-- what stands before the first point and what behind it; without a point nothing stands behind it
abbrev pub parts_around_point : List ℕ → List ℕ × List ℕ
parts_around_point text = unwrap_or (parts_around_first_byte 46 text) (text, [])

-- nine digits behind the point; those that are missing are zeros
abbrev pub nine_digits : List ℕ → List ℕ
nine_digits text = take 9 text ++ take (9 - length text) (codes "000000000")

-- fewer than 2 ^ 63 seconds, with nine digits behind the point
abbrev pub most_minutes : ℕ
most_minutes = 153722867280912930133333333

-- Digits, a point and digits. What follows nine digits behind the point is not looked at.
abbrev pub are_minutes : List ℕ × List ℕ → Bool
are_minutes parts =
    list_all is_digit parts.0 && list_all is_digit (take 9 parts.1)
    && is_some (number_extended_up_to most_minutes 0 (parts.0 ++ nine_digits parts.1))

-- a sign, and minutes
abbrev pub is_minutes : List ℕ → Bool
is_minutes text = are_minutes (parts_around_point (text_after_sign text))

-- ---- numbers of sudo-rs

-- the number of bytes that a number of sudo-rs has at most
abbrev pub small_number_size : ℕ
small_number_size = 18

-- a number up to 1,000
abbrev pub is_small_number : List ℕ → Bool
is_small_number text = nat_le (length text) small_number_size && is_some (number_up_to 1000 text)

-- so many minutes are fewer than 2 ^ 63 seconds
abbrev pub is_number_of_minutes : List ℕ → Bool
is_number_of_minutes text = is_some (number_up_to 153722867280912930 text)

-- minutes, and perhaps a point with digits behind it
abbrev pub are_digits_around_point : List ℕ → Option (List ℕ × List ℕ) → Bool
are_digits_around_point text None = is_number_of_minutes text
are_digits_around_point text (Some parts) = is_number_of_minutes parts.0 && is_nonempty_digit_string parts.1

abbrev pub is_plain_minutes : List ℕ → Bool
is_plain_minutes text = nat_le (length text) small_number_size && are_digits_around_point text (parts_around_first_byte 46 text)

-- ---- times with units

-- the seconds of the unit that a letter names: days, hours, minutes, seconds
abbrev pub unit_of_letter : ℕ → Option ℕ
unit_of_letter b =
    if b == 100 || b == 68 then Some 86400
    else (if b == 104 || b == 72 then Some 3600
    else (if b == 109 || b == 77 then Some 60
    else (if b == 115 || b == 83 then Some 1
    else None)))

-- The text behind this part, cut behind each letter of a unit: each part without its letter, and its unit. The last part may have none:
-- its unit is 0.
abbrev pub timed_parts : List ℕ → List ℕ → List (List ℕ × ℕ)
timed_parts part [] = if is_empty part then [] else (part, 0) ∷ []
timed_parts part (b ∷ rest) = timed_parts_at part b (timed_parts (part ++ b ∷ []) rest) (timed_parts [] rest) (unit_of_letter b)
  where
    timed_parts_at : List ℕ → ℕ → List (List ℕ × ℕ) → List (List ℕ × ℕ) → Option ℕ → List (List ℕ × ℕ)
    timed_parts_at part b longer others None = longer
    timed_parts_at part b longer others (Some unit) = (part, unit) ∷ others

abbrev pub number_of_part : List ℕ → Option ℕ
number_of_part text = signed_number_up_to 0 2147483647 text

-- Each part is a number, and its unit is no longer than this one and the units before it.
abbrev pub are_timed_parts : ℕ → List (List ℕ × ℕ) → Bool
are_timed_parts longest [] = true
are_timed_parts longest (p ∷ ps) = is_some (number_of_part p.0) && nat_le p.1 longest && are_timed_parts p.1 ps

-- all parts together, in seconds: what has no unit does not count, since sudo does not look whether the sum with it is too great
abbrev pub seconds_of_timed_parts : List (List ℕ × ℕ) → ℕ
seconds_of_timed_parts [] = 0
seconds_of_timed_parts (p ∷ ps) = unwrap_or (number_of_part p.0) 0 * p.1 + seconds_of_timed_parts ps

-- numbers with units, as `1h30m`, of fewer than 2 ^ 31 seconds, and perhaps such a number without a unit
abbrev pub is_time : List ℕ → Bool
is_time text = are_timed_parts 86400 (timed_parts [] text) && nat_le (seconds_of_timed_parts (timed_parts [] text)) 2147483647

-- ---- limits of resources

-- a number below 2 ^ 64, or no limit
abbrev pub is_limit : List ℕ → Bool
is_limit text = bytes_eq text (codes "infinity") || is_some (number_up_to 18446744073709551615 text)

-- One limit, or two of them with a comma between.
abbrev pub are_limits : List ℕ → Option (List ℕ × List ℕ) → Bool
are_limits text None = is_limit text
are_limits text (Some parts) = is_limit parts.0 && is_limit parts.1

abbrev pub is_resource_limit : List ℕ → Bool
is_resource_limit text = bytes_eq text (codes "user") || bytes_eq text (codes "default") || are_limits text (parts_around_first_byte 44 text)
