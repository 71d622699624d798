-- How far sudo reads paths, words and arguments.
use Rattle.std.specs.Prelude.{ℕ, suc, ◌+◌, ◌==◌, ◌&&◌, ◌||◌, not, nat_le, nat_lt, Bool, true, false, List, [], ◌∷◌, length, drop, codes, if◌then◌else◌}
use Rattle.std.specs.List.{list_all, starts_with}
use Rattle.std.specs.Prelude.{nat_eq}
use Rattle.std.specs.Str.{bytes_eq}
use Rattle.sudoers_text.specs.Unit.{is_digit, is_blank, is_comma_colon_or_equals, begins_digit}
use Rattle.sudoers_grammar.specs.Piece.{has_first_byte, has_last_byte}
use Rattle.sudoers_forms.specs.declared.spelling.Spelling.{Spelling}
use Rattle.sudoers_forms.specs.declared.spelling.Spelling.TheVariants as spelling

-- What may stand behind a backslash in a path: `,`, `:`, `=`, a blank or `#`; in arguments `\`, `*`, `?`, `[`, `]`, `!`, `^` and a line
-- end too; in a word all but a tab and LF.
abbrev pub is_escaped_in_path : ℕ → Bool
is_escaped_in_path b = is_comma_colon_or_equals b || is_blank b || b == 35

abbrev pub is_escaped_in_argument : ℕ → Bool
is_escaped_in_argument b = is_escaped_in_path b || b == 92 || b == 42 || b == 63 || b == 91 || b == 93 || b == 33 || b == 94 || b == 10 || b == 13

abbrev pub is_escaped_in_word : ℕ → Bool
is_escaped_in_word b = not (b == 9 || b == 10)

abbrev pub may_be_escaped_in : Spelling → ℕ → Bool
may_be_escaped_in spelling.Path b = is_escaped_in_path b
may_be_escaped_in spelling.Word b = is_escaped_in_word b
may_be_escaped_in spelling.Argument b = is_escaped_in_argument b

-- What may stand without one: in a path all but `,`, `:`, `=`, a blank, CR, LF and `#`; in a word none of these, and none of `>`, `!`,
-- `(`, `)` and `"`; in an argument, whose end is known, all but `#`, which begins a comment.
abbrev pub is_byte_of_path : ℕ → Bool
is_byte_of_path b = not (is_comma_colon_or_equals b || is_blank b || b == 13 || b == 10 || b == 35)

abbrev pub is_byte_of_word : ℕ → Bool
is_byte_of_word b = is_byte_of_path b && not (b == 62 || b == 33 || b == 40 || b == 41 || b == 34)

abbrev pub may_stand_in : Spelling → ℕ → Bool
may_stand_in spelling.Path b = is_byte_of_path b
may_stand_in spelling.Word b = is_byte_of_word b
may_stand_in spelling.Argument b = not (b == 35)

-- How many bytes are spelled so, from the first on. Escaped: the byte before the text is a backslash that escapes, and counts with its pair.
abbrev pub spelled_size : Spelling → Bool → List ℕ → ℕ
spelled_size s escaped [] = 0
spelled_size s true (b ∷ rest) = if may_be_escaped_in s b then suc (suc (spelled_size s false rest)) else 0
spelled_size s false (b ∷ rest) =
    if b == 92 then spelled_size s true rest
    else (if may_stand_in s b then suc (spelled_size s false rest)
    else 0)

-- The path with which the bytes begin, or none: `/` and more.
abbrev pub size_as_path : List ℕ → ℕ
size_as_path bytes = if has_first_byte 47 bytes && nat_lt 1 (spelled_size spelling.Path false bytes) then spelled_size spelling.Path false bytes else 0

-- The word with which the bytes begin; `%:` may stand before it.
abbrev pub size_as_word : List ℕ → ℕ
size_as_word bytes =
    if starts_with nat_eq bytes (codes "%:") then 2 + spelled_size spelling.Word false (drop 2 bytes)
    else spelled_size spelling.Word false bytes

-- ---- comments

-- `#` and a digit, perhaps with a `-` between them
abbrev pub begins_signed_digit : List ℕ → Bool
begins_signed_digit [] = false
begins_signed_digit (b ∷ rest) = is_digit b || (b == 45 && begins_digit rest)

abbrev pub is_numbered : List ℕ → Bool
is_numbered [] = false
is_numbered (b ∷ rest) = b == 35 && begins_signed_digit rest

-- No comment for sudo: CR follows the `#`, or `-` with nothing or CR behind it.
abbrev pub begins_cr : List ℕ → Bool
begins_cr text = has_first_byte 13 text

abbrev pub is_empty_or_cr : List ℕ → Bool
is_empty_or_cr [] = true
is_empty_or_cr (b ∷ rest) = b == 13

abbrev pub is_broken_comment : List ℕ → Bool
is_broken_comment [] = false
is_broken_comment (b ∷ []) = false
is_broken_comment (b ∷ c ∷ rest) = c == 13 || (c == 45 && is_empty_or_cr rest)

-- ---- digests

-- a digit, or a letter from a to f
abbrev pub is_hex_digit : ℕ → Bool
is_hex_digit b = is_digit b || (nat_le 65 b && nat_le b 70) || (nat_le 97 b && nat_le b 102)

-- A digest has this size in hexadecimal digits; else in base64 with `=` at its end this one, and without `=` that one.
abbrev pub has_digest_size : ℕ → ℕ → ℕ → List ℕ → Bool
has_digest_size hex padded bare text =
    if list_all is_hex_digit text then length text == hex
    else (if has_last_byte 61 text then length text == padded
    else length text == bare)

-- the digest of a kind; of another word none is
abbrev pub is_digest_of_kind : List ℕ → List ℕ → Bool
is_digest_of_kind kind text =
    if bytes_eq kind (codes "sha224") then has_digest_size 56 40 38 text
    else (if bytes_eq kind (codes "sha256") then has_digest_size 64 44 43 text
    else (if bytes_eq kind (codes "sha384") then has_digest_size 96 64 64 text
    else (if bytes_eq kind (codes "sha512") then has_digest_size 128 88 86 text
    else false)))
