-- The pieces of a line: which bytes may begin each, and which may stand in it.
use Rattle.std.specs.Prelude.{ℕ, ◌+◌, ◌==◌, ◌&&◌, ◌||◌, nat_lt, nat_eq, Bool, false, List, [], ◌∷◌, length, take, drop, if◌then◌else◌}
use Rattle.std.specs.List.{starts_with}
use Rattle.sudoers_text.specs.declared.part.ByteRunKind.{ByteRunKind}
use Rattle.sudoers_text.specs.declared.part.ByteRunKind.TheVariants as rule
use Rattle.sudoers_text.specs.declared.token.TokenKind.{TokenKind}
use Rattle.sudoers_text.specs.declared.token.TokenKind.TheVariants as kind
use Rattle.sudoers_text.specs.Unit.{LineUnit, Byte, bytes_of_units_after_leading_gap, is_empty, is_id_position_after_units, is_hash_of_comment, is_rest_of_hash_include, bytes_up_to_line_end, defaults_word, includedir_word}
use Rattle.sudoers_text.specs.Part.{has_given_first_byte, leading_run_size, is_nonempty_run, closed_quote_size, argument_units_size, quoted_front_to_inner_separator_size}
use Rattle.sudoers_text.specs.Word.{is_among, at_include_words}

-- The forms that pieces have.
pub data TokenForm : Type 0 where
  Mark : (ℕ → Bool) → TokenForm  -- one byte that passes the test
  Operator : TokenForm  -- `+=` or `-=`
  Number : TokenForm  -- `#`, `%#` or `%:#`, and digits
  NonUnixGroup : TokenForm  -- `%:` and a word
  Run : TokenKind → ByteRunKind → TokenForm  -- units of a rule, one after another
  CommandPath : TokenForm  -- the same of a path, that begins with `/`
  QuotedPart : TokenKind → TokenForm  -- `"` up to the `"` that closes it
  CommentPart : TokenForm  -- `#` and all up to the line end
  IncludeWord : TokenForm  -- `#include` or `#includedir`
  FirstWord : TokenForm  -- `Defaults`, `@include` or `@includedir`
  Argument : TokenForm  -- bytes, pairs and quoted parts
  QuotedRest : TokenForm  -- more of a quoted part, behind a `,`, `:` or `=` in it

abbrev pub kind_of_form : TokenForm → TokenKind
kind_of_form (Mark test) = kind.Punct
kind_of_form Operator = kind.Punct
kind_of_form Number = kind.Id
kind_of_form NonUnixGroup = kind.Word
kind_of_form (Run k rule) = k
kind_of_form CommandPath = kind.Path
kind_of_form (QuotedPart k) = k
kind_of_form CommentPart = kind.Comment
kind_of_form IncludeWord = kind.Word
kind_of_form FirstWord = kind.Word
kind_of_form Argument = kind.Arg
kind_of_form QuotedRest = kind.Arg

-- a `#` that begins an ID where these units stand left of it, and one or more digits
abbrev pub is_hash_id : List LineUnit → List ℕ → Bool
is_hash_id before [] = false
is_hash_id before (b ∷ digits) = b == 35 && (is_id_position_after_units before && is_nonempty_run rule.Digits digits)

-- the same, or behind `:`
abbrev pub is_optional_colon_id : List LineUnit → List ℕ → Bool
is_optional_colon_id before [] = false
is_optional_colon_id before (b ∷ text) = if b == 58 then is_hash_id (Byte 58 ∷ before) text else is_hash_id before (b ∷ text)

-- the same, or behind `%` or `%:`
abbrev pub is_numeric_id : List LineUnit → List ℕ → Bool
is_numeric_id before [] = false
is_numeric_id before (b ∷ text) = if b == 37 then is_optional_colon_id (Byte 37 ∷ before) text else is_hash_id before (b ∷ text)

-- `:` and a word; `%:` and a word
abbrev pub is_colon_and_word : List ℕ → Bool
is_colon_and_word [] = false
is_colon_and_word (b ∷ word) = b == 58 && is_nonempty_run rule.Word word

abbrev pub is_non_unix_group_word : List ℕ → Bool
is_non_unix_group_word [] = false
is_non_unix_group_word (b ∷ text) = b == 37 && is_colon_and_word text

-- The sizes of the pieces that have no choice of size; 0 where none begins the bytes.

unfoldable pub plus_or_minus_equals_size : List ℕ → ℕ
plus_or_minus_equals_size [] = 0
plus_or_minus_equals_size (b ∷ []) = 0
plus_or_minus_equals_size (b ∷ c ∷ rest) = if (b == 43 || b == 45) && c == 61 then 2 else 0

abbrev pub comment_size : List LineUnit → List ℕ → ℕ
comment_size before [] = 0
comment_size before (b ∷ rest) = if b == 35 && is_hash_of_comment before rest then length (bytes_up_to_line_end rest) + 1 else 0

-- An include is the first thing on its line.
abbrev pub hash_include_word_size : List LineUnit → List ℕ → ℕ
hash_include_word_size before [] = 0
hash_include_word_size before (b ∷ rest) =
    if b == 35 && (is_empty (bytes_of_units_after_leading_gap before) && is_rest_of_hash_include rest)
    then (if starts_with nat_eq rest includedir_word then 11 else 8)
    else 0

-- `@` or `>`, which can be in a word, but name a scope behind `Defaults`
abbrev pub has_host_or_runas_sign : List ℕ → Bool
has_host_or_runas_sign bytes = has_given_first_byte 64 bytes || has_given_first_byte 62 bytes

-- the word `Defaults`, or the same before a scope's sign
abbrev pub begins_defaults : List ℕ → Bool
begins_defaults bytes = starts_with nat_eq bytes defaults_word && (leading_run_size rule.Word bytes == 8 || has_host_or_runas_sign (drop 8 bytes))

-- a whole word, but that `Defaults` may stand before a scope's sign
unfoldable pub defaults_or_at_include_word_size : List ℕ → ℕ
defaults_or_at_include_word_size bytes =
    if begins_defaults bytes then 8
    else (if is_among at_include_words (take (leading_run_size rule.Word bytes) bytes) then leading_run_size rule.Word bytes
    else 0)

-- up to the next `,`, `:` or `=`, or up to the `"` where that comes first
unfoldable pub quoted_argument_rest_size : List ℕ → ℕ
quoted_argument_rest_size bytes =
    if has_given_first_byte 34 (drop (leading_run_size rule.Clean bytes) bytes) then leading_run_size rule.Clean bytes + 1
    else leading_run_size rule.Clean bytes

-- An argument is units of its own; the last may be the front of a quoted part that has a `,`, `:` or `=` in it, up to that.
abbrev pub is_argument_of_size : List ℕ → ℕ → Bool
is_argument_of_size bytes n =
    argument_units_size (take n bytes) == n
    || (nat_lt 0 (quoted_front_to_inner_separator_size (drop (argument_units_size (take n bytes)) bytes))
    && (argument_units_size (take n bytes) + quoted_front_to_inner_separator_size (drop (argument_units_size (take n bytes)) bytes) == n))

-- The first n bytes are a piece of this form, where these units stand left of them.
abbrev pub is_piece_of_form : TokenForm → List LineUnit → List ℕ → ℕ → Bool
is_piece_of_form (Mark test) before [] n = false
is_piece_of_form (Mark test) before (b ∷ rest) n = test b && (n == 1)
is_piece_of_form Operator before bytes n = nat_lt 0 n && (n == plus_or_minus_equals_size bytes)
is_piece_of_form Number before bytes n = is_numeric_id before (take n bytes)
is_piece_of_form NonUnixGroup before bytes n = is_non_unix_group_word (take n bytes)
is_piece_of_form (Run k rule) before bytes n = is_nonempty_run rule (take n bytes)
is_piece_of_form CommandPath before bytes n = has_given_first_byte 47 bytes && is_nonempty_run rule.Path (take n bytes)
is_piece_of_form (QuotedPart k) before bytes n = nat_lt 0 n && (n == closed_quote_size bytes)
is_piece_of_form CommentPart before bytes n = nat_lt 0 n && (n == comment_size before bytes)
is_piece_of_form IncludeWord before bytes n = nat_lt 0 n && (n == hash_include_word_size before bytes)
is_piece_of_form FirstWord before bytes n = nat_lt 0 n && (n == defaults_or_at_include_word_size bytes)
is_piece_of_form Argument before bytes n = nat_lt 0 n && is_argument_of_size bytes n
is_piece_of_form QuotedRest before bytes n = nat_lt 0 n && (n == quoted_argument_rest_size bytes)
