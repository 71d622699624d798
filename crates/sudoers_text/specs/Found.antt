-- What the tokens of a line are, as a function that computes. Of its own it defines nothing: that it gives the line's tokens
-- is a law (`tokens_are`), and that there are no others is one too (`one_token_list`).
use Rattle.std.specs.Prelude.{ℕ, zero, suc, ◌+◌, ◌==◌, ◌&&◌, not, nat_lt, nat_eq, Bool, true, List, [], ◌∷◌, length, take, drop, if◌then◌else◌}
use Rattle.std.specs.List.{starts_with}
use Rattle.sudoers_text.specs.declared.part.ByteRunKind.TheVariants as rule
use Rattle.sudoers_text.specs.declared.token.TokenKind.{TokenKind}
use Rattle.sudoers_text.specs.declared.token.TokenKind.TheVariants as kind
use Rattle.sudoers_text.specs.declared.token.Token.{Token}
use Rattle.sudoers_text.specs.declared.token.Mode.{Mode}
use Rattle.sudoers_text.specs.declared.context.TokenContext.{TokenContext}
use Rattle.sudoers_text.specs.declared.context.TokenContext.TheVariants as context
use Rattle.sudoers_text.specs.Unit.{LineUnit, is_id_position_after_units, bytes_of_units_after_leading_gap, is_empty, begins_digit, is_rest_of_hash_include, bytes_up_to_line_end, includedir_word}
use Rattle.sudoers_text.specs.Part.{has_given_first_byte, size_of_one_matching_byte, leading_run_size, closed_quote_size, argument_units_size, quoted_front_to_inner_separator_size}
use Rattle.sudoers_text.specs.Piece.{TokenForm, Mark, Operator, Number, NonUnixGroup, Run, CommandPath, QuotedPart, CommentPart, IncludeWord, FirstWord, Argument, QuotedRest, kind_of_form, plus_or_minus_equals_size, defaults_or_at_include_word_size, quoted_argument_rest_size}
use Rattle.sudoers_text.specs.Context.{token_forms_in_context, context_after_token}
use Rattle.sudoers_text.specs.Token.{bad_token_size, units_left_of_place, next_token_start, is_line_end_or_empty}

-- with this many bytes before it, where there is any
abbrev pub size_with_prefix : ℕ → ℕ → ℕ
size_with_prefix n zero = 0
size_with_prefix n (suc m) = n + suc m

-- item: an ID may begin there
unfoldable pub hash_id_size : Bool → List ℕ → ℕ
hash_id_size item [] = 0
hash_id_size item (b ∷ rest) = if b == 35 && item then size_with_prefix 1 (leading_run_size rule.Digits rest) else 0

unfoldable pub optional_colon_id_size : Bool → List ℕ → ℕ
optional_colon_id_size item [] = 0
optional_colon_id_size item (b ∷ rest) = if b == 58 then size_with_prefix 1 (hash_id_size true rest) else hash_id_size item (b ∷ rest)

unfoldable pub numeric_id_size : Bool → List ℕ → ℕ
numeric_id_size item [] = 0
numeric_id_size item (b ∷ rest) = if b == 37 then size_with_prefix 1 (optional_colon_id_size item rest) else hash_id_size item (b ∷ rest)

unfoldable pub colon_and_word_size : List ℕ → ℕ
colon_and_word_size [] = 0
colon_and_word_size (b ∷ rest) = if b == 58 then size_with_prefix 1 (leading_run_size rule.Word rest) else 0

unfoldable pub non_unix_group_size : List ℕ → ℕ
non_unix_group_size [] = 0
non_unix_group_size (b ∷ rest) = if b == 37 then size_with_prefix 1 (colon_and_word_size rest) else 0

-- first: the line has not begun
unfoldable pub comment_size_at : Bool → Bool → List ℕ → ℕ
comment_size_at item first [] = 0
comment_size_at item first (b ∷ rest) =
    if b == 35 && (not (item && begins_digit rest) && not (first && is_rest_of_hash_include rest)) then length (bytes_up_to_line_end rest) + 1 else 0

unfoldable pub hash_include_size_at : Bool → List ℕ → ℕ
hash_include_size_at first [] = 0
hash_include_size_at first (b ∷ rest) =
    if b == 35 && (first && is_rest_of_hash_include rest) then (if starts_with nat_eq rest includedir_word then 11 else 8) else 0

unfoldable pub command_path_size : List ℕ → ℕ
command_path_size bytes = if has_given_first_byte 47 bytes then leading_run_size rule.Path bytes else 0

unfoldable pub argument_size : List ℕ → ℕ
argument_size bytes = argument_units_size bytes + quoted_front_to_inner_separator_size (drop (argument_units_size bytes) bytes)

-- How many bytes the longest piece of the form has that begins the bytes, or none. item: an ID may begin there; first: the
-- line has not begun.
abbrev pub longest_piece_size : TokenForm → Bool → Bool → List ℕ → ℕ
longest_piece_size (Mark test) item first bytes = size_of_one_matching_byte test bytes
longest_piece_size Operator item first bytes = plus_or_minus_equals_size bytes
longest_piece_size Number item first bytes = numeric_id_size item bytes
longest_piece_size NonUnixGroup item first bytes = non_unix_group_size bytes
longest_piece_size (Run k rule) item first bytes = leading_run_size rule bytes
longest_piece_size CommandPath item first bytes = command_path_size bytes
longest_piece_size (QuotedPart k) item first bytes = closed_quote_size bytes
longest_piece_size CommentPart item first bytes = comment_size_at item first bytes
longest_piece_size IncludeWord item first bytes = hash_include_size_at first bytes
longest_piece_size FirstWord item first bytes = defaults_or_at_include_word_size bytes
longest_piece_size Argument item first bytes = argument_size bytes
longest_piece_size QuotedRest item first bytes = quoted_argument_rest_size bytes

-- kind and size of the token with which the bytes begin
abbrev pub kind_and_size_of_token : List TokenForm → Bool → Bool → List ℕ → TokenKind × ℕ
kind_and_size_of_token [] item first bytes = (kind.Bad, bad_token_size bytes)
kind_and_size_of_token (form ∷ others) item first bytes =
    if nat_lt 0 (longest_piece_size form item first bytes) then (kind_of_form form, longest_piece_size form item first bytes) else kind_and_size_of_token others item first bytes

-- the same behind these units
abbrev pub kind_and_size_after_units : List TokenForm → List LineUnit → List ℕ → TokenKind × ℕ
kind_and_size_after_units fs before bytes = kind_and_size_of_token fs (is_id_position_after_units before) (is_empty (bytes_of_units_after_leading_gap before)) bytes

-- the tokens from a place on, no more than so many
unfoldable pub tokens_from_offset : ℕ → TokenContext → List ℕ → ℕ → List Token
tokens_from_offset zero here line at = []
tokens_from_offset (suc most) here line at =
    let start = next_token_start line at in
    let body = drop start line in
    let token = kind_and_size_after_units (token_forms_in_context here) (units_left_of_place line start) body in
    if is_line_end_or_empty body then []
    else record { kind = token.0; start = start; stop = start + token.1 }
    ∷ tokens_from_offset most (context_after_token here token.0 (take token.1 body) (drop token.1 body)) line (start + token.1)

-- the tokens of a line
unfoldable pub tokens_of_line : Mode → List ℕ → List Token
tokens_of_line m line = tokens_from_offset (length line) (context.First m) line 0
