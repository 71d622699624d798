-- The dialect of sudo: the tokens that sudo reads and this toolkit refuses, and the line in which each is spelled so that both read
-- the same.
use Rattle.std.specs.Prelude.{◌≡◌, ℕ, zero, suc, ◌-◌, ◌<◌, ◌==◌, ◌&&◌, ◌||◌, not, Bool, true, false, List, [], ◌∷◌, ◌++◌, ◌+◌, length, take, drop, codes, if◌then◌else◌}
use Rattle.std.specs.Str.{bytes_eq}
use Rattle.sudoers_text.specs.declared.token.TokenKind.{TokenKind}
use Rattle.sudoers_text.specs.declared.token.TokenKind.TheVariants as kind
use Rattle.sudoers_text.specs.declared.token.Token.{Token}
use Rattle.sudoers_text.specs.declared.context.TokenContext.{TokenContext}
use Rattle.sudoers_text.specs.declared.context.TokenContext.TheVariants as context
use Rattle.sudoers_text.specs.declared.adapting.TokenBefore.{TokenBefore}
use Rattle.sudoers_text.specs.declared.adapting.TokenBefore.TheVariants as before
use Rattle.sudoers_text.specs.declared.adapting.Respelling.{Respelling}
use Rattle.sudoers_text.specs.declared.adapting.Respelling.TheVariants as respelling
use Rattle.sudoers_text.specs.Unit.{is_blank, is_sign_byte_before_id, begins_digit, begins_line_end}
use Rattle.sudoers_text.specs.Part.{has_given_first_byte}
use Rattle.sudoers_text.specs.Ended.{ends_in_lf}
use Rattle.sudoers_text.specs.Whole.{is_logical_line}
use Rattle.sudoers_text.specs.Context.{token_forms_in_context, context_after_token}
use Rattle.sudoers_text.specs.Token.{units_left_of_place, leading_gap_size, next_token_start, is_line_end_or_empty, IsTokenOfKindAndSize}
use Rattle.sudoers_text.specs.Found.{kind_and_size_after_units}
use Rattle.sudoers_text.specs.LineMode.{line_mode}

-- ---- an `=` among arguments

-- a byte that is of one word with the bytes at its sides, among arguments: none of LF, CR, a blank, `#`, `\`, `,` and `:`
abbrev pub is_byte_of_argument_word : ℕ → Bool
is_byte_of_argument_word b = not (b == 10 || b == 13 || is_blank b || b == 35 || b == 92 || b == 44 || b == 58)

abbrev pub begins_with_argument_word : List ℕ → Bool
begins_with_argument_word [] = false
begins_with_argument_word (b ∷ rest) = is_byte_of_argument_word b

-- The text ends in such a byte, that is no second of a pair. escaped, joined: the byte left of it is a backslash that begins a
-- pair; it is such a byte.
abbrev pub ends_with_argument_word : Bool → Bool → List ℕ → Bool
ends_with_argument_word escaped joined [] = joined
ends_with_argument_word escaped joined (b ∷ rest) =
    ends_with_argument_word (not escaped && b == 92) (not escaped && is_byte_of_argument_word b) rest

-- Behind blanks, continuations and signs begins an ID. behind_backslash: directly left stands the backslash of a continuation.
abbrev pub leads_to_id : Bool → List ℕ → Bool
leads_to_id behind_backslash [] = false
leads_to_id true (b ∷ rest) = leads_to_id (b == 13) rest
leads_to_id false (b ∷ rest) =
    if is_blank b || is_sign_byte_before_id b then leads_to_id false rest
    else (if b == 92 && begins_line_end rest then leads_to_id true rest
    else b == 35 && begins_digit rest)

-- An `=` there is of one word with a byte left of it (apart: blanks or continuations stand between) or right of it. The last byte of
-- a path is of no such word, and that of `sudoedit` neither: sudo ends the command there.
abbrev pub is_in_argument_word : TokenBefore → Bool → List ℕ → Bool
is_in_argument_word before.Path apart rest = begins_with_argument_word rest
is_in_argument_word (before.Argument joined) apart rest = begins_with_argument_word rest || (joined && not apart)
is_in_argument_word before.Sudoedit apart rest = begins_with_argument_word rest
is_in_argument_word before.OpeningParenthesis apart rest = false
is_in_argument_word before.Other apart rest = false

-- The token is an `=` among arguments: the mark, or what is Bad in a quoted part.
abbrev pub is_equals_among_arguments : TokenContext → TokenKind → List ℕ → Bool
is_equals_among_arguments context.Arguments kind.Punct text = bytes_eq text (codes "=")
is_equals_among_arguments context.QuotedArgument kind.Bad text = bytes_eq text (codes "=")
is_equals_among_arguments here k text = false

-- The token is an `=` that stands for itself in sudo: among arguments, of one word with another byte, and no ID behind it.
abbrev pub is_plain_equals : TokenContext → TokenBefore → Bool → TokenKind → List ℕ → List ℕ → Bool
is_plain_equals here left apart k text rest =
    is_equals_among_arguments here k text && is_in_argument_word left apart rest && not (leads_to_id false rest)

-- ---- a `:` alone in parentheses

-- Behind blanks and continuations follows `)`.
abbrev pub leads_to_closing_parenthesis : List ℕ → Bool
leads_to_closing_parenthesis rest = has_given_first_byte 41 (drop (leading_gap_size rest) rest)

abbrev pub is_opening_parenthesis : TokenBefore → Bool
is_opening_parenthesis before.OpeningParenthesis = true
is_opening_parenthesis left = false

abbrev pub is_colon_in_parentheses : TokenContext → TokenKind → List ℕ → Bool
is_colon_in_parentheses context.Parentheses kind.Punct text = bytes_eq text (codes ":")
is_colon_in_parentheses here k text = false

-- The token is the `:` of `(:)`, which is `()` in sudo.
abbrev pub is_lone_colon : TokenContext → TokenBefore → TokenKind → List ℕ → List ℕ → Bool
is_lone_colon here left k text rest =
    is_colon_in_parentheses here k text && is_opening_parenthesis left && leads_to_closing_parenthesis rest

-- ---- lines

-- what a token is for the next one
abbrev pub token_before : TokenKind → List ℕ → TokenBefore
token_before kind.Path text = before.Path
token_before kind.Arg text = before.Argument (ends_with_argument_word false false text)
token_before kind.Word text = if bytes_eq text (codes "sudoedit") then before.Sudoedit else before.Other
token_before kind.Punct text = if bytes_eq text (codes "(") then before.OpeningParenthesis else before.Other
token_before k text = before.Other

-- how both spell the token
abbrev pub respelling_of : TokenContext → TokenBefore → Bool → TokenKind → List ℕ → List ℕ → Respelling
respelling_of here left apart k text rest =
    if is_plain_equals here left apart k text rest then respelling.Escaped
    else (if is_lone_colon here left k text rest then respelling.Blank
    else respelling.Same)

-- what is put before the token's text: a backslash, and a blank before that where the path or `sudoedit` ends there; or a blank in its
-- place
abbrev pub prefix_of_respelled : Respelling → TokenBefore → Bool → List ℕ
prefix_of_respelled respelling.Same left apart = []
prefix_of_respelled respelling.Blank left apart = 32 ∷ []
prefix_of_respelled respelling.Escaped before.Path false = 32 ∷ 92 ∷ []
prefix_of_respelled respelling.Escaped before.Sudoedit false = 32 ∷ 92 ∷ []
prefix_of_respelled respelling.Escaped left apart = 92 ∷ []

-- what is left of its text
abbrev pub text_of_respelled : Respelling → List ℕ → List ℕ
text_of_respelled respelling.Blank text = []
text_of_respelled r text = text

-- What may stand behind it: what stood there, if it is spelled otherwise.
abbrev pub context_after_respelled : Respelling → TokenContext → TokenKind → List ℕ → List ℕ → TokenContext
context_after_respelled respelling.Same here k text rest = context_after_token here k text rest
context_after_respelled r here k text rest = here

abbrev pub respelled_token_before : Respelling → TokenKind → List ℕ → TokenBefore
respelled_token_before respelling.Same k text = token_before k text
respelled_token_before respelling.Escaped k text = before.Argument true
respelled_token_before respelling.Blank k text = before.Other

-- From this place of the line on these are the tokens in the dialect of sudo, and this is the line from there on, each token spelled as
-- both spell it. It is as in `AreTokensFrom`, but for what may stand behind a token that is spelled otherwise.
abbrev pub AreRespelledFrom : TokenContext → TokenBefore → List ℕ → ℕ → List Token → List ℕ → Type 0
AreRespelledFrom here left line at [] out = (is_line_end_or_empty (drop (next_token_start line at) line) ≡ true) × (out ≡ drop at line)
AreRespelledFrom here left line at (t ∷ ts) out =
    let body = drop t.start line in
    let size = t.stop - t.start in
    let text = take size body in
    let rest = drop size body in
    let apart = not (t.start == at) in
    let r = respelling_of here left apart t.kind text rest in
    (t.start ≡ next_token_start line at) × (is_line_end_or_empty body ≡ false) × (t.start < t.stop)
    × IsTokenOfKindAndSize (token_forms_in_context here) (units_left_of_place line t.start) body t.kind size
    × ((later : List ℕ)
    × (out ≡ take (t.start - at) (drop at line) ++ (prefix_of_respelled r left apart ++ (text_of_respelled r text ++ later)))
    × AreRespelledFrom (context_after_respelled r here t.kind text rest) (respelled_token_before r t.kind text) line t.stop ts later)

-- the line with each token spelled as both spell it
pub record IsRespelledLine (line respelled : List ℕ) : Type 0 where
  pub tokens : List Token
  pub each : AreRespelledFrom (context.First (line_mode line)) before.Other line 0 tokens respelled

-- The same as a function that computes. Of its own it defines nothing: that it gives the respelled line is a law
-- (`respelled_line_is`), and that there is no other is one too (`one_respelled_line`). most: look no further than so many tokens.
unfoldable pub respelled_from_offset : ℕ → TokenContext → TokenBefore → List ℕ → ℕ → List ℕ
respelled_from_offset zero here left line at = drop at line
respelled_from_offset (suc most) here left line at =
    let start = next_token_start line at in
    let body = drop start line in
    let token = kind_and_size_after_units (token_forms_in_context here) (units_left_of_place line start) body in
    let text = take token.1 body in
    let rest = drop token.1 body in
    let apart = not (start == at) in
    let r = respelling_of here left apart token.0 text rest in
    if is_line_end_or_empty body then drop at line
    else take (start - at) (drop at line) ++ (prefix_of_respelled r left apart ++ (text_of_respelled r text
    ++ respelled_from_offset most (context_after_respelled r here token.0 text rest) (respelled_token_before r token.0 text) line (start + token.1)))

unfoldable pub respelled_line : List ℕ → List ℕ
respelled_line line = respelled_from_offset (length line) (context.First (line_mode line)) before.Other line 0

-- The other bytes are one logical line as the line is: with a line end if the line has one.
abbrev pub is_one_line_as : List ℕ → List ℕ → Bool
is_one_line_as line other = is_logical_line other && (if ends_in_lf line then ends_in_lf other else not (ends_in_lf other))

-- What the line says in sudo's dialect is what this line says. A line that would not stay one line stays as it is.
unfoldable pub adapted_line : List ℕ → List ℕ
adapted_line line = if is_one_line_as line (respelled_line line) then respelled_line line else line
