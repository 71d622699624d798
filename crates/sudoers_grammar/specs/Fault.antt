-- The first fault of a line: where no line goes on, and why.
use Rattle.std.specs.Prelude.{◌≡◌, ℕ, ◌&&◌, ◌||◌, not, Bool, true, false, List, [], ◌∷◌, ◌++◌, drop, codes, if◌then◌else◌}
use Rattle.std.specs.Str.{bytes_eq}
use Rattle.sudoers_text.specs.declared.token.TokenKind.{TokenKind}
use Rattle.sudoers_text.specs.declared.token.TokenKind.TheVariants as kind
use Rattle.sudoers_text.specs.Part.{is_whole_argument}
use Rattle.sudoers_text.specs.Value.{value_of_word}
use Rattle.sudoers_grammar.specs.declared.fault.Why.{Why}
use Rattle.sudoers_grammar.specs.declared.fault.Why.TheVariants.{UnexpectedByte, UnexpectedToken, EndOfLine, OpenQuote, EmptyName, BadId, BadAddress, BadStamp, Regex}
use Rattle.sudoers_grammar.specs.Node.{Node}
use Rattle.sudoers_grammar.specs.declared.expected_tokens.ExpectedTokens.{ExpectedTokens}
use Rattle.sudoers_grammar.specs.Piece.{TokenWithBytes, is_word, is_quoted, is_bad, is_comment, has_first_byte}
use Rattle.sudoers_grammar.specs.Number.{is_network_like_text, is_nonempty_digit_string}
use Rattle.sudoers_grammar.specs.Atom.{is_id_number_above_limit}
use Rattle.sudoers_grammar.specs.Grammar.{Reads}

-- Some tokens that say something begin with these.
abbrev pub IsLegalBeginning : List TokenWithBytes → Type 0
IsLegalBeginning ts = (more : List TokenWithBytes) × (n : Node) × Reads (ts ++ more) n

-- Some go on with this token behind those.
abbrev pub IsLegalNextToken : List TokenWithBytes → TokenWithBytes → Type 0
IsLegalNextToken before t = IsLegalBeginning (before ++ t ∷ [])

-- tokens that tell what may stand at a place: a word that is the name of a user or a host, a time stamp, a path
abbrev pub sample_name_word : TokenWithBytes
sample_name_word = record { kind = kind.Word; text = codes "h"; start = 0; stop = 0; last = false }

abbrev pub sample_time_stamp : TokenWithBytes
sample_time_stamp = record { kind = kind.Word; text = codes "2030010100Z"; start = 0; stop = 0; last = false }

abbrev pub sample_path_token : TokenWithBytes
sample_path_token = record { kind = kind.Path; text = codes "/"; start = 0; stop = 0; last = false }

-- It is told by a truth value.
abbrev pub BoolReflectsFact : Bool → Type 0 → Type 0
BoolReflectsFact b fact = (b ≡ true → fact) × (fact → b ≡ true)

-- What may stand behind these tokens.
pub record IsExpectedNext (before : List TokenWithBytes) (p : ExpectedTokens) : Type 0 where
  pub word : BoolReflectsFact p.word (IsLegalNextToken before sample_name_word)
  pub stamp : BoolReflectsFact p.stamp (IsLegalNextToken before sample_time_stamp)
  pub path : BoolReflectsFact p.path (IsLegalNextToken before sample_path_token)

-- a prefix with no name behind it; in quotes, where `%:` and `#` can stand alone
abbrev pub is_lone_name_prefix : TokenKind → List ℕ → Bool
is_lone_name_prefix kind.Word text = bytes_eq text (codes "%") || bytes_eq text (codes "+")
is_lone_name_prefix kind.Quoted text =
    let name = value_of_word text in
    bytes_eq name (codes "%") || bytes_eq name (codes "%:") || bytes_eq name (codes "+") || bytes_eq name (codes "#")
is_lone_name_prefix k text = false

-- quotes with nothing in them, also as a whole argument
abbrev pub is_empty_quotes : TokenKind → List ℕ → Bool
is_empty_quotes kind.Quoted text = bytes_eq (value_of_word text) []
is_empty_quotes kind.Arg text = is_whole_argument text && bytes_eq (value_of_word text) []
is_empty_quotes k text = false

-- without a `%` before it
abbrev pub name_without_percent : List ℕ → List ℕ
name_without_percent name = if has_first_byte 37 name then drop 1 name else name

-- `#` or `%#`, and a number above the limit
abbrev pub is_name_of_too_high_id : List ℕ → Bool
is_name_of_too_high_id name =
    has_first_byte 35 (name_without_percent name) && is_nonempty_digit_string (drop 1 (name_without_percent name)) && is_id_number_above_limit (name_without_percent name)

-- an ID above the limit, wherever it stands; such a name in quotes
abbrev pub is_id_token_above_limit : TokenKind → List ℕ → Bool
is_id_token_above_limit kind.Id text = is_id_number_above_limit text
is_id_token_above_limit k text = false

abbrev pub is_quoted_id_above_limit : TokenKind → List ℕ → Bool
is_quoted_id_above_limit kind.Quoted text = is_name_of_too_high_id (value_of_word text)
is_quoted_id_above_limit k text = false

-- `^` begins an argument, which then is the first, as others may begin so; or a word where a command may stand
abbrev pub is_regex_where_command_stands : Bool → TokenKind → List ℕ → Bool
is_regex_where_command_stands path kind.Arg text = has_first_byte 94 text
is_regex_where_command_stands path kind.Word text = path && has_first_byte 94 text
is_regex_where_command_stands path k text = false

-- Why the token is refused where this may stand: the first that fits.
abbrev pub why_token_is_refused : ExpectedTokens → TokenKind → List ℕ → Why
why_token_is_refused p k text =
    if p.stamp && not p.word && (is_word k || is_quoted k) then BadStamp
    else (if is_empty_quotes k text || (p.word && is_lone_name_prefix k text) then EmptyName
    else (if is_id_token_above_limit k text || (p.word && is_quoted_id_above_limit k text) then BadId
    else (if p.word && is_word k && is_network_like_text text then BadAddress
    else (if is_regex_where_command_stands p.path k text then Regex
    else UnexpectedToken))))

-- A `"` that is never closed goes up to the line's end.
unfoldable pub syntax_fault_cause : ExpectedTokens → TokenWithBytes → Why
syntax_fault_cause p t =
    if is_bad t.kind then (if has_first_byte 34 t.text && t.last then OpenQuote else UnexpectedByte)
    else (if is_comment t.kind then EndOfLine
    else why_token_is_refused p t.kind t.text)

-- This is why the line is refused with the first of these tokens, behind those, or because there are none.
abbrev pub IsSyntaxFaultCause : List TokenWithBytes → List TokenWithBytes → Why → Type 0
IsSyntaxFaultCause before [] w = w ≡ EndOfLine
IsSyntaxFaultCause before (t ∷ rest) w = (p : ExpectedTokens) × IsExpectedNext before p × (w ≡ syntax_fault_cause p t)

-- The tokens before these are a legal beginning; with the first of these they are none, or there are none and the whole says nothing.
pub record IsFirstSyntaxFault (ts rest : List TokenWithBytes) (w : Why) : Type 0 where
  pub before : List TokenWithBytes
  pub split : ts ≡ before ++ rest
  pub legal : IsLegalBeginning before
  pub illegal : (t : TokenWithBytes) (more : List TokenWithBytes) → rest ≡ t ∷ more → IsLegalNextToken before t → ⊥
  pub ended : rest ≡ [] → (n : Node) → Reads ts n → ⊥
  pub cause : IsSyntaxFaultCause before rest w
