-- The forms of a policy that sudo refuses, and where they stand.
use Rattle.std.specs.Prelude.{ℕ, suc, ◌+◌, ◌==◌, ◌&&◌, ◌||◌, not, Bool, true, false, List, [], ◌∷◌, ◌++◌, length, drop, nat_eq, nat_le, nat_lt, slice_range, codes, Option, Some, None, if◌then◌else◌}
use Rattle.std.specs.List.{ends_with, starts_with}
use Rattle.std.specs.Str.{bytes_eq}
use Rattle.sudoers_text.specs.declared.token.TokenKind.{TokenKind}
use Rattle.sudoers_text.specs.declared.token.TokenKind.TheVariants as kind
use Rattle.sudoers_text.specs.Found.{tokens_of_line}
use Rattle.sudoers_text.specs.LineMode.{line_mode}
use Rattle.sudoers_text.specs.Unit.{is_empty, is_blank, begins_line_end}
use Rattle.sudoers_text.specs.Value.{leading_blanks_size, value_of_word}
use Rattle.sudoers_grammar.specs.Node.{Node}
use Rattle.sudoers_grammar.specs.Node as node
use Rattle.sudoers_grammar.specs.Piece.{TokenWithBytes, tokens_with_bytes, has_first_byte, has_last_byte, has_byte, is_word, is_comment}
use Rattle.sudoers_tree.specs.Line.{Line}
use Rattle.sudoers_tree.specs.declared.place.Span.{Span}
use Rattle.sudoers_defaults.specs.Values.{is_time}
use Rattle.sudoers_forms.specs.Spelling.{size_as_path, size_as_word, spelled_size, is_numbered, is_broken_comment, is_digest_of_kind}
use Rattle.sudoers_forms.specs.Names.{form_if, form_or, form_of_name, form_of_folder, form_of_plain_value, is_folder_option, is_scope_of_names, path_size_limit}
use Rattle.sudoers_forms.specs.Words.{is_first_word, begins_with_first_word, is_at_include, is_hash_include, is_comment_of_include, is_tag_word, is_unknown_option}
use Rattle.sudoers_forms.specs.Includes.{is_include, form_of_include_quoted, form_of_include_word}
use Rattle.sudoers_forms.specs.Parts.{first_part, part_of_token, part_after_token, is_member_kind, is_scope}
use Rattle.sudoers_forms.specs.declared.spelling.Spelling.TheVariants as spelling
use Rattle.sudoers_forms.specs.declared.line_part.LinePart.{LinePart}
use Rattle.sudoers_forms.specs.declared.line_part.LinePart.TheVariants as part
use Rattle.sudoers_forms.specs.declared.form.Form.{Form}
use Rattle.sudoers_forms.specs.declared.form.Form.TheVariants as form
use Rattle.sudoers_forms.specs.declared.refused_form.RefusedForm.{RefusedForm}

-- ---- paths

-- sudo reads a path and a word as far as they go, and takes the longer; of two as long the path.
abbrev pub form_of_path_reach : ℕ → ℕ → ℕ → Option Form
form_of_path_reach path word size =
    if nat_lt path word then (if nat_lt path size then Some form.PathEscape else Some form.WordReturn)
    else (if nat_lt path size then Some form.PathArguments
    else form_if (nat_lt size path) form.PathQuote)

abbrev pub form_of_path_text : Bool → List ℕ → Option Form
form_of_path_text is_at_return text =
    if ends_with nat_eq text (codes "/sudoedit") then Some form.EditorPath
    else (if nat_le path_size_limit (length text) then Some form.LongPath
    else form_if (is_at_return && not (has_last_byte 47 text)) form.CommandReturn)

abbrev pub form_of_path : Bool → List ℕ → List ℕ → Option Form
form_of_path is_at_return rest text =
    if bytes_eq text (codes "/") then Some form.RootPath
    else form_or (form_of_path_reach (size_as_path rest) (size_as_word rest) (length text)) (form_of_path_text is_at_return text)

-- ---- words

-- How many bytes a regular expression has behind its `^`, up to its `$`. A `$` or a `#` with a backslash before it may stand in it. Escaped:
-- the byte before is a backslash.
abbrev pub size_of_regex_rest : Bool → List ℕ → ℕ
size_of_regex_rest escaped [] = 0
size_of_regex_rest escaped (b ∷ rest) =
    if b == 36 then (if escaped then suc (size_of_regex_rest false rest) else 1)
    else (if b == 10 || b == 13 || (b == 35 && not escaped) then 0
    else (if nat_eq (size_of_regex_rest (b == 92) rest) 0 then 0
    else suc (size_of_regex_rest (b == 92) rest)))

-- sudo reads a regular expression in the place of a word with which the bytes begin: it is as long as the word or longer.
abbrev pub is_regex : List ℕ → Bool
is_regex bytes = has_first_byte 94 bytes && nat_lt 0 (size_of_regex_rest false (drop 1 bytes)) && nat_le (size_as_word bytes) (suc (size_of_regex_rest false (drop 1 bytes)))

-- A backslash and CR come behind so many bytes.
abbrev pub has_return_behind : ℕ → List ℕ → Bool
has_return_behind size rest = starts_with nat_eq (drop size rest) (92 ∷ 13 ∷ [])

-- A word of this size: sudo reads a path in its place, or less. At a tab: it ends the line with a backslash and a tab.
abbrev pub form_of_word_reach : Bool → ℕ → ℕ → ℕ → Option Form
form_of_word_reach is_at_tab path word size =
    if nat_lt 0 path && nat_le word path then Some form.SlashName
    else (if is_at_tab && word + 2 == size then Some form.BlankContinuation
    else form_if (nat_lt word size) form.WordByte)

abbrev pub is_value_part : LinePart → Bool
is_value_part part.OptionValue = true
is_value_part p = false

abbrev pub is_parameters : LinePart → Bool
is_parameters part.Parameters = true
is_parameters part.NegatedParameters = true
is_parameters p = false

abbrev pub is_command_part : LinePart → Bool
is_command_part part.Commands = true
is_command_part part.OptionName = true
is_command_part part.TagOrDigestKind = true
is_command_part part.CommandScope = true
is_command_part part.Parameters = true
is_command_part part.NegatedParameters = true
is_command_part p = false

-- a word or a quoted text, by the part that it stands in
abbrev pub form_of_member : LinePart → List ℕ → Bool → TokenKind → List ℕ → Option Form
form_of_member p option is_at_return k text =
    if is_value_part p then form_of_plain_value option k text
    else (if not (is_command_part p) then form_of_name p k text
    else (if is_word k && is_unknown_option text then Some form.UnknownOption
    else form_if (is_word k && is_at_return && bytes_eq text (codes "sudoedit")) form.CommandReturn))

-- At the end of an alias the CR is a byte of the word; elsewhere the line ends too early.
abbrev pub form_of_return : LinePart → Bool → Form
form_of_return part.AliasUsers is_last = if is_last then form.LastWordReturn else form.WordReturn
form_of_return part.AliasHosts is_last = if is_last then form.LastWordReturn else form.WordReturn
form_of_return p is_last = form.WordReturn

abbrev pub form_of_word : LinePart → List ℕ → Bool → Bool → List ℕ → List ℕ → Option Form
form_of_word p option is_last is_at_return rest text =
    if is_value_part p && is_folder_option option then form_of_folder kind.Word rest text
    else (if has_return_behind (length text) rest then Some (form_of_return p is_last)
    else (if is_last && bytes_eq text (92 ∷ 32 ∷ []) then Some form.BlankContinuation
    else form_or (form_of_word_reach (is_last && ends_with nat_eq text (92 ∷ 9 ∷ [])) (size_as_path rest) (size_as_word rest) (length text))
    (form_or (form_if (is_regex rest) form.RegexName) (form_of_member p option is_at_return kind.Word text))))

-- In quotes, sudo reads a backslash and a `"` as a pair, whatever stands before them.
abbrev pub form_of_quoted : LinePart → List ℕ → List ℕ → List ℕ → Option Form
form_of_quoted p option rest text =
    if ends_with nat_eq text (92 ∷ 34 ∷ []) then Some form.QuotedBackslash
    else (if is_include p then form_of_include_quoted p text
    else (if is_value_part p && is_folder_option option then form_of_folder kind.Quoted rest text
    else form_of_member p option false kind.Quoted text))

-- The word of an include line, or its name without quotes.
abbrev pub form_of_word_of_include : LinePart → List ℕ → List ℕ → List ℕ → Option Form
form_of_word_of_include p before rest text =
    if is_empty before then form_if (has_return_behind (length text) rest) form.WordReturn
    else form_of_include_word p rest text

-- ---- arguments, comments and values

-- A `#` begins a comment.
abbrev pub form_of_hash : List ℕ → Option Form
form_of_hash rest =
    if not (has_first_byte 35 rest) then Some form.ArgumentEscape
    else (if is_numbered rest then Some form.NumberedComment
    else Some form.ArgumentHash)

-- A backslash with blanks alone behind it continues the line.
abbrev pub ends_in_escaped_blank : List ℕ → Bool
ends_in_escaped_blank text = ends_with nat_eq text (92 ∷ 32 ∷ []) || ends_with nat_eq text (92 ∷ 9 ∷ [])

abbrev pub form_of_argument : Bool → Bool → List ℕ → Option Form
form_of_argument is_last is_at_return text =
    if not (nat_eq (spelled_size spelling.Argument false text) (length text)) then form_of_hash (drop (spelled_size spelling.Argument false text) text)
    else (if is_last && ends_in_escaped_blank text then Some form.BlankContinuation
    else form_if is_at_return form.CommandReturn)

-- A line that begins with a number may be a rule for sudo, which has a `=`.
abbrev pub form_of_comment : Bool → List ℕ → Option Form
form_of_comment is_first text =
    if is_broken_comment text then Some form.BrokenComment
    else (if is_first && has_byte 61 text then form_if (is_numbered text) form.NumberedLine
    else form_if (is_numbered text) form.NumberedComment)

abbrev pub form_of_value : List ℕ → Option Form
form_of_value text = form_if (has_first_byte 34 text && ends_with nat_eq text (92 ∷ 34 ∷ [])) form.QuotedBackslash

-- ---- marks and gaps

-- the bytes from a first LF on
abbrev pub rest_from_lf : List ℕ → List ℕ
rest_from_lf [] = []
rest_from_lf (b ∷ rest) = if nat_eq b 10 then b ∷ rest else rest_from_lf rest

abbrev pub has_blank : List ℕ → Bool
has_blank text = has_byte 32 text || has_byte 9 text

-- A tag and its `:` are one word for sudo: no continuation may stand between, and among names neither stands.
abbrev pub is_behind_tag : LinePart → Bool
is_behind_tag part.TagOrDigestKind = true
is_behind_tag p = false

abbrev pub form_of_tag : LinePart → List ℕ → Option Form
form_of_tag p gap =
    if has_byte 10 gap then form_if (is_behind_tag p) form.TagContinuation
    else form_if (not (is_command_part p)) form.TagName

-- a blank, a line end, or the backslash of a continuation
abbrev pub is_gap_byte : ℕ → List ℕ → Bool
is_gap_byte b rest = is_blank b || b == 13 || b == 10 || (b == 92 && begins_line_end rest)

-- sudo drops each even run of `!`, and takes one other run. These begin the bytes, with blanks and continuations between. Found: an odd run
-- came before. Odd: so many `!` stand directly before.
abbrev pub has_second_odd_run : Bool → Bool → List ℕ → Bool
has_second_odd_run found odd [] = found && odd
has_second_odd_run found odd (b ∷ rest) =
    if b == 33 then has_second_odd_run found (not odd) rest
    else (if is_gap_byte b rest && not (found && odd) then has_second_odd_run (found || odd) false rest
    else found && odd)

-- the bytes without the `!` that they begin with
abbrev pub bytes_behind_marks : List ℕ → List ℕ
bytes_behind_marks [] = []
bytes_behind_marks (b ∷ rest) = if b == 33 then bytes_behind_marks rest else b ∷ rest

-- A quote, and neither a word nor a number directly behind it: sudo sees no scope there.
abbrev pub begins_bare_quote : List ℕ → Bool
begins_bare_quote bytes = has_first_byte 34 bytes && nat_eq (size_as_word (drop 1 bytes)) 0 && not (is_numbered (drop 1 bytes))

abbrev pub is_quote_of_scope : List ℕ → Bool
is_quote_of_scope bytes = begins_bare_quote (bytes_behind_marks (drop (leading_blanks_size bytes) bytes))

-- the sign of a scope of names, behind the word that begins its line
abbrev pub form_of_sign : LinePart → List ℕ → List ℕ → Option Form
form_of_sign p before rest = form_if (is_scope_of_names p && bytes_eq before (codes "Defaults") && is_quote_of_scope (drop 1 rest)) form.ScopeQuote

abbrev pub form_of_mark : LinePart → List ℕ → List ℕ → List ℕ → List ℕ → Option Form
form_of_mark p before gap rest text =
    if bytes_eq text (codes "!") then form_if (not (is_scope p) && not (bytes_eq before (codes "!")) && has_second_odd_run false false rest) form.SplitMarks
    else (if bytes_eq text (codes ":") && is_tag_word before then form_of_tag p gap
    else form_of_sign p before rest)

-- The sign of a scope stands directly before.
abbrev pub is_behind_sign : List ℕ → List ℕ → Bool
is_behind_sign second_before before = bytes_eq second_before (codes "Defaults") && not (bytes_eq before (codes ","))

-- Behind the sign of a scope a continuation ends it; one with CR LF, if a blank comes behind it.
abbrev pub is_split_first_member : List ℕ → Bool
is_split_first_member gap = has_byte 10 gap && (not (has_byte 13 gap) || has_blank (rest_from_lf gap))

-- Further on nothing may stand behind `!`, no blank behind a continuation, and none before one that a `,` follows.
abbrev pub is_split_further_member : List ℕ → List ℕ → List ℕ → Bool
is_split_further_member before gap text =
    (bytes_eq before (codes "!") && not (is_empty gap))
    || (bytes_eq before (codes ",") && has_blank (rest_from_lf gap))
    || (bytes_eq text (codes ",") && has_byte 10 gap && not (has_first_byte 92 gap))

abbrev pub is_split_scope : List ℕ → List ℕ → List ℕ → List ℕ → Bool
is_split_scope second_before before gap text =
    if is_behind_sign second_before before then is_split_first_member gap else is_split_further_member before gap text

-- ---- rows

-- A row is a physical line. A blank stands directly before the token.
abbrev pub ends_in_blank : List ℕ → Bool
ends_in_blank gap = has_last_byte 32 gap || has_last_byte 9 gap

-- sudo reads the word as the beginning of a line: `@include` anywhere, and as the first word of a row one of Defaults or aliases. Behind
-- blanks, more may follow directly.
abbrev pub is_line_word : List ℕ → List ℕ → List ℕ → Bool
is_line_word before gap text =
    if is_empty before then begins_with_first_word text && not (is_first_word text) && ends_in_blank gap
    else is_at_include text || (has_byte 10 gap && (is_first_word text || (begins_with_first_word text && ends_in_blank gap)))

-- The first token of a line. A comment of `#include` is an include line for sudo, if no blank stands before it.
abbrev pub form_of_first_gap : LinePart → List ℕ → List ℕ → Option Form
form_of_first_gap p gap text =
    if is_comment_of_include text && not (ends_in_blank gap) then (if has_byte 10 gap then Some form.IncludeComment else Some form.HashInclude)
    else (if is_include p && is_hash_include text && ends_in_blank gap then Some form.IndentedInclude
    else (if has_byte 10 gap && (is_include p || is_first_word text) then Some form.FirstContinuation
    else form_if (is_line_word [] gap text) form.LineWord))

-- Arguments go on behind the token before.
abbrev pub is_behind_command : TokenKind → List ℕ → Bool
is_behind_command kind.Arg before = true
is_behind_command kind.Path before = not (has_last_byte 47 before)
is_behind_command k before = bytes_eq before (codes "sudoedit")

-- A further token: in a row of its own, a comment of `#include` is an include line for sudo.
abbrev pub form_of_row : LinePart → TokenKind → List ℕ → List ℕ → TokenKind → List ℕ → Option Form
form_of_row p before_kind before gap k text =
    if is_comment k then form_if (is_comment_of_include text && has_last_byte 10 gap && not (is_behind_command before_kind before)) form.IncludeComment
    else form_if (is_word k && not (is_include p) && is_line_word before gap text) form.LineWord

abbrev pub form_of_scope_gap : List ℕ → List ℕ → List ℕ → List ℕ → Option Form
form_of_scope_gap second_before before gap text = form_if (not (is_empty second_before) && is_split_scope second_before before gap text) form.SplitScope

abbrev pub form_of_parameter_gap : TokenKind → List ℕ → TokenKind → Option Form
form_of_parameter_gap before_kind gap k = form_if (is_member_kind before_kind && not (is_comment k || has_blank gap)) form.ScopeEnd

abbrev pub form_of_further_gap : LinePart → List ℕ → TokenKind → List ℕ → List ℕ → TokenKind → List ℕ → Option Form
form_of_further_gap p second_before before_kind before gap k text =
    if is_scope p then form_of_scope_gap second_before before gap text
    else (if is_parameters p then form_of_parameter_gap before_kind gap k
    else form_of_row p before_kind before gap k text)

-- What stands before a token: the part of the token, the text of the second token before it, the kind and the text of the first one, and the
-- bytes between.
abbrev pub form_of_gap : LinePart → List ℕ → TokenKind → List ℕ → List ℕ → TokenKind → List ℕ → Option Form
form_of_gap p second_before before_kind before gap k text =
    if is_empty before then form_of_first_gap p gap text else form_of_further_gap p second_before before_kind before gap k text

-- ---- tokens

-- A token of this kind and text, by the part that it stands in, what stands before it, and the rest of the line from it on. The last of its
-- line or not, and before CR LF or not.
abbrev pub form_of_text : LinePart → List ℕ → List ℕ → List ℕ → List ℕ → Bool → Bool → TokenKind → List ℕ → Option Form
form_of_text p second_before before gap rest is_last is_at_return kind.Comment text = form_of_comment (is_empty before) text
form_of_text p second_before before gap rest is_last is_at_return kind.Path text = form_of_path is_at_return rest text
form_of_text p second_before before gap rest is_last is_at_return kind.Arg text = form_of_argument is_last is_at_return text
form_of_text p second_before before gap rest is_last is_at_return kind.Word text =
    if is_include p then form_of_word_of_include p before rest text else form_of_word p second_before is_last is_at_return rest text
form_of_text p second_before before gap rest is_last is_at_return kind.Quoted text = form_of_quoted p second_before rest text
form_of_text p second_before before gap rest is_last is_at_return kind.Id text = form_of_name p kind.Id text
form_of_text p second_before before gap rest is_last is_at_return kind.Digest text = form_if (not (is_digest_of_kind second_before text)) form.DigestSize
form_of_text p second_before before gap rest is_last is_at_return kind.Value text = form_of_value text
form_of_text p second_before before gap rest is_last is_at_return kind.Punct text = form_of_mark p before gap rest text
form_of_text p second_before before gap rest is_last is_at_return k text = None

-- ---- lines

abbrev pub ends_in_return : List ℕ → Bool
ends_in_return text = ends_with nat_eq text (13 ∷ 10 ∷ [])

-- the form of a token of this line, behind which so many tokens stand: that of what stands before it, or its own
abbrev pub form_of_token : List ℕ → LinePart → List ℕ → TokenKind → List ℕ → ℕ → TokenWithBytes → Bool → Option Form
form_of_token line p second_before before_kind before stop t is_last =
    form_or (form_of_gap p second_before before_kind before (slice_range line stop t.start) t.kind t.text)
    (form_of_text p second_before before (slice_range line stop t.start) (drop t.start line) is_last (is_last && ends_in_return line) t.kind t.text)

-- What follows is in a comment for sudo, or in the name of an included file.
abbrev pub is_begin_of_comment : Option Form → Bool
is_begin_of_comment (Some form.IndentedInclude) = true
is_begin_of_comment (Some form.IncludeEnd) = true
is_begin_of_comment (Some form.ArgumentHash) = true
is_begin_of_comment (Some form.NumberedComment) = true
is_begin_of_comment f = false

-- A token of a line that begins with the first part, what stands before it, the rest of the line from it on, and its form.
pub record PlacedToken : Type 0 where
  pub first : LinePart
  pub part : LinePart
  pub second_before : List ℕ
  pub before_kind : TokenKind
  pub before : List ℕ
  pub gap : List ℕ
  pub rest : List ℕ
  pub is_at_return : Bool
  pub kind : TokenKind
  pub text : List ℕ
  pub start : ℕ
  pub stop : ℕ
  pub form : Option Form

abbrev pub placed_token : LinePart → List ℕ → LinePart → List ℕ → TokenKind → List ℕ → ℕ → TokenWithBytes → Bool → PlacedToken
placed_token first line p second_before before_kind before stop t is_last = record {
  first = first;
  part = p;
  second_before = second_before;
  before_kind = before_kind;
  before = before;
  gap = slice_range line stop t.start;
  rest = drop t.start line;
  is_at_return = is_last && ends_in_return line;
  kind = t.kind;
  text = t.text;
  start = t.start;
  stop = t.stop;
  form = form_of_token line p second_before before_kind before stop t is_last;
}

-- The tokens of a line that begins with the first part, from one of them on, by the part and the two tokens before: the second one's text, and
-- the first one's kind, text and end. None stands behind one that begins a comment.
abbrev pub placed_tokens : LinePart → List ℕ → LinePart → List ℕ → TokenKind → List ℕ → ℕ → List TokenWithBytes → List PlacedToken
placed_tokens first line p second_before before_kind before stop [] = []
placed_tokens first line p second_before before_kind before stop (t ∷ ts) =
    token_and_others (placed_token first line (part_of_token p second_before before_kind t.text) second_before before_kind before stop t (nat_eq (length ts) 0))
    (placed_tokens first line (part_after_token (part_of_token p second_before before_kind t.text) t.kind t.text) before t.kind t.text t.stop ts)
  where
    token_and_others : PlacedToken → List PlacedToken → List PlacedToken
    token_and_others t others = t ∷ (if is_begin_of_comment t.form then [] else others)

abbrev pub tokens_from_part : LinePart → List ℕ → List PlacedToken
tokens_from_part p text = placed_tokens p text p [] kind.Punct [] 0 (tokens_with_bytes text (tokens_of_line (line_mode text) text))

abbrev pub tokens_of_node : List ℕ → Node → List PlacedToken
tokens_of_node text node.Blank = []
tokens_of_node text n = tokens_from_part (first_part n) text

-- what a table says of the tokens of one line, and of lines of which the first has this number on the walk, in their order
abbrev pub list_by_table : {X : Type 0} → (PlacedToken → List X) → List PlacedToken → List X
list_by_table table [] = []
list_by_table table (t ∷ ts) = table t ++ list_by_table table ts

abbrev pub list_of_lines : {X : Type 0} → (ℕ → PlacedToken → List X) → ℕ → List Line → List X
list_of_lines table number [] = []
list_of_lines table number (line ∷ lines) = list_by_table (table number) (tokens_of_node line.text line.node) ++ list_of_lines table (suc number) lines

abbrev pub span_of_token : ℕ → PlacedToken → Span
span_of_token number t = record { line = number; start = t.start; stop = t.stop }

-- the refused forms
abbrev pub refused_of_form : Span → Option Form → List RefusedForm
refused_of_form at None = []
refused_of_form at (Some f) = record { at = at; form = f } ∷ []

-- A word that is a time without its backslashes, as sudo reads it.
abbrev pub is_time_with_backslashes : Option Form → TokenKind → List ℕ → Bool
is_time_with_backslashes (Some form.TimeValue) k text = is_word k && is_time (value_of_word text)
is_time_with_backslashes f k text = false

abbrev pub refused_of_token : ℕ → PlacedToken → List RefusedForm
refused_of_token number t =
    if is_time_with_backslashes t.form t.kind t.text then [] else refused_of_form (span_of_token number t) t.form

abbrev pub forms_of_lines : ℕ → List Line → List RefusedForm
forms_of_lines number lines = list_of_lines refused_of_token number lines
