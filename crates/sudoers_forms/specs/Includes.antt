-- The names of included files, as sudo reads them.
use Rattle.std.specs.Prelude.{ℕ, suc, ◌==◌, ◌&&◌, ◌||◌, not, nat_lt, Bool, true, false, List, [], ◌∷◌, length, Option, Some, None, if◌then◌else◌}
use Rattle.sudoers_text.specs.declared.token.TokenKind.TheVariants as kind
use Rattle.sudoers_text.specs.Unit.{is_blank}
use Rattle.sudoers_text.specs.Value.{begins_hex_escape}
use Rattle.sudoers_grammar.specs.Piece.{has_first_byte}
use Rattle.sudoers_forms.specs.Names.{content_of_token}
use Rattle.sudoers_forms.specs.declared.line_part.LinePart.{LinePart}
use Rattle.sudoers_forms.specs.declared.line_part.LinePart.TheVariants as part
use Rattle.sudoers_forms.specs.declared.form.Form.{Form}
use Rattle.sudoers_forms.specs.declared.form.Form.TheVariants as form

-- a blank, LF, CR, a vertical tab or a form feed
abbrev pub is_space : ℕ → Bool
is_space b = is_blank b || b == 10 || b == 11 || b == 12 || b == 13

-- How many bytes stand before a space that ends the name: a backslash before a blank makes it a byte of the name.
abbrev pub size_of_name_rest : Bool → List ℕ → ℕ
size_of_name_rest escaped [] = 0
size_of_name_rest escaped (b ∷ rest) =
    if is_space b && not (escaped && is_blank b) then 0
    else suc (size_of_name_rest (b == 92) rest)

-- The name with which the bytes begin, without quotes. A backslash that is its first byte escapes no blank.
abbrev pub size_as_include_name : List ℕ → ℕ
size_as_include_name [] = 0
size_as_include_name (b ∷ rest) = if is_space b then 0 else suc (size_of_name_rest false rest)

-- A backslash has `x` and two hexadecimal digits behind it. Escaped: the byte before the text is a backslash.
abbrev pub has_hex_escape : Bool → List ℕ → Bool
has_hex_escape escaped [] = false
has_hex_escape true (b ∷ rest) = begins_hex_escape (b ∷ rest) || has_hex_escape false rest
has_hex_escape false (b ∷ rest) = has_hex_escape (b == 92) rest

abbrev pub is_include : LinePart → Bool
is_include part.IncludeLine = true
is_include part.HostIncludeLine = true
is_include p = false

abbrev pub form_of_host_mark : LinePart → Option Form
form_of_host_mark part.HostIncludeLine = Some form.IncludeHost
form_of_host_mark p = None

-- a name without quotes, with which the rest of the line begins
abbrev pub form_of_include_word : LinePart → List ℕ → List ℕ → Option Form
form_of_include_word p rest text =
    if nat_lt (length text) (size_as_include_name rest) then Some form.IncludeEnd
    else (if nat_lt (size_as_include_name rest) (length text) then Some form.IncludeSpace
    else form_of_host_mark p)

-- a name in quotes
abbrev pub form_of_include_quoted : LinePart → List ℕ → Option Form
form_of_include_quoted p text =
    if has_first_byte 37 (content_of_token kind.Quoted text) || has_first_byte 43 (content_of_token kind.Quoted text) then Some form.IncludeSign
    else (if has_hex_escape false text then Some form.IncludeEscape
    else form_of_host_mark p)
