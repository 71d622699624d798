-- What sudo takes as names and as values of options.
use Rattle.std.specs.Prelude.{ℕ, ◌-◌, ◌==◌, ◌&&◌, ◌||◌, not, nat_le, nat_lt, Bool, true, false, List, [], ◌∷◌, length, drop, take, codes, Option, Some, None, if◌then◌else◌}
use Rattle.std.specs.Str.{bytes_eq}
use Rattle.sudoers_text.specs.declared.token.TokenKind.{TokenKind}
use Rattle.sudoers_text.specs.declared.token.TokenKind.TheVariants as kind
use Rattle.sudoers_text.specs.Unit.{is_empty, is_blank, begins_line_end}
use Rattle.sudoers_text.specs.Word.{is_name}
use Rattle.sudoers_grammar.specs.Piece.{has_first_byte, is_quoted}
use Rattle.sudoers_defaults.specs.Values.{is_time}
use Rattle.sudoers_forms.specs.Spelling.{size_as_path, size_as_word}
use Rattle.sudoers_forms.specs.Addresses.{is_address}
use Rattle.sudoers_forms.specs.Words.{is_known_option, is_command_word}
use Rattle.sudoers_forms.specs.declared.line_part.LinePart.{LinePart}
use Rattle.sudoers_forms.specs.declared.line_part.LinePart.TheVariants as part
use Rattle.sudoers_forms.specs.declared.form.Form.{Form}
use Rattle.sudoers_forms.specs.declared.form.Form.TheVariants as form

-- the form of a table, if the test is passed
abbrev pub form_if : {X : Type 0} → Bool → X → Option X
form_if true f = Some f
form_if false f = None

-- the first of two forms
abbrev pub form_or : {X : Type 0} → Option X → Option X → Option X
form_or None f = f
form_or (Some f) g = Some f

-- ---- names

-- In a scope of Defaults sudo knows no options.
abbrev pub is_scope_of_names : LinePart → Bool
is_scope_of_names part.UserScope = true
is_scope_of_names part.RunasScope = true
is_scope_of_names part.HostScope = true
is_scope_of_names p = false

abbrev pub is_option_of_part : LinePart → List ℕ → Bool
is_option_of_part p text = not (is_scope_of_names p) && is_known_option text

-- The bytes without the continuations that they begin with, and the blanks behind these. Within: such a continuation stands before.
abbrev pub bytes_behind_continuations : Bool → List ℕ → List ℕ
bytes_behind_continuations within [] = []
bytes_behind_continuations within (b ∷ rest) =
    if b == 92 && begins_line_end rest then bytes_behind_continuations true rest
    else (if within && (is_blank b || b == 13 || b == 10) then bytes_behind_continuations true rest
    else b ∷ rest)

-- the content of a text that stands in quotes, behind continuations, or a text without
abbrev pub content_of_token : TokenKind → List ℕ → List ℕ
content_of_token kind.Quoted text = bytes_behind_continuations false (take (length text - 2) (drop 1 text))
content_of_token k text = text

-- `%`, `%:` or `+` with no name behind it
abbrev pub is_bare_sign : List ℕ → Bool
is_bare_sign text = bytes_eq text (codes "%") || bytes_eq text (codes "%:") || bytes_eq text (codes "+")

abbrev pub is_hosts : LinePart → Bool
is_hosts part.AliasHosts = true
is_hosts part.Hosts = true
is_hosts part.HostScope = true
is_hosts p = false

abbrev pub is_groups : LinePart → Bool
is_groups part.Groups = true
is_groups p = false

-- sudo takes groups among users alone, and netgroups among users and hosts.
abbrev pub has_wrong_sign : LinePart → List ℕ → Bool
has_wrong_sign p text = (has_first_byte 37 text && (is_hosts p || is_groups p)) || (has_first_byte 43 text && is_groups p)

-- a word, which has no quotes: sudo takes addresses among hosts alone
abbrev pub form_of_bare_name : LinePart → List ℕ → Option Form
form_of_bare_name p text =
    if is_command_word text then Some form.ReservedName
    else (if is_option_of_part p text then Some form.OptionName
    else form_if (not (is_hosts p) && is_address text) form.AddressName)

abbrev pub form_of_name : LinePart → TokenKind → List ℕ → Option Form
form_of_name p k text =
    if is_bare_sign (content_of_token k text) then Some form.EmptyGroup
    else (if has_wrong_sign p (content_of_token k text) then Some form.GroupName
    else (if is_quoted k then None
    else form_of_bare_name p text))

-- ---- values of options

-- a text that sudo reads as a name, and no other word
abbrev pub is_plain_value : TokenKind → List ℕ → Bool
is_plain_value k text =
    not (has_first_byte 37 (content_of_token k text) || has_first_byte 43 (content_of_token k text))
    && (is_quoted k || not (is_name text || is_command_word text || is_address text))

-- the number of bytes that no path of the system has (PATH_MAX of Linux)
abbrev pub path_size_limit : ℕ
path_size_limit = 4096

-- the text without a backslash before its first byte
abbrev pub text_without_first_backslash : List ℕ → List ℕ
text_without_first_backslash text = if has_first_byte 92 text then drop 1 text else text

abbrev pub begins_folder : List ℕ → Bool
begins_folder text = has_first_byte 47 text || has_first_byte 126 text || bytes_eq text (codes "*")

-- sudo reads the whole text as a folder: from the root or a home, or `*`. It reads a word or a path, the longer.
abbrev pub is_folder : List ℕ → List ℕ → Bool
is_folder rest text =
    (size_as_path rest == length text || size_as_word rest == length text)
    && nat_le (size_as_path rest) (length text) && nat_le (size_as_word rest) (length text)
    && begins_folder (text_without_first_backslash text) && nat_lt (length text) path_size_limit

abbrev pub form_of_folder : TokenKind → List ℕ → List ℕ → Option Form
form_of_folder k rest text = form_if (is_quoted k || not (is_folder rest text)) form.FolderValue

-- the value of an option that takes no folder
abbrev pub form_of_plain_value : List ℕ → TokenKind → List ℕ → Option Form
form_of_plain_value option k text =
    if is_empty (content_of_token k text) || not (is_plain_value k text) then Some form.ValueWord
    else form_if (bytes_eq option (codes "TIMEOUT") && not (is_time (content_of_token k text))) form.TimeValue

abbrev pub is_folder_option : List ℕ → Bool
is_folder_option option = bytes_eq option (codes "CWD") || bytes_eq option (codes "CHROOT")
