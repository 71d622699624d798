-- The forms of a policy that visudo of sudo-rs refuses, and where they stand.
use Rattle.std.specs.Prelude.{ℕ, ◌==◌, ◌&&◌, ◌||◌, not, nat_eq, nat_le, Bool, true, false, List, [], ◌∷◌, drop, codes, Option, Some, None, if◌then◌else◌}
use Rattle.std.specs.List.{list_all, starts_with}
use Rattle.std.specs.Str.{bytes_eq}
use Rattle.sudoers_text.specs.declared.token.TokenKind.{TokenKind}
use Rattle.sudoers_text.specs.declared.token.TokenKind.TheVariants as kind
use Rattle.sudoers_text.specs.Part.{is_upper}
use Rattle.sudoers_text.specs.Unit.{is_digit, is_comma_colon_or_equals, begins_digit}
use Rattle.sudoers_grammar.specs.Piece.{has_first_byte, has_byte, is_comment, is_quoted}
use Rattle.sudoers_tree.specs.Line.{Line}
use Rattle.sudoers_tree.specs.declared.place.Span.{Span}
use Rattle.sudoers_forms.specs.Words.{is_option}
use Rattle.sudoers_forms.specs.Names.{form_if, form_or, content_of_token, is_groups, is_hosts}
use Rattle.sudoers_forms.specs.Forms.{PlacedToken, is_parameters, list_of_lines, span_of_token}
use Rattle.sudoers_forms.specs.declared.line_part.LinePart.{LinePart}
use Rattle.sudoers_forms.specs.declared.line_part.LinePart.TheVariants as part
use Rattle.sudoers_forms.specs.declared.sudo_rs_command.SetPlace.{SetPlace}
use Rattle.sudoers_forms.specs.declared.sudo_rs_command.SetPlace.TheVariants as place
use Rattle.sudoers_forms.specs.declared.sudo_rs_form.SudoRsForm.{SudoRsForm}
use Rattle.sudoers_forms.specs.declared.sudo_rs_form.SudoRsForm.TheVariants as form
use Rattle.sudoers_forms.specs.declared.sudo_rs_refusal.RefusedBySudoRs.{RefusedBySudoRs}

-- ---- names

abbrev pub is_letter_or_digit : ℕ → Bool
is_letter_or_digit b = is_upper b || (nat_le 97 b && nat_le b 122) || is_digit b

-- sudo-rs knows these bytes in names, and these escapes in those of users and groups.
abbrev pub is_byte_of_rs_name : ℕ → Bool
is_byte_of_rs_name b = is_letter_or_digit b || b == 45 || b == 46 || b == 95

abbrev pub is_escaped_in_rs_name : ℕ → Bool
is_escaped_in_rs_name b = is_comma_colon_or_equals b || b == 92 || b == 33 || b == 34 || b == 40 || b == 41

-- Another byte or escape stands there. Escaped: the byte before the text is a backslash that escapes.
abbrev pub has_other_byte_of_name : Bool → List ℕ → Bool
has_other_byte_of_name escaped [] = false
has_other_byte_of_name true (b ∷ rest) = not (is_escaped_in_rs_name b) || has_other_byte_of_name false rest
has_other_byte_of_name false (b ∷ rest) =
    if b == 92 then has_other_byte_of_name true rest
    else not (is_byte_of_rs_name b) || has_other_byte_of_name false rest

-- the name without the sign of a group
abbrev pub name_behind_group_sign : List ℕ → List ℕ
name_behind_group_sign text =
    if starts_with nat_eq text (codes "%:") then drop 2 text
    else (if has_first_byte 37 text then drop 1 text else text)

-- a user, a group or a member of a Runas_Spec without quotes
abbrev pub rs_form_of_user : List ℕ → Option SudoRsForm
rs_form_of_user name = form_if (has_first_byte 95 name || has_other_byte_of_name false name) form.NameByte

abbrev pub rs_form_of_group : List ℕ → Option SudoRsForm
rs_form_of_group text = if has_first_byte 37 text then Some form.GroupSign else rs_form_of_user text

-- a host without quotes
abbrev pub rs_form_of_host : List ℕ → Option SudoRsForm
rs_form_of_host text = form_if (not (list_all is_byte_of_rs_name text)) form.HostByte

-- A quoted user begins so: a letter, a digit or one of these bytes, or `#` and a digit.
abbrev pub is_first_byte_of_quoted : ℕ → Bool
is_first_byte_of_quoted b = is_letter_or_digit b || has_byte b (codes "!(),-.:=\\")

abbrev pub begins_quoted_name : List ℕ → Bool
begins_quoted_name [] = false
begins_quoted_name (b ∷ rest) = is_first_byte_of_quoted b || (b == 35 && begins_digit rest)

-- Behind `%:` any byte may stand.
abbrev pub begins_quoted_user : List ℕ → Bool
begins_quoted_user content =
    if starts_with nat_eq content (codes "%:") then true
    else begins_quoted_name (if has_first_byte 37 content then drop 1 content else content)

-- It has no quote, tab or line end within.
abbrev pub rs_form_of_quoted_user : List ℕ → Option SudoRsForm
rs_form_of_quoted_user text =
    form_if (has_byte 9 text || has_byte 10 text || has_byte 34 (content_of_token kind.Quoted text) || not (begins_quoted_user (content_of_token kind.Quoted text))) form.QuotedUser

-- the users of rules, aliases, Runas_Specs and scopes
abbrev pub is_users_of_rs : LinePart → Bool
is_users_of_rs part.AliasUsers = true
is_users_of_rs part.Users = true
is_users_of_rs part.RunasUsers = true
is_users_of_rs part.RunasAll = true
is_users_of_rs part.RunasAliases = true
is_users_of_rs part.UserScope = true
is_users_of_rs part.RunasScope = true
is_users_of_rs p = false

abbrev pub rs_form_of_bare_name : LinePart → List ℕ → Option SudoRsForm
rs_form_of_bare_name p text =
    if is_hosts p then rs_form_of_host text
    else (if is_groups p then rs_form_of_group text
    else rs_form_of_user (name_behind_group_sign text))

abbrev pub rs_form_of_quoted_name : LinePart → List ℕ → Option SudoRsForm
rs_form_of_quoted_name p text = if is_hosts p || is_groups p then Some form.QuotedName else rs_form_of_quoted_user text

abbrev pub rs_form_of_unsigned_name : LinePart → TokenKind → List ℕ → Option SudoRsForm
rs_form_of_unsigned_name p k text = if is_quoted k then rs_form_of_quoted_name p text else rs_form_of_bare_name p text

abbrev pub rs_form_of_name : LinePart → TokenKind → List ℕ → Option SudoRsForm
rs_form_of_name p k text =
    if has_first_byte 43 (content_of_token k text) then Some form.Netgroup
    else rs_form_of_unsigned_name p k text

-- ---- commands

-- Another escape stands there than one of these bytes.
abbrev pub has_escape_beside : List ℕ → Bool → List ℕ → Bool
has_escape_beside known escaped [] = false
has_escape_beside known true (b ∷ rest) = not (has_byte b known) || has_escape_beside known false rest
has_escape_beside known false (b ∷ rest) = has_escape_beside known (b == 92) rest

-- `,`, `:`, `=`, `#`, a backslash and a space
abbrev pub escapes_of_rs_commands : List ℕ
escapes_of_rs_commands = codes ",:=#\\ "

-- In a set, behind its `[` and perhaps a `!`, comes any byte, and then what goes up to a `]`.
abbrev pub place_behind : SetPlace → ℕ → SetPlace
place_behind place.Outside b = if b == 91 then place.Opened else place.Outside
place_behind place.Opened b = if b == 33 then place.Marked else place.Inside
place_behind place.Marked b = place.Inside
place_behind place.Inside b = if b == 93 then place.Outside else place.Inside

abbrev pub is_outside : SetPlace → Bool
is_outside place.Outside = true
is_outside p = false

-- A set of the path is not closed.
abbrev pub has_open_set : SetPlace → List ℕ → Bool
has_open_set p [] = not (is_outside p)
has_open_set p (b ∷ rest) = has_open_set (place_behind p b) rest

abbrev pub rs_form_of_path : List ℕ → Option SudoRsForm
rs_form_of_path text =
    if has_escape_beside escapes_of_rs_commands false text then Some form.Escape
    else form_if (has_open_set place.Outside text) form.OpenSet

-- Only spaces stand before an argument, and within one no line end.
abbrev pub rs_form_of_argument : List ℕ → List ℕ → Option SudoRsForm
rs_form_of_argument gap text =
    if has_byte 9 gap || has_byte 10 gap || has_byte 10 text then Some form.ArgumentGap
    else form_if (has_escape_beside escapes_of_rs_commands false text) form.Escape

-- the value of CWD: `*`, or a folder from the root or a home without wildcards
abbrev pub is_rs_folder : List ℕ → Bool
is_rs_folder text =
    bytes_eq text (codes "*")
    || ((has_first_byte 47 text || has_first_byte 126 text) && not (has_byte 42 text) && not (has_escape_beside (32 ∷ 34 ∷ 92 ∷ []) false text))

abbrev pub rs_form_of_value : List ℕ → TokenKind → List ℕ → Option SudoRsForm
rs_form_of_value option k text = form_if (bytes_eq option (codes "CWD") && (is_quoted k || not (is_rs_folder text))) form.Folder

abbrev pub is_rules : LinePart → Bool
is_rules part.Users = true
is_rules p = false

-- A word among commands. `sudoedit` may stand in aliases and behind `!`.
abbrev pub rs_form_of_command_word : LinePart → List ℕ → List ℕ → Option SudoRsForm
rs_form_of_command_word first before text =
    if is_option text && not (bytes_eq text (codes "CWD")) then Some form.UnknownOption
    else (if bytes_eq text (codes "NOEXEC") || bytes_eq text (codes "INTERCEPT") then Some form.UnknownTag
    else (if bytes_eq text (codes "list") then Some form.ListCommand
    else form_if (is_rules first && bytes_eq text (codes "sudoedit") && not (bytes_eq before (codes "!"))) form.Editor))

abbrev pub is_list_of_commands : LinePart → Bool
is_list_of_commands part.Commands = true
is_list_of_commands part.CommandScope = true
is_list_of_commands p = false

abbrev pub is_value_of_option : LinePart → Bool
is_value_of_option part.OptionValue = true
is_value_of_option p = false

-- ---- tokens

abbrev pub rs_form_of_member : PlacedToken → Option SudoRsForm
rs_form_of_member t =
    if is_users_of_rs t.part || is_hosts t.part || is_groups t.part then rs_form_of_name t.part t.kind t.text
    else (if is_value_of_option t.part then rs_form_of_value t.second_before t.kind t.text
    else (if is_list_of_commands t.part then rs_form_of_command_word t.first t.before t.text
    else None))

abbrev pub rs_form_of_kind : PlacedToken → TokenKind → Option SudoRsForm
rs_form_of_kind t kind.Word = rs_form_of_member t
rs_form_of_kind t kind.Quoted = rs_form_of_member t
rs_form_of_kind t kind.Digest = Some form.Digest
rs_form_of_kind t kind.Path = rs_form_of_path t.text
rs_form_of_kind t kind.Arg = rs_form_of_argument t.gap t.text
rs_form_of_kind t kind.Punct = form_if (is_parameters t.part && bytes_eq t.before (codes "!") && bytes_eq t.text (codes "!")) form.TwoMarks
rs_form_of_kind t k = None

-- CR stands before a line end, but in comments.
abbrev pub rs_form_of_return : PlacedToken → Option SudoRsForm
rs_form_of_return t = form_if (has_byte 13 t.gap || (not (is_comment t.kind) && (t.is_at_return || has_byte 13 t.text))) form.Return

abbrev pub rs_form_of_token : PlacedToken → Option SudoRsForm
rs_form_of_token t = form_or (rs_form_of_kind t t.kind) (rs_form_of_return t)

abbrev pub refused_of_rs_form : Span → Option SudoRsForm → List RefusedBySudoRs
refused_of_rs_form at None = []
refused_of_rs_form at (Some f) = record { at = at; form = f } ∷ []

abbrev pub rs_refused_of_token : ℕ → PlacedToken → List RefusedBySudoRs
rs_refused_of_token number t = refused_of_rs_form (span_of_token number t) (rs_form_of_token t)

-- the forms in lines of which the first has this number on the walk, in their order
abbrev pub rs_forms_of_lines : ℕ → List Line → List RefusedBySudoRs
rs_forms_of_lines number lines = list_of_lines rs_refused_of_token number lines
