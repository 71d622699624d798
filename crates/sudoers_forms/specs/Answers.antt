-- The forms for which sudo answers a request otherwise than this toolkit, and where they stand.
use Rattle.std.specs.Prelude.{ℕ, ◌==◌, ◌&&◌, ◌||◌, not, nat_eq, nat_lt, Bool, true, false, List, [], ◌∷◌, length, drop, codes, Option, Some, None, if◌then◌else◌}
use Rattle.std.specs.List.{ends_with, starts_with}
use Rattle.std.specs.Str.{bytes_eq}
use Rattle.sudoers_text.specs.declared.token.TokenKind.{TokenKind}
use Rattle.sudoers_text.specs.declared.token.TokenKind.TheVariants as kind
use Rattle.sudoers_text.specs.Word.{is_name}
use Rattle.sudoers_grammar.specs.Piece.{has_first_byte, has_byte, is_arg, is_quoted}
use Rattle.sudoers_tree.specs.Line.{Line}
use Rattle.sudoers_tree.specs.declared.place.Span.{Span}
use Rattle.sudoers_forms.specs.Addresses.{is_address}
use Rattle.sudoers_forms.specs.Names.{form_if, form_or, content_of_token, is_groups}
use Rattle.sudoers_forms.specs.Includes.{has_hex_escape}
use Rattle.sudoers_forms.specs.Forms.{PlacedToken, is_gap_byte, list_of_lines, span_of_token}
use Rattle.sudoers_forms.specs.declared.line_part.LinePart.{LinePart}
use Rattle.sudoers_forms.specs.declared.line_part.LinePart.TheVariants as part
use Rattle.sudoers_forms.specs.declared.form.Form.{Form}
use Rattle.sudoers_forms.specs.declared.cause.Cause.{Cause}
use Rattle.sudoers_forms.specs.declared.cause.Cause.TheVariants as cause
use Rattle.sudoers_forms.specs.declared.other_answer.OtherAnswer.{OtherAnswer}

-- ---- users

-- the users of rules, aliases and Runas_Specs, and not those of a scope of Defaults
abbrev pub has_users_of_rules : LinePart → Bool
has_users_of_rules part.AliasUsers = true
has_users_of_rules part.Users = true
has_users_of_rules part.RunasUsers = true
has_users_of_rules part.RunasAll = true
has_users_of_rules part.RunasAliases = true
has_users_of_rules p = false

abbrev pub has_hosts_of_rules : LinePart → Bool
has_hosts_of_rules part.AliasHosts = true
has_hosts_of_rules part.Hosts = true
has_hosts_of_rules p = false

-- a name behind the sign
abbrev pub is_name_behind : List ℕ → List ℕ → Bool
is_name_behind sign text = starts_with nat_eq text sign && nat_lt (length sign) (length text)

-- This tool is in no netgroup, and in no group that is none of the system's.
abbrev pub cause_of_sign : LinePart → List ℕ → Option Cause
cause_of_sign p text =
    if (has_users_of_rules p || has_hosts_of_rules p) && is_name_behind (codes "+") text then Some cause.Netgroup
    else form_if (has_users_of_rules p && is_name_behind (codes "%:") text) cause.NonUnixGroup

-- ---- hosts

-- An escape of one of these bytes. Escaped: the byte before the text is a backslash that escapes.
abbrev pub has_escape_of : List ℕ → Bool → List ℕ → Bool
has_escape_of wanted escaped [] = false
has_escape_of wanted true (b ∷ rest) = has_byte b wanted || has_escape_of wanted false rest
has_escape_of wanted false (b ∷ rest) = has_escape_of wanted (b == 92) rest

-- `[^`, whose `[` has no backslash before it
abbrev pub has_set_of_others : Bool → List ℕ → Bool
has_set_of_others escaped [] = false
has_set_of_others true (b ∷ rest) = has_set_of_others false rest
has_set_of_others false (b ∷ rest) = (b == 91 && has_first_byte 94 rest) || has_set_of_others (b == 92) rest

-- a wildcard or a backslash
abbrev pub special_bytes_of_hosts : List ℕ
special_bytes_of_hosts = 42 ∷ 63 ∷ 91 ∷ 92 ∷ []

-- a host without quotes
abbrev pub cause_of_host : List ℕ → Option Cause
cause_of_host text =
    if is_address text && ends_with nat_eq text (codes "/0") then Some cause.NoMaskBits
    else (if is_address text && starts_with nat_eq text (codes "127.") then Some cause.Loopback
    else (if has_escape_of special_bytes_of_hosts false text then Some cause.EscapedWildcard
    else (if has_hex_escape false text then Some cause.HostEscape
    else form_if (has_set_of_others false text) cause.SetInHost)))

abbrev pub has_wildcard : List ℕ → Bool
has_wildcard text = has_byte 42 text || has_byte 63 text || has_byte 91 text

-- ---- words

abbrev pub cause_of_bare_name : LinePart → List ℕ → Option Cause
cause_of_bare_name p text =
    if has_hosts_of_rules p then cause_of_host text
    else form_if (is_groups p && is_name text && not (bytes_eq text (codes "ALL"))) cause.GroupAlias

-- In quotes sudo knows no `\x`, and takes a wildcard of a host as one.
abbrev pub cause_of_quoted_name : LinePart → List ℕ → Option Cause
cause_of_quoted_name p text =
    if has_hosts_of_rules p then form_if (has_wildcard text) cause.QuotedWildcard
    else form_if ((has_users_of_rules p || is_groups p) && has_hex_escape false text) cause.QuotedEscape

abbrev pub cause_of_plain_name : LinePart → TokenKind → List ℕ → Option Cause
cause_of_plain_name p k text = if is_quoted k then cause_of_quoted_name p text else cause_of_bare_name p text

abbrev pub cause_of_name : LinePart → TokenKind → List ℕ → Option Cause
cause_of_name p k text = form_or (cause_of_sign p (content_of_token k text)) (cause_of_plain_name p k text)

-- ---- Runas_Spec

-- the `:` before its groups
abbrev pub cause_of_group_colon : LinePart → List ℕ → Option Cause
cause_of_group_colon part.RunasUsers before = if bytes_eq before (codes "(") then Some cause.GroupAlone else Some cause.UserBesideGroup
cause_of_group_colon part.RunasAliases before = Some cause.AliasBesideGroup
cause_of_group_colon p before = None

abbrev pub is_runas_users : LinePart → Bool
is_runas_users part.RunasUsers = true
is_runas_users p = false

abbrev pub cause_of_mark : LinePart → List ℕ → List ℕ → Option Cause
cause_of_mark p before text =
    if bytes_eq text (codes ":") then cause_of_group_colon p before
    else form_if (is_runas_users p && bytes_eq before (codes "(") && bytes_eq text (codes ")")) cause.EmptyRunas

-- ---- arguments

-- No argument follows: nothing, a mark or a comment does, behind blanks and continuations.
abbrev pub is_end_of_arguments : List ℕ → Bool
is_end_of_arguments [] = true
is_end_of_arguments (b ∷ rest) = if is_gap_byte b rest then is_end_of_arguments rest else b == 44 || b == 58 || b == 35

-- the one argument `""`
abbrev pub is_sole_empty_argument : TokenKind → List ℕ → List ℕ → Bool
is_sole_empty_argument before_kind rest text = bytes_eq text (34 ∷ 34 ∷ []) && not (is_arg before_kind) && is_end_of_arguments (drop 2 rest)

abbrev pub cause_of_argument : TokenKind → List ℕ → List ℕ → Option Cause
cause_of_argument before_kind rest text =
    if is_sole_empty_argument before_kind rest text then Some cause.EmptyArgument
    else (if has_escape_of (92 ∷ []) false text then Some cause.TwoBackslashes
    else form_if (has_set_of_others false text) cause.SetInArgument)

-- ---- parameters

abbrev pub is_scope_of_targets_or_commands : LinePart → Bool
is_scope_of_targets_or_commands part.RunasScope = true
is_scope_of_targets_or_commands part.CommandScope = true
is_scope_of_targets_or_commands p = false

-- a parameter that is on, in a line that begins with the first part
abbrev pub cause_of_set_parameter : LinePart → List ℕ → Option Cause
cause_of_set_parameter first text =
    if bytes_eq text (codes "requiretty") then Some cause.Terminal
    else (if bytes_eq text (codes "runas_check_shell") then Some cause.Shell
    else (if bytes_eq text (codes "runchroot") then Some cause.OtherRoot
    else (if bytes_eq text (codes "match_group_by_gid") then Some cause.GroupNumbers
    else form_if (is_scope_of_targets_or_commands first && bytes_eq text (codes "runas_default")) cause.OtherTarget)))

abbrev pub cause_of_negated_parameter : List ℕ → Option Cause
cause_of_negated_parameter text =
    if bytes_eq text (codes "case_insensitive_user") then Some cause.CaseOfUsers
    else (if bytes_eq text (codes "case_insensitive_group") then Some cause.CaseOfGroups
    else form_if (bytes_eq text (codes "root_sudo")) cause.RootUser)

abbrev pub cause_of_parameter : LinePart → LinePart → List ℕ → Option Cause
cause_of_parameter first part.NegatedParameters text = cause_of_negated_parameter text
cause_of_parameter first p text = cause_of_set_parameter first text

-- ---- tokens

abbrev pub cause_of_token_kind : PlacedToken → TokenKind → Option Cause
cause_of_token_kind t kind.Word = cause_of_name t.part kind.Word t.text
cause_of_token_kind t kind.Quoted = cause_of_name t.part kind.Quoted t.text
cause_of_token_kind t kind.Id = cause_of_name t.part kind.Id t.text
cause_of_token_kind t kind.Punct = cause_of_mark t.part t.before t.text
cause_of_token_kind t kind.Digest = Some cause.Digest
cause_of_token_kind t kind.Arg = cause_of_argument t.before_kind t.rest t.text
cause_of_token_kind t kind.Name = cause_of_parameter t.first t.part t.text
cause_of_token_kind t k = None

abbrev pub answer_of_cause : Span → Option Cause → List OtherAnswer
answer_of_cause at None = []
answer_of_cause at (Some c) = record { at = at; cause = c } ∷ []

-- A token with a form is refused, or read otherwise: no answer is asked for.
abbrev pub cause_without_form : Option Form → Option Cause → Option Cause
cause_without_form None c = c
cause_without_form (Some f) c = None

abbrev pub cause_of_token : PlacedToken → Option Cause
cause_of_token t = cause_without_form t.form (cause_of_token_kind t t.kind)

abbrev pub answer_of_token : ℕ → PlacedToken → List OtherAnswer
answer_of_token number t = answer_of_cause (span_of_token number t) (cause_of_token t)

-- the forms in lines of which the first has this number on the walk, in their order
abbrev pub other_answers_of_lines : ℕ → List Line → List OtherAnswer
other_answers_of_lines number lines = list_of_lines answer_of_token number lines
