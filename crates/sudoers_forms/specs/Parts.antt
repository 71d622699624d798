-- The parts of a line in which its tokens stand.
use Rattle.std.specs.Prelude.{ℕ, ◌&&◌, ◌||◌, not, Bool, true, false, List, codes, Option, Some, None, if◌then◌else◌}
use Rattle.std.specs.Str.{bytes_eq}
use Rattle.sudoers_text.specs.declared.token.TokenKind.{TokenKind}
use Rattle.sudoers_text.specs.declared.token.TokenKind.TheVariants as kind
use Rattle.sudoers_text.specs.Unit.{is_empty}
use Rattle.sudoers_text.specs.Word.{is_name}
use Rattle.sudoers_forms.specs.Words.{is_option, is_tag_word, is_digest_kind}
use Rattle.sudoers_forms.specs.HostMark.{has_host_mark}
use Rattle.sudoers_grammar.specs.declared.node.Kind.{Kind}
use Rattle.sudoers_grammar.specs.declared.node.Kind.TheVariants.{User, Runas, Host, Cmnd}
use Rattle.sudoers_grammar.specs.Node.{Node, Scope}
use Rattle.sudoers_grammar.specs.Node as node
use Rattle.sudoers_forms.specs.declared.line_part.LinePart.{LinePart}
use Rattle.sudoers_forms.specs.declared.line_part.LinePart.TheVariants as part

-- ---- where a line begins

abbrev pub first_part_of_alias : Kind → LinePart
first_part_of_alias User = part.AliasUsers
first_part_of_alias Runas = part.AliasUsers
first_part_of_alias Host = part.AliasHosts
first_part_of_alias Cmnd = part.Hosts

abbrev pub first_part_of_scope : Kind → LinePart
first_part_of_scope User = part.UserScope
first_part_of_scope Runas = part.RunasScope
first_part_of_scope Host = part.HostScope
first_part_of_scope Cmnd = part.CommandScope

abbrev pub first_part_of_defaults : Option Scope → LinePart
first_part_of_defaults None = part.Parameters
first_part_of_defaults (Some s) = first_part_of_scope s.kind

abbrev pub first_part : Node → LinePart
first_part (node.Defaults scope params) = first_part_of_defaults scope
first_part (node.Alias k defs) = first_part_of_alias k
first_part (node.Include dir path) = if has_host_mark path then part.HostIncludeLine else part.IncludeLine
first_part n = part.Users

-- ---- a token

-- The token is a member of a list.
abbrev pub is_member_kind : TokenKind → Bool
is_member_kind kind.Word = true
is_member_kind kind.Quoted = true
is_member_kind kind.Id = true
is_member_kind kind.Path = true
is_member_kind k = false

abbrev pub is_scope : LinePart → Bool
is_scope part.UserScope = true
is_scope part.RunasScope = true
is_scope part.HostScope = true
is_scope part.CommandScope = true
is_scope p = false

abbrev pub is_users : LinePart → Bool
is_users part.Users = true
is_users p = false

-- The part that a token stands in. Behind a member, without `,`, come hosts behind users, and parameters behind a scope. The first word of a
-- line is no member of a scope: nothing stands before it.
abbrev pub part_of_token : LinePart → List ℕ → TokenKind → List ℕ → LinePart
part_of_token p second_before before text =
    if not (is_member_kind before) || bytes_eq text (codes ",") then p
    else (if is_users p then part.Hosts
    else (if is_scope p && not (is_empty second_before) then part.Parameters
    else p))

-- what a mark leads to among commands; a word
abbrev pub part_after_command_mark : List ℕ → LinePart
part_after_command_mark text =
    if bytes_eq text (codes "(") then part.RunasUsers
    else (if bytes_eq text (codes ":") then part.Hosts
    else part.Commands)

abbrev pub part_after_command_word : List ℕ → LinePart
part_after_command_word text =
    if is_option text then part.OptionName
    else (if is_tag_word text || is_digest_kind text then part.TagOrDigestKind
    else part.Commands)

abbrev pub part_after_command_token : TokenKind → List ℕ → LinePart
part_after_command_token kind.Punct text = part_after_command_mark text
part_after_command_token kind.Word text = part_after_command_word text
part_after_command_token k text = part.Commands

-- Among users of a Runas_Spec: `ALL` leads to the first part, an alias to that of aliases, and another user to the second part.
abbrev pub part_after_runas_token : LinePart → LinePart → List ℕ → LinePart
part_after_runas_token all other text =
    if bytes_eq text (codes ":") then part.Groups
    else (if bytes_eq text (codes ")") then part.Commands
    else (if bytes_eq text (codes "ALL") then all
    else (if is_name text then part.RunasAliases
    else other)))

-- an odd number of `!` before a parameter
abbrev pub part_after_parameter_token : LinePart → List ℕ → LinePart
part_after_parameter_token marked text = if bytes_eq text (codes "!") then marked else part.Parameters

-- the part behind a token that stands in this one
abbrev pub part_after_token : LinePart → TokenKind → List ℕ → LinePart
part_after_token part.Hosts k text = if bytes_eq text (codes "=") then part.Commands else part.Hosts
part_after_token part.RunasUsers k text = part_after_runas_token part.RunasAll part.RunasUsers text
part_after_token part.RunasAll k text = part_after_runas_token part.RunasAll part.RunasAll text
part_after_token part.RunasAliases k text = part_after_runas_token part.RunasAliases part.RunasAliases text
part_after_token part.Groups k text = if bytes_eq text (codes ")") then part.Commands else part.Groups
part_after_token part.Commands k text = part_after_command_token k text
part_after_token part.OptionName k text = part.OptionValue
part_after_token part.OptionValue k text = part.Commands
part_after_token part.TagOrDigestKind k text = part.Commands
part_after_token part.Parameters k text = part_after_parameter_token part.NegatedParameters text
part_after_token part.NegatedParameters k text = part_after_parameter_token part.Parameters text
part_after_token p k text = p
