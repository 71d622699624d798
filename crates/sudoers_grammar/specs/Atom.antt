-- What a member of a list is, by its token, and the values that tokens have.
use Rattle.std.specs.Prelude.{ℕ, ◌==◌, ◌&&◌, ◌||◌, not, nat_le, Bool, true, false, List, [], ◌∷◌, ◌++◌, drop, Option, Some, None, option_map, codes, if◌then◌else◌}
use Rattle.std.specs.Str.{bytes_eq}
use Rattle.sudoers_text.specs.declared.token.TokenKind.{TokenKind}
use Rattle.sudoers_text.specs.declared.token.TokenKind.TheVariants as kind
use Rattle.sudoers_text.specs.Value.{value_of_word}
use Rattle.sudoers_text.specs.Word.{is_name, is_reserved}
use Rattle.sudoers_grammar.specs.declared.node.Kind.{Kind}
use Rattle.sudoers_grammar.specs.declared.node.Kind.TheVariants.{User, Runas, Host, Cmnd}
use Rattle.sudoers_grammar.specs.declared.node.OptionName.{OptionName}
use Rattle.sudoers_grammar.specs.declared.node.OptionName.TheVariants as option
use Rattle.sudoers_grammar.specs.declared.node.Args.{Args}
use Rattle.sudoers_grammar.specs.declared.node.Args.TheVariants.{Any, Nothing, Pattern}
use Rattle.sudoers_grammar.specs.declared.node.Atom.{Atom}
use Rattle.sudoers_grammar.specs.declared.node.Atom.TheVariants as atom
use Rattle.sudoers_grammar.specs.declared.pattern.PatternSpelling.TheVariants.{Command, Host as HostName, QuotedHost}
use Rattle.sudoers_grammar.specs.Piece.{TokenWithBytes, is_word, is_quoted, has_first_byte, has_last_byte, has_byte}
use Rattle.sudoers_grammar.specs.Number.{number_of_decimal_digits, is_nonempty_digit_string, id_limit, number_if_within_limit, ipv4_number_of_text, network_atom_of_text, is_network_like_text, is_time_stamp_text}
use Rattle.sudoers_grammar.specs.Pattern.{pattern_of_text}

-- ---- users and runas users (sudoers(5), User_List and Runas_List)

-- Something is there.
abbrev pub some_if_not_empty : {X : Type 0} → List X → Option (List X)
some_if_not_empty [] = None
some_if_not_empty (x ∷ xs) = Some (x ∷ xs)

-- the bytes, or what they stand for where they are a word
abbrev pub word_value_or_bytes : Bool → List ℕ → List ℕ
word_value_or_bytes true text = value_of_word text
word_value_or_bytes false text = text

-- behind `%`: `:` and a non-Unix group, `#` and a number, or the name of a group
abbrev pub group_atom_after_percent : Bool → List ℕ → Option Atom
group_atom_after_percent escaped [] = None
group_atom_after_percent escaped (b ∷ rest) =
    if b == 58 then option_map atom.NonUnix (some_if_not_empty (word_value_or_bytes escaped rest))
    else (if b == 35 && is_nonempty_digit_string rest then option_map atom.GroupId (number_if_within_limit id_limit rest)
    else option_map atom.Group (some_if_not_empty (word_value_or_bytes escaped (b ∷ rest))))

-- behind `#`: a number, or a name that begins with it
abbrev pub uid_or_name_atom_after_hash : List ℕ → Option Atom
uid_or_name_atom_after_hash [] = None
uid_or_name_atom_after_hash (b ∷ rest) = if is_nonempty_digit_string (b ∷ rest) then option_map atom.Id (number_if_within_limit id_limit (b ∷ rest)) else Some (atom.Name (35 ∷ b ∷ rest))

-- A user by its prefix: a group, a netgroup, a number; without one a name. escaped: the text is a word, with its escapes.
abbrev pub user_atom_by_prefix : Bool → List ℕ → Option Atom
user_atom_by_prefix escaped [] = None
user_atom_by_prefix escaped (b ∷ rest) =
    if b == 37 then group_atom_after_percent escaped rest
    else (if b == 43 then option_map atom.Netgroup (some_if_not_empty (word_value_or_bytes escaped rest))
    else (if b == 35 then uid_or_name_atom_after_hash rest
    else option_map atom.Name (some_if_not_empty (word_value_or_bytes escaped (b ∷ rest)))))

unfoldable pub user_atom_of_word : List ℕ → Option Atom
user_atom_of_word text =
    if bytes_eq text (codes "ALL") then Some atom.All
    else (if is_name text then Some (atom.Alias text)
    else user_atom_by_prefix true text)

-- the digits of `#`, `%#` or `%:#` and digits
abbrev pub id_digits_after_hash : List ℕ → List ℕ
id_digits_after_hash [] = []
id_digits_after_hash (b ∷ rest) = if b == 35 then rest else id_digits_after_hash rest

-- such a number; behind `%:` it is a name
abbrev pub user_atom_of_id : List ℕ → Option Atom
user_atom_of_id [] = None
user_atom_of_id (b ∷ rest) =
    if b == 35 then Some (atom.Id (number_of_decimal_digits 0 rest))
    else (if has_first_byte 35 rest then Some (atom.GroupId (number_of_decimal_digits 0 (drop 1 rest)))
    else Some (atom.NonUnix (drop 1 rest)))

abbrev pub is_id_number_above_limit : List ℕ → Bool
is_id_number_above_limit text = not (nat_le (number_of_decimal_digits 0 (id_digits_after_hash text)) id_limit)

unfoldable pub user_atom_of_bounded_id : List ℕ → Option Atom
user_atom_of_bounded_id text = if is_id_number_above_limit text then None else user_atom_of_id text

unfoldable pub user_atom_of_token : TokenKind → List ℕ → Option Atom
user_atom_of_token kind.Word text = user_atom_of_word text
user_atom_of_token kind.Quoted text = user_atom_by_prefix false (value_of_word text)
user_atom_of_token kind.Id text = user_atom_of_bounded_id text
user_atom_of_token k text = None

-- ---- hosts (sudoers(5), Host_List)

-- a host without escapes
abbrev pub address_network_or_host_atom : List ℕ → Option ℕ → Option Atom
address_network_or_host_atom text (Some n) = Some (atom.Address (record { number = n }))
address_network_or_host_atom text None = if is_network_like_text text then network_atom_of_text text else Some (atom.Host text)

unfoldable pub host_atom_without_escapes : List ℕ → Option Atom
host_atom_without_escapes text =
    if bytes_eq text (codes "ALL") then Some atom.All
    else (if is_name text then Some (atom.Alias text)
    else (if has_first_byte 43 text then option_map atom.Netgroup (some_if_not_empty (drop 1 text))
    else address_network_or_host_atom text (ipv4_number_of_text text)))

unfoldable pub host_atom_of_token : TokenKind → List ℕ → Option Atom
host_atom_of_token kind.Word text = if has_byte 92 text then Some (atom.Host (pattern_of_text HostName text)) else host_atom_without_escapes text
host_atom_of_token kind.Quoted text = option_map atom.Host (some_if_not_empty (pattern_of_text QuotedHost text))
host_atom_of_token k text = None

-- ---- commands (sudoers(5), Cmnd_List)

-- an alias that no reserved word names
abbrev pub unreserved_alias_atom_of_word : List ℕ → Option Atom
unreserved_alias_atom_of_word text = if is_name text && not (is_reserved text) then Some (atom.Alias text) else None

abbrev pub command_atom_of_word : List ℕ → Option Atom
command_atom_of_word text =
    if bytes_eq text (codes "ALL") then Some atom.All
    else (if bytes_eq text (codes "list") then Some atom.Listing
    else (if bytes_eq text (codes "sudoedit") then Some (atom.Sudoedit Any)
    else unreserved_alias_atom_of_word text))

-- a command without arguments
unfoldable pub command_atom_without_args : TokenKind → List ℕ → Option Atom
command_atom_without_args kind.Word text = command_atom_of_word text
command_atom_without_args kind.Path text = Some (atom.Path (pattern_of_text Command text) Any)
command_atom_without_args k text = None

-- a member of a list of this kind that is one token
unfoldable pub atom_of_token : Kind → TokenWithBytes → Option Atom
atom_of_token User t = user_atom_of_token t.kind t.text
atom_of_token Runas t = user_atom_of_token t.kind t.text
atom_of_token Host t = host_atom_of_token t.kind t.text
atom_of_token Cmnd t = command_atom_without_args t.kind t.text

-- A command with arguments: a path that is no directory, or `sudoedit`.
unfoldable pub command_atom_with_args : TokenKind → List ℕ → Args → Option Atom
command_atom_with_args kind.Word text args = if bytes_eq text (codes "sudoedit") then Some (atom.Sudoedit args) else None
command_atom_with_args kind.Path text args = if has_last_byte 47 text then None else Some (atom.Path (pattern_of_text Command text) args)
command_atom_with_args k text args = None

-- The argument is `""`, with continuations in it or not.
abbrev pub is_argument_of_empty_quotes : List ℕ → Bool
is_argument_of_empty_quotes text = has_first_byte 34 text && bytes_eq (pattern_of_text Command text) (34 ∷ 34 ∷ [])

-- the arguments, each behind a blank
abbrev pub patterns_each_after_blank : List TokenWithBytes → List ℕ
patterns_each_after_blank [] = []
patterns_each_after_blank (a ∷ args) = 32 ∷ pattern_of_text Command a.text ++ patterns_each_after_blank args

-- The arguments of a command; `""` alone says that there are none.
abbrev pub args_of_argument_tokens : List TokenWithBytes → Args
args_of_argument_tokens [] = Any
args_of_argument_tokens (a ∷ []) = if is_argument_of_empty_quotes a.text then Nothing else Pattern (pattern_of_text Command a.text)
args_of_argument_tokens (a ∷ b ∷ args) = Pattern (pattern_of_text Command a.text ++ patterns_each_after_blank (b ∷ args))

-- A command with its arguments. The first of them does not begin with `^`, as regular expressions do.
abbrev pub command_atom_of_tokens : TokenWithBytes → List TokenWithBytes → Option Atom
command_atom_of_tokens t [] = command_atom_without_args t.kind t.text
command_atom_of_tokens t (a ∷ args) = if has_first_byte 94 a.text then None else command_atom_with_args t.kind t.text (args_of_argument_tokens (a ∷ args))

-- Digests may stand before it: it is `ALL` or a path.
abbrev pub is_command_allowing_digests : Atom → Bool
is_command_allowing_digests atom.All = true
is_command_allowing_digests (atom.Path path args) = true
is_command_allowing_digests a = false

-- ---- values

-- The option may have the value: NOTBEFORE and NOTAFTER a time stamp.
abbrev pub is_option_value_allowed : OptionName → List ℕ → Bool
is_option_value_allowed option.Notbefore value = is_time_stamp_text value
is_option_value_allowed option.Notafter value = is_time_stamp_text value
is_option_value_allowed name value = true

unfoldable pub option_value_of_token : OptionName → TokenWithBytes → Option (List ℕ)
option_value_of_token name t =
    if (is_word t.kind || is_quoted t.kind) && is_option_value_allowed name (value_of_word t.text) then Some (value_of_word t.text) else None

-- the path of an include
unfoldable pub include_path_of_token : TokenWithBytes → Option (List ℕ)
include_path_of_token t = if is_word t.kind || is_quoted t.kind then some_if_not_empty (value_of_word t.text) else None
