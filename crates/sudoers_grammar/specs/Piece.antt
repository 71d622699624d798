-- The tokens of a line with their texts, and what each alone says.
use Rattle.std.specs.Prelude.{ℕ, ◌==◌, ◌&&◌, nat_eq, Bool, true, false, List, [], ◌∷◌, drop, map, slice_range, Option, Some, None, option_map, codes, if◌then◌else◌}
use Rattle.std.specs.List.{starts_with, list_any}
use Rattle.std.specs.Str.{bytes_eq}
use Rattle.sudoers_text.specs.declared.token.Token.{Token}
use Rattle.sudoers_text.specs.declared.token.TokenKind.{TokenKind}
use Rattle.sudoers_text.specs.declared.token.TokenKind.TheVariants as kind
use Rattle.sudoers_text.specs.Unit.{begins_line_end}
use Rattle.sudoers_text.specs.Word.{is_name}
use Rattle.sudoers_grammar.specs.declared.node.Kind.{Kind}
use Rattle.sudoers_grammar.specs.declared.node.Kind.TheVariants.{User, Runas, Host, Cmnd}
use Rattle.sudoers_grammar.specs.declared.node.OptionName.{OptionName}
use Rattle.sudoers_grammar.specs.declared.node.OptionName.TheVariants as option
use Rattle.sudoers_grammar.specs.declared.node.Tag.{Tag}
use Rattle.sudoers_grammar.specs.declared.node.Tag.TheVariants as tag
use Rattle.sudoers_grammar.specs.declared.node.DigestKind.{DigestKind}
use Rattle.sudoers_grammar.specs.declared.node.DigestKind.TheVariants as digest
use Rattle.sudoers_grammar.specs.declared.node.Operator.{Operator}
use Rattle.sudoers_grammar.specs.declared.node.Operator.TheVariants as operator

-- a token, and the bytes that it covers; last: behind it the line ends
pub record TokenWithBytes : Type 0 where
  pub kind : TokenKind
  pub text : List ℕ
  pub start : ℕ
  pub stop : ℕ
  pub last : Bool

-- Nothing is left, or a line end comes.
abbrev pub begins_line_end_or_nothing : List ℕ → Bool
begins_line_end_or_nothing [] = true
begins_line_end_or_nothing (b ∷ rest) = begins_line_end (b ∷ rest)

abbrev pub token_with_bytes : List ℕ → Token → TokenWithBytes
token_with_bytes line t = record {
  kind = t.kind;
  text = slice_range line t.start t.stop;
  start = t.start;
  stop = t.stop;
  last = begins_line_end_or_nothing (drop t.stop line);
}

abbrev pub tokens_with_bytes : List ℕ → List Token → List TokenWithBytes
tokens_with_bytes line tokens = map (token_with_bytes line) tokens

-- ---- kinds of tokens

abbrev pub is_punct : TokenKind → Bool
is_punct kind.Punct = true
is_punct k = false

abbrev pub is_word : TokenKind → Bool
is_word kind.Word = true
is_word k = false

abbrev pub is_quoted : TokenKind → Bool
is_quoted kind.Quoted = true
is_quoted k = false

abbrev pub is_arg : TokenKind → Bool
is_arg kind.Arg = true
is_arg k = false

abbrev pub is_digest : TokenKind → Bool
is_digest kind.Digest = true
is_digest k = false

abbrev pub is_parameter_name_kind : TokenKind → Bool
is_parameter_name_kind kind.Name = true
is_parameter_name_kind k = false

abbrev pub is_value : TokenKind → Bool
is_value kind.Value = true
is_value k = false

abbrev pub is_comment : TokenKind → Bool
is_comment kind.Comment = true
is_comment k = false

abbrev pub is_bad : TokenKind → Bool
is_bad kind.Bad = true
is_bad k = false

-- ---- marks and words

-- the mark of this byte
unfoldable pub is_mark_of_byte : ℕ → TokenWithBytes → Bool
is_mark_of_byte b t = is_punct t.kind && bytes_eq t.text (b ∷ [])

-- this word, unescaped
unfoldable pub is_given_word : List ℕ → TokenWithBytes → Bool
is_given_word word t = is_word t.kind && bytes_eq t.text word

-- the first of these that is the word
abbrev pub value_of_matching_row : {X : Type 0} → List (List ℕ × X) → List ℕ → Option X
value_of_matching_row [] word = None
value_of_matching_row (row ∷ rows) word = if bytes_eq word row.0 then Some row.1 else value_of_matching_row rows word

abbrev pub is_some : {X : Type 0} → Option X → Bool
is_some None = false
is_some (Some x) = true

-- what the word of a token says
abbrev pub meaning_of_token_word : {X : Type 0} → (List ℕ → Option X) → TokenWithBytes → Option X
meaning_of_token_word says t = if is_word t.kind then says t.text else None

-- an alias may be named so
unfoldable pub is_alias_name : TokenWithBytes → Bool
is_alias_name t = is_word t.kind && is_name t.text

-- the words with which a line of aliases begins
abbrev pub alias_kinds_by_keyword : List (List ℕ × Kind)
alias_kinds_by_keyword =
    (codes "User_Alias", User) ∷ (codes "Runas_Alias", Runas) ∷ (codes "Host_Alias", Host)
    ∷ (codes "Cmnd_Alias", Cmnd) ∷ (codes "Cmd_Alias", Cmnd) ∷ []

unfoldable pub alias_kind_of_token : TokenWithBytes → Option Kind
alias_kind_of_token t = meaning_of_token_word (value_of_matching_row alias_kinds_by_keyword) t

-- the words with which an include begins; true: of a directory
abbrev pub include_is_dir_by_word : List (List ℕ × Bool)
include_is_dir_by_word =
    (codes "#include", false) ∷ (codes "#includedir", true) ∷ (codes "@include", false) ∷ (codes "@includedir", true) ∷ []

unfoldable pub include_is_dir_of_token : TokenWithBytes → Option Bool
include_is_dir_of_token t = meaning_of_token_word (value_of_matching_row include_is_dir_by_word) t

-- the names of options
abbrev pub options_by_name : List (List ℕ × OptionName)
options_by_name =
    (codes "ROLE", option.Role) ∷ (codes "TYPE", option.Type) ∷ (codes "APPARMOR_PROFILE", option.ApparmorProfile)
    ∷ (codes "PRIVS", option.Privs) ∷ (codes "LIMITPRIVS", option.Limitprivs) ∷ (codes "NOTBEFORE", option.Notbefore)
    ∷ (codes "NOTAFTER", option.Notafter) ∷ (codes "TIMEOUT", option.Timeout) ∷ (codes "CWD", option.Cwd)
    ∷ (codes "CHROOT", option.Chroot) ∷ []

unfoldable pub option_of_token : TokenWithBytes → Option OptionName
option_of_token t = meaning_of_token_word (value_of_matching_row options_by_name) t

-- tags, and with `NO` before them tags that are turned off
abbrev pub tags_by_word : List (List ℕ × Tag)
tags_by_word =
    (codes "EXEC", tag.Exec) ∷ (codes "FOLLOW", tag.Follow) ∷ (codes "INTERCEPT", tag.Intercept)
    ∷ (codes "LOG_INPUT", tag.LogInput) ∷ (codes "LOG_OUTPUT", tag.LogOutput) ∷ (codes "MAIL", tag.Mail)
    ∷ (codes "PASSWD", tag.Passwd) ∷ (codes "SETENV", tag.Setenv) ∷ []

abbrev pub tag_and_sign_of_word : List ℕ → Option (Tag × Bool)
tag_and_sign_of_word word =
    if starts_with nat_eq word (codes "NO") then option_map (λ t. (t, false)) (value_of_matching_row tags_by_word (drop 2 word))
    else option_map (λ t. (t, true)) (value_of_matching_row tags_by_word word)

unfoldable pub tag_and_sign_of_token : TokenWithBytes → Option (Tag × Bool)
tag_and_sign_of_token t = meaning_of_token_word tag_and_sign_of_word t

-- kinds of digests
abbrev pub digest_kinds_by_word : List (List ℕ × DigestKind)
digest_kinds_by_word =
    (codes "sha224", digest.Sha224) ∷ (codes "sha256", digest.Sha256) ∷ (codes "sha384", digest.Sha384) ∷ (codes "sha512", digest.Sha512) ∷ []

unfoldable pub digest_kind_of_token : TokenWithBytes → Option DigestKind
digest_kind_of_token t = meaning_of_token_word (value_of_matching_row digest_kinds_by_word) t

-- the operators of parameters
abbrev pub operators_by_mark : List (List ℕ × Operator)
operators_by_mark = (codes "=", operator.Set) ∷ (codes "+=", operator.Add) ∷ (codes "-=", operator.Remove) ∷ []

unfoldable pub operator_of_token : TokenWithBytes → Option Operator
operator_of_token t = if is_punct t.kind then value_of_matching_row operators_by_mark t.text else None

-- the signs of scopes
abbrev pub scope_kinds_by_sign : List (List ℕ × Kind)
scope_kinds_by_sign = (codes "@", Host) ∷ (codes ":", User) ∷ (codes "!", Cmnd) ∷ (codes ">", Runas) ∷ []

-- It is a scope's sign, directly behind a word that ends at this byte.
unfoldable pub scope_kind_of_sign_token_after : ℕ → TokenWithBytes → Option Kind
scope_kind_of_sign_token_after stop t = if is_punct t.kind && t.start == stop then value_of_matching_row scope_kinds_by_sign t.text else None

-- ---- bytes

abbrev pub has_first_byte : ℕ → List ℕ → Bool
has_first_byte a [] = false
has_first_byte a (b ∷ rest) = b == a

abbrev pub has_last_byte : ℕ → List ℕ → Bool
has_last_byte a [] = false
has_last_byte a (b ∷ []) = b == a
has_last_byte a (b ∷ c ∷ rest) = has_last_byte a (c ∷ rest)

abbrev pub has_byte : ℕ → List ℕ → Bool
has_byte a text = list_any (λ b. b == a) text
