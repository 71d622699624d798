-- Names, and the words that have a meaning of their own.
use Rattle.std.specs.Prelude.{ℕ, Bool, false, ◌==◌, ◌&&◌, ◌||◌, List, [], ◌∷◌, codes}
use Rattle.std.specs.List.{list_all}
use Rattle.std.specs.Str.{bytes_eq}
use Rattle.sudoers_text.specs.Unit.{is_digit}
use Rattle.sudoers_text.specs.Part.{is_upper}

-- The word is one of these.
abbrev pub is_among : List (List ℕ) → List ℕ → Bool
is_among [] word = false
is_among (one ∷ words) word = bytes_eq word one || is_among words word

-- the tags of commands
abbrev pub command_tag_words : List (List ℕ)
command_tag_words =
    codes "EXEC" ∷ codes "NOEXEC" ∷ codes "FOLLOW" ∷ codes "NOFOLLOW"
    ∷ codes "INTERCEPT" ∷ codes "NOINTERCEPT" ∷ codes "LOG_INPUT" ∷ codes "NOLOG_INPUT"
    ∷ codes "LOG_OUTPUT" ∷ codes "NOLOG_OUTPUT" ∷ codes "MAIL" ∷ codes "NOMAIL"
    ∷ codes "PASSWD" ∷ codes "NOPASSWD" ∷ codes "SETENV" ∷ codes "NOSETENV" ∷ []

-- the names of the options of commands
abbrev pub command_option_words : List (List ℕ)
command_option_words =
    codes "ROLE" ∷ codes "TYPE" ∷ codes "APPARMOR_PROFILE" ∷ codes "PRIVS"
    ∷ codes "LIMITPRIVS" ∷ codes "NOTBEFORE" ∷ codes "NOTAFTER" ∷ codes "TIMEOUT"
    ∷ codes "CWD" ∷ codes "CHROOT" ∷ []

-- the kinds of digest
abbrev pub digest_kinds : List (List ℕ)
digest_kinds = codes "sha224" ∷ codes "sha256" ∷ codes "sha384" ∷ codes "sha512" ∷ []

-- the words with which an include begins
abbrev pub at_include_words : List (List ℕ)
at_include_words = codes "@include" ∷ codes "@includedir" ∷ []

abbrev pub include_words : List (List ℕ)
include_words = codes "#include" ∷ codes "#includedir" ∷ at_include_words

abbrev pub is_tag : List ℕ → Bool
is_tag word = is_among command_tag_words word

abbrev pub is_option_name : List ℕ → Bool
is_option_name word = is_among command_option_words word

-- No alias may be defined by the word: it is `ALL`, a tag or an option's name.
abbrev pub is_reserved : List ℕ → Bool
is_reserved word = bytes_eq word (codes "ALL") || is_tag word || is_option_name word

-- an upper-case letter, a digit or `_`
abbrev pub is_alias_byte : ℕ → Bool
is_alias_byte b = is_upper b || is_digit b || b == 95

-- The word can name an alias: an upper-case letter, and then such letters, digits and `_`.
abbrev pub is_name : List ℕ → Bool
is_name [] = false
is_name (b ∷ rest) = is_upper b && list_all is_alias_byte rest
