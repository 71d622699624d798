-- Words with a meaning of their own, for sudo 1.9.13 as Debian builds it.
use Rattle.std.specs.Prelude.{ℕ, ◌&&◌, ◌||◌, not, nat_eq, Bool, List, [], ◌∷◌, length, drop, codes}
use Rattle.std.specs.List.{starts_with}
use Rattle.std.specs.Str.{bytes_eq}
use Rattle.sudoers_text.specs.Word.{is_among, is_reserved, digest_kinds, at_include_words}
use Rattle.sudoers_grammar.specs.Piece.{has_first_byte}

-- the options that it knows, and those that it does not know
abbrev pub known_options : List (List ℕ)
known_options =
    codes "ROLE" ∷ codes "TYPE" ∷ codes "NOTBEFORE" ∷ codes "NOTAFTER" ∷ codes "TIMEOUT" ∷ codes "CWD" ∷ codes "CHROOT" ∷ []

abbrev pub unknown_options : List (List ℕ)
unknown_options = codes "APPARMOR_PROFILE" ∷ codes "PRIVS" ∷ codes "LIMITPRIVS" ∷ []

abbrev pub is_known_option : List ℕ → Bool
is_known_option text = is_among known_options text

abbrev pub is_unknown_option : List ℕ → Bool
is_unknown_option text = is_among unknown_options text

abbrev pub is_option : List ℕ → Bool
is_option text = is_known_option text || is_unknown_option text

-- a reserved word that is no option, and not `ALL`
abbrev pub is_tag_word : List ℕ → Bool
is_tag_word text = is_reserved text && not (bytes_eq text (codes "ALL")) && not (is_option text)

abbrev pub is_digest_kind : List ℕ → Bool
is_digest_kind text = is_among digest_kinds text

-- the words that begin a command
abbrev pub is_command_word : List ℕ → Bool
is_command_word text = bytes_eq text (codes "sudoedit") || is_digest_kind text

-- the words with which a line of Defaults or aliases begins
abbrev pub first_words : List (List ℕ)
first_words = codes "Defaults" ∷ codes "User_Alias" ∷ codes "Runas_Alias" ∷ codes "Host_Alias" ∷ codes "Cmnd_Alias" ∷ codes "Cmd_Alias" ∷ []

abbrev pub is_first_word : List ℕ → Bool
is_first_word text = is_among first_words text

-- one of these words, perhaps with more behind it
abbrev pub begins_with_first_word : List ℕ → Bool
begins_with_first_word text =
    starts_with nat_eq text (codes "Defaults") || starts_with nat_eq text (codes "User_Alias") || starts_with nat_eq text (codes "Runas_Alias")
    || starts_with nat_eq text (codes "Host_Alias") || starts_with nat_eq text (codes "Cmnd_Alias") || starts_with nat_eq text (codes "Cmd_Alias")

-- the words with which an include line begins
abbrev pub is_at_include : List ℕ → Bool
is_at_include text = is_among at_include_words text

abbrev pub is_hash_include : List ℕ → Bool
is_hash_include text = bytes_eq text (codes "#include") || bytes_eq text (codes "#includedir")

-- a comment that begins with such a word and a blank
abbrev pub begins_blank : List ℕ → Bool
begins_blank text = has_first_byte 32 text || has_first_byte 9 text

abbrev pub begins_word_and_blank : List ℕ → List ℕ → Bool
begins_word_and_blank word text = starts_with nat_eq text word && begins_blank (drop (length word) text)

abbrev pub is_comment_of_include : List ℕ → Bool
is_comment_of_include text = begins_word_and_blank (codes "#include") text || begins_word_and_blank (codes "#includedir") text
