-- A device of the proofs, which no public contract cites: lines of bytes that stand for themselves.
use Rattle.std.specs.Prelude.{◌≡◌, ◌≤◌, ◌<◌, ℕ, Bool, ◌==◌, ◌||◌, ◌&&◌, not, nat_eq, true, false, List, [], ◌∷◌, ◌++◌, length, take, drop, codes, ◌⊎◌, Some}
use Rattle.std.specs.List.{starts_with, list_all}
use Rattle.sudoers_text.specs.declared.token.TokenKind.TheVariants as kind
use Rattle.sudoers_text.specs.Part.{is_word_byte}
use Rattle.sudoers_grammar.specs.declared.node.Atom.{Atom}
use Rattle.sudoers_grammar.specs.Piece.{TokenWithBytes}
use Rattle.sudoers_grammar.specs.Atom.{atom_of_token}
use Rattle.sudoers_grammar.specs.declared.node.Kind.{Kind}
use Rattle.sudoers_grammar.specs.declared.node.Kind.TheVariants.{User, Runas, Host, Cmnd}
use Rattle.sudoers_edit.specs.Splice.{ByteExtent, owned_bytes_start, owned_bytes_stop, is_option_equal_to}

-- none of NUL, LF, CR, `"`, `#`, `%` and `\`
abbrev pub is_plain_byte : ℕ → Bool
is_plain_byte b = not (b == 0 || b == 10 || b == 13 || b == 34 || b == 35 || b == 37 || b == 92)

abbrev pub ArePlainBytes : List ℕ → Type 0
ArePlainBytes [] = Unit {0}
ArePlainBytes (b ∷ bytes) = (is_plain_byte b ≡ true) × ArePlainBytes bytes

-- The bytes begin lines of aliases of users, runas users and hosts.
abbrev pub begins_with_word_alias_head : List ℕ → Bool
begins_with_word_alias_head bytes = starts_with nat_eq bytes (codes "User_Alias ") || starts_with nat_eq bytes (codes "Runas_Alias ") || starts_with nat_eq bytes (codes "Host_Alias ")

-- the bytes begin with a blank, a `,`, a `:` or a LF
abbrev pub begins_no_word : List ℕ → Bool
begins_no_word [] = false
begins_no_word (b ∷ _) = b == 32 || b == 9 || b == 44 || b == 58 || b == 10

-- The bytes of the line before its LF stand for themselves.
pub record IsPlainLine (line : List ℕ) : Type 0 where
  pub plain : List ℕ
  pub lf : line ≡ plain ++ 10 ∷ []
  pub are_plain : list_all is_plain_byte plain ≡ true

-- The line begins with aliases of words, its bytes stand for themselves, and at neither place a word goes on.
pub record IsPlainCut (from to : ℕ) (line : List ℕ) : Type 0 where
  pub order : from ≤ to
  pub inside : to < length line
  pub bytes : IsPlainLine line
  pub begins : begins_with_word_alias_head (take from line) ≡ true
  pub seam : begins_no_word (drop from line) ≡ true
  pub seam_left : begins_no_word (drop to line) ≡ true

-- The lists of an alias of this kind have words for members.
abbrev pub is_kind_of_words : Kind → Bool
is_kind_of_words User = true
is_kind_of_words Runas = true
is_kind_of_words Host = true
is_kind_of_words Cmnd = false

-- The one at a place owns exactly these bytes.
abbrev pub owns_bytes_from_to : ℕ → ℕ → ℕ → List ByteExtent → Bool
owns_bytes_from_to at from to extents = is_option_equal_to from (owned_bytes_start at extents) && is_option_equal_to to (owned_bytes_stop at extents)

-- These bytes are a `,`, a blank or none, and this word, whose bytes stand for themselves.
pub record IsWordSplice (splice word : List ℕ) : Type 0 where
  pub lead : (splice ≡ 44 ∷ word) ⊎ (splice ≡ 44 ∷ 32 ∷ word)
  pub some : 0 < length word
  pub words : list_all is_word_byte word ≡ true
  pub plain : list_all is_plain_byte word ≡ true

-- A word of this text can be a member of a list of this kind.
abbrev pub CanBeMember : Kind → List ℕ → Type 0
CanBeMember k word = (t : TokenWithBytes) × (a : Atom) × (t.kind ≡ kind.Word) × (t.text ≡ word) × (atom_of_token k t ≡ Some a)
