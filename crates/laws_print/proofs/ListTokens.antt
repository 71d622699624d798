-- Lists of users, runas users and hosts, token by token: a device of the laws.
use Rattle.laws_print.proofs.Common.{ℕ, Bool, true, false, List, [], ◌∷◌, ◌++◌, codes, if◌then◌else◌, TokenKind, LineUnit, Pair, Byte, Kind, User}
use Rattle.laws_print.proofs.Common.{Runas, Cmnd, Atom, Member, HostName, dotted_address, printed_mask_without_slash, is_read_as_host_name, is_read_as_other_than_user_name, IsWritableUserAtom, IsWritableHostAtom, WrittenToken}
use Rattle.laws_print.proofs.Common.{units_of_spelled_word, escaped_pattern_units, units_of_pattern}
use Rattle.std.specs.Fmt.{decimal}
use Rattle.sudoers_text.specs.declared.token.TokenKind.TheVariants as kind
use Rattle.sudoers_grammar.specs.declared.node.Kind.TheVariants.{Host}
use Rattle.sudoers_grammar.specs.declared.node.Atom.TheVariants as atom
use Rattle.sudoers_cvt_spell.specs.Spelling.{spelled_word, escaped_pattern}
use Rattle.laws_print.proofs.Units.{units_of_plain_bytes}

abbrev pub token_of_mark : ℕ → Bool → WrittenToken
token_of_mark b spaced = record { kind = kind.Punct; units = Byte b ∷ []; spaced = spaced }

abbrev pub token_of_plain_word : List ℕ → Bool → WrittenToken
token_of_plain_word text spaced = record { kind = kind.Word; units = units_of_plain_bytes text; spaced = spaced }

abbrev pub units_of_user_name : Bool → List ℕ → List LineUnit
units_of_user_name first [] = []
units_of_user_name first (b ∷ name) = if is_read_as_other_than_user_name first (spelled_word (b ∷ name)) then Pair b ∷ units_of_spelled_word name else units_of_spelled_word (b ∷ name)

abbrev pub token_kind_of_atom : Atom → TokenKind
token_kind_of_atom (atom.Id n) = kind.Id
token_kind_of_atom (atom.GroupId n) = kind.Id
token_kind_of_atom a = kind.Word

-- first: the line begins with it
abbrev pub units_of_user_atom : Bool → Atom → List LineUnit
units_of_user_atom first atom.All = units_of_plain_bytes (codes "ALL")
units_of_user_atom first (atom.Alias name) = units_of_plain_bytes name
units_of_user_atom first (atom.Name name) = units_of_user_name first name
units_of_user_atom first (atom.Id n) = Byte 35 ∷ units_of_plain_bytes (decimal n)
units_of_user_atom first (atom.Group name) = Byte 37 ∷ units_of_spelled_word name
units_of_user_atom first (atom.GroupId n) = Byte 37 ∷ Byte 35 ∷ units_of_plain_bytes (decimal n)
units_of_user_atom first (atom.NonUnix name) = Byte 37 ∷ Byte 58 ∷ units_of_spelled_word name
units_of_user_atom first (atom.Netgroup name) = Byte 43 ∷ units_of_spelled_word name
units_of_user_atom first a = []

-- a backslash before the first byte
abbrev pub units_with_leading_backslash : List LineUnit → List LineUnit
units_with_leading_backslash (Byte b ∷ us) = Pair b ∷ us
units_with_leading_backslash us = us

abbrev pub units_of_host_name : List ℕ → List LineUnit
units_of_host_name pattern =
    if is_read_as_host_name (escaped_pattern HostName pattern) then escaped_pattern_units HostName (units_of_pattern pattern)
    else units_with_leading_backslash (escaped_pattern_units HostName (units_of_pattern pattern))

abbrev pub units_of_host_atom : Atom → List LineUnit
units_of_host_atom atom.All = units_of_plain_bytes (codes "ALL")
units_of_host_atom (atom.Alias name) = units_of_plain_bytes name
units_of_host_atom (atom.Netgroup name) = Byte 43 ∷ units_of_plain_bytes name
units_of_host_atom (atom.Host pattern) = units_of_host_name pattern
units_of_host_atom (atom.Address a) = units_of_plain_bytes (dotted_address a.number)
units_of_host_atom (atom.Network a m) = units_of_plain_bytes (dotted_address a.number ++ codes "/" ++ printed_mask_without_slash m)
units_of_host_atom a = []

abbrev pub units_of_list_atom : Kind → Bool → Atom → List LineUnit
units_of_list_atom User first a = units_of_user_atom first a
units_of_list_atom Runas first a = units_of_user_atom first a
units_of_list_atom Host first a = units_of_host_atom a
units_of_list_atom Cmnd first a = []

-- A list of this kind can hold it.
abbrev pub IsAtomOfListKind : Kind → Atom → Type 0
IsAtomOfListKind User = IsWritableUserAtom
IsAtomOfListKind Runas = IsWritableUserAtom
IsAtomOfListKind Host = IsWritableHostAtom
IsAtomOfListKind Cmnd = λ a. ⊥

abbrev pub token_of_list_atom : Kind → Bool → Bool → Atom → WrittenToken
token_of_list_atom k spaced first a = record { kind = token_kind_of_atom a; units = units_of_list_atom k first a; spaced = spaced }

-- a member, before other tokens
abbrev pub tokens_of_list_member : Kind → Bool → Bool → Bool → Atom → List WrittenToken → List WrittenToken
tokens_of_list_member k spaced first true a tail = token_of_mark 33 spaced ∷ token_of_list_atom k false false a ∷ tail
tokens_of_list_member k spaced first false a tail = token_of_list_atom k spaced first a ∷ tail

-- things each behind a mark, and the first of them without one
abbrev pub tokens_of_items_each_behind_mark : {X : Type 0} → WrittenToken → (X → List WrittenToken → List WrittenToken) → List X → List WrittenToken → List WrittenToken
tokens_of_items_each_behind_mark before each [] tail = tail
tokens_of_items_each_behind_mark before each (x ∷ xs) tail = before ∷ each x (tokens_of_items_each_behind_mark before each xs tail)

abbrev pub tokens_of_items_between_marks : {X : Type 0} → WrittenToken → (X → List WrittenToken → List WrittenToken) → (X → List WrittenToken → List WrittenToken) → List X → List WrittenToken → List WrittenToken
tokens_of_items_between_marks before first each [] tail = tail
tokens_of_items_between_marks before first each (x ∷ xs) tail = first x (tokens_of_items_each_behind_mark before each xs tail)

-- a list of members
abbrev pub tokens_of_member : Kind → Bool → Bool → Member → List WrittenToken → List WrittenToken
tokens_of_member k spaced first m tail = tokens_of_list_member k spaced first m.negated m.atom tail

abbrev pub tokens_of_further_members : Kind → List Member → List WrittenToken → List WrittenToken
tokens_of_further_members k ms tail = tokens_of_items_each_behind_mark (token_of_mark 44 false) (tokens_of_member k true false) ms tail

abbrev pub tokens_of_member_list : Kind → Bool → Bool → List Member → List WrittenToken → List WrittenToken
tokens_of_member_list k spaced first ms tail = tokens_of_items_between_marks (token_of_mark 44 false) (tokens_of_member k spaced first) (tokens_of_member k true false) ms tail
