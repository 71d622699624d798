-- The tokens of lists of users, runas users and hosts are these lists as they are printed.
use Rattle.laws_print.proofs.Common.{◌≡◌, ◌≢◌, ℕ, Bool, true, false, ◌&&◌, not, List, [], ◌∷◌, ◌++◌, refl, sym, ap, ◌∙◌, ◌/◌, ◌%◌, if◌then◌else◌, Pair, IsNonEmptyListOf}
use Rattle.laws_print.proofs.Common.{Kind, User, Runas, Cmnd, Atom, Digest, Member, HostName, host_atom_of_token, is_word_escape_needed, is_control, lower_hex_digit}
use Rattle.laws_print.proofs.Common.{is_read_as_host_name, is_host_name_atom, is_read_as_other_than_user_name, printed_atom, printed_digests, negation_sign, printed_member, printed_member_list, is_writable_pattern}
use Rattle.laws_print.proofs.Common.{IsWritableUserAtom, IsWritableHostAtom, WrittenToken, text_of_units, gap_bytes_if_spaced, line_of_written_tokens, units_of_spelled_word, escaped_pattern_units, units_of_pattern}
use Rattle.std.specs.Fmt.{decimal}
use Rattle.sudoers_text.specs.declared.token.TokenKind.TheVariants as kind
use Rattle.sudoers_grammar.specs.declared.node.Kind.TheVariants.{Host}
use Rattle.sudoers_grammar.specs.declared.node.Atom.TheVariants as atom
use Rattle.sudoers_cvt_spell.specs.Spelling.{spelled_word, escaped_pattern, text_with_backslash_if_misread}
use Rattle.sudoers_cvt_spell.specs.Hosts.{printed_host_name_pattern}
use Rattle.sudoers_cvt_spell.specs.Members.{printed_user_name, printed_netgroup}
use Rattle.laws_print.proofs.ListTokens.{units_of_user_name, units_of_user_atom, units_with_leading_backslash, units_of_host_name, units_of_host_atom, units_of_list_atom, IsAtomOfListKind, tokens_of_list_member, tokens_of_member_list}
use Rattle.laws_print.proofs.ListTokens.{tokens_of_member}
use Rattle.laws_print.proofs.Values.{text_of_word_units_is_spelled_word}
use Rattle.laws_print.proofs.Users.{text_of_plain_units_is_bytes, word_with_leading_backslash_is_not_special}
use Rattle.laws_print.proofs.Patterns.{units_of_writable_pattern_are_pattern_units, text_of_escaped_units_is_escaped_pattern}
use Rattle.laws_print.proofs.Hosts.{units_of_nonempty_pattern_are_not_empty}
use Rattle.laws_print.proofs.HostNames.{text_of_backslashed_units_has_backslash}
use Rattle.laws_print.proofs.ReadLists.{IsListedMemberOfKind}
use Rattle.laws_print.proofs.Many.{many_text}
use Rattle.std.proofs.lemmas.Bool.{and_right}

-- ---- names

-- A word that would be read as something else begins with its first byte.
special_spelled_word_begins_with_its_byte : (first : Bool) (b : ℕ) (name : List ℕ) → is_read_as_other_than_user_name first (spelled_word (b ∷ name)) ≡ true → spelled_word (b ∷ name) ≡ b ∷ spelled_word name
special_spelled_word_begins_with_its_byte first b name h = by_escaped (is_word_escape_needed b) h
  where
    by_control : (t : Bool) → is_read_as_other_than_user_name first ((if t then 92 ∷ 120 ∷ lower_hex_digit (b / 16) ∷ lower_hex_digit (b % 16) ∷ [] else b ∷ []) ++ spelled_word name) ≡ true → (if t then 92 ∷ 120 ∷ lower_hex_digit (b / 16) ∷ lower_hex_digit (b % 16) ∷ [] else b ∷ []) ++ spelled_word name ≡ b ∷ spelled_word name
    by_control true h = absurd (let none = word_with_leading_backslash_is_not_special first (120 ∷ lower_hex_digit (b / 16) ∷ lower_hex_digit (b % 16) ∷ spelled_word name) in cc)
    by_control false h = refl

    by_escaped : (t : Bool) → is_read_as_other_than_user_name first ((if t then 92 ∷ b ∷ [] else (if is_control b then 92 ∷ 120 ∷ lower_hex_digit (b / 16) ∷ lower_hex_digit (b % 16) ∷ [] else b ∷ [])) ++ spelled_word name) ≡ true
        → (if t then 92 ∷ b ∷ [] else (if is_control b then 92 ∷ 120 ∷ lower_hex_digit (b / 16) ∷ lower_hex_digit (b % 16) ∷ [] else b ∷ [])) ++ spelled_word name ≡ b ∷ spelled_word name
    by_escaped true h = absurd (let none = word_with_leading_backslash_is_not_special first (b ∷ spelled_word name) in cc)
    by_escaped false h = by_control (is_control b) h

text_of_user_name_is_printed : (first : Bool) (name : List ℕ) → name ≢ [] → text_of_units (units_of_user_name first name) ≡ printed_user_name first name
text_of_user_name_is_printed first [] some = absurd (some refl)
text_of_user_name_is_printed first (b ∷ name) some = by_else (is_read_as_other_than_user_name first (spelled_word (b ∷ name))) refl
  where
    by_else : (t : Bool) → is_read_as_other_than_user_name first (spelled_word (b ∷ name)) ≡ t → text_of_units (if t then Pair b ∷ units_of_spelled_word name else units_of_spelled_word (b ∷ name)) ≡ text_with_backslash_if_misread t (spelled_word (b ∷ name))
    by_else true e = ap (λ (t : List ℕ). 92 ∷ b ∷ t) (text_of_word_units_is_spelled_word name) ∙ ap (λ (t : List ℕ). 92 ∷ t) (sym (special_spelled_word_begins_with_its_byte first b name e))
    by_else false e = text_of_word_units_is_spelled_word (b ∷ name)

text_of_host_name_is_printed : (p : List ℕ) → p ≢ [] → is_writable_pattern HostName p ≡ true → text_of_units (units_of_host_name p) ≡ printed_host_name_pattern p
text_of_host_name_is_printed p some is = by_host (is_read_as_host_name (escaped_pattern HostName p)) refl
  where
    same : text_of_units (escaped_pattern_units HostName (units_of_pattern p)) ≡ escaped_pattern HostName p
    same = text_of_escaped_units_is_escaped_pattern HostName p is

    by_host : (t : Bool) → is_read_as_host_name (escaped_pattern HostName p) ≡ t → text_of_units (if t then escaped_pattern_units HostName (units_of_pattern p) else units_with_leading_backslash (escaped_pattern_units HostName (units_of_pattern p))) ≡ text_with_backslash_if_misread (not t) (escaped_pattern HostName p)
    by_host true e = same
    by_host false e =
        text_of_backslashed_units_has_backslash (units_of_pattern p) (units_of_writable_pattern_are_pattern_units HostName p is) (units_of_nonempty_pattern_are_not_empty p some) (ap (λ (t : List ℕ). is_host_name_atom (host_atom_of_token kind.Word t)) same ∙ e)
        ∙ ap (λ (t : List ℕ). 92 ∷ t) same

-- ---- members

text_of_user_atom_is_printed : (k : Kind) (first : Bool) (a : Atom) → ((name : List ℕ) → printed_netgroup k name ≡ 43 ∷ spelled_word name) → IsWritableUserAtom a → text_of_units (units_of_user_atom first a) ≡ printed_atom first k a
text_of_user_atom_is_printed k first atom.All netgroup is = refl
text_of_user_atom_is_printed k first (atom.Alias name) netgroup is = text_of_plain_units_is_bytes name
text_of_user_atom_is_printed k first (atom.Name name) netgroup is = text_of_user_name_is_printed first name is
text_of_user_atom_is_printed k first (atom.Id n) netgroup is = ap (λ (t : List ℕ). 35 ∷ t) (text_of_plain_units_is_bytes (decimal n))
text_of_user_atom_is_printed k first (atom.Group name) netgroup is = ap (λ (t : List ℕ). 37 ∷ t) (text_of_word_units_is_spelled_word name)
text_of_user_atom_is_printed k first (atom.GroupId n) netgroup is = ap (λ (t : List ℕ). 37 ∷ 35 ∷ t) (text_of_plain_units_is_bytes (decimal n))
text_of_user_atom_is_printed k first (atom.NonUnix name) netgroup is = ap (λ (t : List ℕ). 37 ∷ 58 ∷ t) (text_of_word_units_is_spelled_word name)
text_of_user_atom_is_printed k first (atom.Netgroup name) netgroup is = ap (λ (t : List ℕ). 43 ∷ t) (text_of_word_units_is_spelled_word name) ∙ sym (netgroup name)
text_of_user_atom_is_printed k first a netgroup is = absurd is

text_of_host_atom_is_printed : (first : Bool) (a : Atom) → IsWritableHostAtom a → text_of_units (units_of_host_atom a) ≡ printed_atom first Host a
text_of_host_atom_is_printed first atom.All is = refl
text_of_host_atom_is_printed first (atom.Alias name) is = text_of_plain_units_is_bytes name
text_of_host_atom_is_printed first (atom.Netgroup name) is = ap (λ (t : List ℕ). 43 ∷ t) (text_of_plain_units_is_bytes name)
text_of_host_atom_is_printed first (atom.Host p) is = text_of_host_name_is_printed p is.0 is.1
text_of_host_atom_is_printed first (atom.Address a) is = text_of_plain_units_is_bytes _
text_of_host_atom_is_printed first (atom.Network a m) is = text_of_plain_units_is_bytes _
text_of_host_atom_is_printed first a is = absurd is

text_of_list_atom_is_printed : (k : Kind) (first : Bool) (a : Atom) → IsAtomOfListKind k a → text_of_units (units_of_list_atom k first a) ≡ printed_atom first k a
text_of_list_atom_is_printed User first a is = text_of_user_atom_is_printed User first a (λ name. refl) is
text_of_list_atom_is_printed Runas first a is = text_of_user_atom_is_printed Runas first a (λ name. refl) is
text_of_list_atom_is_printed Host first a is = text_of_host_atom_is_printed first a is
text_of_list_atom_is_printed Cmnd first a is = absurd is

conjunction_with_true_is_itself : (x : Bool) → (x && true) ≡ x
conjunction_with_true_is_itself true = refl
conjunction_with_true_is_itself false = refl

text_of_signed_list_member_is_printed : (k : Kind) (spaced first negated : Bool) (a : Atom) (tail : List WrittenToken) → IsAtomOfListKind k a → line_of_written_tokens (tokens_of_list_member k spaced first negated a tail) ≡ gap_bytes_if_spaced spaced ++ ((negation_sign negated ++ printed_atom (first && not negated) k a) ++ line_of_written_tokens tail)
text_of_signed_list_member_is_printed k spaced first true a tail is =
    ap (λ (t : List ℕ). gap_bytes_if_spaced spaced ++ (33 ∷ (t ++ line_of_written_tokens tail))) (text_of_list_atom_is_printed k false a is ∙ ap (λ (t : Bool). printed_atom t k a) (sym (and_right first false refl)))
text_of_signed_list_member_is_printed k spaced first false a tail is =
    ap (λ (t : List ℕ). gap_bytes_if_spaced spaced ++ (t ++ line_of_written_tokens tail)) (text_of_list_atom_is_printed k first a is ∙ ap (λ (t : Bool). printed_atom t k a) (sym (conjunction_with_true_is_itself first)))

pub text_of_list_member_is_printed : (k : Kind) (spaced first : Bool) (m : Member) (tail : List WrittenToken) → IsListedMemberOfKind k m → line_of_written_tokens (tokens_of_list_member k spaced first m.negated m.atom tail) ≡ gap_bytes_if_spaced spaced ++ (printed_member first k m ++ line_of_written_tokens tail)
text_of_list_member_is_printed k spaced first m tail is =
    text_of_signed_list_member_is_printed k spaced first m.negated m.atom tail is.is
    ∙ ap (λ (ds : List Digest). gap_bytes_if_spaced spaced ++ ((printed_digests ds ++ negation_sign m.negated ++ printed_atom (first && not m.negated) k m.atom) ++ line_of_written_tokens tail)) (sym is.no_digests)

-- A list, before other tokens.
pub text_of_member_list_is_printed : (k : Kind) (spaced first : Bool) (ms : List Member) (tail : List WrittenToken) → IsNonEmptyListOf (IsListedMemberOfKind k) ms → line_of_written_tokens (tokens_of_member_list k spaced first ms tail) ≡ gap_bytes_if_spaced spaced ++ (printed_member_list first k ms ++ line_of_written_tokens tail)
text_of_member_list_is_printed k spaced first [] tail all = absurd all
text_of_member_list_is_printed k spaced first (m ∷ ms) tail all =
    many_text 44 false (printed_member false k) (tokens_of_member k true false) (IsListedMemberOfKind k) (text_of_list_member_is_printed k true false) (gap_bytes_if_spaced spaced) (printed_member first k m)
    (λ t. line_of_written_tokens (tokens_of_member k spaced first m t)) (λ t. text_of_list_member_is_printed k spaced first m t all.0) ms tail all.1
