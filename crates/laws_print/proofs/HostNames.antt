-- Names of hosts as they are written are read as these names, but for a backslash before the first byte.
use Rattle.laws_print.proofs.Common.{◌≡◌, ◌≢◌, ℕ, Bool, true, false, List, [], ◌∷◌, Some, None, refl, sym, ap, ◌∙◌, if◌then◌else◌, codes, drop, Option}
use Rattle.laws_print.proofs.Common.{option_map, option_and_then, bytes_eq, LineUnit, Pair, Byte, is_name, Atom, Mask, HostName, is_dropped_backslash_before}
use Rattle.laws_print.proofs.Common.{pattern_of_text, has_byte, parts_around_first_byte, ipv4_number_of_text, network_mask_of_text, network_atom_of_text, is_network_like_text, some_if_not_empty, address_network_or_host_atom}
use Rattle.laws_print.proofs.Common.{host_atom_without_escapes, host_atom_of_token, is_read_as_host_name, is_host_name_atom, is_writable_pattern, IsWritableHostAtom, atom_read_back, text_of_units, ArePatternUnits, escaped_pattern_units}
use Rattle.laws_print.proofs.Common.{units_of_pattern}
use Rattle.sudoers_text.specs.declared.token.TokenKind.TheVariants as kind
use Rattle.sudoers_grammar.specs.declared.node.Atom.TheVariants as atom
use Rattle.sudoers_grammar.specs.Piece.{has_first_byte}
use Rattle.sudoers_cvt_spell.specs.Spelling.{escaped_pattern}
use Rattle.laws_print.proofs.ListTokens.{token_kind_of_atom, units_with_leading_backslash, units_of_host_name, units_of_host_atom}
use Rattle.laws_print.proofs.Users.{text_of_plain_units_is_bytes}
use Rattle.laws_print.proofs.Patterns.{units_of_writable_pattern_are_pattern_units, unescaped_pattern_byte_is_plain_one, text_of_pattern_units_is_pattern, text_of_escaped_units_is_escaped_pattern, escaped_pattern_is_read_back, pattern_begins_with_pair_or_its_byte, pattern_of_escaped_remaining_units_is_them, text_without_backslash_is_own_pattern}
use Rattle.laws_print.proofs.Hosts.{printed_network_is_address_slash_mask, units_of_nonempty_pattern_are_not_empty}
use Rattle.laws_print.proofs.HostAtoms.{host_token_all_is_read_as_all, host_alias_name_is_read_back, host_netgroup_is_read_back, dotted_address_is_read_back, network_token_is_read_back}

-- ---- what is read as a name

optional_netgroup_is_no_host_name : (o : Option (List ℕ)) → is_host_name_atom (option_map atom.Netgroup o) ≡ true → ⊥
optional_netgroup_is_no_host_name None h = cc
optional_netgroup_is_no_host_name (Some name) h = cc

network_of_text_is_no_host_name : (text : List ℕ) → is_host_name_atom (network_atom_of_text text) ≡ true → ⊥
unfolding network_atom_of_text
network_of_text_is_no_host_name text h = by_split (parts_around_first_byte 47 text) h
  where
    by_mask : (n : ℕ) (o : Option Mask) → is_host_name_atom (option_map (atom.Network (record { number = n })) o) ≡ true → ⊥
    by_mask n None h = cc
    by_mask n (Some m) h = cc

    by_number : (rest : List ℕ) (o : Option ℕ) → is_host_name_atom (option_and_then (λ n. option_map (atom.Network (record { number = n })) (network_mask_of_text rest)) o) ≡ true → ⊥
    by_number rest None h = cc
    by_number rest (Some n) h = by_mask n (network_mask_of_text rest) h

    by_split : (o : Option (List ℕ × List ℕ)) → is_host_name_atom (option_and_then (λ p. option_and_then (λ n. option_map (atom.Network (record { number = n })) (network_mask_of_text p.1)) (ipv4_number_of_text p.0)) o) ≡ true → ⊥
    by_split None h = cc
    by_split (Some p) h = by_number p.1 (ipv4_number_of_text p.0) h

plain_text_host_name_is_itself : (text : List ℕ) (o : Option ℕ) → is_host_name_atom (address_network_or_host_atom text o) ≡ true → address_network_or_host_atom text o ≡ Some (atom.Host text)
plain_text_host_name_is_itself text (Some n) h = absurd (cc)
plain_text_host_name_is_itself text None h = by_slashed (is_network_like_text text) h
  where
    by_slashed : (t : Bool) → is_host_name_atom (if t then network_atom_of_text text else Some (atom.Host text)) ≡ true → (if t then network_atom_of_text text else Some (atom.Host text)) ≡ Some (atom.Host text)
    by_slashed true h = absurd (network_of_text_is_no_host_name text h)
    by_slashed false h = refl

unescaped_text_host_name_is_itself : (text : List ℕ) → is_host_name_atom (host_atom_without_escapes text) ≡ true → host_atom_without_escapes text ≡ Some (atom.Host text)
unfolding host_atom_without_escapes
unescaped_text_host_name_is_itself text h = by_all (bytes_eq text (codes "ALL")) h
  where
    by_plus : (t : Bool) → is_host_name_atom (if t then option_map atom.Netgroup (some_if_not_empty (drop 1 text)) else address_network_or_host_atom text (ipv4_number_of_text text)) ≡ true
        → (if t then option_map atom.Netgroup (some_if_not_empty (drop 1 text)) else address_network_or_host_atom text (ipv4_number_of_text text)) ≡ Some (atom.Host text)
    by_plus true h = absurd (optional_netgroup_is_no_host_name (some_if_not_empty (drop 1 text)) h)
    by_plus false h = plain_text_host_name_is_itself text (ipv4_number_of_text text) h

    by_name : (t : Bool) → is_host_name_atom (if t then Some (atom.Alias text) else (if has_first_byte 43 text then option_map atom.Netgroup (some_if_not_empty (drop 1 text)) else address_network_or_host_atom text (ipv4_number_of_text text))) ≡ true
        → (if t then Some (atom.Alias text) else (if has_first_byte 43 text then option_map atom.Netgroup (some_if_not_empty (drop 1 text)) else address_network_or_host_atom text (ipv4_number_of_text text))) ≡ Some (atom.Host text)
    by_name true h = absurd (cc)
    by_name false h = by_plus (has_first_byte 43 text) h

    by_all : (t : Bool) → is_host_name_atom (if t then Some atom.All else (if is_name text then Some (atom.Alias text) else (if has_first_byte 43 text then option_map atom.Netgroup (some_if_not_empty (drop 1 text)) else address_network_or_host_atom text (ipv4_number_of_text text)))) ≡ true
        → (if t then Some atom.All else (if is_name text then Some (atom.Alias text) else (if has_first_byte 43 text then option_map atom.Netgroup (some_if_not_empty (drop 1 text)) else address_network_or_host_atom text (ipv4_number_of_text text)))) ≡ Some (atom.Host text)
    by_all true h = absurd (cc)
    by_all false h = by_name (is_name text) h

-- A text that is read as a name is read as its pattern.
host_name_of_token_is_its_pattern : (text : List ℕ) → is_host_name_atom (host_atom_of_token kind.Word text) ≡ true → host_atom_of_token kind.Word text ≡ Some (atom.Host (pattern_of_text HostName text))
unfolding host_atom_of_token
host_name_of_token_is_its_pattern text h = by_backslash (has_byte 92 text) refl h
  where
    by_backslash : (t : Bool) → has_byte 92 text ≡ t → is_host_name_atom (if t then Some (atom.Host (pattern_of_text HostName text)) else host_atom_without_escapes text) ≡ true
        → (if t then Some (atom.Host (pattern_of_text HostName text)) else host_atom_without_escapes text) ≡ Some (atom.Host (pattern_of_text HostName text))
    by_backslash true e h = refl
    by_backslash false e h = unescaped_text_host_name_is_itself text h ∙ ap (λ (t : List ℕ). Some (atom.Host t)) (sym (text_without_backslash_is_own_pattern HostName tt text e))

-- ---- names

-- a backslash and what follows are read as a name
backslash_text_is_read_as_its_pattern : (text : List ℕ) → host_atom_of_token kind.Word (92 ∷ text) ≡ Some (atom.Host (pattern_of_text HostName (92 ∷ text)))
unfolding host_atom_of_token
backslash_text_is_read_as_its_pattern text = refl

backslash_text_is_never_no_host_name : (text : List ℕ) → is_host_name_atom (host_atom_of_token kind.Word (92 ∷ text)) ≡ false → ⊥
backslash_text_is_never_no_host_name text h = let is = ap is_host_name_atom (backslash_text_is_read_as_its_pattern text) in cc

pattern_of_backslashed_units_is_them : (b : ℕ) (vs : List LineUnit) → ArePatternUnits HostName (Byte b ∷ vs) → is_dropped_backslash_before HostName b ≡ false → pattern_of_text HostName (92 ∷ b ∷ text_of_units (escaped_pattern_units HostName vs)) ≡ 92 ∷ b ∷ text_of_units vs
unfolding pattern_of_text
pattern_of_backslashed_units_is_them b vs all e =
    let is = unescaped_pattern_byte_is_plain_one b all.0 in
    pattern_begins_with_pair_or_its_byte HostName tt b (text_of_units (escaped_pattern_units HostName vs)) (record { lf = is.lf; cr = is.cr }) false e ∙ ap (λ (t : List ℕ). 92 ∷ b ∷ t) (pattern_of_escaped_remaining_units_is_them HostName tt vs all.1)

special_host_with_backslash_is_read_back : (vs : List LineUnit) → ArePatternUnits HostName vs → (vs ≡ [] → ⊥) → is_host_name_atom (host_atom_of_token kind.Word (text_of_units (escaped_pattern_units HostName vs))) ≡ false → host_atom_of_token kind.Word (text_of_units (units_with_leading_backslash (escaped_pattern_units HostName vs))) ≡ Some (atom.Host (92 ∷ text_of_units vs))
special_host_with_backslash_is_read_back [] all some h = absurd (some refl)
special_host_with_backslash_is_read_back (Pair c ∷ vs) all some h = absurd (backslash_text_is_never_no_host_name (c ∷ text_of_units (escaped_pattern_units HostName vs)) h)
special_host_with_backslash_is_read_back (Byte b ∷ vs) all some h = by_escape (is_dropped_backslash_before HostName b) refl h
  where
    by_escape : (t : Bool) → is_dropped_backslash_before HostName b ≡ t → is_host_name_atom (host_atom_of_token kind.Word (text_of_units ((if t then Pair b else Byte b) ∷ escaped_pattern_units HostName vs))) ≡ false
        → host_atom_of_token kind.Word (text_of_units (units_with_leading_backslash ((if t then Pair b else Byte b) ∷ escaped_pattern_units HostName vs))) ≡ Some (atom.Host (92 ∷ b ∷ text_of_units vs))
    by_escape true e h = absurd (backslash_text_is_never_no_host_name (b ∷ text_of_units (escaped_pattern_units HostName vs)) h)
    by_escape false e h = backslash_text_is_read_as_its_pattern (b ∷ text_of_units (escaped_pattern_units HostName vs)) ∙ ap (λ (t : List ℕ). Some (atom.Host t)) (pattern_of_backslashed_units_is_them b vs all e)
special_host_with_backslash_is_read_back vs all some h = absurd (let none = all.0 in cc)

-- They are the bytes with a backslash before them.
pub text_of_backslashed_units_has_backslash : (vs : List LineUnit) → ArePatternUnits HostName vs → (vs ≡ [] → ⊥) → is_host_name_atom (host_atom_of_token kind.Word (text_of_units (escaped_pattern_units HostName vs))) ≡ false → text_of_units (units_with_leading_backslash (escaped_pattern_units HostName vs)) ≡ 92 ∷ text_of_units (escaped_pattern_units HostName vs)
text_of_backslashed_units_has_backslash [] all some h = absurd (some refl)
text_of_backslashed_units_has_backslash (Pair c ∷ vs) all some h = absurd (backslash_text_is_never_no_host_name (c ∷ text_of_units (escaped_pattern_units HostName vs)) h)
text_of_backslashed_units_has_backslash (Byte b ∷ vs) all some h = by_escape (is_dropped_backslash_before HostName b) h
  where
    by_escape : (t : Bool) → is_host_name_atom (host_atom_of_token kind.Word (text_of_units ((if t then Pair b else Byte b) ∷ escaped_pattern_units HostName vs))) ≡ false
        → text_of_units (units_with_leading_backslash ((if t then Pair b else Byte b) ∷ escaped_pattern_units HostName vs)) ≡ 92 ∷ text_of_units ((if t then Pair b else Byte b) ∷ escaped_pattern_units HostName vs)
    by_escape true h = absurd (backslash_text_is_never_no_host_name (b ∷ text_of_units (escaped_pattern_units HostName vs)) h)
    by_escape false h = refl
text_of_backslashed_units_has_backslash vs all some h = absurd (let none = all.0 in cc)

host_name_units_are_read_back : (p : List ℕ) → p ≢ [] → is_writable_pattern HostName p ≡ true → host_atom_of_token kind.Word (text_of_units (units_of_host_name p)) ≡ Some (atom_read_back (atom.Host p))
host_name_units_are_read_back p some is = by_host (is_read_as_host_name (escaped_pattern HostName p)) refl
  where
    by_host : (t : Bool) → is_read_as_host_name (escaped_pattern HostName p) ≡ t → host_atom_of_token kind.Word (text_of_units (if t then escaped_pattern_units HostName (units_of_pattern p) else units_with_leading_backslash (escaped_pattern_units HostName (units_of_pattern p)))) ≡ Some (if t then atom.Host p else atom.Host (92 ∷ p))
    by_host true e =
        ap (host_atom_of_token kind.Word) (text_of_escaped_units_is_escaped_pattern HostName p is) ∙ host_name_of_token_is_its_pattern (escaped_pattern HostName p) e
        ∙ ap (λ (t : List ℕ). Some (atom.Host t)) (escaped_pattern_is_read_back HostName tt p is)
    by_host false e =
        special_host_with_backslash_is_read_back (units_of_pattern p) (units_of_writable_pattern_are_pattern_units HostName p is) (units_of_nonempty_pattern_are_not_empty p some) (ap (λ (t : List ℕ). is_host_name_atom (host_atom_of_token kind.Word t)) (text_of_escaped_units_is_escaped_pattern HostName p is) ∙ e)
        ∙ ap (λ (t : List ℕ). Some (atom.Host (92 ∷ t))) (text_of_pattern_units_is_pattern p)

-- ---- hosts

-- A host is read as it is written.
pub writable_host_is_read_back : (a : Atom) → IsWritableHostAtom a → host_atom_of_token (token_kind_of_atom a) (text_of_units (units_of_host_atom a)) ≡ Some (atom_read_back a)
writable_host_is_read_back atom.All is = host_token_all_is_read_as_all
writable_host_is_read_back (atom.Alias name) is = ap (host_atom_of_token kind.Word) (text_of_plain_units_is_bytes name) ∙ host_alias_name_is_read_back name is
writable_host_is_read_back (atom.Netgroup name) is = ap (λ (t : List ℕ). host_atom_of_token kind.Word (43 ∷ t)) (text_of_plain_units_is_bytes name) ∙ host_netgroup_is_read_back name is.0 is.1
writable_host_is_read_back (atom.Host p) is = host_name_units_are_read_back p is.0 is.1
writable_host_is_read_back (atom.Address a) is = ap (host_atom_of_token kind.Word) (text_of_plain_units_is_bytes _) ∙ dotted_address_is_read_back a.number is
writable_host_is_read_back (atom.Network a m) is = ap (host_atom_of_token kind.Word) (text_of_plain_units_is_bytes _ ∙ printed_network_is_address_slash_mask a.number m) ∙ network_token_is_read_back a.number m is.0 is.1
writable_host_is_read_back a is = absurd is
