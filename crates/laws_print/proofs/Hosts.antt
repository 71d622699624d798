-- Hosts as they are written are tokens of a line.
use Rattle.laws_print.proofs.Common.{◌≡◌, ◌≢◌, ℕ, ◌/◌, ◌%◌, ◌≤◌, ◌<◌, Bool, true, false, List, [], ◌∷◌, ◌++◌, length, refl, ap, ◌∙◌, arith, ◌==◌}
use Rattle.laws_print.proofs.Common.{if◌then◌else◌, codes, nat_le, list_all, and_parts, length-append, append_assoc, TokenContext, LineUnit, Pair, Byte}
use Rattle.laws_print.proofs.Common.{is_digit, is_word_byte, token_forms_in_context, token_forms_in_word_lists, Atom, Mask, HostName, id_limit, dotted_address, printed_mask_without_slash, is_read_as_host_name}
use Rattle.laws_print.proofs.Common.{is_writable_pattern, IsIpv4AddressNumber, IsWritableMask, IsWritableHostAtom, text_of_units, IsTokenCut, AreWrittenUnitsOf, escaped_pattern_units, units_of_pattern}
use Rattle.std.specs.Fmt.{decimal}
use Rattle.sudoers_text.specs.declared.token.TokenKind.TheVariants as kind
use Rattle.sudoers_grammar.specs.declared.node.Atom.TheVariants as atom
use Rattle.sudoers_grammar.specs.declared.node.Mask.TheVariants as mask
use Rattle.sudoers_cvt_spell.specs.Spelling.{escaped_pattern}
use Rattle.laws_print.proofs.Units.{units_of_plain_bytes}
use Rattle.laws_print.proofs.ListTokens.{token_kind_of_atom, units_with_leading_backslash, units_of_host_name, units_of_host_atom}
use Rattle.laws_print.proofs.Values.{digit_range_byte_is_word_byte}
use Rattle.laws_print.proofs.Users.{text_of_plain_units_is_bytes, decimal_of_id_is_read_back}
use Rattle.laws_print.proofs.Patterns.{units_of_writable_pattern_are_pattern_units, escaped_host_pattern_is_word_units}
use Rattle.laws_print.proofs.UserCuts.{EndsUser, word_units_in_word_list_are_cut, alias_name_in_word_list_is_cut}
use Rattle.laws_print.proofs.Words.{plain_test_byte_is_plain, bytes_passing_test_are_units_of_it}
use Rattle.std.proofs.lemmas.Bool.{leb-true}

-- ---- bytes

pub appended_texts_pass_test : (test : ℕ → Bool) (x y : List ℕ) → list_all test x ≡ true → list_all test y ≡ true → list_all test (x ++ y) ≡ true
appended_texts_pass_test test [] y hx hy = hy
appended_texts_pass_test test (b ∷ x) y hx hy =
    let parts = and_parts (test b) (list_all test x) hx in
    let later : list_all test (x ++ y) ≡ true = appended_texts_pass_test test x y parts.1 hy in
    rw (parts.0, later) refl

pub digit_is_word_byte : (b : ℕ) → is_digit b ≡ true → is_word_byte b ≡ true
digit_is_word_byte b h =
    let parts = and_parts (nat_le 48 b) (nat_le b 57) h in
    let low : 48 ≤ b = leb-true 48 b parts.0 in
    let high : b ≤ 57 = leb-true b 57 parts.1 in
    digit_range_byte_is_word_byte b (omega arith) (omega arith)

digits_are_word_bytes : (ds : List ℕ) → list_all is_digit ds ≡ true → list_all is_word_byte ds ≡ true
digits_are_word_bytes [] h = refl
digits_are_word_bytes (d ∷ ds) h =
    let parts = and_parts (is_digit d) (list_all is_digit ds) h in
    let is : is_word_byte d ≡ true = digit_is_word_byte d parts.0 in
    let later : list_all is_word_byte ds ≡ true = digits_are_word_bytes ds parts.1 in
    rw (is, later) refl

decimal_is_word_bytes : (n : ℕ) → n ≤ id_limit → list_all is_word_byte (decimal n) ≡ true
decimal_is_word_bytes n h = digits_are_word_bytes (decimal n) (decimal_of_id_is_read_back n h).1

-- ---- addresses

-- the four parts of an address
pub record HasAddressOctets (n : ℕ) : Type 0 where
  pub first : n / 16777216 < 256
  pub second : n / 65536 % 256 < 256
  pub third : n / 256 % 256 < 256
  pub fourth : n % 256 < 256

pub address_number_has_octets : (n : ℕ) → IsIpv4AddressNumber n → HasAddressOctets n
address_number_has_octets n h = record { first = omega arith; second = omega arith; third = omega arith; fourth = omega arith }

-- three parts, each before a dot, and what follows
abbrev pub dotted_text_of_octets : ℕ → ℕ → ℕ → List ℕ → List ℕ
dotted_text_of_octets a b c last = decimal a ++ (46 ∷ (decimal b ++ (46 ∷ (decimal c ++ (46 ∷ last)))))

pub dotted_address_is_text_of_octets : (n : ℕ) → dotted_address n ≡ dotted_text_of_octets (n / 16777216) (n / 65536 % 256) (n / 256 % 256) (decimal (n % 256))
dotted_address_is_text_of_octets n = dotted_parts (decimal (n / 16777216)) (decimal (n / 65536 % 256)) (decimal (n / 256 % 256)) (decimal (n % 256))
  where
    dotted_parts : (a b c d : List ℕ) → a ++ codes "." ++ b ++ codes "." ++ c ++ codes "." ++ d ≡ a ++ (46 ∷ (b ++ (46 ∷ (c ++ (46 ∷ d)))))
    dotted_parts a b c d = simp append_assoc

pub dotted_address_is_word_bytes : (n : ℕ) → IsIpv4AddressNumber n → list_all is_word_byte (dotted_address n) ≡ true
dotted_address_is_word_bytes n h =
    let parts = address_number_has_octets n h in
    let fourth = decimal_is_word_bytes (n % 256) (omega (arith, parts.fourth)) in
    let third = appended_texts_pass_test is_word_byte (decimal (n / 256 % 256)) (46 ∷ decimal (n % 256)) (decimal_is_word_bytes (n / 256 % 256) (omega (arith, parts.third))) fourth in
    let second = appended_texts_pass_test is_word_byte (decimal (n / 65536 % 256)) (46 ∷ (decimal (n / 256 % 256) ++ (46 ∷ decimal (n % 256)))) (decimal_is_word_bytes (n / 65536 % 256) (omega (arith, parts.second))) third in
    ap (list_all is_word_byte) (dotted_address_is_text_of_octets n)
    ∙ appended_texts_pass_test is_word_byte (decimal (n / 16777216)) (46 ∷ (decimal (n / 65536 % 256) ++ (46 ∷ (decimal (n / 256 % 256) ++ (46 ∷ decimal (n % 256)))))) (decimal_is_word_bytes (n / 16777216) (omega (arith, parts.first))) second

pub dotted_address_is_not_empty : (n : ℕ) → 0 < length (dotted_address n)
dotted_address_is_not_empty n = omega (arith, ap length (dotted_address_is_text_of_octets n), length-append (decimal (n / 16777216)) (46 ∷ (decimal (n / 65536 % 256) ++ (46 ∷ (decimal (n / 256 % 256) ++ (46 ∷ decimal (n % 256)))))))

printed_mask_is_word_bytes : (m : Mask) → IsWritableMask m → list_all is_word_byte (printed_mask_without_slash m) ≡ true
printed_mask_is_word_bytes (mask.Bits bits) h = decimal_is_word_bytes bits (omega arith)
printed_mask_is_word_bytes (mask.Dotted a) h = dotted_address_is_word_bytes a.number h

pub printed_network_is_address_slash_mask : (n : ℕ) (m : Mask) → dotted_address n ++ codes "/" ++ printed_mask_without_slash m ≡ dotted_address n ++ (47 ∷ printed_mask_without_slash m)
printed_network_is_address_slash_mask n m = append_assoc (dotted_address n) (47 ∷ []) (printed_mask_without_slash m)

-- ---- names

backslashed_units_are_word_units : (us : List LineUnit) → AreWrittenUnitsOf is_word_byte us → AreWrittenUnitsOf is_word_byte (units_with_leading_backslash us)
backslashed_units_are_word_units [] all = tt
backslashed_units_are_word_units (Byte b ∷ us) all =
    let is = plain_test_byte_is_plain is_word_byte refl b all.0 in
    (rw (is.nul, is.lf, is.cr) refl, all.1)
backslashed_units_are_word_units us all = all

-- Something is there.
text_of_word_units_is_not_empty : (us : List LineUnit) → (us ≡ [] → ⊥) → AreWrittenUnitsOf is_word_byte us → 0 < length (text_of_units us)
text_of_word_units_is_not_empty [] some all = absurd (some refl)
text_of_word_units_is_not_empty (Byte b ∷ us) some all = omega arith
text_of_word_units_is_not_empty (Pair c ∷ us) some all = omega arith
text_of_word_units_is_not_empty us some all = absurd (let h = all.0 in cc)

pub units_of_nonempty_pattern_are_not_empty : (p : List ℕ) → p ≢ [] → units_of_pattern p ≡ [] → ⊥
units_of_nonempty_pattern_are_not_empty [] h e = h refl
units_of_nonempty_pattern_are_not_empty (b ∷ []) h e = cc
units_of_nonempty_pattern_are_not_empty (b ∷ c ∷ rest) h e = by_backslash (b == 92) e
  where
    by_backslash : (t : Bool) → (if t then Pair c ∷ units_of_pattern rest else Byte b ∷ units_of_pattern (c ∷ rest)) ≡ [] → ⊥
    by_backslash true e = cc
    by_backslash false e = cc

escaped_host_units_are_not_empty : (us : List LineUnit) → (us ≡ [] → ⊥) → escaped_pattern_units HostName us ≡ [] → ⊥
escaped_host_units_are_not_empty [] some e = some refl
escaped_host_units_are_not_empty (u ∷ us) some e = cc

escaped_host_pattern_is_not_empty : (p : List ℕ) → p ≢ [] → escaped_pattern_units HostName (units_of_pattern p) ≡ [] → ⊥
escaped_host_pattern_is_not_empty p h e = escaped_host_units_are_not_empty (units_of_pattern p) (units_of_nonempty_pattern_are_not_empty p h) e

backslashed_units_are_not_empty : (us : List LineUnit) → (us ≡ [] → ⊥) → units_with_leading_backslash us ≡ [] → ⊥
backslashed_units_are_not_empty [] some e = some e
backslashed_units_are_not_empty (Byte b ∷ us) some e = cc
backslashed_units_are_not_empty (u ∷ us) some e = cc

-- the units of a host's name
host_name_units_are_word_units : (p : List ℕ) → p ≢ [] → is_writable_pattern HostName p ≡ true → (0 < length (text_of_units (units_of_host_name p))) × AreWrittenUnitsOf is_word_byte (units_of_host_name p)
host_name_units_are_word_units p some h = by_host (is_read_as_host_name (escaped_pattern HostName p))
  where
    us : List LineUnit
    us = escaped_pattern_units HostName (units_of_pattern p)

    fits : AreWrittenUnitsOf is_word_byte (escaped_pattern_units HostName (units_of_pattern p))
    fits = escaped_host_pattern_is_word_units (units_of_pattern p) (units_of_writable_pattern_are_pattern_units HostName p h)

    by_host : (t : Bool) → (0 < length (text_of_units (if t then escaped_pattern_units HostName (units_of_pattern p) else units_with_leading_backslash (escaped_pattern_units HostName (units_of_pattern p))))) × AreWrittenUnitsOf is_word_byte (if t then escaped_pattern_units HostName (units_of_pattern p) else units_with_leading_backslash (escaped_pattern_units HostName (units_of_pattern p)))
    by_host true = (text_of_word_units_is_not_empty (escaped_pattern_units HostName (units_of_pattern p)) (escaped_host_pattern_is_not_empty p some) fits, fits)
    by_host false = (text_of_word_units_is_not_empty (units_with_leading_backslash (escaped_pattern_units HostName (units_of_pattern p))) (backslashed_units_are_not_empty (escaped_pattern_units HostName (units_of_pattern p)) (escaped_host_pattern_is_not_empty p some)) (backslashed_units_are_word_units (escaped_pattern_units HostName (units_of_pattern p)) fits), backslashed_units_are_word_units (escaped_pattern_units HostName (units_of_pattern p)) fits)

-- ---- hosts

word_bytes_are_cut_as_word : (here : TokenContext) (item : Bool) (bytes rest : List ℕ) → token_forms_in_context here ≡ token_forms_in_word_lists → 0 < length bytes → list_all is_word_byte bytes ≡ true → EndsUser rest → IsTokenCut here item false kind.Word (units_of_plain_bytes bytes) rest
word_bytes_are_cut_as_word here item bytes rest words some all ends =
    word_units_in_word_list_are_cut here item (units_of_plain_bytes bytes) rest words (omega (arith, some, ap length (text_of_plain_units_is_bytes bytes))) (bytes_passing_test_are_units_of_it is_word_byte bytes all) ends

-- A host is one token.
pub writable_host_is_cut : (here : TokenContext) (item : Bool) (a : Atom) (rest : List ℕ) → token_forms_in_context here ≡ token_forms_in_word_lists → IsWritableHostAtom a → EndsUser rest → IsTokenCut here item false (token_kind_of_atom a) (units_of_host_atom a) rest
writable_host_is_cut here item atom.All rest words is ends = word_units_in_word_list_are_cut here item (units_of_plain_bytes (codes "ALL")) rest words (omega arith) (refl, (refl, (refl, tt))) ends
writable_host_is_cut here item (atom.Alias name) rest words is ends = alias_name_in_word_list_is_cut here item name rest words is.0 ends
writable_host_is_cut here item (atom.Netgroup name) rest words is ends = word_units_in_word_list_are_cut here item (Byte 43 ∷ units_of_plain_bytes name) rest words (omega arith) (refl, bytes_passing_test_are_units_of_it is_word_byte name is.1) ends
writable_host_is_cut here item (atom.Host p) rest words is ends = let fits = host_name_units_are_word_units p is.0 is.1 in word_units_in_word_list_are_cut here item (units_of_host_name p) rest words fits.0 fits.1 ends
writable_host_is_cut here item (atom.Address a) rest words is ends = word_bytes_are_cut_as_word here item (dotted_address a.number) rest words (dotted_address_is_not_empty a.number) (dotted_address_is_word_bytes a.number is) ends
writable_host_is_cut here item (atom.Network a m) rest words is ends =
    let split = printed_network_is_address_slash_mask a.number m in
    word_bytes_are_cut_as_word here item (dotted_address a.number ++ codes "/" ++ printed_mask_without_slash m) rest words
    (omega (arith, dotted_address_is_not_empty a.number, ap length split, length-append (dotted_address a.number) (47 ∷ printed_mask_without_slash m)))
    (ap (list_all is_word_byte) split ∙ appended_texts_pass_test is_word_byte (dotted_address a.number) (47 ∷ printed_mask_without_slash m) (dotted_address_is_word_bytes a.number is.0) (printed_mask_is_word_bytes m is.1)) ends
writable_host_is_cut here item a rest words is ends = absurd is
