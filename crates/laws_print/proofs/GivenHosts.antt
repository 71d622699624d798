-- What is read as a host can be written.
use Rattle.laws_print.proofs.Common.{◌≡◌, ◌≢◌, ℕ, suc, ◌≤◌, Bool, true, false, ◌&&◌, ◌||◌, not, List, [], ◌∷◌, length, drop, Some, None, refl, sym, ap}
use Rattle.laws_print.proofs.Common.{subst, ◌∙◌, arith, ◌==◌, if◌then◌else◌, codes, nat_le, nat_lt, Option, IfSome, option_map, option_and_then}
use Rattle.laws_print.proofs.Common.{list_all, bytes_eq, and_parts, or_parts, eqb-true, TokenKind, leading_run_size, is_nonempty_run, reach_of_units, reach_past_first_byte, first_nonzero_number}
use Rattle.laws_print.proofs.Common.{backslash_unit_size_by, pair_size_of_unit, is_word_byte, is_name, Atom, Mask, HostName, QuotedHost, pattern_of_text, has_byte, number_if_within_limit}
use Rattle.laws_print.proofs.Common.{is_nonempty_digit_string, canonical_number_up_to, parts_around_first_byte, address_of_octets, ipv4_number_of_text, mask_of_bits_or_address, network_mask_of_text, network_atom_of_text, is_network_like_text, some_if_not_empty}
use Rattle.laws_print.proofs.Common.{address_network_or_host_atom, host_atom_without_escapes, host_atom_of_token, is_writable_pattern, IsWritableMask, IsWritableHostAtom}
use Rattle.sudoers_text.specs.declared.part.ByteRunKind.TheVariants as rule
use Rattle.sudoers_text.specs.declared.token.TokenKind.TheVariants as kind
use Rattle.sudoers_text.specs.Unit.{unit_after_backslash}
use Rattle.sudoers_grammar.specs.declared.node.Atom.TheVariants as atom
use Rattle.sudoers_grammar.specs.declared.node.Mask.TheVariants as mask
use Rattle.sudoers_grammar.specs.Piece.{has_first_byte}
use Rattle.sudoers_grammar.specs.Number.{number_of_decimal_digits}
use Rattle.laws_print.proofs.Words.{size_of_matching_byte_or_pair}
use Rattle.laws_print.proofs.Patterns.{text_without_backslash_is_own_pattern}
use Rattle.laws_print.proofs.Tidy.{IsTidyText}
use Rattle.laws_print.proofs.Tight.{tight_text_is_tidy, pattern_of_tight_text_is_not_empty}
use Rattle.laws_print.proofs.TidyPatterns.{host_spelling_makes_host_patterns, quoted_host_spelling_makes_host_patterns, pattern_of_tidy_text_is_writable}
use Rattle.laws_print.proofs.TidyPieces.{IsTokenTextOfKind}
use Rattle.laws_print.proofs.Gives.{GivesOnlySuchAtom, property_of_both_holds_for_choice}
use Rattle.std.proofs.lemmas.Bool.{leb-true}

-- ---- numbers

abbrev pub IsAtMostIfSome : ℕ → Option ℕ → Type 0
IsAtMostIfSome limit o = IfSome o (λ n. n ≤ limit)

canonical_number_is_at_most_limit : (limit : ℕ) (text : List ℕ) → IsAtMostIfSome limit (canonical_number_up_to limit text)
canonical_number_is_at_most_limit limit text = by_digits (is_nonempty_digit_string text && (not (has_first_byte 48 text) || length text == 1))
  where
    by_limit : (t : Bool) → nat_le (number_of_decimal_digits 0 text) limit ≡ t → IsAtMostIfSome limit (if t then Some (number_of_decimal_digits 0 text) else None)
    by_limit true e = leb-true (number_of_decimal_digits 0 text) limit e
    by_limit false e = tt

    by_digits : (t : Bool) → IsAtMostIfSome limit (if t then number_if_within_limit limit text else None)
    by_digits true = by_limit (nat_le (number_of_decimal_digits 0 text) limit) refl
    by_digits false = tt

address_of_octets_is_at_most_limit : (a b c d : Option ℕ) → IsAtMostIfSome 255 a → IsAtMostIfSome 255 b → IsAtMostIfSome 255 c → IsAtMostIfSome 255 d → IsAtMostIfSome 4294967295 (address_of_octets a b c d)
address_of_octets_is_at_most_limit (Some a) (Some b) (Some c) (Some d) ha hb hc hd = omega (arith, ha, hb, hc, hd)
address_of_octets_is_at_most_limit (Some a) (Some b) (Some c) None ha hb hc hd = tt
address_of_octets_is_at_most_limit (Some a) (Some b) None d ha hb hc hd = tt
address_of_octets_is_at_most_limit (Some a) None c d ha hb hc hd = tt
address_of_octets_is_at_most_limit None b c d ha hb hc hd = tt

chained_number_is_at_most_limit : {X : Type 0} → (limit : ℕ) (f : X → Option ℕ) → ((x : X) → IsAtMostIfSome limit (f x)) → (o : Option X) → IsAtMostIfSome limit (option_and_then f o)
chained_number_is_at_most_limit limit f each None = tt
chained_number_is_at_most_limit limit f each (Some x) = each x

address_text_number_is_at_most_limit : (text : List ℕ) → IsAtMostIfSome 4294967295 (ipv4_number_of_text text)
unfolding ipv4_number_of_text
address_text_number_is_at_most_limit text =
    chained_number_is_at_most_limit 4294967295 _ (λ (p : List ℕ × List ℕ). chained_number_is_at_most_limit 4294967295 _ (λ (q : List ℕ × List ℕ). chained_number_is_at_most_limit 4294967295 _ (λ (r : List ℕ × List ℕ).
    address_of_octets_is_at_most_limit (canonical_number_up_to 255 p.0) (canonical_number_up_to 255 q.0) (canonical_number_up_to 255 r.0) (canonical_number_up_to 255 r.1) (canonical_number_is_at_most_limit 255 p.0) (canonical_number_is_at_most_limit 255 q.0) (canonical_number_is_at_most_limit 255 r.0) (canonical_number_is_at_most_limit 255 r.1))
    (parts_around_first_byte 46 q.1)) (parts_around_first_byte 46 p.1)) (parts_around_first_byte 46 text)

mask_of_text_is_writable : (text : List ℕ) → IfSome (network_mask_of_text text) IsWritableMask
unfolding network_mask_of_text
mask_of_text_is_writable text = by_bits (canonical_number_up_to 32 text) (canonical_number_is_at_most_limit 32 text)
  where
    by_address : (o : Option ℕ) → IsAtMostIfSome 4294967295 o → IfSome (option_map (λ n. mask.Dotted (record { number = n })) o) IsWritableMask
    by_address None below = tt
    by_address (Some n) below = omega (arith, below)

    by_bits : (o : Option ℕ) → IsAtMostIfSome 32 o → IfSome (mask_of_bits_or_address text o) IsWritableMask
    by_bits None below = by_address (ipv4_number_of_text text) (address_text_number_is_at_most_limit text)
    by_bits (Some bits) below = below

network_of_text_gives_writable_host : (text : List ℕ) → GivesOnlySuchAtom IsWritableHostAtom (network_atom_of_text text)
unfolding network_atom_of_text
network_of_text_gives_writable_host text = by_split (parts_around_first_byte 47 text)
  where
    by_mask : (n : ℕ) → n ≤ 4294967295 → (o : Option Mask) → IfSome o IsWritableMask → GivesOnlySuchAtom IsWritableHostAtom (option_map (atom.Network (record { number = n })) o)
    by_mask n small None is = tt
    by_mask n small (Some m) is = (omega (arith, small), is)

    by_number : (rest : List ℕ) (o : Option ℕ) → IsAtMostIfSome 4294967295 o → GivesOnlySuchAtom IsWritableHostAtom (option_and_then (λ n. option_map (atom.Network (record { number = n })) (network_mask_of_text rest)) o)
    by_number rest None below = tt
    by_number rest (Some n) below = by_mask n below (network_mask_of_text rest) (mask_of_text_is_writable rest)

    by_split : (o : Option (List ℕ × List ℕ)) → GivesOnlySuchAtom IsWritableHostAtom (option_and_then (λ p. option_and_then (λ n. option_map (atom.Network (record { number = n })) (network_mask_of_text p.1)) (ipv4_number_of_text p.0)) o)
    by_split None = tt
    by_split (Some p) = by_number p.1 (ipv4_number_of_text p.0) (address_text_number_is_at_most_limit p.0)

-- ---- words

-- a run of a word without pairs is bytes of a word
word_reach_without_backslash_is_word_bytes : (text : List ℕ) → reach_of_units (size_of_matching_byte_or_pair is_word_byte) 0 text ≡ length text → has_byte 92 text ≡ false → list_all is_word_byte text ≡ true
word_reach_without_backslash_is_word_bytes [] e none = refl
word_reach_without_backslash_is_word_bytes (b ∷ text) e none =
    let parts = or_parts (b == 92) (has_byte 92 text) none in
    by_test (is_word_byte b) refl (by_pair parts.0 e) (λ h. word_reach_without_backslash_is_word_bytes text h parts.1)
  where
    by_pair : (b == 92) ≡ false → reach_past_first_byte (first_nonzero_number (if is_word_byte b then 1 else 0) (backslash_unit_size_by pair_size_of_unit (b ∷ text))) (λ k. reach_of_units (size_of_matching_byte_or_pair is_word_byte) k text) ≡ suc (length text)
        → reach_past_first_byte (first_nonzero_number (if is_word_byte b then 1 else 0) 0) (λ k. reach_of_units (size_of_matching_byte_or_pair is_word_byte) k text) ≡ suc (length text)
    by_pair other e = ap (λ (t : Bool). reach_past_first_byte (first_nonzero_number (if is_word_byte b then 1 else 0) (if t then pair_size_of_unit (unit_after_backslash text) else 0)) (λ k. reach_of_units (size_of_matching_byte_or_pair is_word_byte) k text)) (sym other) ∙ e

    by_test : (t : Bool) → is_word_byte b ≡ t → reach_past_first_byte (first_nonzero_number (if t then 1 else 0) 0) (λ k. reach_of_units (size_of_matching_byte_or_pair is_word_byte) k text) ≡ suc (length text) → (reach_of_units (size_of_matching_byte_or_pair is_word_byte) 0 text ≡ length text → list_all is_word_byte text ≡ true) → (t && list_all is_word_byte text) ≡ true
    by_test true h e later = later (omega (arith, e))
    by_test false h e later = absurd (omega (arith, e))

word_run_without_backslash_is_word_bytes : (text : List ℕ) → is_nonempty_run rule.Word text ≡ true → has_byte 92 text ≡ false → list_all is_word_byte text ≡ true
unfolding leading_run_size
word_run_without_backslash_is_word_bytes text h none = word_reach_without_backslash_is_word_bytes text (eqb-true (reach_of_units (size_of_matching_byte_or_pair is_word_byte) 0 text) (length text) (and_parts (nat_lt 0 (length text)) (reach_of_units (size_of_matching_byte_or_pair is_word_byte) 0 text == length text) h).1) none

netgroup_of_word_bytes_is_writable_host : (text : List ℕ) → has_first_byte 43 text ≡ true → list_all is_word_byte text ≡ true → GivesOnlySuchAtom IsWritableHostAtom (option_map atom.Netgroup (some_if_not_empty (drop 1 text)))
netgroup_of_word_bytes_is_writable_host [] h all = tt
netgroup_of_word_bytes_is_writable_host (b ∷ []) h all = tt
netgroup_of_word_bytes_is_writable_host (b ∷ c ∷ text) h all = (λ e. absurd (cc), (and_parts (is_word_byte b) (list_all is_word_byte (c ∷ text)) all).1)

-- a pattern that is not empty
abbrev pub IsNonEmptyHostPattern : List ℕ → Type 0
IsNonEmptyHostPattern p = (p ≢ []) × (is_writable_pattern HostName p ≡ true)

plain_text_gives_writable_host : (text : List ℕ) → IsNonEmptyHostPattern text → (o : Option ℕ) → IsAtMostIfSome 4294967295 o → GivesOnlySuchAtom IsWritableHostAtom (address_network_or_host_atom text o)
plain_text_gives_writable_host text is (Some n) below = omega (arith, below)
plain_text_gives_writable_host text is None below = property_of_both_holds_for_choice (GivesOnlySuchAtom IsWritableHostAtom) (is_network_like_text text) (network_atom_of_text text) (Some (atom.Host text)) (network_of_text_gives_writable_host text) is

unescaped_text_gives_writable_host : (text : List ℕ) → IsNonEmptyHostPattern text → (has_first_byte 43 text ≡ true → list_all is_word_byte text ≡ true) → GivesOnlySuchAtom IsWritableHostAtom (host_atom_without_escapes text)
unfolding host_atom_without_escapes
unescaped_text_gives_writable_host text is plus = by_all (bytes_eq text (codes "ALL")) refl
  where
    by_plus : (t : Bool) → has_first_byte 43 text ≡ t → GivesOnlySuchAtom IsWritableHostAtom (if t then option_map atom.Netgroup (some_if_not_empty (drop 1 text)) else address_network_or_host_atom text (ipv4_number_of_text text))
    by_plus true e = netgroup_of_word_bytes_is_writable_host text e (plus e)
    by_plus false e = plain_text_gives_writable_host text is (ipv4_number_of_text text) (address_text_number_is_at_most_limit text)

    by_name : (t : Bool) → is_name text ≡ t → bytes_eq text (codes "ALL") ≡ false → GivesOnlySuchAtom IsWritableHostAtom (if t then Some (atom.Alias text) else (if has_first_byte 43 text then option_map atom.Netgroup (some_if_not_empty (drop 1 text)) else address_network_or_host_atom text (ipv4_number_of_text text)))
    by_name true e other = (e, other)
    by_name false e other = by_plus (has_first_byte 43 text) refl

    by_all : (t : Bool) → bytes_eq text (codes "ALL") ≡ t → GivesOnlySuchAtom IsWritableHostAtom (if t then Some atom.All else (if is_name text then Some (atom.Alias text) else (if has_first_byte 43 text then option_map atom.Netgroup (some_if_not_empty (drop 1 text)) else address_network_or_host_atom text (ipv4_number_of_text text))))
    by_all true e = tt
    by_all false e = by_name (is_name text) refl e

word_token_gives_writable_host : (text : List ℕ) → text ≢ [] → IsTokenTextOfKind kind.Word text → has_byte 0 text ≡ false → GivesOnlySuchAtom IsWritableHostAtom (host_atom_of_token kind.Word text)
unfolding host_atom_of_token
word_token_gives_writable_host text some is nul = by_backslash (has_byte 92 text) refl
  where
    made : is_writable_pattern HostName (pattern_of_text HostName text) ≡ true
    made = pattern_of_tidy_text_is_writable HostName HostName host_spelling_makes_host_patterns text (tight_text_is_tidy text is.0) nul

    by_backslash : (t : Bool) → has_byte 92 text ≡ t → GivesOnlySuchAtom IsWritableHostAtom (if t then Some (atom.Host (pattern_of_text HostName text)) else host_atom_without_escapes text)
    by_backslash true e = (pattern_of_tight_text_is_not_empty HostName tt text is.0 some, made)
    by_backslash false e = unescaped_text_gives_writable_host text (some, ap (is_writable_pattern HostName) (sym (text_without_backslash_is_own_pattern HostName tt text e)) ∙ made) (λ plus. word_run_without_backslash_is_word_bytes text (is.1 plus) e)

quoted_text_gives_writable_host : (text : List ℕ) → IsTidyText text → has_byte 0 text ≡ false → GivesOnlySuchAtom IsWritableHostAtom (option_map atom.Host (some_if_not_empty (pattern_of_text QuotedHost text)))
quoted_text_gives_writable_host text is nul = by_pattern (pattern_of_text QuotedHost text) (pattern_of_tidy_text_is_writable QuotedHost HostName quoted_host_spelling_makes_host_patterns text is nul)
  where
    by_pattern : (p : List ℕ) → is_writable_pattern HostName p ≡ true → GivesOnlySuchAtom IsWritableHostAtom (option_map atom.Host (some_if_not_empty p))
    by_pattern [] h = tt
    by_pattern (b ∷ p) h = (λ e. absurd (cc), h)

host_token_gives_writable_host : (k : TokenKind) (text : List ℕ) → text ≢ [] → IsTokenTextOfKind k text → has_byte 0 text ≡ false → GivesOnlySuchAtom IsWritableHostAtom (host_atom_of_token k text)
unfolding host_atom_of_token
host_token_gives_writable_host kind.Word text some is nul = word_token_gives_writable_host text some is nul
host_token_gives_writable_host kind.Quoted text some is nul = quoted_text_gives_writable_host text is nul
host_token_gives_writable_host k text some is nul = tt

-- What is read of a token as a host can be written.
pub host_atom_of_given_token_is_writable : (k : TokenKind) (text : List ℕ) (a : Atom) → text ≢ [] → IsTokenTextOfKind k text → has_byte 0 text ≡ false → host_atom_of_token k text ≡ Some a → IsWritableHostAtom a
host_atom_of_given_token_is_writable k text a some is nul e = subst (GivesOnlySuchAtom IsWritableHostAtom) e (host_token_gives_writable_host k text some is nul)
