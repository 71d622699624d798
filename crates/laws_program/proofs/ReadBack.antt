-- What a printed member is read as matches the same.
use Rattle.laws_program.proofs.Common.{◌≡◌, ℕ, ◌==◌, ◌&&◌, ◌||◌, Bool, true, false, List, [], ◌∷◌, length, Option, Some, None, refl, sym, ap, subst, ◌∙◌}
use Rattle.laws_program.proofs.Common.{if◌then◌else◌, codes, list_all, bytes_eq, eqb-true, Atom, HostName, has_byte, escaped_pattern, is_read_as_host_name, atom_read_back, Who}
use Rattle.laws_program.proofs.Common.{KeepsAtomMatches}
use Rattle.std.proofs.Common.{not, nat_lt}
use Rattle.std.specs.Prelude.{option_map, option_and_then}
use Rattle.std.proofs.lemmas.Bool.{false≢true, and_right}
use Rattle.sudoers_text.specs.Unit.{is_digit}
use Rattle.sudoers_text.specs.Word.{is_name}
use Rattle.sudoers_grammar.specs.declared.node.Atom.TheVariants as atom
use Rattle.sudoers_grammar.specs.Pattern.{is_special_in_patterns, pattern_of_text}
use Rattle.sudoers_grammar.specs.Piece.{has_first_byte}
use Rattle.sudoers_grammar.specs.Number.{number_if_within_limit, canonical_number_up_to, address_of_octets, parts_with_byte_prepended, parts_around_first_byte, ipv4_number_of_text, network_atom_of_text, is_network_like_text}
use Rattle.sudoers_grammar.specs.Atom.{some_if_not_empty, address_network_or_host_atom, host_atom_without_escapes, host_atom_of_token}
use Rattle.sudoers_cvt_spell.specs.Hosts.{is_host_name_atom}
use Rattle.sudoers_match_member.specs.Hits.{is_user_atom_match, is_runas_group_atom_match, is_host_name_match, is_host_atom_match, is_command_atom_match}
use Rattle.sudoers_match_list.specs.Flat.{is_all_atom}

-- what the law of patterns says
abbrev pub BackslashBeforePlainByteKeepsHostMatch : Type 0
BackslashBeforePlainByteKeepsHostMatch = (who : Who) (c : ℕ) (pattern : List ℕ) → is_special_in_patterns c ≡ false → is_host_name_match who (92 ∷ c ∷ pattern) ≡ is_host_name_match who (c ∷ pattern)

-- ---- a text that begins with a wildcard is the name of a host

all_false_tests_choose_last : {X : Type 0} (a n p : Bool) (x y z other : X) → a ≡ false → n ≡ false → p ≡ false → (if a then x else (if n then y else (if p then z else other))) ≡ other
all_false_tests_choose_last false false false x y z other e f g = refl
all_false_tests_choose_last true n p x y z other e f g = absurd (false≢true (sym e))
all_false_tests_choose_last false true p x y z other e f g = absurd (false≢true (sym f))
all_false_tests_choose_last false false true x y z other e f g = absurd (false≢true (sym g))

missing_first_octet_is_no_address : (a b c d : Option ℕ) → a ≡ None → address_of_octets a b c d ≡ None
missing_first_octet_is_no_address None b c d e = refl
missing_first_octet_is_no_address (Some n) b c d e = absurd cc

-- a text is no address whose first byte is neither a digit nor a dot
module _ (c : ℕ) (dot : (c == 46) ≡ false) (digits : (text : List ℕ) → canonical_number_up_to 255 (c ∷ text) ≡ None) where
  no_address : (text : List ℕ) → ipv4_number_of_text (c ∷ text) ≡ None
  unfolding ipv4_number_of_text
  no_address text =
      ap (λ t. option_and_then (λ p. option_and_then (λ q. option_and_then (λ r. address_of_octets (canonical_number_up_to 255 p.0) (canonical_number_up_to 255 q.0) (canonical_number_up_to 255 r.0) (canonical_number_up_to 255 r.1)) (parts_around_first_byte 46 q.1)) (parts_around_first_byte 46 p.1)) (if t then Some ([], text) else option_map (parts_with_byte_prepended c) (parts_around_first_byte 46 text))) dot
      ∙ first (parts_around_first_byte 46 text)
    where
      third : (front : List ℕ) (q : List ℕ × List ℕ) (o : Option (List ℕ × List ℕ)) → option_and_then (λ (r : List ℕ × List ℕ). address_of_octets (canonical_number_up_to 255 (c ∷ front)) (canonical_number_up_to 255 q.0) (canonical_number_up_to 255 r.0) (canonical_number_up_to 255 r.1)) o ≡ None
      third front q None = refl
      third front q (Some r) = missing_first_octet_is_no_address (canonical_number_up_to 255 (c ∷ front)) (canonical_number_up_to 255 q.0) (canonical_number_up_to 255 r.0) (canonical_number_up_to 255 r.1) (digits front)

      second : (front : List ℕ) (o : Option (List ℕ × List ℕ)) → option_and_then (λ (q : List ℕ × List ℕ). option_and_then (λ (r : List ℕ × List ℕ). address_of_octets (canonical_number_up_to 255 (c ∷ front)) (canonical_number_up_to 255 q.0) (canonical_number_up_to 255 r.0) (canonical_number_up_to 255 r.1)) (parts_around_first_byte 46 q.1)) o ≡ None
      second front None = refl
      second front (Some q) = third front q (parts_around_first_byte 46 q.1)

      first : (o : Option (List ℕ × List ℕ)) → option_and_then (λ (p : List ℕ × List ℕ). option_and_then (λ (q : List ℕ × List ℕ). option_and_then (λ (r : List ℕ × List ℕ). address_of_octets (canonical_number_up_to 255 p.0) (canonical_number_up_to 255 q.0) (canonical_number_up_to 255 r.0) (canonical_number_up_to 255 r.1)) (parts_around_first_byte 46 q.1)) (parts_around_first_byte 46 p.1)) (option_map (parts_with_byte_prepended c) o) ≡ None
      first None = refl
      first (Some p) = second p.0 (parts_around_first_byte 46 p.1)

  names_host : (text : List ℕ) → bytes_eq (c ∷ text) (codes "ALL") ≡ false → is_name (c ∷ text) ≡ false → has_first_byte 43 (c ∷ text) ≡ false
      → is_network_like_text (c ∷ text) ≡ false → is_host_name_atom (host_atom_without_escapes (c ∷ text)) ≡ true
  unfolding host_atom_without_escapes
  names_host text a n p s =
      ap is_host_name_atom (all_false_tests_choose_last (bytes_eq (c ∷ text) (codes "ALL")) (is_name (c ∷ text)) (has_first_byte 43 (c ∷ text)) (Some atom.All) (Some (atom.Alias (c ∷ text)))
      (option_map atom.Netgroup (some_if_not_empty text)) (address_network_or_host_atom (c ∷ text) (ipv4_number_of_text (c ∷ text))) a n p
      ∙ ap (address_network_or_host_atom (c ∷ text)) (no_address text)
      ∙ ap (λ t. if t then network_atom_of_text (c ∷ text) else Some (atom.Host (c ∷ text))) s)

text_with_nondigit_is_no_number : (c : ℕ) (text : List ℕ) → list_all is_digit (c ∷ text) ≡ false → canonical_number_up_to 255 (c ∷ text) ≡ None
text_with_nondigit_is_no_number c text e =
    ap (λ t. if (nat_lt 0 (length (c ∷ text)) && t) && (not (has_first_byte 48 (c ∷ text)) || length (c ∷ text) == 1) then number_if_within_limit 255 (c ∷ text) else None) e
    ∙ ap (λ t. if t && (not (has_first_byte 48 (c ∷ text)) || length (c ∷ text) == 1) then number_if_within_limit 255 (c ∷ text) else None) (and_right (nat_lt 0 (length (c ∷ text))) false refl)

host_text_with_leading_star_is_name : (text : List ℕ) → is_host_name_atom (host_atom_without_escapes (42 ∷ text)) ≡ true
host_text_with_leading_star_is_name text = names_host 42 refl (λ t. text_with_nondigit_is_no_number 42 t refl) text refl refl refl refl

host_text_with_leading_question_is_name : (text : List ℕ) → is_host_name_atom (host_atom_without_escapes (63 ∷ text)) ≡ true
host_text_with_leading_question_is_name text = names_host 63 refl (λ t. text_with_nondigit_is_no_number 63 t refl) text refl refl refl refl

host_text_with_leading_bracket_is_name : (text : List ℕ) → is_host_name_atom (host_atom_without_escapes (91 ∷ text)) ≡ true
host_text_with_leading_bracket_is_name text = names_host 91 refl (λ t. text_with_nondigit_is_no_number 91 t refl) text refl refl refl refl

empty_pattern_is_read_as_host_name : is_read_as_host_name (escaped_pattern HostName []) ≡ true
unfolding host_atom_of_token host_atom_without_escapes ipv4_number_of_text
empty_pattern_is_read_as_host_name = refl

-- whatever a word is that has no other reading, it is a name too where it has a backslash
host_name_atom_is_read_as_name : (text : List ℕ) → is_host_name_atom (host_atom_without_escapes text) ≡ true → is_read_as_host_name text ≡ true
unfolding host_atom_of_token
host_name_atom_is_read_as_name text is = by (has_byte 92 text)
  where
    by : (t : Bool) → is_host_name_atom (if t then Some (atom.Host (pattern_of_text HostName text)) else host_atom_without_escapes text) ≡ true
    by true = refl
    by false = is

pub backslash_text_is_read_as_host_name : (text : List ℕ) → is_read_as_host_name (92 ∷ text) ≡ true
unfolding host_atom_of_token
backslash_text_is_read_as_host_name text = refl

-- A name of a host that begins with a wildcard or a backslash gets no backslash.
wildcard_pattern_is_read_as_host_name : (c : ℕ) (p : List ℕ) → is_special_in_patterns c ≡ true → is_read_as_host_name (escaped_pattern HostName (c ∷ p)) ≡ true
wildcard_pattern_is_read_as_host_name c p is = by_star (c == 42) refl is
  where
    at : (d : ℕ) → (c == d) ≡ true → is_read_as_host_name (escaped_pattern HostName (d ∷ p)) ≡ true → is_read_as_host_name (escaped_pattern HostName (c ∷ p)) ≡ true
    at d e there = subst (λ x. is_read_as_host_name (escaped_pattern HostName (x ∷ p)) ≡ true) (sym (eqb-true c d e)) there

    by_backslash : (t : Bool) → (c == 92) ≡ t → t ≡ true → is_read_as_host_name (escaped_pattern HostName (c ∷ p)) ≡ true
    by_backslash true e is = at 92 e (backslash_text_is_read_as_host_name (escaped_pattern HostName p))
    by_backslash false e is = absurd (false≢true is)

    by_set : (t : Bool) → (c == 91) ≡ t → (t || c == 92) ≡ true → is_read_as_host_name (escaped_pattern HostName (c ∷ p)) ≡ true
    by_set true e is = at 91 e (host_name_atom_is_read_as_name (91 ∷ escaped_pattern HostName p) (host_text_with_leading_bracket_is_name (escaped_pattern HostName p)))
    by_set false e is = by_backslash (c == 92) refl is

    by_any : (t : Bool) → (c == 63) ≡ t → ((t || c == 91) || c == 92) ≡ true → is_read_as_host_name (escaped_pattern HostName (c ∷ p)) ≡ true
    by_any true e is = at 63 e (host_name_atom_is_read_as_name (63 ∷ escaped_pattern HostName p) (host_text_with_leading_question_is_name (escaped_pattern HostName p)))
    by_any false e is = by_set (c == 91) refl is

    by_star : (t : Bool) → (c == 42) ≡ t → (((t || c == 63) || c == 91) || c == 92) ≡ true → is_read_as_host_name (escaped_pattern HostName (c ∷ p)) ≡ true
    by_star true e is = at 42 e (host_name_atom_is_read_as_name (42 ∷ escaped_pattern HostName p) (host_text_with_leading_star_is_name (escaped_pattern HostName p)))
    by_star false e is = by_any (c == 63) refl is

pattern_not_read_back_starts_plain : (c : ℕ) (p : List ℕ) → is_read_as_host_name (escaped_pattern HostName (c ∷ p)) ≡ false → is_special_in_patterns c ≡ false
pattern_not_read_back_starts_plain c p none = by (is_special_in_patterns c) refl
  where
    by : (t : Bool) → is_special_in_patterns c ≡ t → t ≡ false
    by false e = refl
    by true e = absurd (false≢true (sym none ∙ wildcard_pattern_is_read_as_host_name c p e))

-- ---- atoms

abbrev host_atom_with_backslash_unless : Bool → List ℕ → Atom
host_atom_with_backslash_unless t p = if t then atom.Host p else atom.Host (92 ∷ p)

host_pattern_read_back_matches_same : BackslashBeforePlainByteKeepsHostMatch → (who : Who) (p : List ℕ) → is_host_atom_match who (atom_read_back (atom.Host p)) ≡ is_host_name_match who p
host_pattern_read_back_matches_same law who [] = ap (λ t. is_host_atom_match who (host_atom_with_backslash_unless t [])) empty_pattern_is_read_as_host_name
host_pattern_read_back_matches_same law who (c ∷ p) = by (is_read_as_host_name (escaped_pattern HostName (c ∷ p))) refl
  where
    by : (t : Bool) → is_read_as_host_name (escaped_pattern HostName (c ∷ p)) ≡ t → is_host_atom_match who (host_atom_with_backslash_unless t (c ∷ p)) ≡ is_host_name_match who (c ∷ p)
    by true e = refl
    by false e = law who c p (pattern_not_read_back_starts_plain c p e)

-- what holds of each host alike holds of what it is read as
pub property_alike_for_hosts_survives_read_back : {X : Type 0} (f : Atom → X) → ((p q : List ℕ) → f (atom.Host p) ≡ f (atom.Host q)) → (a : Atom) → f (atom_read_back a) ≡ f a
property_alike_for_hosts_survives_read_back f same (atom.Host p) = by (is_read_as_host_name (escaped_pattern HostName p))
  where
    by : (t : Bool) → f (host_atom_with_backslash_unless t p) ≡ f (atom.Host p)
    by true = refl
    by false = same (92 ∷ p) p
property_alike_for_hosts_survives_read_back f same a = refl

atom_read_back_matches_same_host : BackslashBeforePlainByteKeepsHostMatch → (who : Who) (a : Atom) → is_host_atom_match who (atom_read_back a) ≡ is_host_atom_match who a
atom_read_back_matches_same_host law who (atom.Host p) = host_pattern_read_back_matches_same law who p
atom_read_back_matches_same_host law who a = refl

pub reading_back_keeps_atom_matches : BackslashBeforePlainByteKeepsHostMatch → KeepsAtomMatches atom_read_back
reading_back_keeps_atom_matches law = record {
  all = property_alike_for_hosts_survives_read_back is_all_atom (λ p q. refl);
  user = λ person. property_alike_for_hosts_survives_read_back (is_user_atom_match person) (λ p q. refl);
  group = λ group. property_alike_for_hosts_survives_read_back (is_runas_group_atom_match group) (λ p q. refl);
  host = atom_read_back_matches_same_host law;
  command = λ asked. property_alike_for_hosts_survives_read_back (is_command_atom_match asked) (λ p q. refl);
}
