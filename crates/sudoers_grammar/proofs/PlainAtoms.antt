-- A member of a list whose token is its text.
use Rattle.std.proofs.Common.{◌≡◌, ℕ, Bool, true, false, ◌||◌, List, [], ◌∷◌, refl, ap, ◌∙◌, Option, Some, None}
use Rattle.std.specs.Prelude.{◌==◌, ◌&&◌, not, nat_lt, length, if◌then◌else◌, option_map, option_and_then}
use Rattle.std.specs.List.{list_all}
use Rattle.std.proofs.lemmas.Bool.{or_parts, not-true}
use Rattle.sudoers_text.specs.Unit.{is_digit}
use Rattle.sudoers_text.specs.Value.{value_of_word}
use Rattle.sudoers_grammar.specs.declared.node.Atom.TheVariants as atom
use Rattle.sudoers_grammar.specs.Number.{number_if_within_limit, canonical_number_up_to, parts_with_byte_prepended, parts_around_first_byte, address_of_octets, ipv4_number_of_text, is_network_like_text}
use Rattle.sudoers_grammar.specs.Piece.{has_first_byte}
use Rattle.sudoers_grammar.specs.Atom.{some_if_not_empty, user_atom_by_prefix, address_network_or_host_atom}
use Rattle.sudoers_grammar.specs.Plain.{has_first_byte_of_plain_name, has_first_byte_of_plain_host}

-- such a word is the name of a user
pub word_without_sign_is_user_name : (text : List ℕ) → has_first_byte_of_plain_name text ≡ true → value_of_word text ≡ text → user_atom_by_prefix true text ≡ Some (atom.Name text)
word_without_sign_is_user_name [] h own = absurd (cc)
word_without_sign_is_user_name (b ∷ rest) h own =
    let a = or_parts (b == 37 || b == 43) (b == 35) (not-true _ h) in
    let c = or_parts (b == 37) (b == 43) a.0 in
    let percent : (b == 37) ≡ false = c.0 in
    let plus : (b == 43) ≡ false = c.1 in
    let hash : (b == 35) ≡ false = a.1 in
    rw (percent, plus, hash) (ap (λ (t : List ℕ). option_map atom.Name (some_if_not_empty t)) own)

failed_test_leaves_nothing : (s t u : Bool) (n : Option ℕ) → t ≡ false → (if (s && t) && u then n else None) ≡ None
failed_test_leaves_nothing true t u n h = rw h refl
failed_test_leaves_nothing false t u n h = refl

text_without_first_digit_is_no_number : (b : ℕ) (rest : List ℕ) → is_digit b ≡ false → canonical_number_up_to 255 (b ∷ rest) ≡ None
text_without_first_digit_is_no_number b rest digit =
    failed_test_leaves_nothing (nat_lt 0 (length (b ∷ rest))) (list_all is_digit (b ∷ rest)) (not (has_first_byte 48 (b ∷ rest)) || length (b ∷ rest) == 1) (number_if_within_limit 255 (b ∷ rest))
    (ap (λ (t : Bool). t && list_all is_digit rest) digit)

no_octet_makes_no_address_of_last : (c : Option ℕ) (o : Option (List ℕ × List ℕ)) → option_and_then (λ r. address_of_octets None c (canonical_number_up_to 255 r.0) (canonical_number_up_to 255 r.1)) o ≡ None
no_octet_makes_no_address_of_last c None = refl
no_octet_makes_no_address_of_last c (Some r) = refl

no_octet_makes_no_address : (o : Option (List ℕ × List ℕ)) → option_and_then (λ q. option_and_then (λ r. address_of_octets None (canonical_number_up_to 255 q.0) (canonical_number_up_to 255 r.0) (canonical_number_up_to 255 r.1)) (parts_around_first_byte 46 q.1)) o ≡ None
no_octet_makes_no_address None = refl
no_octet_makes_no_address (Some q) = no_octet_makes_no_address_of_last (canonical_number_up_to 255 q.0) (parts_around_first_byte 46 q.1)

parts_without_first_digit_are_no_address : (b : ℕ) (o : Option (List ℕ × List ℕ)) → is_digit b ≡ false → option_and_then (λ p. option_and_then (λ q. option_and_then (λ r. address_of_octets (canonical_number_up_to 255 p.0) (canonical_number_up_to 255 q.0) (canonical_number_up_to 255 r.0) (canonical_number_up_to 255 r.1)) (parts_around_first_byte 46 q.1)) (parts_around_first_byte 46 p.1)) (option_map (parts_with_byte_prepended b) o) ≡ None
parts_without_first_digit_are_no_address b None digit = refl
parts_without_first_digit_are_no_address b (Some parts) digit =
    ap (λ (a : Option ℕ). option_and_then (λ q. option_and_then (λ r. address_of_octets a (canonical_number_up_to 255 q.0) (canonical_number_up_to 255 r.0) (canonical_number_up_to 255 r.1)) (parts_around_first_byte 46 q.1)) (parts_around_first_byte 46 parts.1)) (text_without_first_digit_is_no_number b parts.0 digit)
    ∙ no_octet_makes_no_address (parts_around_first_byte 46 parts.1)

text_without_first_digit_is_no_address : (b : ℕ) (rest : List ℕ) → (b == 46) ≡ false → is_digit b ≡ false → ipv4_number_of_text (b ∷ rest) ≡ None
unfolding ipv4_number_of_text
text_without_first_digit_is_no_address b rest dot digit = rw dot (parts_without_first_digit_are_no_address b (parts_around_first_byte 46 rest) digit)

-- such a word is the name of a host
pub record IsPlainHost (text : List ℕ) : Type 0 where
  pub netgroup : has_first_byte 43 text ≡ false
  pub host : address_network_or_host_atom text (ipv4_number_of_text text) ≡ Some (atom.Host text)

pub word_without_sign_and_digit_is_host : (text : List ℕ) → has_first_byte_of_plain_host text ≡ true → IsPlainHost text
word_without_sign_and_digit_is_host [] h = absurd (cc)
word_without_sign_and_digit_is_host (b ∷ rest) h =
    let a = or_parts (b == 43 || b == 46 || b == 47) (is_digit b) (not-true _ h) in
    let c = or_parts (b == 43 || b == 46) (b == 47) a.0 in
    let d = or_parts (b == 43) (b == 46) c.0 in
    let digit : is_digit b ≡ false = a.1 in
    let slash : (b == 47) ≡ false = c.1 in
    let plus : (b == 43) ≡ false = d.0 in
    let dot : (b == 46) ≡ false = d.1 in
    let network : is_network_like_text (b ∷ rest) ≡ false = rw (digit, dot, slash) refl in
    record {
      netgroup = plus;
      host = ap (λ (n : Option ℕ). address_network_or_host_atom (b ∷ rest) n) (text_without_first_digit_is_no_address b rest dot digit) ∙ rw network refl;
    }
