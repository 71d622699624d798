-- What is read as a user can be written.
use Rattle.laws_print.proofs.Common.{◌≡◌, ◌≢◌, ℕ, ◌≤◌, Bool, true, false, ◌&&◌, not, List, [], ◌∷◌, Some, None, refl, subst, ◌==◌, if◌then◌else◌, codes}
use Rattle.laws_print.proofs.Common.{option_map, nat_le, bytes_eq, TokenKind, value_of_word, is_name, Atom, id_limit, is_nonempty_digit_string, number_if_within_limit, some_if_not_empty, group_atom_after_percent}
use Rattle.laws_print.proofs.Common.{user_atom_by_prefix, user_atom_of_word, user_atom_of_bounded_id, user_atom_of_token, IsWritableUserAtom}
use Rattle.sudoers_text.specs.declared.token.TokenKind.TheVariants as kind
use Rattle.sudoers_grammar.specs.declared.node.Atom.TheVariants as atom
use Rattle.sudoers_grammar.specs.Number.{number_of_decimal_digits}
use Rattle.sudoers_grammar.specs.Atom.{word_value_or_bytes, uid_or_name_atom_after_hash}
use Rattle.laws_print.proofs.TidyPieces.{IsIdText, hash, percent, colon}
use Rattle.laws_print.proofs.GivenTokens.{IsNumberTextIfId}
use Rattle.laws_print.proofs.Gives.{GivesOnlySuchAtom, property_of_both_holds_for_choice}
use Rattle.std.proofs.lemmas.Bool.{leb-true}

consed_name_is_not_empty : (b : ℕ) (name : List ℕ) → (b ∷ name) ≢ []
consed_name_is_not_empty b name e = absurd (cc)

atom_of_filled_name_is_writable_user : (f : List ℕ → Atom) (name : List ℕ) → ((n : List ℕ) → n ≢ [] → IsWritableUserAtom (f n)) → GivesOnlySuchAtom IsWritableUserAtom (option_map f (some_if_not_empty name))
atom_of_filled_name_is_writable_user f [] can = tt
atom_of_filled_name_is_writable_user f (b ∷ name) can = can (b ∷ name) (consed_name_is_not_empty b name)

atom_of_limited_number_is_writable_user : (f : ℕ → Atom) (digits : List ℕ) → ((n : ℕ) → n ≤ id_limit → IsWritableUserAtom (f n)) → GivesOnlySuchAtom IsWritableUserAtom (option_map f (number_if_within_limit id_limit digits))
atom_of_limited_number_is_writable_user f digits can = by_limit (nat_le (number_of_decimal_digits 0 digits) id_limit) refl
  where
    by_limit : (t : Bool) → nat_le (number_of_decimal_digits 0 digits) id_limit ≡ t → GivesOnlySuchAtom IsWritableUserAtom (option_map f (if t then Some (number_of_decimal_digits 0 digits) else None))
    by_limit true e = can (number_of_decimal_digits 0 digits) (leb-true (number_of_decimal_digits 0 digits) id_limit e)
    by_limit false e = tt

group_after_percent_is_writable_user : (escaped : Bool) (text : List ℕ) → GivesOnlySuchAtom IsWritableUserAtom (group_atom_after_percent escaped text)
group_after_percent_is_writable_user escaped [] = tt
group_after_percent_is_writable_user escaped (b ∷ rest) =
    property_of_both_holds_for_choice (GivesOnlySuchAtom IsWritableUserAtom) (b == 58) (option_map atom.NonUnix (some_if_not_empty (word_value_or_bytes escaped rest))) (if b == 35 && is_nonempty_digit_string rest then option_map atom.GroupId (number_if_within_limit id_limit rest) else option_map atom.Group (some_if_not_empty (word_value_or_bytes escaped (b ∷ rest))))
    (atom_of_filled_name_is_writable_user atom.NonUnix (word_value_or_bytes escaped rest) (λ n some. some))
    (property_of_both_holds_for_choice (GivesOnlySuchAtom IsWritableUserAtom) (b == 35 && is_nonempty_digit_string rest) (option_map atom.GroupId (number_if_within_limit id_limit rest)) (option_map atom.Group (some_if_not_empty (word_value_or_bytes escaped (b ∷ rest))))
    (atom_of_limited_number_is_writable_user atom.GroupId rest (λ n low. low)) (atom_of_filled_name_is_writable_user atom.Group (word_value_or_bytes escaped (b ∷ rest)) (λ n some. some)))

number_after_hash_is_writable_user : (text : List ℕ) → GivesOnlySuchAtom IsWritableUserAtom (uid_or_name_atom_after_hash text)
number_after_hash_is_writable_user [] = tt
number_after_hash_is_writable_user (b ∷ rest) =
    property_of_both_holds_for_choice (GivesOnlySuchAtom IsWritableUserAtom) (is_nonempty_digit_string (b ∷ rest)) (option_map atom.Id (number_if_within_limit id_limit (b ∷ rest))) (Some (atom.Name (35 ∷ b ∷ rest)))
    (atom_of_limited_number_is_writable_user atom.Id (b ∷ rest) (λ n low. low)) (consed_name_is_not_empty 35 (b ∷ rest))

prefixed_text_gives_writable_user : (escaped : Bool) (text : List ℕ) → GivesOnlySuchAtom IsWritableUserAtom (user_atom_by_prefix escaped text)
prefixed_text_gives_writable_user escaped [] = tt
prefixed_text_gives_writable_user escaped (b ∷ rest) =
    property_of_both_holds_for_choice (GivesOnlySuchAtom IsWritableUserAtom) (b == 37) (group_atom_after_percent escaped rest) (if b == 43 then option_map atom.Netgroup (some_if_not_empty (word_value_or_bytes escaped rest)) else (if b == 35 then uid_or_name_atom_after_hash rest else option_map atom.Name (some_if_not_empty (word_value_or_bytes escaped (b ∷ rest)))))
    (group_after_percent_is_writable_user escaped rest)
    (property_of_both_holds_for_choice (GivesOnlySuchAtom IsWritableUserAtom) (b == 43) (option_map atom.Netgroup (some_if_not_empty (word_value_or_bytes escaped rest))) (if b == 35 then uid_or_name_atom_after_hash rest else option_map atom.Name (some_if_not_empty (word_value_or_bytes escaped (b ∷ rest))))
    (atom_of_filled_name_is_writable_user atom.Netgroup (word_value_or_bytes escaped rest) (λ n some. some))
    (property_of_both_holds_for_choice (GivesOnlySuchAtom IsWritableUserAtom) (b == 35) (uid_or_name_atom_after_hash rest) (option_map atom.Name (some_if_not_empty (word_value_or_bytes escaped (b ∷ rest)))) (number_after_hash_is_writable_user rest) (atom_of_filled_name_is_writable_user atom.Name (word_value_or_bytes escaped (b ∷ rest)) (λ n some. some))))

word_gives_writable_user : (text : List ℕ) → GivesOnlySuchAtom IsWritableUserAtom (user_atom_of_word text)
unfolding user_atom_of_word
word_gives_writable_user text = by_all (bytes_eq text (codes "ALL")) refl
  where
    by_name : (t : Bool) → is_name text ≡ t → bytes_eq text (codes "ALL") ≡ false → GivesOnlySuchAtom IsWritableUserAtom (if t then Some (atom.Alias text) else user_atom_by_prefix true text)
    by_name true e other = (e, other)
    by_name false e other = prefixed_text_gives_writable_user true text

    by_all : (t : Bool) → bytes_eq text (codes "ALL") ≡ t → GivesOnlySuchAtom IsWritableUserAtom (if t then Some atom.All else (if is_name text then Some (atom.Alias text) else user_atom_by_prefix true text))
    by_all true e = tt
    by_all false e = by_name (is_name text) refl e

bounded_id_gives_writable_user : (text : List ℕ) → IsIdText text → GivesOnlySuchAtom IsWritableUserAtom (user_atom_of_bounded_id text)
unfolding user_atom_of_bounded_id
bounded_id_gives_writable_user text (hash {digits = ds}) = by_limit (nat_le (number_of_decimal_digits 0 ds) id_limit) refl
  where
    by_limit : (t : Bool) → nat_le (number_of_decimal_digits 0 ds) id_limit ≡ t → GivesOnlySuchAtom IsWritableUserAtom (if not t then None else Some (atom.Id (number_of_decimal_digits 0 ds)))
    by_limit true e = leb-true (number_of_decimal_digits 0 ds) id_limit e
    by_limit false e = tt
bounded_id_gives_writable_user text (percent {digits = ds}) = by_limit (nat_le (number_of_decimal_digits 0 ds) id_limit) refl
  where
    by_limit : (t : Bool) → nat_le (number_of_decimal_digits 0 ds) id_limit ≡ t → GivesOnlySuchAtom IsWritableUserAtom (if not t then None else Some (atom.GroupId (number_of_decimal_digits 0 ds)))
    by_limit true e = leb-true (number_of_decimal_digits 0 ds) id_limit e
    by_limit false e = tt
bounded_id_gives_writable_user text (colon {digits = ds}) = by_limit (nat_le (number_of_decimal_digits 0 ds) id_limit) refl
  where
    by_limit : (t : Bool) → nat_le (number_of_decimal_digits 0 ds) id_limit ≡ t → GivesOnlySuchAtom IsWritableUserAtom (if not t then None else Some (atom.NonUnix (35 ∷ ds)))
    by_limit true e = consed_name_is_not_empty 35 ds
    by_limit false e = tt

user_token_gives_writable_user : (k : TokenKind) (text : List ℕ) → IsNumberTextIfId k text → GivesOnlySuchAtom IsWritableUserAtom (user_atom_of_token k text)
unfolding user_atom_of_token
user_token_gives_writable_user kind.Word text number = word_gives_writable_user text
user_token_gives_writable_user kind.Quoted text number = prefixed_text_gives_writable_user false (value_of_word text)
user_token_gives_writable_user kind.Id text number = bounded_id_gives_writable_user text number
user_token_gives_writable_user k text number = tt

-- What is read of a token as a user can be written.
pub user_atom_of_given_token_is_writable : (k : TokenKind) (text : List ℕ) (a : Atom) → IsNumberTextIfId k text → user_atom_of_token k text ≡ Some a → IsWritableUserAtom a
user_atom_of_given_token_is_writable k text a number is = subst (GivesOnlySuchAtom IsWritableUserAtom) is (user_token_gives_writable_user k text number)
