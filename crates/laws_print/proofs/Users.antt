-- Users as they are written are read as these users.
use Rattle.laws_print.proofs.Common.{◌≡◌, ◌≢◌, ℕ, ◌^◌, ◌≤◌, ◌<◌, Bool, true, false, ◌&&◌, ◌||◌, List, [], ◌∷◌, ◌++◌, length, Some, refl, sym, ap, subst}
use Rattle.laws_print.proofs.Common.{◌∙◌, arith, inl, inr, ◌==◌, if◌then◌else◌, codes, option_map, nat_le, list_all, bytes_eq, or_parts, and_parts}
use Rattle.laws_print.proofs.Common.{eqb_tells, bytes_eq-Decides, LineUnit, Pair, is_digit, is_word_byte, value_of_word, is_name, Atom, id_limit}
use Rattle.laws_print.proofs.Common.{decimal_number, some_if_not_empty, group_atom_after_percent, user_atom_by_prefix, user_atom_of_word, user_atom_of_bounded_id, user_atom_of_token, text_of_units, is_written_unit, units_of_spelled_byte}
use Rattle.laws_print.proofs.Common.{units_of_spelled_word, is_start_of_non_spec_line, is_read_as_other_than_user_name, IsWritableUserAtom}
use Rattle.sudoers_grammar.specs.declared.node.Atom.TheVariants as atom
use Rattle.std.specs.Fmt.{decimal}
use Rattle.std.proofs.lemmas.Fmt.{decimal_is_IsNumeral, digits_decimal, digits_value-decimal}
use Rattle.std.proofs.lemmas.Str.Parse.{IsDigitsTest, IsNumeralModel, numerals_by_fold}
use Rattle.laws_print.proofs.Units.{units_of_plain_bytes}
use Rattle.sudoers_cvt_spell.specs.Spelling.{spelled_word}
use Rattle.sudoers_grammar.specs.Piece.{has_first_byte}
use Rattle.laws_print.proofs.ListTokens.{units_of_user_name, token_kind_of_atom, units_of_user_atom}
use Rattle.laws_print.proofs.Values.{AreUnitsSpellingByte, by_pair, by_hex, by_itself, units_of_byte_spell_it, value_of_word_units_is_word, remaining_value_of_word_units_is_word, value_of_pair_is_second_byte, text_of_appended_units_is_appended, text_of_word_units_is_spelled_word}
use Rattle.laws_print.proofs.Words.{passing_byte_differs_from_failing_byte, written_pair_is_no_nul_nor_break}
use Rattle.std.proofs.lemmas.Bool.{le-leb, leb-true}

-- ---- plain bytes

pub text_of_plain_units_is_bytes : (bytes : List ℕ) → text_of_units (units_of_plain_bytes bytes) ≡ bytes
text_of_plain_units_is_bytes [] = refl
text_of_plain_units_is_bytes (b ∷ bytes) = ap (λ (t : List ℕ). b ∷ t) (text_of_plain_units_is_bytes bytes)

-- ---- prefixes

pub nonempty_name_is_some_name : (name : List ℕ) → name ≢ [] → some_if_not_empty name ≡ Some name
nonempty_name_is_some_name [] h = absurd (h refl)
nonempty_name_is_some_name (b ∷ name) h = refl

-- how a spelled word begins: with a backslash, or with its first byte
pub data IsFrontOfSpelledWord (b : ℕ) : List ℕ → Type 0 where
  escaped : {more : List ℕ} → IsFrontOfSpelledWord b (92 ∷ more)
  itself : {more : List ℕ} → is_word_byte b ≡ true → IsFrontOfSpelledWord b (b ∷ more)

pub word_units_have_front_of_spelled_word : (b : ℕ) (name : List ℕ) → IsFrontOfSpelledWord b (text_of_units (units_of_spelled_word (b ∷ name)))
word_units_have_front_of_spelled_word b name = subst (λ (t : List ℕ). IsFrontOfSpelledWord b t) (sym (text_of_appended_units_is_appended (units_of_spelled_byte b) (units_of_spelled_word name))) (by_spelling (units_of_spelled_byte b) (units_of_byte_spell_it b) (text_of_units (units_of_spelled_word name)))
  where
    by_spelling : (us : List LineUnit) → AreUnitsSpellingByte b us → (more : List ℕ) → IsFrontOfSpelledWord b (text_of_units us ++ more)
    by_spelling us (by_pair e) more = escaped
    by_spelling us (by_hex high low x y z c) more = escaped
    by_spelling us (by_itself word special_word_test_implies_not_special none) more = itself word

-- a spelled word behind `%`
spelled_group_after_percent_is_read_back : (b : ℕ) (name text : List ℕ) → IsFrontOfSpelledWord b text → value_of_word text ≡ b ∷ name → group_atom_after_percent true text ≡ Some (atom.Group (b ∷ name))
spelled_group_after_percent_is_read_back b name text escaped is = ap (λ (v : List ℕ). option_map atom.Group (some_if_not_empty v)) is
spelled_group_after_percent_is_read_back b name text (itself {more = more} word) is =
    rw (passing_byte_differs_from_failing_byte is_word_byte 58 b word refl, passing_byte_differs_from_failing_byte is_word_byte 35 b word refl) (ap (λ (v : List ℕ). option_map atom.Group (some_if_not_empty v)) is)

-- a spelled word without a prefix
spelled_name_without_prefix_is_read_back : (b : ℕ) (name text : List ℕ) → IsFrontOfSpelledWord b text → has_first_byte 37 text ≡ false → has_first_byte 43 text ≡ false → value_of_word text ≡ b ∷ name → user_atom_by_prefix true text ≡ Some (atom.Name (b ∷ name))
spelled_name_without_prefix_is_read_back b name text escaped percent plus is = ap (λ (v : List ℕ). option_map atom.Name (some_if_not_empty v)) is
spelled_name_without_prefix_is_read_back b name text (itself {more = more} word) percent plus is =
    let no_percent : (b == 37) ≡ false = percent in
    let no_plus : (b == 43) ≡ false = plus in
    rw (no_percent, no_plus, passing_byte_differs_from_failing_byte is_word_byte 35 b word refl) (ap (λ (v : List ℕ). option_map atom.Name (some_if_not_empty v)) is)

-- ---- names

-- what stands behind a backslash that is there to make it a name
value_of_backslashed_word_is_word : (b : ℕ) (name : List ℕ) → is_written_unit is_word_byte (Pair b) ≡ true → (b == 120) ≡ false → value_of_word (92 ∷ b ∷ text_of_units (units_of_spelled_word name)) ≡ b ∷ name
unfolding value_of_word
value_of_backslashed_word_is_word b name pair other =
    value_of_pair_is_second_byte b (text_of_units (units_of_spelled_word name)) (written_pair_is_no_nul_nor_break b pair).1 other ∙ ap (λ (t : List ℕ). b ∷ t) (remaining_value_of_word_units_is_word name)

-- a byte that a backslash makes a name
pub record CanTakeBackslash (b : ℕ) : Type 0 where
  pub pair : is_written_unit is_word_byte (Pair b) ≡ true
  pub other : (b == 120) ≡ false

-- nothing that begins with `x` is read as something else
word_with_leading_x_is_not_special : (first : Bool) (more : List ℕ) → is_read_as_other_than_user_name first (120 ∷ more) ≡ false
word_with_leading_x_is_not_special true more = refl
word_with_leading_x_is_not_special false more = refl

pub word_with_leading_backslash_is_not_special : (first : Bool) (more : List ℕ) → is_read_as_other_than_user_name first (92 ∷ more) ≡ false
word_with_leading_backslash_is_not_special true more = refl
word_with_leading_backslash_is_not_special false more = refl

front_of_special_word_can_take_backslash : (first : Bool) (b : ℕ) (text : List ℕ) → IsFrontOfSpelledWord b text → is_read_as_other_than_user_name first text ≡ true → CanTakeBackslash b
front_of_special_word_can_take_backslash first b text (escaped {more = more}) h = absurd (let none = word_with_leading_backslash_is_not_special first more in cc)
front_of_special_word_can_take_backslash first b text (itself {more = more} word) h =
    record {
      pair = rw (passing_byte_differs_from_failing_byte is_word_byte 0 b word refl, passing_byte_differs_from_failing_byte is_word_byte 10 b word refl, passing_byte_differs_from_failing_byte is_word_byte 13 b word refl) refl;
      other =
          elim (eqb_tells b 120) [
            | inl w ↦ absurd (let there : is_read_as_other_than_user_name first (120 ∷ more) ≡ true = subst (λ (x : ℕ). is_read_as_other_than_user_name first (x ∷ more) ≡ true) w.1 h in let none = word_with_leading_x_is_not_special first more in cc)
            | inr w ↦ w.0
          ];
    }

pub spelled_word_has_front_of_its_byte : (b : ℕ) (name : List ℕ) → IsFrontOfSpelledWord b (spelled_word (b ∷ name))
spelled_word_has_front_of_its_byte b name = subst (λ (t : List ℕ). IsFrontOfSpelledWord b t) (text_of_word_units_is_spelled_word (b ∷ name)) (word_units_have_front_of_spelled_word b name)

pub special_spelled_word_can_take_backslash : (first : Bool) (b : ℕ) (name : List ℕ) → is_read_as_other_than_user_name first (spelled_word (b ∷ name)) ≡ true → CanTakeBackslash b
special_spelled_word_can_take_backslash first b name h = front_of_special_word_can_take_backslash first b (spelled_word (b ∷ name)) (spelled_word_has_front_of_its_byte b name) h

-- a text that is no alias's name, and not `ALL`
unnamed_user_word_is_read_by_prefix : (text : List ℕ) (a : Atom) → is_name text ≡ false → user_atom_by_prefix true text ≡ Some a → user_atom_of_word text ≡ Some a
unfolding user_atom_of_word
unnamed_user_word_is_read_by_prefix text a other is = by_all (bytes_eq text (codes "ALL")) refl
  where
    by_all : (t : Bool) → bytes_eq text (codes "ALL") ≡ t → (if t then Some atom.All else (if is_name text then Some (atom.Alias text) else user_atom_by_prefix true text)) ≡ Some a
    by_all true e = absurd (let name : is_name text ≡ true = subst (λ (t : List ℕ). is_name t ≡ true) (sym ((bytes_eq-Decides text (codes "ALL")).0 e)) refl in cc)
    by_all false e = rw other is

-- a text that is read as nothing else
pub record IsNotReadAsSpecialWord (first : Bool) (text : List ℕ) : Type 0 where
  pub name : is_name text ≡ false
  pub percent : has_first_byte 37 text ≡ false
  pub plus : has_first_byte 43 text ≡ false
  pub line : (first && is_start_of_non_spec_line text) ≡ false

pub special_word_test_implies_not_special : (first : Bool) (text : List ℕ) → is_read_as_other_than_user_name first text ≡ false → IsNotReadAsSpecialWord first text
special_word_test_implies_not_special first text h =
    let a = or_parts (is_name text || has_first_byte 37 text || has_first_byte 43 text) (first && is_start_of_non_spec_line text) h in
    let c = or_parts (is_name text || has_first_byte 37 text) (has_first_byte 43 text) a.0 in
    let d = or_parts (is_name text) (has_first_byte 37 text) c.0 in
    record { name = d.0; percent = d.1; plus = c.1; line = a.1 }

-- Names are read as they are written.
user_name_units_are_read_back : (first : Bool) (name : List ℕ) → name ≢ [] → user_atom_of_word (text_of_units (units_of_user_name first name)) ≡ Some (atom.Name name)
user_name_units_are_read_back first [] h = absurd (h refl)
user_name_units_are_read_back first (b ∷ name) h = by_else (is_read_as_other_than_user_name first (spelled_word (b ∷ name))) refl
  where
    by_else : (t : Bool) → is_read_as_other_than_user_name first (spelled_word (b ∷ name)) ≡ t → user_atom_of_word (text_of_units (if t then Pair b ∷ units_of_spelled_word name else units_of_spelled_word (b ∷ name))) ≡ Some (atom.Name (b ∷ name))
    by_else true e =
        let can = special_spelled_word_can_take_backslash first b name e in
        unnamed_user_word_is_read_by_prefix (92 ∷ b ∷ text_of_units (units_of_spelled_word name)) (atom.Name (b ∷ name)) refl (ap (λ (v : List ℕ). option_map atom.Name (some_if_not_empty v)) (value_of_backslashed_word_is_word b name can.pair can.other))
    by_else false e =
        let is = special_word_test_implies_not_special first (spelled_word (b ∷ name)) e in
        ap user_atom_of_word (text_of_word_units_is_spelled_word (b ∷ name))
        ∙ unnamed_user_word_is_read_by_prefix (spelled_word (b ∷ name)) (atom.Name (b ∷ name)) is.name
        (spelled_name_without_prefix_is_read_back b name (spelled_word (b ∷ name)) (spelled_word_has_front_of_its_byte b name) is.percent is.plus (ap value_of_word (sym (text_of_word_units_is_spelled_word (b ∷ name))) ∙ value_of_word_units_is_word (b ∷ name)))

-- ---- numbers

all_digits_test_is_digits_test : IsDigitsTest (λ ds. list_all is_digit ds ≡ true)
all_digits_test_is_digits_test = record {
  empty = refl;
  parts = λ c cs e.
      let k = and_parts (is_digit c) (list_all is_digit cs) e in
      let m = and_parts (nat_le 48 c) (nat_le c 57) k.0 in
      ((leb-true 48 c m.0, leb-true c 57 m.1), k.1);
  more = λ c cs k e. let low : nat_le 48 c ≡ true = le-leb 48 c k.0 in let high : nat_le c 57 ≡ true = le-leb c 57 k.1 in rw (low, high, e) refl;
}

decimal_number_is_numeral_model : IsNumeralModel (λ ds. list_all is_digit ds ≡ true) (decimal_number 0)
decimal_number_is_numeral_model = numerals_by_fold (λ ds. list_all is_digit ds ≡ true) all_digits_test_is_digits_test decimal_number (record { empty = λ n. refl; more = λ n c cs k. refl })

pub decimal_of_id_is_read_back : (n : ℕ) → n ≤ id_limit → (decimal_number 0 (decimal n) ≡ n) × (list_all is_digit (decimal n) ≡ true) × (0 < length (decimal n))
decimal_of_id_is_read_back n h =
    let small : n < 2 ^ 64 = omega arith in
    (digits_value-decimal decimal_number_is_numeral_model n small, digits_decimal decimal_number_is_numeral_model n small, (decimal_is_IsNumeral n small).0.0)

hash_id_is_read_back : (n : ℕ) → n ≤ id_limit → user_atom_of_bounded_id (35 ∷ decimal n) ≡ Some (atom.Id n)
unfolding user_atom_of_bounded_id
hash_id_is_read_back n h =
    let number : decimal_number 0 (decimal n) ≡ n = (decimal_of_id_is_read_back n h).0 in
    let low : nat_le n id_limit ≡ true = le-leb n id_limit h in
    rw (number, low) refl

percent_hash_id_is_read_back : (n : ℕ) → n ≤ id_limit → user_atom_of_bounded_id (37 ∷ 35 ∷ decimal n) ≡ Some (atom.GroupId n)
unfolding user_atom_of_bounded_id
percent_hash_id_is_read_back n h =
    let number : decimal_number 0 (decimal n) ≡ n = (decimal_of_id_is_read_back n h).0 in
    let low : nat_le n id_limit ≡ true = le-leb n id_limit h in
    rw (number, low) refl

user_word_all_is_read_as_all : user_atom_of_word (codes "ALL") ≡ Some atom.All
unfolding user_atom_of_word
user_word_all_is_read_as_all = refl

-- ---- users

group_name_after_percent_is_read_back : (name : List ℕ) → name ≢ [] → group_atom_after_percent true (text_of_units (units_of_spelled_word name)) ≡ Some (atom.Group name)
group_name_after_percent_is_read_back [] h = absurd (h refl)
group_name_after_percent_is_read_back (b ∷ name) h = spelled_group_after_percent_is_read_back b name (text_of_units (units_of_spelled_word (b ∷ name))) (word_units_have_front_of_spelled_word b name) (value_of_word_units_is_word (b ∷ name))

alias_user_word_is_read_back : (text : List ℕ) → is_name text ≡ true → bytes_eq text (codes "ALL") ≡ false → user_atom_of_word text ≡ Some (atom.Alias text)
unfolding user_atom_of_word
alias_user_word_is_read_back text name other = rw (other, name) refl

-- A user is read as it is written.
pub user_units_are_read_back : (first : Bool) (a : Atom) → IsWritableUserAtom a → user_atom_of_token (token_kind_of_atom a) (text_of_units (units_of_user_atom first a)) ≡ Some a
unfolding user_atom_of_token
user_units_are_read_back first atom.All is = user_word_all_is_read_as_all
user_units_are_read_back first (atom.Alias name) is = ap user_atom_of_word (text_of_plain_units_is_bytes name) ∙ alias_user_word_is_read_back name is.0 is.1
user_units_are_read_back first (atom.Name name) is = user_name_units_are_read_back first name is
user_units_are_read_back first (atom.Id n) is = ap (λ (t : List ℕ). user_atom_of_bounded_id (35 ∷ t)) (text_of_plain_units_is_bytes (decimal n)) ∙ hash_id_is_read_back n is
user_units_are_read_back first (atom.Group name) is = unnamed_user_word_is_read_by_prefix (37 ∷ text_of_units (units_of_spelled_word name)) (atom.Group name) refl (group_name_after_percent_is_read_back name is)
user_units_are_read_back first (atom.GroupId n) is = ap (λ (t : List ℕ). user_atom_of_bounded_id (37 ∷ 35 ∷ t)) (text_of_plain_units_is_bytes (decimal n)) ∙ percent_hash_id_is_read_back n is
user_units_are_read_back first (atom.NonUnix name) is =
    unnamed_user_word_is_read_by_prefix (37 ∷ 58 ∷ text_of_units (units_of_spelled_word name)) (atom.NonUnix name) refl
    (ap (λ (v : List ℕ). option_map atom.NonUnix (some_if_not_empty v)) (value_of_word_units_is_word name) ∙ ap (option_map atom.NonUnix) (nonempty_name_is_some_name name is))
user_units_are_read_back first (atom.Netgroup name) is =
    unnamed_user_word_is_read_by_prefix (43 ∷ text_of_units (units_of_spelled_word name)) (atom.Netgroup name) refl
    (ap (λ (v : List ℕ). option_map atom.Netgroup (some_if_not_empty v)) (value_of_word_units_is_word name) ∙ ap (option_map atom.Netgroup) (nonempty_name_is_some_name name is))
user_units_are_read_back first a is = absurd is
