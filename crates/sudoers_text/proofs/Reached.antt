-- What stands left of a place, from what stood left of one before it.
use Rattle.std.proofs.Common.{◌≡◌, ℕ, zero, suc, ◌-◌, ◌≤◌, ◌<◌, Bool, true, false, ◌||◌, not, List, [], ◌∷◌, ◌++◌, length, take, refl, sym, ap, subst, ◌∙◌, arith, inl, inr}
use Rattle.std.specs.Prelude.{◌==◌, if◌then◌else◌, nat_lt, slice_range, slice_index_or}
use Rattle.std.proofs.lemmas.Bool.{or_parts}
use Rattle.std.proofs.lemmas.Bool.Decides.{eqb_tells}
use Rattle.sudoers_text.specs.declared.token.TokenKind.{TokenKind}
use Rattle.std.proofs.lemmas.List.{length-append}
use Rattle.sudoers_text.specs.declared.text_units.LeftContext.{LeftContext}
use Rattle.sudoers_text.specs.Unit.{LineUnit, bytes_of_unit, begins_lf, is_id_position_after_units, bytes_of_units_after_leading_gap, is_empty, unit_after_backslash}
use Rattle.sudoers_text.specs.internal.Left.{LeftDescribesUnits, ends_without_backslash_or_cr, has_leading_hash_or_percent}
use Rattle.sudoers_text.specs.Piece.{TokenForm, Mark, Operator, Number, NonUnixGroup, Run, CommandPath, QuotedPart, CommentPart, IncludeWord, FirstWord, Argument, QuotedRest, kind_of_form}
use Rattle.sudoers_text.specs.Token.{byte_or_escape_unit, units_with_those_of_bytes, units_with_those_after_skipped_bytes, units_left_of_place}
use Rattle.sudoers_text.specs.Found.{hash_id_size, numeric_id_size, comment_size_at, hash_include_size_at, longest_piece_size, kind_and_size_of_token, kind_and_size_after_units}
use Rattle.sudoers_text.proofs.Units.{emptiness_test_is_zero_length_test}
use Rattle.sudoers_text.proofs.Passed.{bytes_begin_with_byte_or_escape_unit}
use Rattle.sudoers_text.proofs.Steady.{bytes_after_backslash_have_five_cases, backslash_before_other_byte_is_pair, prefix_and_next_bytes_are_longer_prefix}

-- ---- units of a longer text

tail_ends_without_backslash_or_cr : (b : ℕ) (rest : List ℕ) → ends_without_backslash_or_cr (b ∷ rest) ≡ true → ends_without_backslash_or_cr rest ≡ true
tail_ends_without_backslash_or_cr b [] h = refl
tail_ends_without_backslash_or_cr b (c ∷ rest) h = h

escaped_unit_is_same_in_longer_text : (more rest : List ℕ) → ends_without_backslash_or_cr (92 ∷ rest) ≡ true → unit_after_backslash (rest ++ more) ≡ unit_after_backslash rest
escaped_unit_is_same_in_longer_text more =
    bytes_after_backslash_have_five_cases (λ rest. ends_without_backslash_or_cr (92 ∷ rest) ≡ true → unit_after_backslash (rest ++ more) ≡ unit_after_backslash rest) (λ h. absurd (cc))
    (λ rest h. refl)
    (λ rest h. refl)
    behind_cr
    (λ c rest e f h. backslash_before_other_byte_is_pair c (rest ++ more) e f ∙ sym (backslash_before_other_byte_is_pair c rest e f))
  where
    behind_cr : (rest : List ℕ) → begins_lf rest ≡ false → ends_without_backslash_or_cr (92 ∷ 13 ∷ rest) ≡ true → unit_after_backslash (13 ∷ rest ++ more) ≡ unit_after_backslash (13 ∷ rest)
    behind_cr [] e h = absurd (cc)
    behind_cr (d ∷ rest) e h = refl

plain_unit_is_same_in_longer_text : (b : ℕ) (rest more : List ℕ) → ends_without_backslash_or_cr (b ∷ rest) ≡ true → byte_or_escape_unit b (rest ++ more) ≡ byte_or_escape_unit b rest
plain_unit_is_same_in_longer_text b rest more h =
    elim (eqb_tells b 92) [
      | inl w ↦
          let mine : ends_without_backslash_or_cr (92 ∷ rest) ≡ true = subst (λ (c : ℕ). ends_without_backslash_or_cr (c ∷ rest) ≡ true) w.1 h in
          subst (λ (c : ℕ). byte_or_escape_unit c (rest ++ more) ≡ byte_or_escape_unit c rest) (sym w.1) (escaped_unit_is_same_in_longer_text more rest mine)
      | inr w ↦ let other : (b == 92) ≡ false = w.0 in rw other refl
    ]

byte_or_escape_unit_is_within_bytes : (b : ℕ) (rest : List ℕ) → length (bytes_of_unit (byte_or_escape_unit b rest)) ≤ suc (length rest)
byte_or_escape_unit_is_within_bytes b rest =
    let front = bytes_begin_with_byte_or_escape_unit b rest in
    omega (arith, ap length front.1, length-append (bytes_of_unit (byte_or_escape_unit b rest)) front.0)

-- What a text is read as stands before more, where its last byte is part of no longer unit.
units_of_longer_text_continue_its_front : (k : ℕ) (before : List LineUnit) (text more : List ℕ) → k ≤ length text → ends_without_backslash_or_cr text ≡ true → units_with_those_after_skipped_bytes k before (text ++ more) ≡ units_with_those_of_bytes (units_with_those_after_skipped_bytes k before text) more
units_of_longer_text_continue_its_front zero before [] more h e = refl
units_of_longer_text_continue_its_front (suc k) before [] more h e = absurd (omega arith)
units_of_longer_text_continue_its_front (suc k) before (b ∷ text) more h e = units_of_longer_text_continue_its_front k before text more (omega arith) (tail_ends_without_backslash_or_cr b text e)
units_of_longer_text_continue_its_front zero before (b ∷ text) more h e =
    let u = byte_or_escape_unit b text in
    let same : byte_or_escape_unit b (text ++ more) ≡ u = plain_unit_is_same_in_longer_text b text more e in
    ap (λ (v : LineUnit). units_with_those_after_skipped_bytes (length (bytes_of_unit v) - 1) (v ∷ before) (text ++ more)) same
    ∙ units_of_longer_text_continue_its_front (length (bytes_of_unit u) - 1) (u ∷ before) text more (omega (arith, byte_or_escape_unit_is_within_bytes b text)) (tail_ends_without_backslash_or_cr b text e)

-- the last byte tells
abbrev is_byte_neither_backslash_nor_cr : ℕ → Bool
is_byte_neither_backslash_nor_cr b = not (b == 92 || b == 13)

byte_tells_prefix_without_backslash_end : (line : List ℕ) (n : ℕ) → n < length line → is_byte_neither_backslash_nor_cr (slice_index_or line n 0) ≡ true → ends_without_backslash_or_cr (take (suc n) line) ≡ true
byte_tells_prefix_without_backslash_end [] n l e = absurd (omega arith)
byte_tells_prefix_without_backslash_end (x ∷ line) zero l e = e
byte_tells_prefix_without_backslash_end (x ∷ []) (suc n) l e = absurd (omega arith)
byte_tells_prefix_without_backslash_end (x ∷ y ∷ line) (suc n) l e = byte_tells_prefix_without_backslash_end (y ∷ line) n (omega arith) e

pub place_ends_prefix_without_backslash_or_cr : (line : List ℕ) (from place : ℕ) → from < place → place ≤ length line → not (slice_index_or line (place - 1) 0 == 92 || slice_index_or line (place - 1) 0 == 13) ≡ true → ends_without_backslash_or_cr (take place line) ≡ true
place_ends_prefix_without_backslash_or_cr line from zero l i e = absurd (omega arith)
place_ends_prefix_without_backslash_or_cr line from (suc n) l i e =
    let same : suc n - 1 ≡ n = omega arith in
    byte_tells_prefix_without_backslash_end line n (omega arith) (subst (λ (k : ℕ). is_byte_neither_backslash_nor_cr (slice_index_or line k 0) ≡ true) same e)

-- a place behind a byte that ends a unit
pub units_from_place_continue_units_left : (line : List ℕ) (from to : ℕ) → from ≤ to → ends_without_backslash_or_cr (take from line) ≡ true → units_with_those_of_bytes (units_left_of_place line from) (slice_range line from to) ≡ units_left_of_place line to
units_from_place_continue_units_left line from to below apart =
    sym (units_of_longer_text_continue_its_front 0 [] (take from line) (slice_range line from to) (omega arith) apart) ∙ ap (units_with_those_of_bytes []) (prefix_and_next_bytes_are_longer_prefix from to line below)

-- ---- what is found where nothing left of the place counts

sign_sizes_are_same_without_sign : (i j f g : Bool) (bytes : List ℕ) → has_leading_hash_or_percent bytes ≡ false → (numeric_id_size i bytes ≡ numeric_id_size j bytes) × (comment_size_at i f bytes ≡ comment_size_at j g bytes) × (hash_include_size_at f bytes ≡ hash_include_size_at g bytes)
unfolding hash_id_size numeric_id_size comment_size_at hash_include_size_at
sign_sizes_are_same_without_sign i j f g [] h = (refl, refl, refl)
sign_sizes_are_same_without_sign i j f g (b ∷ rest) h =
    let parts = or_parts (b == 35) (b == 37) h in
    let hash : (b == 35) ≡ false = parts.0 in
    let percent : (b == 37) ≡ false = parts.1 in
    (rw (hash, percent) refl, rw hash refl, rw hash refl)

form_size_is_same_without_sign : (form : TokenForm) (i j f g : Bool) (bytes : List ℕ) → has_leading_hash_or_percent bytes ≡ false → longest_piece_size form i f bytes ≡ longest_piece_size form j g bytes
form_size_is_same_without_sign (Mark test) i j f g bytes h = refl
form_size_is_same_without_sign Operator i j f g bytes h = refl
form_size_is_same_without_sign Number i j f g bytes h = (sign_sizes_are_same_without_sign i j f g bytes h).0
form_size_is_same_without_sign NonUnixGroup i j f g bytes h = refl
form_size_is_same_without_sign (Run k r) i j f g bytes h = refl
form_size_is_same_without_sign CommandPath i j f g bytes h = refl
form_size_is_same_without_sign (QuotedPart k) i j f g bytes h = refl
form_size_is_same_without_sign CommentPart i j f g bytes h = (sign_sizes_are_same_without_sign i j f g bytes h).1
form_size_is_same_without_sign IncludeWord i j f g bytes h = (sign_sizes_are_same_without_sign i j f g bytes h).2
form_size_is_same_without_sign FirstWord i j f g bytes h = refl
form_size_is_same_without_sign Argument i j f g bytes h = refl
form_size_is_same_without_sign QuotedRest i j f g bytes h = refl

found_token_is_same_without_sign : (fs : List TokenForm) (i j f g : Bool) (bytes : List ℕ) → has_leading_hash_or_percent bytes ≡ false → kind_and_size_of_token fs i f bytes ≡ kind_and_size_of_token fs j g bytes
found_token_is_same_without_sign [] i j f g bytes h = refl
found_token_is_same_without_sign (form ∷ fs) i j f g bytes h =
    ap (λ (n : ℕ). if nat_lt 0 n then (kind_of_form form, n) else kind_and_size_of_token fs i f bytes) (form_size_is_same_without_sign form i j f g bytes h)
    ∙ ap (λ (p : TokenKind × ℕ). if nat_lt 0 (longest_piece_size form j g bytes) then (kind_of_form form, longest_piece_size form j g bytes) else p) (found_token_is_same_without_sign fs i j f g bytes h)

-- What is found does not ask for what stands left, unless `#` or `%` begins the bytes.
pub any_units_find_token_without_sign : (fs : List TokenForm) (known : LeftContext) (before : List LineUnit) (bytes : List ℕ) → has_leading_hash_or_percent bytes ≡ false → kind_and_size_of_token fs known.item (known.begun == 0) bytes ≡ kind_and_size_after_units fs before bytes
any_units_find_token_without_sign fs known before bytes h = found_token_is_same_without_sign fs known.item (is_id_position_after_units before) (known.begun == 0) (is_empty (bytes_of_units_after_leading_gap before)) bytes h

-- what is found by what is known is found by the units
pub context_finds_token_found_by_units : (fs : List TokenForm) (line bytes : List ℕ) (at : ℕ) (known : LeftContext) (before : List LineUnit) → LeftDescribesUnits line at known before → kind_and_size_of_token fs known.item (known.begun == 0) bytes ≡ kind_and_size_after_units fs before bytes
context_finds_token_found_by_units fs line bytes at known before knows =
    let first : (known.begun == 0) ≡ is_empty (bytes_of_units_after_leading_gap before) = ap (λ (n : ℕ). n == 0) (sym knows.size) ∙ sym (emptiness_test_is_zero_length_test (bytes_of_units_after_leading_gap before)) in
    ap (λ (t : Bool). kind_and_size_of_token fs t (known.begun == 0) bytes) knows.item ∙ ap (λ (t : Bool). kind_and_size_of_token fs (is_id_position_after_units before) t bytes) first
