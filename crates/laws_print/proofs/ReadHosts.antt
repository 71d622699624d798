-- Hosts as they are written are read as these hosts.
use Rattle.laws_print.proofs.Common.{◌≡◌, ℕ, zero, suc, ◌+◌, ◌*◌, ◌/◌, ◌%◌, ◌^◌, ◌≤◌, ◌<◌, Bool, true, false, ◌&&◌, ◌||◌, not, List, [], ◌∷◌, ◌++◌}
use Rattle.laws_print.proofs.Common.{length, Some, None, refl, ap, ◌∙◌, arith, ◌==◌, nat_le, nat_lt, list_all, and_parts, ne_eqb, nat_tests, is_digit}
use Rattle.laws_print.proofs.Common.{has_byte, id_limit, is_nonempty_digit_string, canonical_number_up_to, parts_around_first_byte, address_of_octets, ipv4_number_of_text, dotted_address, IsIpv4AddressNumber}
use Rattle.std.proofs.Common.{get_or}
use Rattle.std.specs.Fmt.{decimal}
use Rattle.std.proofs.lemmas.Fmt.{decimal_digit, first_decimal}
use Rattle.sudoers_grammar.specs.Piece.{has_first_byte}
use Rattle.laws_print.proofs.Users.{decimal_of_id_is_read_back}
use Rattle.laws_print.proofs.Hosts.{address_number_has_octets, dotted_text_of_octets, dotted_address_is_text_of_octets}
use Rattle.laws_print.proofs.Words.{passing_byte_differs_from_failing_byte}
use Rattle.std.proofs.lemmas.Bool.{le-leb}

-- ---- bytes

-- a byte that fails the test is not among bytes that pass it
pub text_passing_test_has_no_failing_byte : (test : ℕ → Bool) (a : ℕ) (text : List ℕ) → list_all test text ≡ true → test a ≡ false → has_byte a text ≡ false
text_passing_test_has_no_failing_byte test a [] all none = refl
text_passing_test_has_no_failing_byte test a (b ∷ text) all none =
    let parts = and_parts (test b) (list_all test text) all in
    let later : has_byte a text ≡ false = text_passing_test_has_no_failing_byte test a text parts.1 none in
    rw (passing_byte_differs_from_failing_byte test a b parts.0 none, later) refl

-- ---- numbers

decimal_has_no_leading_zero : (n : ℕ) → n < 2 ^ 64 → (not (has_first_byte 48 (decimal n)) || length (decimal n) == 1) ≡ true
decimal_has_no_leading_zero zero h = ap (λ (ds : List ℕ). not (has_first_byte 48 ds) || length ds == 1) (decimal_digit 0 (omega arith))
decimal_has_no_leading_zero (suc n) h = by_text (decimal (suc n)) (first_decimal (suc n) (omega arith) h)
  where
    by_text : (ds : List ℕ) → 48 < get_or ds 0 0 → (not (has_first_byte 48 ds) || length ds == 1) ≡ true
    by_text [] lt = absurd (omega arith)
    by_text (c ∷ cs) lt = let other : (c == 48) ≡ false = ne_eqb c 48 (λ e. omega arith) in rw other refl

-- the decimal digits of a number are read as it
pub canonical_number_of_decimal_is_read_back : (limit n : ℕ) → n ≤ limit → limit ≤ id_limit → canonical_number_up_to limit (decimal n) ≡ Some n
canonical_number_of_decimal_is_read_back limit n h small =
    let is = decimal_of_id_is_read_back n (omega arith) in
    let some : nat_lt 0 (length (decimal n)) ≡ true = grind (arith, nat_tests, is.2) in
    let lead : (not (has_first_byte 48 (decimal n)) || length (decimal n) == 1) ≡ true = decimal_has_no_leading_zero n (omega arith) in
    let low : nat_le n limit ≡ true = le-leb n limit h in
    rw (some, is.1, lead, is.0, low) refl

address_octet_is_read_back : (d : ℕ) → d < 256 → canonical_number_up_to 255 (decimal d) ≡ Some d
address_octet_is_read_back d h = canonical_number_of_decimal_is_read_back 255 d (omega arith) (omega arith)

-- what is no digit ends a number
pub text_with_non_digit_is_no_number : (limit : ℕ) (x : List ℕ) (b : ℕ) (y : List ℕ) → is_digit b ≡ false → canonical_number_up_to limit (x ++ b ∷ y) ≡ None
text_with_non_digit_is_no_number limit x b y other = by_digits (is_nonempty_digit_string (x ++ b ∷ y)) refl
  where
    among : (x : List ℕ) → list_all is_digit (x ++ b ∷ y) ≡ false
    among [] = rw other refl
    among (a ∷ x) = by_first (is_digit a) (among x)
      where
        by_first : (t : Bool) → list_all is_digit (x ++ b ∷ y) ≡ false → (t && list_all is_digit (x ++ b ∷ y)) ≡ false
        by_first true h = h
        by_first false h = refl

    by_digits : (t : Bool) → is_nonempty_digit_string (x ++ b ∷ y) ≡ t → canonical_number_up_to limit (x ++ b ∷ y) ≡ None
    by_digits true e =
        absurd (let none : list_all is_digit (x ++ b ∷ y) ≡ false = among x in let all = (and_parts (nat_lt 0 (length (x ++ b ∷ y))) (list_all is_digit (x ++ b ∷ y)) e).1 in cc)
    by_digits false e = rw e refl

-- ---- parts

pub text_is_split_at_first_failing_byte : (test : ℕ → Bool) (b : ℕ) (x rest : List ℕ) → test b ≡ false → list_all test x ≡ true → parts_around_first_byte b (x ++ b ∷ rest) ≡ Some (x, rest)
text_is_split_at_first_failing_byte test b [] rest none all = let same : (b == b) ≡ true = grind (arith, nat_tests) in rw same refl
text_is_split_at_first_failing_byte test b (c ∷ x) rest none all =
    let parts = and_parts (test c) (list_all test x) all in
    let later : parts_around_first_byte b (x ++ b ∷ rest) ≡ Some (x, rest) = text_is_split_at_first_failing_byte test b x rest none parts.1 in
    rw (passing_byte_differs_from_failing_byte test b c parts.0 none, later) refl

pub decimal_is_all_digits : (n : ℕ) → n ≤ id_limit → list_all is_digit (decimal n) ≡ true
decimal_is_all_digits n h = (decimal_of_id_is_read_back n h).1

-- three parts, each before a dot, and the last
pub number_of_dotted_text_is_of_octets : (a b c : ℕ) (last : List ℕ) → a < 256 → b < 256 → c < 256 → ipv4_number_of_text (dotted_text_of_octets a b c last) ≡ address_of_octets (Some a) (Some b) (Some c) (canonical_number_up_to 255 last)
unfolding ipv4_number_of_text
number_of_dotted_text_is_of_octets a b c last ha hb hc =
    let first : parts_around_first_byte 46 (decimal a ++ (46 ∷ (decimal b ++ (46 ∷ (decimal c ++ (46 ∷ last)))))) ≡ Some (decimal a, decimal b ++ (46 ∷ (decimal c ++ (46 ∷ last)))) =
    text_is_split_at_first_failing_byte is_digit 46 (decimal a) (decimal b ++ (46 ∷ (decimal c ++ (46 ∷ last)))) refl (decimal_is_all_digits a (omega arith)) in
    let second : parts_around_first_byte 46 (decimal b ++ (46 ∷ (decimal c ++ (46 ∷ last)))) ≡ Some (decimal b, decimal c ++ (46 ∷ last)) =
    text_is_split_at_first_failing_byte is_digit 46 (decimal b) (decimal c ++ (46 ∷ last)) refl (decimal_is_all_digits b (omega arith)) in
    let third : parts_around_first_byte 46 (decimal c ++ (46 ∷ last)) ≡ Some (decimal c, last) =
    text_is_split_at_first_failing_byte is_digit 46 (decimal c) last refl (decimal_is_all_digits c (omega arith)) in
    let pa : canonical_number_up_to 255 (decimal a) ≡ Some a = address_octet_is_read_back a ha in
    let pb : canonical_number_up_to 255 (decimal b) ≡ Some b = address_octet_is_read_back b hb in
    let pc : canonical_number_up_to 255 (decimal c) ≡ Some c = address_octet_is_read_back c hc in
    rw first (rw second (rw third (rw (pa, pb, pc) refl)))

abbrev pub IsNumberOfItsOctets : ℕ → Type 0
IsNumberOfItsOctets n = ((n / 16777216 * 256 + n / 65536 % 256) * 256 + n / 256 % 256) * 256 + n % 256 ≡ n

number_is_that_of_its_octets : (n : ℕ) → IsNumberOfItsOctets n
number_is_that_of_its_octets n = omega arith

pub number_of_dotted_address_is_read_back : (n : ℕ) → IsIpv4AddressNumber n → ipv4_number_of_text (dotted_address n) ≡ Some n
number_of_dotted_address_is_read_back n h =
    let is = address_number_has_octets n h in
    ap ipv4_number_of_text (dotted_address_is_text_of_octets n)
    ∙ number_of_dotted_text_is_of_octets (n / 16777216) (n / 65536 % 256) (n / 256 % 256) (decimal (n % 256)) is.first is.second is.third
    ∙ ap (address_of_octets (Some (n / 16777216)) (Some (n / 65536 % 256)) (Some (n / 256 % 256))) (address_octet_is_read_back (n % 256) is.fourth)
    ∙ ap Some (number_is_that_of_its_octets n)
