-- Hosts as they are written are read as these hosts, but for a backslash before the first byte.
use Rattle.laws_print.proofs.Common.{◌≡◌, ◌≢◌, ℕ, ◌<◌, Bool, true, false, ◌&&◌, ◌||◌, List, [], ◌∷◌, ◌++◌, length, Some, None, refl, sym, ap, subst}
use Rattle.laws_print.proofs.Common.{◌∙◌, arith, append-nil, ◌/◌, ◌%◌, ◌==◌, if◌then◌else◌, codes, nat_le, option_map, list_all, and_parts}
use Rattle.laws_print.proofs.Common.{eqb-true, append_assoc, is_digit, is_word_byte, is_upper, is_name, is_alias_byte, Mask, has_byte, canonical_number_up_to}
use Rattle.laws_print.proofs.Common.{parts_around_first_byte, address_of_octets, ipv4_number_of_text, network_mask_of_text, mask_of_bits_or_address, network_atom_of_text, is_network_like_text, some_if_not_empty, address_network_or_host_atom, host_atom_without_escapes}
use Rattle.laws_print.proofs.Common.{host_atom_of_token, dotted_address, printed_mask_without_slash, IsIpv4AddressNumber, IsWritableMask}
use Rattle.std.specs.Fmt.{decimal}
use Rattle.sudoers_text.specs.declared.token.TokenKind.TheVariants as kind
use Rattle.sudoers_grammar.specs.declared.node.Atom.TheVariants as atom
use Rattle.sudoers_grammar.specs.declared.node.Mask.TheVariants as mask
use Rattle.laws_print.specs.Writable.{IsAliasName}
use Rattle.laws_print.proofs.Users.{nonempty_name_is_some_name, decimal_of_id_is_read_back}
use Rattle.laws_print.proofs.UserCuts.{name_is_nonempty_alias_bytes}
use Rattle.laws_print.proofs.Hosts.{address_number_has_octets, dotted_text_of_octets, dotted_address_is_text_of_octets, dotted_address_is_word_bytes, appended_texts_pass_test, digit_is_word_byte}
use Rattle.laws_print.proofs.ReadHosts.{text_passing_test_has_no_failing_byte, text_with_non_digit_is_no_number, text_is_split_at_first_failing_byte, canonical_number_of_decimal_is_read_back, number_of_dotted_text_is_of_octets, number_of_dotted_address_is_read_back, decimal_is_all_digits}
use Rattle.laws_print.proofs.Words.{passing_byte_differs_from_failing_byte}
use Rattle.std.proofs.lemmas.Bool.{leb-true}

-- ---- names

alias_name_has_no_backslash : (name : List ℕ) → is_name name ≡ true → has_byte 92 name ≡ false
alias_name_has_no_backslash name is = text_passing_test_has_no_failing_byte is_alias_byte 92 name (name_is_nonempty_alias_bytes name is).1 refl

pub host_token_all_is_read_as_all : host_atom_of_token kind.Word (codes "ALL") ≡ Some atom.All
unfolding host_atom_of_token host_atom_without_escapes
host_token_all_is_read_as_all = refl

pub host_alias_name_is_read_back : (name : List ℕ) → IsAliasName name → host_atom_of_token kind.Word name ≡ Some (atom.Alias name)
unfolding host_atom_of_token host_atom_without_escapes
host_alias_name_is_read_back name is =
    let bare : has_byte 92 name ≡ false = alias_name_has_no_backslash name is.0 in
    rw (bare, is.1, is.0) refl

pub host_netgroup_is_read_back : (name : List ℕ) → name ≢ [] → list_all is_word_byte name ≡ true → host_atom_of_token kind.Word (43 ∷ name) ≡ Some (atom.Netgroup name)
unfolding host_atom_of_token host_atom_without_escapes
host_netgroup_is_read_back name some all =
    let bare : has_byte 92 name ≡ false = text_passing_test_has_no_failing_byte is_word_byte 92 name all refl in
    let same : some_if_not_empty name ≡ Some name = nonempty_name_is_some_name name some in
    rw (bare, same) refl

-- ---- addresses and networks

-- a text of digits, dots and slashes that begins with a digit
pub record BeginsWithDigitWithoutBackslash (text : List ℕ) : Type 0 where
  pub digit : ℕ
  pub more : List ℕ
  pub whole : text ≡ digit ∷ more
  pub is : is_digit digit ≡ true
  pub bare : has_byte 92 text ≡ false

text_with_leading_digits_begins_with_digit : (digits more : List ℕ) → list_all is_digit digits ≡ true → 0 < length digits → list_all is_word_byte (digits ++ more) ≡ true → BeginsWithDigitWithoutBackslash (digits ++ more)
text_with_leading_digits_begins_with_digit [] more all some words = absurd (omega arith)
text_with_leading_digits_begins_with_digit (d ∷ ds) more all some words = record {
  digit = d;
  more = ds ++ more;
  whole = refl;
  is = (and_parts (is_digit d) (list_all is_digit ds) all).0;
  bare = text_passing_test_has_no_failing_byte is_word_byte 92 (d ∷ (ds ++ more)) words refl;
}

unescaped_digit_text_is_address_or_host : (d : ℕ) (more : List ℕ) → is_digit d ≡ true → host_atom_without_escapes (d ∷ more) ≡ address_network_or_host_atom (d ∷ more) (ipv4_number_of_text (d ∷ more))
unfolding host_atom_without_escapes
unescaped_digit_text_is_address_or_host d more is =
    let upper : is_upper d ≡ false = digit_upper d is in
    rw (passing_byte_differs_from_failing_byte is_digit 65 d is refl, upper, passing_byte_differs_from_failing_byte is_digit 43 d is refl) refl
  where
    digit_upper : (d : ℕ) → is_digit d ≡ true → is_upper d ≡ false
    digit_upper d is = by_upper (is_upper d) refl
      where
        by_upper : (t : Bool) → is_upper d ≡ t → is_upper d ≡ false
        by_upper false e = e
        by_upper true e =
            let low = leb-true 65 d (and_parts (nat_le 65 d) (nat_le d 90) e).0 in
            let high = leb-true d 57 (and_parts (nat_le 48 d) (nat_le d 57) is).1 in
            absurd (omega (arith, low, high))

numeric_token_is_address_or_host : (text : List ℕ) → BeginsWithDigitWithoutBackslash text → host_atom_of_token kind.Word text ≡ address_network_or_host_atom text (ipv4_number_of_text text)
unfolding host_atom_of_token
numeric_token_is_address_or_host text is =
    rw is.bare (ap host_atom_without_escapes is.whole ∙ unescaped_digit_text_is_address_or_host is.digit is.more is.is ∙ ap (λ (t : List ℕ). address_network_or_host_atom t (ipv4_number_of_text t)) (sym is.whole))

dotted_address_text_begins_with_digit : (n : ℕ) → IsIpv4AddressNumber n → (rest : List ℕ) → list_all is_word_byte (dotted_address n ++ rest) ≡ true → BeginsWithDigitWithoutBackslash (dotted_address n ++ rest)
dotted_address_text_begins_with_digit n h rest words =
    let is = decimal_of_id_is_read_back (n / 16777216) (omega (arith, (address_number_has_octets n h).first)) in
    let tail = 46 ∷ (decimal (n / 65536 % 256) ++ (46 ∷ (decimal (n / 256 % 256) ++ (46 ∷ decimal (n % 256))))) in
    let whole : dotted_address n ++ rest ≡ decimal (n / 16777216) ++ (tail ++ rest) = ap (λ (t : List ℕ). t ++ rest) (dotted_address_is_text_of_octets n) ∙ append_assoc (decimal (n / 16777216)) tail rest in
    subst BeginsWithDigitWithoutBackslash (sym whole) (text_with_leading_digits_begins_with_digit (decimal (n / 16777216)) (tail ++ rest) is.1 is.2 (ap (list_all is_word_byte) (sym whole) ∙ words))

pub dotted_address_is_read_back : (n : ℕ) → IsIpv4AddressNumber n → host_atom_of_token kind.Word (dotted_address n) ≡ Some (atom.Address (record { number = n }))
dotted_address_is_read_back n h =
    let whole : dotted_address n ++ [] ≡ dotted_address n = append-nil (dotted_address n) in
    let is = subst BeginsWithDigitWithoutBackslash whole (dotted_address_text_begins_with_digit n h [] (ap (list_all is_word_byte) whole ∙ dotted_address_is_word_bytes n h)) in
    numeric_token_is_address_or_host (dotted_address n) is ∙ ap (address_network_or_host_atom (dotted_address n)) (number_of_dotted_address_is_read_back n h)

-- ---- masks

dotted_address_is_no_bit_count : (n : ℕ) → canonical_number_up_to 32 (dotted_address n) ≡ None
dotted_address_is_no_bit_count n = ap (canonical_number_up_to 32) (dotted_address_is_text_of_octets n) ∙ text_with_non_digit_is_no_number 32 (decimal (n / 16777216)) 46 (decimal (n / 65536 % 256) ++ (46 ∷ (decimal (n / 256 % 256) ++ (46 ∷ decimal (n % 256))))) refl

printed_mask_is_read_back : (m : Mask) → IsWritableMask m → network_mask_of_text (printed_mask_without_slash m) ≡ Some m
unfolding network_mask_of_text
printed_mask_is_read_back (mask.Bits bits) h = ap (mask_of_bits_or_address (decimal bits)) (canonical_number_of_decimal_is_read_back 32 bits h (omega arith))
printed_mask_is_read_back (mask.Dotted a) h =
    ap (mask_of_bits_or_address (dotted_address a.number)) (dotted_address_is_no_bit_count a.number) ∙ ap (option_map (λ n. mask.Dotted (record { number = n }))) (number_of_dotted_address_is_read_back a.number h)

-- a digit or a dot
abbrev pub is_digit_or_dot : ℕ → Bool
is_digit_or_dot b = is_digit b || b == 46

abbrev pub is_digit_dot_or_slash : ℕ → Bool
is_digit_dot_or_slash b = is_digit b || b == 46 || b == 47

pub digits_pass_test_that_each_digit_passes : (test : ℕ → Bool) → ((b : ℕ) → is_digit b ≡ true → test b ≡ true) → (ds : List ℕ) → list_all is_digit ds ≡ true → list_all test ds ≡ true
digits_pass_test_that_each_digit_passes test all [] h = refl
digits_pass_test_that_each_digit_passes test all (d ∷ ds) h =
    let parts = and_parts (is_digit d) (list_all is_digit ds) h in
    let is : test d ≡ true = all d parts.0 in
    let later : list_all test ds ≡ true = digits_pass_test_that_each_digit_passes test all ds parts.1 in
    rw (is, later) refl

-- digits and dots pass a test that digits and dots pass
pub dotted_address_passes_test_of_its_bytes : (test : ℕ → Bool) → ((b : ℕ) → is_digit b ≡ true → test b ≡ true) → test 46 ≡ true → (n : ℕ) → IsIpv4AddressNumber n → list_all test (dotted_address n) ≡ true
dotted_address_passes_test_of_its_bytes test all dot n h =
    let is = address_number_has_octets n h in
    let fourth : list_all test (46 ∷ decimal (n % 256)) ≡ true = with_dot (decimal (n % 256)) (part (n % 256) is.fourth) in
    let third : list_all test (46 ∷ (decimal (n / 256 % 256) ++ (46 ∷ decimal (n % 256)))) ≡ true = with_dot (decimal (n / 256 % 256) ++ (46 ∷ decimal (n % 256))) (appended_texts_pass_test test (decimal (n / 256 % 256)) (46 ∷ decimal (n % 256)) (part (n / 256 % 256) is.third) fourth) in
    let rest = decimal (n / 65536 % 256) ++ (46 ∷ (decimal (n / 256 % 256) ++ (46 ∷ decimal (n % 256)))) in
    let second : list_all test (46 ∷ rest) ≡ true = with_dot rest (appended_texts_pass_test test (decimal (n / 65536 % 256)) (46 ∷ (decimal (n / 256 % 256) ++ (46 ∷ decimal (n % 256)))) (part (n / 65536 % 256) is.second) third) in
    ap (list_all test) (dotted_address_is_text_of_octets n) ∙ appended_texts_pass_test test (decimal (n / 16777216)) (46 ∷ rest) (part (n / 16777216) is.first) second
  where
    part : (d : ℕ) → d < 256 → list_all test (decimal d) ≡ true
    part d small = digits_pass_test_that_each_digit_passes test all (decimal d) (decimal_is_all_digits d (omega arith))

    with_dot : (x : List ℕ) → list_all test x ≡ true → list_all test (46 ∷ x) ≡ true
    with_dot x h = rw (dot, h) refl

digit_is_digit_or_dot : (b : ℕ) → is_digit b ≡ true → is_digit_or_dot b ≡ true
digit_is_digit_or_dot b h = rw h refl

digit_is_digit_dot_or_slash : (b : ℕ) → is_digit b ≡ true → is_digit_dot_or_slash b ≡ true
digit_is_digit_dot_or_slash b h = rw h refl

printed_mask_is_digits_dots_slashes : (m : Mask) → IsWritableMask m → list_all is_digit_dot_or_slash (printed_mask_without_slash m) ≡ true
printed_mask_is_digits_dots_slashes (mask.Bits bits) h = digits_pass_test_that_each_digit_passes is_digit_dot_or_slash digit_is_digit_dot_or_slash (decimal bits) (decimal_is_all_digits bits (omega arith))
printed_mask_is_digits_dots_slashes (mask.Dotted a) h = dotted_address_passes_test_of_its_bytes is_digit_dot_or_slash digit_is_digit_dot_or_slash refl a.number h

-- with a mask it is no address
dotted_address_with_slash_is_no_address : (n : ℕ) → IsIpv4AddressNumber n → (rest : List ℕ) → ipv4_number_of_text (dotted_address n ++ (47 ∷ rest)) ≡ None
dotted_address_with_slash_is_no_address n h rest =
    let is = address_number_has_octets n h in
    let a = decimal (n / 16777216) in
    let b = decimal (n / 65536 % 256) in
    let c = decimal (n / 256 % 256) in
    let d = decimal (n % 256) in
    let whole : dotted_address n ++ (47 ∷ rest) ≡ dotted_text_of_octets (n / 16777216) (n / 65536 % 256) (n / 256 % 256) (d ++ (47 ∷ rest)) = ap (λ (t : List ℕ). t ++ (47 ∷ rest)) (dotted_address_is_text_of_octets n) ∙ apart a b c d (47 ∷ rest) in
    ap ipv4_number_of_text whole ∙ number_of_dotted_text_is_of_octets (n / 16777216) (n / 65536 % 256) (n / 256 % 256) (d ++ (47 ∷ rest)) is.first is.second is.third
    ∙ ap (address_of_octets (Some (n / 16777216)) (Some (n / 65536 % 256)) (Some (n / 256 % 256))) (text_with_non_digit_is_no_number 255 d 47 rest refl)
  where
    apart : (a b c d r : List ℕ) → (a ++ (46 ∷ (b ++ (46 ∷ (c ++ (46 ∷ d)))))) ++ r ≡ a ++ (46 ∷ (b ++ (46 ∷ (c ++ (46 ∷ (d ++ r))))))
    apart a b c d r = simp append_assoc

text_around_slash_has_slash : (x y : List ℕ) → has_byte 47 (x ++ (47 ∷ y)) ≡ true
text_around_slash_has_slash [] y = refl
text_around_slash_has_slash (b ∷ x) y = by_first (b == 47) (text_around_slash_has_slash x y)
  where
    by_first : (t : Bool) → has_byte 47 (x ++ (47 ∷ y)) ≡ true → (t || has_byte 47 (x ++ (47 ∷ y))) ≡ true
    by_first true h = refl
    by_first false h = h

network_text_is_read_back : (n : ℕ) (m : Mask) → IsIpv4AddressNumber n → IsWritableMask m → network_atom_of_text (dotted_address n ++ (47 ∷ printed_mask_without_slash m)) ≡ Some (atom.Network (record { number = n }) m)
unfolding network_atom_of_text
network_text_is_read_back n m h is =
    let split : parts_around_first_byte 47 (dotted_address n ++ (47 ∷ printed_mask_without_slash m)) ≡ Some (dotted_address n, printed_mask_without_slash m) = text_is_split_at_first_failing_byte is_digit_or_dot 47 (dotted_address n) (printed_mask_without_slash m) refl (dotted_address_passes_test_of_its_bytes is_digit_or_dot digit_is_digit_or_dot refl n h) in
    let address : ipv4_number_of_text (dotted_address n) ≡ Some n = number_of_dotted_address_is_read_back n h in
    let own : network_mask_of_text (printed_mask_without_slash m) ≡ Some m = printed_mask_is_read_back m is in
    rw split (rw address (rw own refl))

pub network_token_is_read_back : (n : ℕ) (m : Mask) → IsIpv4AddressNumber n → IsWritableMask m → host_atom_of_token kind.Word (dotted_address n ++ (47 ∷ printed_mask_without_slash m)) ≡ Some (atom.Network (record { number = n }) m)
network_token_is_read_back n m h is =
    let text = dotted_address n ++ (47 ∷ printed_mask_without_slash m) in
    let slashes : list_all is_digit_dot_or_slash text ≡ true = appended_texts_pass_test is_digit_dot_or_slash (dotted_address n) (47 ∷ printed_mask_without_slash m) (dotted_address_passes_test_of_its_bytes is_digit_dot_or_slash digit_is_digit_dot_or_slash refl n h) (printed_mask_is_digits_dots_slashes m is) in
    let slashed : is_network_like_text text ≡ true = both (list_all is_digit_dot_or_slash text) (has_byte 47 text) slashes (text_around_slash_has_slash (dotted_address n) (printed_mask_without_slash m)) in
    let numbers : BeginsWithDigitWithoutBackslash text = dotted_address_text_begins_with_digit n h (47 ∷ printed_mask_without_slash m) (words_of text slashes) in
    numeric_token_is_address_or_host text numbers ∙ ap (address_network_or_host_atom text) (dotted_address_with_slash_is_no_address n h (printed_mask_without_slash m))
    ∙ ap (λ (t : Bool). if t then network_atom_of_text text else Some (atom.Host text)) slashed ∙ network_text_is_read_back n m h is
  where
    both : (x y : Bool) → x ≡ true → y ≡ true → (x && y) ≡ true
    both x y hx hy = rw (hx, hy) refl

    slash_word : (b : ℕ) → is_digit_dot_or_slash b ≡ true → is_word_byte b ≡ true
    slash_word b h = by_digit (is_digit b) refl
      where
        by_digit : (t : Bool) → is_digit b ≡ t → is_word_byte b ≡ true
        by_digit true e = digit_is_word_byte b e
        by_digit false e = by_dot (b == 46) refl
          where
            by_dot : (t : Bool) → (b == 46) ≡ t → is_word_byte b ≡ true
            by_dot true f = ap is_word_byte (eqb-true b 46 f)
            by_dot false f = ap is_word_byte (eqb-true b 47 (ap (λ (t : Bool). t || b == 47) (sym f) ∙ (ap (λ (t : Bool). t || b == 46 || b == 47) (sym e) ∙ h)))

    words_of : (x : List ℕ) → list_all is_digit_dot_or_slash x ≡ true → list_all is_word_byte x ≡ true
    words_of [] h = refl
    words_of (b ∷ x) h =
        let parts = and_parts (is_digit_dot_or_slash b) (list_all is_digit_dot_or_slash x) h in
        both (is_word_byte b) (list_all is_word_byte x) (slash_word b parts.0) (words_of x parts.1)
