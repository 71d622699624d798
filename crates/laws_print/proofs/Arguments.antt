-- The arguments of commands as they are written.
use Rattle.laws_print.proofs.Common.{◌≡◌, ℕ, ◌+◌, ◌<◌, Bool, true, false, ◌&&◌, not, List, [], ◌∷◌, ◌++◌, length, drop, refl, sym, ap, subst, ◌∙◌}
use Rattle.laws_print.proofs.Common.{arith, append-nil, ◌==◌, if◌then◌else◌, nat_lt, AllByRecursion, append_assoc, length-append, drop_at, not-true}
use Rattle.laws_print.proofs.Common.{and_parts, eqb-true, nat_tests, LineUnit, Pair, Byte, bytes_of_unit, size_of_one_matching_byte, first_nonzero_number, reach_of_units, leading_run_size, argument_unit_size}
use Rattle.laws_print.proofs.Common.{argument_units_size, quoted_front_to_inner_separator_size, quotes_and_run_between_size, closed_quote_size, is_path_byte, is_byte_of_include_path, is_line_end_or_empty, token_forms_in_context, context_after_token, kind_and_size_of_token}
use Rattle.laws_print.proofs.Common.{text_of_units, IsTokenCut, is_written_unit, AreWrittenUnitsOf, Command, is_pattern_unit, ArePatternUnits, is_space_unit, begins_with_other_than_space, words_with_unit_in_first}
use Rattle.laws_print.proofs.Common.{argument_words_of_units, text_of_words_joined_by_spaces}
use Rattle.sudoers_text.specs.declared.part.ByteRunKind.TheVariants as rule
use Rattle.sudoers_text.specs.declared.token.TokenKind.TheVariants as kind
use Rattle.sudoers_text.specs.declared.context.TokenContext.TheVariants as context
use Rattle.sudoers_text.specs.Unit.{is_comma_colon_or_equals}
use Rattle.sudoers_text.specs.Part.{has_given_first_byte}
use Rattle.sudoers_text.specs.Found.{argument_size}
use Rattle.laws_print.proofs.Words.{unit_after_backslash_is_pair, size_of_matching_byte_or_pair, text_of_units_is_closed, units_stand_in_text, BeginsTokenWithoutGap, plain_byte_begins_token, pair_begins_token, plain_test_byte_is_plain, text_of_units_has_no_nul, written_pair_is_no_nul_nor_break}
use Rattle.sudoers_text.proofs.Reach.{reach_without_first_unit_is_zero}

number_equals_itself : (n : ℕ) → (n == n) ≡ true
number_equals_itself n = grind (arith, nat_tests)

-- ---- words of arguments

abbrev pub HasSomeUnit : List LineUnit → Type 0
HasSomeUnit [] = ⊥
HasSomeUnit (u ∷ us) = Unit {0}

-- the words are one or more, and all but the first are not empty; nor is it where the units begin with one
pub record AreArgumentWords (us : List LineUnit) (ws : List (List LineUnit)) : Type 0 where
  pub first : List LineUnit
  pub others : List (List LineUnit)
  pub parts : ws ≡ first ∷ others
  pub some : AllByRecursion HasSomeUnit others
  pub begun : begins_with_other_than_space us ≡ true → HasSomeUnit first

words_with_first_unit_are_argument_words : (u : LineUnit) (us : List LineUnit) (ws : List (List LineUnit)) → AreArgumentWords us ws → AreArgumentWords (u ∷ us) (words_with_unit_in_first u ws)
words_with_first_unit_are_argument_words u us ws is = record { first = u ∷ is.first; others = is.others; parts = ap (words_with_unit_in_first u) is.parts; some = is.some; begun = λ h. tt }

words_behind_empty_one_are_argument_words : (u : LineUnit) (us : List LineUnit) (ws : List (List LineUnit)) → is_space_unit u ≡ true → begins_with_other_than_space us ≡ true → AreArgumentWords us ws → AreArgumentWords (u ∷ us) ([] ∷ ws)
words_behind_empty_one_are_argument_words u us ws space begins is = record {
  first = [];
  others = ws;
  parts = refl;
  some = subst (AllByRecursion HasSomeUnit) (sym is.parts) (is.begun begins, is.some);
  begun = λ h. absurd (let no : not true ≡ true = ap not (sym space) ∙ h in cc);
}

words_with_next_unit_are_argument_words : (u : LineUnit) (us : List LineUnit) (b : Bool) (t : Bool) → (is_space_unit u && (b && begins_with_other_than_space us)) ≡ t → AreArgumentWords us (argument_words_of_units false us) → AreArgumentWords us (argument_words_of_units (not (is_space_unit u)) us)
    → AreArgumentWords (u ∷ us) (if t then [] ∷ argument_words_of_units false us else words_with_unit_in_first u (argument_words_of_units (not (is_space_unit u)) us))
words_with_next_unit_are_argument_words u us b false e ended more = words_with_first_unit_are_argument_words u us (argument_words_of_units (not (is_space_unit u)) us) more
words_with_next_unit_are_argument_words u us b true e ended more =
    let parts = and_parts (is_space_unit u) (b && begins_with_other_than_space us) e in
    words_behind_empty_one_are_argument_words u us (argument_words_of_units false us) parts.0 (and_parts b (begins_with_other_than_space us) parts.1).1 ended

pub words_of_units_are_argument_words : (b : Bool) (us : List LineUnit) → AreArgumentWords us (argument_words_of_units b us)
words_of_units_are_argument_words b [] = record { first = []; others = []; parts = refl; some = tt; begun = λ h. absurd (cc) }
words_of_units_are_argument_words b (u ∷ us) = words_with_next_unit_are_argument_words u us b (is_space_unit u && (b && begins_with_other_than_space us)) refl (words_of_units_are_argument_words false us) (words_of_units_are_argument_words (not (is_space_unit u)) us)

-- ---- what they are joined to

joined_words_begin_with_first_unit : (u : LineUnit) (w : List LineUnit) (ws : List (List LineUnit)) → text_of_words_joined_by_spaces ((u ∷ w) ∷ ws) ≡ bytes_of_unit u ++ text_of_words_joined_by_spaces (w ∷ ws)
joined_words_begin_with_first_unit u w [] = refl
joined_words_begin_with_first_unit u w (v ∷ ws) = append_assoc (bytes_of_unit u) (text_of_units w) (32 ∷ text_of_words_joined_by_spaces (v ∷ ws))

joining_words_with_first_unit_adds_it : (u : LineUnit) (us : List LineUnit) (ws : List (List LineUnit)) → AreArgumentWords us ws → text_of_words_joined_by_spaces (words_with_unit_in_first u ws) ≡ bytes_of_unit u ++ text_of_words_joined_by_spaces ws
joining_words_with_first_unit_adds_it u us ws is =
    ap (λ (xs : List (List LineUnit)). text_of_words_joined_by_spaces (words_with_unit_in_first u xs)) is.parts ∙ joined_words_begin_with_first_unit u is.first is.others
    ∙ ap (λ (xs : List (List LineUnit)). bytes_of_unit u ++ text_of_words_joined_by_spaces xs) (sym is.parts)

joining_words_behind_empty_one_adds_space : (us : List LineUnit) (ws : List (List LineUnit)) → AreArgumentWords us ws → text_of_words_joined_by_spaces ([] ∷ ws) ≡ 32 ∷ text_of_words_joined_by_spaces ws
joining_words_behind_empty_one_adds_space us ws is = ap (λ (xs : List (List LineUnit)). text_of_words_joined_by_spaces ([] ∷ xs)) is.parts ∙ ap (λ (xs : List (List LineUnit)). 32 ∷ text_of_words_joined_by_spaces xs) (sym is.parts)

bytes_of_space_unit_are_space : (u : LineUnit) → is_space_unit u ≡ true → bytes_of_unit u ≡ 32 ∷ []
bytes_of_space_unit_are_space (Byte b) h = ap (λ (c : ℕ). c ∷ []) (eqb-true b 32 h)
bytes_of_space_unit_are_space u h = absurd (cc)

joining_words_with_next_unit_adds_it : (u : LineUnit) (us : List LineUnit) (b : Bool) (t : Bool) → (is_space_unit u && (b && begins_with_other_than_space us)) ≡ t → text_of_words_joined_by_spaces (argument_words_of_units false us) ≡ text_of_units us → text_of_words_joined_by_spaces (argument_words_of_units (not (is_space_unit u)) us) ≡ text_of_units us
    → text_of_words_joined_by_spaces (if t then [] ∷ argument_words_of_units false us else words_with_unit_in_first u (argument_words_of_units (not (is_space_unit u)) us)) ≡ bytes_of_unit u ++ text_of_units us
joining_words_with_next_unit_adds_it u us b false e ended more =
    joining_words_with_first_unit_adds_it u us (argument_words_of_units (not (is_space_unit u)) us) (words_of_units_are_argument_words (not (is_space_unit u)) us) ∙ ap (λ (t : List ℕ). bytes_of_unit u ++ t) more
joining_words_with_next_unit_adds_it u us b true e ended more =
    joining_words_behind_empty_one_adds_space us (argument_words_of_units false us) (words_of_units_are_argument_words false us)
    ∙ ap (λ (t : List ℕ). t ++ text_of_words_joined_by_spaces (argument_words_of_units false us)) (sym (bytes_of_space_unit_are_space u (and_parts (is_space_unit u) (b && begins_with_other_than_space us) e).0))
    ∙ ap (λ (t : List ℕ). bytes_of_unit u ++ t) ended

-- The words joined are the pattern.
pub joined_argument_words_are_text_of_units : (b : Bool) (us : List LineUnit) → text_of_words_joined_by_spaces (argument_words_of_units b us) ≡ text_of_units us
joined_argument_words_are_text_of_units b [] = refl
joined_argument_words_are_text_of_units b (u ∷ us) = joining_words_with_next_unit_adds_it u us b (is_space_unit u && (b && begins_with_other_than_space us)) refl (joined_argument_words_are_text_of_units false us) (joined_argument_words_are_text_of_units (not (is_space_unit u)) us)

-- ---- what they are made of

unit_in_first_word_keeps_patterns : (u : LineUnit) (ws : List (List LineUnit)) → is_pattern_unit Command u ≡ true → AllByRecursion (ArePatternUnits Command) ws → AllByRecursion (ArePatternUnits Command) (words_with_unit_in_first u ws)
unit_in_first_word_keeps_patterns u [] h all = ((h, tt), tt)
unit_in_first_word_keeps_patterns u (w ∷ ws) h all = ((h, all.0), all.1)

next_unit_keeps_words_patterns : (u : LineUnit) (us : List LineUnit) (t : Bool) → is_pattern_unit Command u ≡ true → AllByRecursion (ArePatternUnits Command) (argument_words_of_units false us) → AllByRecursion (ArePatternUnits Command) (argument_words_of_units (not (is_space_unit u)) us)
    → AllByRecursion (ArePatternUnits Command) (if t then [] ∷ argument_words_of_units false us else words_with_unit_in_first u (argument_words_of_units (not (is_space_unit u)) us))
next_unit_keeps_words_patterns u us false h ended more = unit_in_first_word_keeps_patterns u (argument_words_of_units (not (is_space_unit u)) us) h more
next_unit_keeps_words_patterns u us true h ended more = (tt, ended)

pub argument_words_of_pattern_are_patterns : (b : Bool) (us : List LineUnit) → ArePatternUnits Command us → AllByRecursion (ArePatternUnits Command) (argument_words_of_units b us)
argument_words_of_pattern_are_patterns b [] all = (tt, tt)
argument_words_of_pattern_are_patterns b (u ∷ us) all = next_unit_keeps_words_patterns u us (is_space_unit u && (b && begins_with_other_than_space us)) all.0 (argument_words_of_pattern_are_patterns false us all.1) (argument_words_of_pattern_are_patterns (not (is_space_unit u)) us all.1)

-- ---- an argument as a token

-- An argument ends before these bytes.
pub record EndsArgument (rest : List ℕ) : Type 0 where
  pub path : size_of_matching_byte_or_pair is_path_byte rest ≡ 0
  pub quote : has_given_first_byte 34 rest ≡ false

pub unquoted_text_begins_no_clean_run : (rest : List ℕ) → has_given_first_byte 34 rest ≡ false → quotes_and_run_between_size rule.Clean rest ≡ 0
unfolding quotes_and_run_between_size
unquoted_text_begins_no_clean_run [] h = refl
unquoted_text_begins_no_clean_run (b ∷ rest) h = let other : (b == 34) ≡ false = h in rw other refl

unquoted_text_begins_no_closed_quote : (rest : List ℕ) → has_given_first_byte 34 rest ≡ false → closed_quote_size rest ≡ 0
unfolding quotes_and_run_between_size
unquoted_text_begins_no_closed_quote [] h = refl
unquoted_text_begins_no_closed_quote (b ∷ rest) h = let other : (b == 34) ≡ false = h in rw other refl

pub unquoted_text_begins_no_broken_quote : (rest : List ℕ) → has_given_first_byte 34 rest ≡ false → quoted_front_to_inner_separator_size rest ≡ 0
unfolding quoted_front_to_inner_separator_size
unquoted_text_begins_no_broken_quote [] h = refl
unquoted_text_begins_no_broken_quote (b ∷ rest) h = rw (unquoted_text_begins_no_clean_run (b ∷ rest) h, unquoted_text_begins_no_closed_quote (b ∷ rest) h) refl

-- where paths have a unit, arguments have it too
path_unit_has_same_size_in_arguments : (u : LineUnit) (more : List ℕ) → is_written_unit is_path_byte u ≡ true → argument_unit_size (bytes_of_unit u ++ more) ≡ length (bytes_of_unit u)
path_unit_has_same_size_in_arguments (Byte b) more h = let is : is_path_byte b ≡ true = h in rw is refl
path_unit_has_same_size_in_arguments (Pair c) more h = let is = (written_pair_is_no_nul_nor_break c h).1 in let cr : (c == 13) ≡ false = is.cr in rw (unit_after_backslash_is_pair c more is) (rw cr refl)
path_unit_has_same_size_in_arguments u more h = absurd (cc)

argument_reach_passes_path_unit : (u : LineUnit) (more : List ℕ) → is_written_unit is_path_byte u ≡ true → reach_of_units argument_unit_size 0 (bytes_of_unit u ++ more) ≡ length (bytes_of_unit u) + reach_of_units argument_unit_size 0 more
argument_reach_passes_path_unit (Byte b) more h = rw (path_unit_has_same_size_in_arguments (Byte b) more h) (omega arith)
argument_reach_passes_path_unit (Pair c) more h = rw (path_unit_has_same_size_in_arguments (Pair c) more h) (omega arith)
argument_reach_passes_path_unit u more h = absurd (cc)

argument_reach_passes_path_units : (us : List LineUnit) (more : List ℕ) → AreWrittenUnitsOf is_path_byte us → reach_of_units argument_unit_size 0 (text_of_units us ++ more) ≡ length (text_of_units us) + reach_of_units argument_unit_size 0 more
argument_reach_passes_path_units [] more all = omega arith
argument_reach_passes_path_units (u ∷ us) more all =
    ap (reach_of_units argument_unit_size 0) (append_assoc (bytes_of_unit u) (text_of_units us) more) ∙ argument_reach_passes_path_unit u (text_of_units us ++ more) all.0
    ∙ omega (arith, argument_reach_passes_path_units us more all.1, length-append (bytes_of_unit u) (text_of_units us))

size_of_argument_units_is_text_length : (us : List LineUnit) (rest : List ℕ) → AreWrittenUnitsOf is_path_byte us → EndsArgument rest → argument_units_size (text_of_units us ++ rest) ≡ length (text_of_units us)
unfolding argument_units_size
size_of_argument_units_is_text_length us rest all ends =
    let none : argument_unit_size rest ≡ 0 = ap (λ (n : ℕ). first_nonzero_number n (quotes_and_run_between_size rule.Clean rest)) ends.path ∙ unquoted_text_begins_no_clean_run rest ends.quote in
    omega (arith, argument_reach_passes_path_units us rest all, reach_without_first_unit_is_zero argument_unit_size rest none)

argument_size_is_text_length : (us : List LineUnit) (rest : List ℕ) → AreWrittenUnitsOf is_path_byte us → EndsArgument rest → argument_size (text_of_units us ++ rest) ≡ length (text_of_units us)
unfolding argument_size
argument_size_is_text_length us rest all ends =
    let whole = size_of_argument_units_is_text_length us rest all ends in
    let left : quoted_front_to_inner_separator_size (drop (argument_units_size (text_of_units us ++ rest)) (text_of_units us ++ rest)) ≡ 0 =
    ap (λ (n : ℕ). quoted_front_to_inner_separator_size (drop n (text_of_units us ++ rest))) whole ∙ ap quoted_front_to_inner_separator_size (drop_at (text_of_units us) rest (length (text_of_units us)) refl) ∙ unquoted_text_begins_no_broken_quote rest ends.quote in
    omega (arith, whole, left)

-- how an argument begins
pub record HasArgumentAtFront (us : List LineUnit) (rest : List ℕ) : Type 0 where
  pub byte : ℕ
  pub more : List ℕ
  pub whole : text_of_units us ++ rest ≡ byte ∷ more
  pub separator : is_comma_colon_or_equals byte ≡ false
  pub place : BeginsTokenWithoutGap (byte ∷ more)
  pub some : 0 < length (text_of_units us)

path_units_stand_as_argument : (us : List LineUnit) (rest : List ℕ) → HasSomeUnit us → AreWrittenUnitsOf is_path_byte us → HasArgumentAtFront us rest
path_units_stand_as_argument [] rest some all = absurd some
path_units_stand_as_argument (Byte b ∷ us) rest some all = record {
  byte = b;
  more = text_of_units us ++ rest;
  whole = refl;
  separator = not-true _ (and_parts (is_byte_of_include_path b) (not (is_comma_colon_or_equals b)) all.0).1;
  place = plain_byte_begins_token b (text_of_units us ++ rest) (plain_test_byte_is_plain is_path_byte refl b all.0);
  some = omega arith;
}
path_units_stand_as_argument (Pair c ∷ us) rest some all = record {
  byte = 92;
  more = c ∷ (text_of_units us ++ rest);
  whole = refl;
  separator = refl;
  place = pair_begins_token c (text_of_units us ++ rest) (written_pair_is_no_nul_nor_break c all.0).1;
  some = omega arith;
}
path_units_stand_as_argument us rest some all = absurd (let h = all.0 in cc)

argument_units_are_found_as_arg : (i first : Bool) (us : List LineUnit) (rest : List ℕ) → HasSomeUnit us → AreWrittenUnitsOf is_path_byte us → EndsArgument rest → kind_and_size_of_token (token_forms_in_context context.Arguments) i first (text_of_units us ++ rest) ≡ (kind.Arg, length (text_of_units us))
argument_units_are_found_as_arg i first us rest some all ends =
    let is = path_units_stand_as_argument us rest some all in
    let separator : size_of_one_matching_byte is_comma_colon_or_equals (text_of_units us ++ rest) ≡ 0 = ap (size_of_one_matching_byte is_comma_colon_or_equals) is.whole ∙ ap (λ (t : Bool). if t then 1 else 0) is.separator in
    let size : argument_size (text_of_units us ++ rest) ≡ length (text_of_units us) = argument_size_is_text_length us rest all ends in
    let positive : nat_lt 0 (length (text_of_units us)) ≡ true = grind (arith, nat_tests, is.some) in
    rw (separator, size, positive) refl

-- An argument is one token.
pub argument_units_are_cut : (us : List LineUnit) (rest : List ℕ) (item : Bool) → HasSomeUnit us → AreWrittenUnitsOf is_path_byte us → EndsArgument rest → IsTokenCut context.Arguments item false kind.Arg us rest
argument_units_are_cut us rest item some all ends =
    let is = path_units_stand_as_argument us rest some all in
    record {
      found = λ i first possible. argument_units_are_found_as_arg i first us rest some all ends;
      no_gap = ap (λ (bytes : List ℕ). leading_run_size rule.Gap bytes) is.whole ∙ is.place.no_gap;
      more = ap is_line_end_or_empty is.whole ∙ is.place.more;
      some = is.some;
      closed = text_of_units_is_closed is_path_byte refl us all;
      clean = text_of_units_has_no_nul is_path_byte refl us all;
      leaves = λ before begins none. absurd (cc);
      stand = λ before more begins. units_stand_in_text is_path_byte refl before us (rest ++ more) all;
      leaves_units = λ before begins none. absurd (cc);
    }

pub argument_keeps_argument_context : (us : List LineUnit) (rest : List ℕ) → AreWrittenUnitsOf is_path_byte us → context_after_token context.Arguments kind.Arg (text_of_units us) rest ≡ context.Arguments
argument_keeps_argument_context us rest all =
    let whole : argument_units_size (text_of_units us) ≡ length (text_of_units us) = ap argument_units_size (sym (append-nil (text_of_units us))) ∙ size_of_argument_units_is_text_length us [] all (record { path = refl; quote = refl }) in
    rw whole (rw (number_equals_itself (length (text_of_units us))) refl)

-- `""`
pub size_of_empty_quotes_argument_is_two : (rest : List ℕ) → EndsArgument rest → argument_size (34 ∷ 34 ∷ rest) ≡ 2
unfolding leading_run_size argument_units_size quotes_and_run_between_size argument_size
size_of_empty_quotes_argument_is_two rest ends =
    let none : argument_unit_size rest ≡ 0 = ap (λ (n : ℕ). first_nonzero_number n (quotes_and_run_between_size rule.Clean rest)) ends.path ∙ unquoted_text_begins_no_clean_run rest ends.quote in
    let whole : reach_of_units argument_unit_size 0 rest ≡ 0 = reach_without_first_unit_is_zero argument_unit_size rest none in
    rw (whole, unquoted_text_begins_no_broken_quote rest ends.quote) refl
