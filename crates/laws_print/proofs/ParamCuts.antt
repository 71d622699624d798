-- The parameters of a Defaults line as they are written are tokens of the line.
use Rattle.laws_print.proofs.Common.{◌≡◌, ◌≢◌, ℕ, suc, ◌+◌, ◌<◌, Bool, true, false, ◌||◌, not, List, [], ◌∷◌, ◌++◌, length, drop, Some, refl, sym, ap}
use Rattle.laws_print.proofs.Common.{subst, ◌∙◌, arith, append-nil, ◌==◌, if◌then◌else◌, nat_lt, list_all, append_assoc, length-append, drop_at}
use Rattle.laws_print.proofs.Common.{and_parts, nat_tests, TokenContext, LineUnit, Pair, Quoted, Byte, is_id_position_after_units, size_of_one_matching_byte, reach_of_units, leading_run_size, run_unit_size}
use Rattle.laws_print.proofs.Common.{quotes_and_run_between_size, closed_quote_size, is_byte_of_include_path, is_word_byte, is_byte_of_parameter_name, units_with_those_of_bytes, is_line_end_or_empty, token_forms_in_context, context_after_token}
use Rattle.laws_print.proofs.Common.{token_forms_of_parameters, TokenForm, Mark, Run, CommentPart, kind_and_size_of_token, is_control, defaults_operator_mark, is_byte_without_quotes, is_value_without_quotes}
use Rattle.laws_print.proofs.Common.{is_quotable_value, text_of_units, IsClosedText, IsTokenCut, HasNoNul, AreWrittenUnitsOf, units_of_spelled_word}
use Rattle.sudoers_text.specs.declared.part.ByteRunKind.TheVariants as rule
use Rattle.sudoers_text.specs.declared.token.TokenKind.TheVariants as kind
use Rattle.sudoers_text.specs.declared.context.TokenContext.TheVariants as context
use Rattle.sudoers_text.specs.Unit.{rest_of_quoted_part}
use Rattle.sudoers_text.specs.Part.{is_punct, is_value_byte}
use Rattle.sudoers_text.specs.Context.{is_comma}
use Rattle.sudoers_text.specs.Piece.{plus_or_minus_equals_size}
use Rattle.sudoers_grammar.specs.declared.node.Operator.{Operator}
use Rattle.sudoers_grammar.specs.declared.node.Operator.TheVariants as operator
use Rattle.laws_print.proofs.Units.{units_of_plain_bytes}
use Rattle.laws_print.proofs.DefaultsTokens.{units_of_parameter_value}
use Rattle.laws_print.proofs.Words.{plain_byte_stands_as_unit, size_of_matching_byte_or_pair, run_reach_of_units_is_their_length, text_of_units_is_closed, units_stand_in_text, successor_is_above_zero, BeginsTokenWithoutGap, plain_byte_begins_token, pair_begins_token, passing_byte_differs_from_failing_byte}
use Rattle.laws_print.proofs.Words.{plain_test_byte_is_plain, bytes_passing_test_are_units_of_it, units_of_test_pass_weaker_test, tested_byte_is_no_nul_nor_backslash, is_byte_no_nul_nor_backslash, text_of_units_has_no_nul, written_pair_is_no_nul_nor_break, plain_test_byte_is_include_path_byte}
use Rattle.laws_print.proofs.Values.{units_of_spelled_word_are_word_units}
use Rattle.laws_print.proofs.Users.{text_of_plain_units_is_bytes, word_units_have_front_of_spelled_word}
use Rattle.laws_print.proofs.UserCuts.{found_punctuation_is_cut, spelled_word_front_is_not_empty}
use Rattle.laws_print.proofs.Ones.{byte_reach_of_matching_bytes_is_length, matching_plain_bytes_are_cut}

-- ---- names

name_byte_begins_no_operator : (b : ℕ) (rest : List ℕ) → is_byte_of_parameter_name b ≡ true → plus_or_minus_equals_size (b ∷ rest) ≡ 0
unfolding plus_or_minus_equals_size
name_byte_begins_no_operator b [] h = refl
name_byte_begins_no_operator b (c ∷ rest) h =
    rw (passing_byte_differs_from_failing_byte is_byte_of_parameter_name 43 b h refl, passing_byte_differs_from_failing_byte is_byte_of_parameter_name 45 b h refl) refl

parameter_name_is_found_as_name : (i first : Bool) (b : ℕ) (name rest : List ℕ) → list_all is_byte_of_parameter_name (b ∷ name) ≡ true → size_of_one_matching_byte is_byte_of_parameter_name rest ≡ 0 → kind_and_size_of_token token_forms_of_parameters i first (b ∷ (name ++ rest)) ≡ (kind.Name, suc (length name))
unfolding leading_run_size
parameter_name_is_found_as_name i first b name rest all ends =
    let h = (and_parts (is_byte_of_parameter_name b) (list_all is_byte_of_parameter_name name) all).0 in
    let none : plus_or_minus_equals_size (b ∷ (name ++ rest)) ≡ 0 = name_byte_begins_no_operator b (name ++ rest) h in
    let size : reach_of_units (size_of_one_matching_byte is_byte_of_parameter_name) 0 (b ∷ (name ++ rest)) ≡ suc (length name) = byte_reach_of_matching_bytes_is_length is_byte_of_parameter_name (b ∷ name) rest all ends in
    let positive : nat_lt 0 (suc (length name)) ≡ true = successor_is_above_zero (length name) in
    rw (passing_byte_differs_from_failing_byte is_byte_of_parameter_name 33 b h refl, passing_byte_differs_from_failing_byte is_byte_of_parameter_name 44 b h refl, passing_byte_differs_from_failing_byte is_byte_of_parameter_name 61 b h refl, none) (name_next i first b name rest size positive)
  where
    name_next : (i first : Bool) (b : ℕ) (name rest : List ℕ) → reach_of_units (size_of_one_matching_byte is_byte_of_parameter_name) 0 (b ∷ (name ++ rest)) ≡ suc (length name) → nat_lt 0 (suc (length name)) ≡ true
        → (if nat_lt 0 (leading_run_size rule.Name (b ∷ (name ++ rest))) then (kind.Name, leading_run_size rule.Name (b ∷ (name ++ rest))) else kind_and_size_of_token (CommentPart ∷ []) i first (b ∷ (name ++ rest))) ≡ (kind.Name, suc (length name))
    name_next i first b name rest size positive = ap (λ (n : ℕ). if nat_lt 0 n then (kind.Name, n) else kind_and_size_of_token (CommentPart ∷ []) i first (b ∷ (name ++ rest))) size ∙ rw positive refl

pub parameter_name_is_cut : (here : TokenContext) (item : Bool) (name rest : List ℕ) → token_forms_in_context here ≡ token_forms_of_parameters → name ≢ [] → list_all is_byte_of_parameter_name name ≡ true → size_of_one_matching_byte is_byte_of_parameter_name rest ≡ 0 → IsTokenCut here item false kind.Name (units_of_plain_bytes name) rest
parameter_name_is_cut here item [] rest params some all ends = absurd (some refl)
parameter_name_is_cut here item (b ∷ name) rest params some all ends =
    matching_plain_bytes_are_cut is_byte_of_parameter_name refl here item kind.Name b name rest all
    (λ i first. ap (λ (fs : List TokenForm). kind_and_size_of_token fs i first (b ∷ (name ++ rest))) params ∙ parameter_name_is_found_as_name i first b name rest all ends)

-- ---- operators

byte_and_equals_operator_is_cut : (b : ℕ) (rest : List ℕ) → is_byte_of_include_path b ≡ true → ((i first : Bool) → kind_and_size_of_token token_forms_of_parameters i first (b ∷ 61 ∷ rest) ≡ (kind.Punct, 2)) → ((before : List LineUnit) → is_id_position_after_units (units_with_those_of_bytes before (b ∷ 61 ∷ [])) ≡ true) → IsTokenCut context.Parameter false true kind.Punct (Byte b ∷ Byte 61 ∷ []) rest
byte_and_equals_operator_is_cut b rest is told item =
    let plain = plain_test_byte_is_plain is_byte_of_include_path refl b is in
    let there = plain_byte_begins_token b (61 ∷ rest) plain in
    record {
      found = λ i first possible. told i first;
      no_gap = there.no_gap;
      more = there.more;
      some = omega arith;
      closed = text_of_units_is_closed is_byte_of_include_path refl (Byte b ∷ Byte 61 ∷ []) (is, (refl, tt));
      clean = text_of_units_has_no_nul is_byte_of_include_path refl (Byte b ∷ Byte 61 ∷ []) (is, (refl, tt));
      leaves = λ before begins none. item before;
      stand = λ before more begins. (plain_byte_stands_as_unit before b (61 ∷ (rest ++ more)) plain, (refl, tt));
      leaves_units = λ before begins none. refl;
    }

pub operator_mark_is_cut : (o : Operator) (rest : List ℕ) → IsTokenCut context.Parameter false true kind.Punct (units_of_plain_bytes (defaults_operator_mark o)) rest
unfolding plus_or_minus_equals_size
operator_mark_is_cut operator.Set rest = found_punctuation_is_cut context.Parameter false true 61 rest (λ i first. refl) refl (λ before begins none. refl)
operator_mark_is_cut operator.Add rest = byte_and_equals_operator_is_cut 43 rest refl (λ i first. refl) (λ before. refl)
operator_mark_is_cut operator.Remove rest = byte_and_equals_operator_is_cut 45 rest refl (λ i first. refl) (λ before. refl)

pub value_context_follows_operator : (o : Operator) (rest : List ℕ) → context_after_token context.Parameter kind.Punct (text_of_units (units_of_plain_bytes (defaults_operator_mark o))) rest ≡ context.ParameterValue
value_context_follows_operator operator.Set rest = refl
value_context_follows_operator o rest = refl

pub operator_ends_parameter_name : (o : Operator) (rest : List ℕ) → size_of_one_matching_byte is_byte_of_parameter_name (text_of_units (units_of_plain_bytes (defaults_operator_mark o)) ++ rest) ≡ 0
operator_ends_parameter_name operator.Set rest = refl
operator_ends_parameter_name o rest = refl

-- ---- values

-- A value ends before these bytes.
abbrev pub EndsParameterValue : List ℕ → Type 0
EndsParameterValue rest = size_of_matching_byte_or_pair is_value_byte rest ≡ 0

pub other_byte_begins_no_closed_quote : (b : ℕ) (rest : List ℕ) → (b == 34) ≡ false → closed_quote_size (b ∷ rest) ≡ 0
unfolding quotes_and_run_between_size
other_byte_begins_no_closed_quote b rest h = rw h refl

-- how a value begins
pub record HasValueAtFront (us : List LineUnit) (rest : List ℕ) : Type 0 where
  pub byte : ℕ
  pub more : List ℕ
  pub whole : text_of_units us ++ rest ≡ byte ∷ more
  pub quote : (byte == 34) ≡ false
  pub place : BeginsTokenWithoutGap (byte ∷ more)

value_units_stand_at_front : (us : List LineUnit) (rest : List ℕ) → (us ≡ [] → ⊥) → AreWrittenUnitsOf is_value_byte us → HasValueAtFront us rest
value_units_stand_at_front [] rest some all = absurd (some refl)
value_units_stand_at_front (Byte b ∷ us) rest some all =
    let is = plain_test_byte_is_plain is_value_byte refl b all.0 in
    record { byte = b; more = text_of_units us ++ rest; whole = refl; quote = is.quote; place = plain_byte_begins_token b (text_of_units us ++ rest) is }
value_units_stand_at_front (Pair c ∷ us) rest some all = record { byte = 92; more = c ∷ (text_of_units us ++ rest); whole = refl; quote = refl; place = pair_begins_token c (text_of_units us ++ rest) (written_pair_is_no_nul_nor_break c all.0).1 }
value_units_stand_at_front us rest some all = absurd (let h = all.0 in cc)

value_units_are_found_as_value : (i first : Bool) (us : List LineUnit) (rest : List ℕ) → HasValueAtFront us rest → 0 < length (text_of_units us) → AreWrittenUnitsOf is_value_byte us → EndsParameterValue rest → kind_and_size_of_token (token_forms_in_context context.ParameterValue) i first (text_of_units us ++ rest) ≡ (kind.Value, length (text_of_units us))
unfolding leading_run_size
value_units_are_found_as_value i first us rest is some all ends =
    let none : closed_quote_size (text_of_units us ++ rest) ≡ 0 = ap closed_quote_size is.whole ∙ other_byte_begins_no_closed_quote is.byte is.more is.quote in
    let size : reach_of_units (size_of_matching_byte_or_pair is_value_byte) 0 (text_of_units us ++ rest) ≡ length (text_of_units us) = run_reach_of_units_is_their_length is_value_byte refl us rest all ends in
    let positive : nat_lt 0 (length (text_of_units us)) ≡ true = grind (arith, nat_tests, some) in
    rw (none, size, positive) refl

value_units_are_cut_as_value : (us : List LineUnit) (rest : List ℕ) → (us ≡ [] → ⊥) → 0 < length (text_of_units us) → AreWrittenUnitsOf is_value_byte us → EndsParameterValue rest → IsTokenCut context.ParameterValue true false kind.Value us rest
value_units_are_cut_as_value us rest some long all ends =
    let is = value_units_stand_at_front us rest some all in
    record {
      found = λ i first possible. value_units_are_found_as_value i first us rest is long all ends;
      no_gap = ap (λ (bytes : List ℕ). leading_run_size rule.Gap bytes) is.whole ∙ is.place.no_gap;
      more = ap is_line_end_or_empty is.whole ∙ is.place.more;
      some = long;
      closed = text_of_units_is_closed is_value_byte refl us all;
      clean = text_of_units_has_no_nul is_value_byte refl us all;
      leaves = λ before begins none. absurd (cc);
      stand = λ before more begins. units_stand_in_text is_value_byte refl before us (rest ++ more) all;
      leaves_units = λ before begins none. absurd (cc);
    }

-- ---- spelled and plain values

word_byte_is_value_byte : (b : ℕ) → is_word_byte b ≡ true → is_value_byte b ≡ true
word_byte_is_value_byte b h =
    let is : is_byte_of_include_path b ≡ true = (and_parts (is_byte_of_include_path b) (not (is_punct b)) h).0 in
    rw (is, passing_byte_differs_from_failing_byte is_word_byte 44 b h refl) refl

byte_without_quotes_is_value_byte : (b : ℕ) → is_byte_without_quotes b ≡ true → is_value_byte b ≡ true
byte_without_quotes_is_value_byte b h =
    rw (plain_test_byte_is_include_path_byte is_byte_without_quotes refl b h, passing_byte_differs_from_failing_byte is_byte_without_quotes 44 b h refl) refl

value_without_quotes_is_cut : (value rest : List ℕ) → is_value_without_quotes value ≡ true → EndsParameterValue rest → IsTokenCut context.ParameterValue true false kind.Value (units_of_plain_bytes value) rest
value_without_quotes_is_cut [] rest is ends = absurd (cc)
value_without_quotes_is_cut (b ∷ value) rest is ends = value_units_are_cut_as_value (units_of_plain_bytes (b ∷ value)) rest (λ e. absurd (cc)) (omega arith) (units_of_test_pass_weaker_test is_byte_without_quotes is_value_byte byte_without_quotes_is_value_byte (units_of_plain_bytes (b ∷ value)) (bytes_passing_test_are_units_of_it is_byte_without_quotes (b ∷ value) (and_parts (nat_lt 0 (length (b ∷ value))) (list_all is_byte_without_quotes (b ∷ value)) is).1)) ends

units_of_nonempty_text_are_not_empty : (us : List LineUnit) → 0 < length (text_of_units us) → us ≡ [] → ⊥
units_of_nonempty_text_are_not_empty [] some e = absurd (omega arith)
units_of_nonempty_text_are_not_empty (u ∷ us) some e = cc

value_spelled_as_word_is_cut : (value rest : List ℕ) → is_quotable_value value ≡ false → EndsParameterValue rest → IsTokenCut context.ParameterValue true false kind.Value (units_of_spelled_word value) rest
value_spelled_as_word_is_cut [] rest is ends = absurd (cc)
value_spelled_as_word_is_cut (b ∷ value) rest is ends =
    let some = spelled_word_front_is_not_empty b (text_of_units (units_of_spelled_word (b ∷ value))) (word_units_have_front_of_spelled_word b value) in
    value_units_are_cut_as_value (units_of_spelled_word (b ∷ value)) rest (units_of_nonempty_text_are_not_empty (units_of_spelled_word (b ∷ value)) some) some (units_of_test_pass_weaker_test is_word_byte is_value_byte word_byte_is_value_byte (units_of_spelled_word (b ∷ value)) (units_of_spelled_word_are_word_units (b ∷ value))) ends

-- ---- quoted values

-- a byte that stands for itself in quotes
abbrev pub is_byte_plain_in_quotes : ℕ → Bool
is_byte_plain_in_quotes b = not (b == 92 || b == 34 || is_control b)

pub record IsBytePlainInQuotes (b : ℕ) : Type 0 where
  pub backslash : (b == 92) ≡ false
  pub quote : (b == 34) ≡ false
  pub lf : (b == 10) ≡ false
  pub cr : (b == 13) ≡ false

pub byte_test_implies_plain_in_quotes : (b : ℕ) → is_byte_plain_in_quotes b ≡ true → IsBytePlainInQuotes b
byte_test_implies_plain_in_quotes b h = record { backslash = passing_byte_differs_from_failing_byte is_byte_plain_in_quotes 92 b h refl; quote = passing_byte_differs_from_failing_byte is_byte_plain_in_quotes 34 b h refl; lf = passing_byte_differs_from_failing_byte is_byte_plain_in_quotes 10 b h refl; cr = passing_byte_differs_from_failing_byte is_byte_plain_in_quotes 13 b h refl }

quoted_run_reaches_whole_value : (value rest : List ℕ) → list_all is_byte_plain_in_quotes value ≡ true → reach_of_units (run_unit_size rule.Quote) 0 (value ++ (34 ∷ rest)) ≡ length value
quoted_run_reaches_whole_value [] rest all = refl
quoted_run_reaches_whole_value (b ∷ value) rest all =
    let parts = and_parts (is_byte_plain_in_quotes b) (list_all is_byte_plain_in_quotes value) all in
    let is = byte_test_implies_plain_in_quotes b parts.0 in
    rw (is.lf, is.cr, is.quote, is.backslash) (omega (arith, quoted_run_reaches_whole_value value rest parts.1))

value_with_closing_quote_is_regrouped : (value rest : List ℕ) → (value ++ 34 ∷ []) ++ rest ≡ value ++ (34 ∷ rest)
value_with_closing_quote_is_regrouped value rest = append_assoc value (34 ∷ []) rest

closed_quote_size_is_length_plus_two : (value rest : List ℕ) → list_all is_byte_plain_in_quotes value ≡ true → closed_quote_size (34 ∷ (value ++ (34 ∷ rest))) ≡ length value + 2
unfolding quotes_and_run_between_size leading_run_size
closed_quote_size_is_length_plus_two value rest all =
    let size : reach_of_units (run_unit_size rule.Quote) 0 (value ++ (34 ∷ rest)) ≡ length value = quoted_run_reaches_whole_value value rest all in
    let ends : drop (length value) (value ++ (34 ∷ rest)) ≡ 34 ∷ rest = drop_at value (34 ∷ rest) (length value) refl in
    rw size (rw ends refl)

rest_of_quoted_part_is_quoted_value : (before : Bool) (value rest : List ℕ) → list_all is_byte_plain_in_quotes value ≡ true → rest_of_quoted_part false (value ++ (34 ∷ rest)) ≡ value ++ 34 ∷ []
rest_of_quoted_part_is_quoted_value before [] rest all = refl
rest_of_quoted_part_is_quoted_value before (b ∷ value) rest all =
    let parts = and_parts (is_byte_plain_in_quotes b) (list_all is_byte_plain_in_quotes value) all in
    let is = byte_test_implies_plain_in_quotes b parts.0 in
    rw (is.quote, is.lf, is.cr, is.backslash) (ap (λ (t : List ℕ). b ∷ t) (rest_of_quoted_part_is_quoted_value before value rest parts.1))

quoted_value_is_simple_units : (value : List ℕ) → list_all is_byte_plain_in_quotes value ≡ true → AreWrittenUnitsOf is_byte_no_nul_nor_backslash (units_of_plain_bytes (value ++ 34 ∷ []))
quoted_value_is_simple_units [] all = (refl, tt)
quoted_value_is_simple_units (b ∷ value) all =
    let parts = and_parts (is_byte_plain_in_quotes b) (list_all is_byte_plain_in_quotes value) all in
    (tested_byte_is_no_nul_nor_backslash is_byte_plain_in_quotes refl refl b parts.0, quoted_value_is_simple_units value parts.1)

value_in_quotes_is_cut : (value rest : List ℕ) → list_all is_byte_plain_in_quotes value ≡ true → IsTokenCut context.ParameterValue true false kind.Value (Quoted (value ++ 34 ∷ []) ∷ []) rest
unfolding leading_run_size
value_in_quotes_is_cut value rest all =
    let text = value ++ 34 ∷ [] in
    let whole : text_of_units (Quoted text ∷ []) ≡ 34 ∷ text = append-nil (34 ∷ text) in
    let same : text_of_units (units_of_plain_bytes (34 ∷ text)) ≡ text_of_units (Quoted text ∷ []) = ap (λ (t : List ℕ). 34 ∷ t) (text_of_plain_units_is_bytes text) ∙ sym whole in
    let line : text_of_units (Quoted text ∷ []) ++ rest ≡ 34 ∷ (value ++ (34 ∷ rest)) = ap (λ (t : List ℕ). t ++ rest) whole ∙ ap (λ (t : List ℕ). 34 ∷ t) (value_with_closing_quote_is_regrouped value rest) in
    let long : length (text_of_units (Quoted text ∷ [])) ≡ length value + 2 = ap length whole ∙ omega (arith, length-append value (34 ∷ [])) in
    let positive : nat_lt 0 (length value + 2) ≡ true = grind (arith, nat_tests) in
    let some : (0 == length (34 ∷ (value ++ (34 ∷ rest)))) ≡ false = grind (arith, nat_tests) in
    let size : closed_quote_size (34 ∷ (value ++ (34 ∷ rest))) ≡ length value + 2 = closed_quote_size_is_length_plus_two value rest all in
    record {
      found = λ i first possible.
          ap (λ (t : List ℕ). kind_and_size_of_token (token_forms_in_context context.ParameterValue) i first t) line
          ∙ ap (λ (n : ℕ). if nat_lt 0 n then (kind.Value, n) else kind_and_size_of_token (Run kind.Value rule.Value ∷ Mark is_comma ∷ CommentPart ∷ []) i first (34 ∷ (value ++ (34 ∷ rest)))) size
          ∙ ap (λ (t : Bool). if t then (kind.Value, length value + 2) else kind_and_size_of_token (Run kind.Value rule.Value ∷ Mark is_comma ∷ CommentPart ∷ []) i first (34 ∷ (value ++ (34 ∷ rest)))) positive
          ∙ ap (λ (n : ℕ). (kind.Value, n)) (sym long);
      no_gap = ap (λ (t : List ℕ). leading_run_size rule.Gap t) line;
      more = ap is_line_end_or_empty line ∙ some;
      some = omega (arith, long);
      closed = subst IsClosedText same (text_of_units_is_closed is_byte_no_nul_nor_backslash refl (units_of_plain_bytes (34 ∷ text)) (refl, quoted_value_is_simple_units value all));
      clean = subst HasNoNul same (text_of_units_has_no_nul is_byte_no_nul_nor_backslash refl (units_of_plain_bytes (34 ∷ text)) (refl, quoted_value_is_simple_units value all));
      leaves = λ before begins none. absurd (cc);
      stand = λ before more begins. (ap (λ (t : List ℕ). Some (Quoted t)) (ap (rest_of_quoted_part false) (value_with_closing_quote_is_regrouped value (rest ++ more)) ∙ rest_of_quoted_part_is_quoted_value false value (rest ++ more) all), tt);
      leaves_units = λ before begins none. absurd (cc);
    }

pub parameter_value_is_cut : (value rest : List ℕ) → EndsParameterValue rest → IsTokenCut context.ParameterValue true false kind.Value (units_of_parameter_value value) rest
parameter_value_is_cut value rest ends = by_plain (is_value_without_quotes value) refl
  where
    by_quotes : (t : Bool) → is_quotable_value value ≡ t → IsTokenCut context.ParameterValue true false kind.Value (if t then Quoted (value ++ 34 ∷ []) ∷ [] else units_of_spelled_word value) rest
    by_quotes true e = value_in_quotes_is_cut value rest e
    by_quotes false e = value_spelled_as_word_is_cut value rest e ends

    by_plain : (t : Bool) → is_value_without_quotes value ≡ t → IsTokenCut context.ParameterValue true false kind.Value (if t then units_of_plain_bytes value else (if is_quotable_value value then Quoted (value ++ 34 ∷ []) ∷ [] else units_of_spelled_word value)) rest
    by_plain true e = value_without_quotes_is_cut value rest e ends
    by_plain false e = by_quotes (is_quotable_value value) refl
