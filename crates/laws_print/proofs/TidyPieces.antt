-- What the tokens of a line are made of, by their kinds.
use Rattle.laws_print.proofs.Common.{◌≡◌, ◌≢◌, ℕ, zero, suc, ◌+◌, ◌≤◌, ◌<◌, Bool, true, false, ◌&&◌, ◌||◌, not, List, [], ◌∷◌, ◌++◌, length, take, drop}
use Rattle.laws_print.proofs.Common.{refl, sym, ap, subst, ◌∙◌, arith, inl, inr, ◌==◌, if◌then◌else◌, nat_lt, AllByRecursion, list_all, append_assoc}
use Rattle.laws_print.proofs.Common.{length-append, length-take-le, take-append-drop, take-append_seam, not-true, and_parts, eqb-true}
use Rattle.laws_print.proofs.Common.{TokenKind, LineUnit, Byte, is_id_position_after_units, is_digest_byte}
use Rattle.laws_print.proofs.Common.{is_byte_of_parameter_name, is_path_byte, size_of_one_matching_byte, first_nonzero_number, reach_of_units, run_unit_size, leading_run_size, is_nonempty_run}
use Rattle.laws_print.proofs.Common.{reach_past_first_byte, quotes_and_run_between_size, closed_quote_size, argument_unit_size, argument_units_size, quoted_front_to_inner_separator_size, TokenForm, Mark, Run, CommentPart}
use Rattle.laws_print.proofs.Common.{QuotedRest, kind_of_form, is_non_unix_group_word, is_piece_of_form, IsTokenOfKindAndSize}
use Rattle.std.proofs.lemmas.List.{length-drop, take_all, take-take, drop-take}
use Rattle.std.proofs.lemmas.Bool.{or_cases}
use Rattle.sudoers_text.specs.declared.part.ByteRunKind.{ByteRunKind}
use Rattle.sudoers_text.specs.declared.part.ByteRunKind.TheVariants as rule
use Rattle.sudoers_text.specs.declared.token.TokenKind.TheVariants as kind
use Rattle.sudoers_text.specs.Part.{has_given_first_byte}
use Rattle.sudoers_text.specs.Piece.{Operator, Number, NonUnixGroup, CommandPath, QuotedPart, Argument, is_hash_id, is_optional_colon_id, is_numeric_id}
use Rattle.sudoers_text.specs.Piece.{is_colon_and_word, quoted_argument_rest_size, is_argument_of_size}
use Rattle.laws_print.proofs.Words.{IsNoLineEndByte, BeginsRunWithByteOrPair, at_byte, at_pair, positive_run_begins_with_byte_or_pair}
use Rattle.laws_print.proofs.Tight.{IsTightText, word_run_is_tight, path_run_is_tight, tidy_byte_before_tight_text_is_tight}
use Rattle.laws_print.proofs.Values.{below_test_implies_below}
use Rattle.laws_print.proofs.ParamCuts.{other_byte_begins_no_closed_quote}
use Rattle.laws_print.proofs.Tidy.{is_tidy_byte, byte_passing_test_is_tidy, IsTidyText, done, byte, appended_tidy_texts_are_tidy, HasTidyFrontOfSize, MeasuresTidyFront, first_nonzero_size_measures_tidy_front, reached_text_is_tidy, path_unit_size_measures_tidy_front, quote_unit_size_measures_tidy_front}
use Rattle.laws_print.proofs.Tidy.{clean_unit_size_measures_tidy_front}

-- ---- quoted parts and arguments

-- a run that the bytes begin with
leading_run_is_tidy : (r : ByteRunKind) → MeasuresTidyFront (run_unit_size r) → (bytes : List ℕ) → IsTidyText (take (leading_run_size r bytes) bytes)
unfolding leading_run_size
leading_run_is_tidy r is bytes = reached_text_is_tidy (run_unit_size r) is (length bytes) bytes (omega arith)

quoted_run_size_measures_tidy_front : (r : ByteRunKind) → MeasuresTidyFront (run_unit_size r) → MeasuresTidyFront (quotes_and_run_between_size r)
unfolding quotes_and_run_between_size
quoted_run_size_measures_tidy_front r is b rest k e = by_test (b == 34 && has_given_first_byte 34 (drop (leading_run_size r rest) rest)) refl e
  where
    by_drop : (ds : List ℕ) → drop (leading_run_size r rest) rest ≡ ds → (b == 34) ≡ true → has_given_first_byte 34 ds ≡ true → leading_run_size r rest + 2 ≡ suc k → HasTidyFrontOfSize (b ∷ rest) (suc k)
    by_drop [] split quote ends e = absurd (cc)
    by_drop (d ∷ y) split quote ends e =
        let x = take (leading_run_size r rest) rest in
        let last : d ≡ 34 = eqb-true d 34 ends in
        let whole : rest ≡ x ++ (34 ∷ y) = sym (take-append-drop (leading_run_size r rest) rest) ∙ ap (λ (t : List ℕ). x ++ t) (split ∙ ap (λ (c : ℕ). c ∷ y) last) in
        let long : length x ≡ leading_run_size r rest = omega (arith, ap length split, length-drop (leading_run_size r rest) rest, ap length whole, length-append x (34 ∷ y)) in
        record {
          front = 34 ∷ (x ++ 34 ∷ []);
          rest = y;
          whole = ap (λ (c : ℕ). c ∷ rest) (eqb-true b 34 quote) ∙ ap (λ (t : List ℕ). 34 ∷ t) (whole ∙ sym (append_assoc x (34 ∷ []) y));
          long = omega (arith, e, long, length-append x (34 ∷ []));
          tidy = byte refl (appended_tidy_texts_are_tidy x (34 ∷ []) (leading_run_is_tidy r is rest) (byte refl done));
        }

    by_test : (t : Bool) → (b == 34 && has_given_first_byte 34 (drop (leading_run_size r rest) rest)) ≡ t → (if t then leading_run_size r rest + 2 else 0) ≡ suc k → HasTidyFrontOfSize (b ∷ rest) (suc k)
    by_test true h e = let parts = and_parts (b == 34) (has_given_first_byte 34 (drop (leading_run_size r rest) rest)) h in by_drop (drop (leading_run_size r rest) rest) refl parts.0 parts.1 e
    by_test false h e = absurd (omega (arith, e))

-- so many bytes that a unit has are tidy
taken_unit_is_tidy : (unit : List ℕ → ℕ) → MeasuresTidyFront unit → (bytes : List ℕ) (n : ℕ) → 0 < n → n ≡ unit bytes → unit [] ≡ 0 → IsTidyText (take n bytes)
taken_unit_is_tidy unit is [] n some e none = absurd (omega (arith, e, none))
taken_unit_is_tidy unit is (b ∷ rest) zero some e none = absurd (omega arith)
taken_unit_is_tidy unit is (b ∷ rest) (suc k) some e none =
    let there = is b rest k (sym e) in
    subst IsTidyText (sym (ap (λ (n : ℕ). take n (b ∷ rest)) (sym there.long) ∙ ap (take (length there.front)) there.whole ∙ take-append_seam there.front there.rest)) there.tidy

argument_unit_size_measures_tidy_front : MeasuresTidyFront argument_unit_size
argument_unit_size_measures_tidy_front = first_nonzero_size_measures_tidy_front (run_unit_size rule.Path) (quotes_and_run_between_size rule.Clean) path_unit_size_measures_tidy_front (quoted_run_size_measures_tidy_front rule.Clean clean_unit_size_measures_tidy_front)

leading_argument_units_are_tidy : (bytes : List ℕ) → IsTidyText (take (argument_units_size bytes) bytes)
unfolding argument_units_size
leading_argument_units_are_tidy bytes = reached_text_is_tidy argument_unit_size argument_unit_size_measures_tidy_front (length bytes) bytes (omega arith)

leading_broken_quote_is_tidy : (bytes : List ℕ) → IsTidyText (take (quoted_front_to_inner_separator_size bytes) bytes)
unfolding quoted_front_to_inner_separator_size
leading_broken_quote_is_tidy [] = done
leading_broken_quote_is_tidy (b ∷ rest) = by_test (quotes_and_run_between_size rule.Clean (b ∷ rest) == 0 && not (closed_quote_size (b ∷ rest) == 0)) refl
  where
    by_quote : (t : Bool) → (b == 34) ≡ t → (closed_quote_size (b ∷ rest) == 0) ≡ false → (b == 34) ≡ true
    by_quote true e h = e
    by_quote false e h = absurd (let none : (closed_quote_size (b ∷ rest) == 0) ≡ true = ap (λ (n : ℕ). n == 0) (other_byte_begins_no_closed_quote b rest e) in cc)

    by_test : (t : Bool) → (quotes_and_run_between_size rule.Clean (b ∷ rest) == 0 && not (closed_quote_size (b ∷ rest) == 0)) ≡ t → IsTidyText (take (if t then leading_run_size rule.Clean rest + 1 else 0) (b ∷ rest))
    by_test false h = done
    by_test true h =
        let quoted = not-true (closed_quote_size (b ∷ rest) == 0) (and_parts (quotes_and_run_between_size rule.Clean (b ∷ rest) == 0) (not (closed_quote_size (b ∷ rest) == 0)) h).1 in
        let quote : b ≡ 34 = eqb-true b 34 (by_quote (b == 34) refl quoted) in
        let size : leading_run_size rule.Clean rest + 1 ≡ suc (leading_run_size rule.Clean rest) = omega arith in
        subst IsTidyText (sym (ap (λ (n : ℕ). take n (b ∷ rest)) size ∙ ap (λ (c : ℕ). c ∷ take (leading_run_size rule.Clean rest) rest) quote)) (byte refl (leading_run_is_tidy rule.Clean clean_unit_size_measures_tidy_front rest))

-- two tidy parts, one behind the other
two_tidy_parts_are_tidy_together : (w m n : ℕ) (bytes : List ℕ) → w + m ≡ n → IsTidyText (take w (take n bytes)) → IsTidyText (take m (drop w bytes)) → IsTidyText (take n bytes)
two_tidy_parts_are_tidy_together w m n bytes size front behind =
    let there : drop w (take n bytes) ≡ take m (drop w bytes) = ap (λ (k : ℕ). drop w (take k bytes)) (sym size) ∙ drop-take w m bytes in
    subst IsTidyText (take-append-drop w (take n bytes)) (appended_tidy_texts_are_tidy (take w (take n bytes)) (drop w (take n bytes)) front (subst IsTidyText (sym there) behind))

argument_of_size_is_tidy : (bytes : List ℕ) (n : ℕ) → n ≤ length bytes → is_argument_of_size bytes n ≡ true → IsTidyText (take n bytes)
argument_of_size_is_tidy bytes n inside h = by_whole (argument_units_size (take n bytes)) refl (leading_argument_units_are_tidy (take n bytes)) h
  where
    by_whole : (w : ℕ) → argument_units_size (take n bytes) ≡ w → IsTidyText (take (argument_units_size (take n bytes)) (take n bytes)) → (w == n || (nat_lt 0 (quoted_front_to_inner_separator_size (drop w bytes)) && (w + quoted_front_to_inner_separator_size (drop w bytes) == n))) ≡ true → IsTidyText (take n bytes)
    by_whole w e front h =
        elim (or_cases (w == n) (nat_lt 0 (quoted_front_to_inner_separator_size (drop w bytes)) && (w + quoted_front_to_inner_separator_size (drop w bytes) == n)) h) [
          | inl is ↦
              let long : length (take n bytes) ≡ n = length-take-le n bytes inside in
              subst IsTidyText (ap (λ (m : ℕ). take m (take n bytes)) (e ∙ eqb-true w n is ∙ sym long) ∙ take_all (length (take n bytes)) (take n bytes) (omega arith)) front
          | inr is ↦
              two_tidy_parts_are_tidy_together w (quoted_front_to_inner_separator_size (drop w bytes)) n bytes (eqb-true (w + quoted_front_to_inner_separator_size (drop w bytes)) n (and_parts (nat_lt 0 (quoted_front_to_inner_separator_size (drop w bytes))) (w + quoted_front_to_inner_separator_size (drop w bytes) == n) is).1)
              (subst (λ (m : ℕ). IsTidyText (take m (take n bytes))) e front) (leading_broken_quote_is_tidy (drop w bytes))
        ]

rest_of_quoted_argument_is_tidy : (bytes : List ℕ) (n : ℕ) → n ≡ quoted_argument_rest_size bytes → IsTidyText (take n bytes)
unfolding quoted_argument_rest_size
rest_of_quoted_argument_is_tidy bytes n e = subst (λ (m : ℕ). IsTidyText (take m bytes)) (sym e) (by_quote (has_given_first_byte 34 (drop (leading_run_size rule.Clean bytes) bytes)) refl)
  where
    one_quote : (ds : List ℕ) → has_given_first_byte 34 ds ≡ true → IsTidyText (take 1 ds)
    one_quote [] h = absurd (cc)
    one_quote (d ∷ y) h = subst (λ (c : ℕ). IsTidyText (c ∷ [])) (sym (eqb-true d 34 h)) (byte refl done)

    by_quote : (t : Bool) → has_given_first_byte 34 (drop (leading_run_size rule.Clean bytes) bytes) ≡ t → IsTidyText (take (if t then leading_run_size rule.Clean bytes + 1 else leading_run_size rule.Clean bytes) bytes)
    by_quote false h = leading_run_is_tidy rule.Clean clean_unit_size_measures_tidy_front bytes
    by_quote true h =
        let m = leading_run_size rule.Clean bytes in
        two_tidy_parts_are_tidy_together m 1 (m + 1) bytes refl (subst IsTidyText (sym (take-take m (m + 1) bytes (omega arith))) (leading_run_is_tidy rule.Clean clean_unit_size_measures_tidy_front bytes)) (one_quote (drop m bytes) h)

-- ---- what is known of a token

pub data IsIdText : List ℕ → Type 0 where
  hash : {digits : List ℕ} → IsIdText (35 ∷ digits)
  percent : {digits : List ℕ} → IsIdText (37 ∷ 35 ∷ digits)
  colon : {digits : List ℕ} → IsIdText (37 ∷ 58 ∷ 35 ∷ digits)

-- of a token of this kind; nothing of the others
abbrev pub IsTokenTextOfKind : TokenKind → List ℕ → Type 0
IsTokenTextOfKind kind.Word text = IsTightText text × (has_given_first_byte 43 text ≡ true → is_nonempty_run rule.Word text ≡ true)
IsTokenTextOfKind kind.Quoted text = IsTidyText text
IsTokenTextOfKind kind.Path text = IsTightText text × (has_given_first_byte 47 text ≡ true)
IsTokenTextOfKind kind.Arg text = IsTidyText text
IsTokenTextOfKind kind.Id text = IsIdText text
IsTokenTextOfKind kind.Digest text = (text ≢ []) × (list_all is_digest_byte text ≡ true)
IsTokenTextOfKind kind.Name text = (text ≢ []) × (list_all is_byte_of_parameter_name text ≡ true)
IsTokenTextOfKind k text = Unit {0}

-- the forms behind the first token of a line that is no include
pub data IsFormBehindFirstToken : TokenForm → Type 0 where
  a_mark : {test : ℕ → Bool} → IsFormBehindFirstToken (Mark test)
  an_operator : IsFormBehindFirstToken Operator
  a_number : IsFormBehindFirstToken Number
  a_group : IsFormBehindFirstToken NonUnixGroup
  a_word : IsFormBehindFirstToken (Run kind.Word rule.Word)
  a_digest : IsFormBehindFirstToken (Run kind.Digest rule.Digest)
  a_name : IsFormBehindFirstToken (Run kind.Name rule.Name)
  a_value : IsFormBehindFirstToken (Run kind.Value rule.Value)
  a_path : IsFormBehindFirstToken CommandPath
  a_quoted : IsFormBehindFirstToken (QuotedPart kind.Quoted)
  a_quoted_value : IsFormBehindFirstToken (QuotedPart kind.Value)
  a_comment : IsFormBehindFirstToken CommentPart
  an_argument : IsFormBehindFirstToken Argument
  a_rest : IsFormBehindFirstToken QuotedRest

hash_id_begins_with_hash : (before : List LineUnit) (text : List ℕ) → is_hash_id before text ≡ true → (digits : List ℕ) × (text ≡ 35 ∷ digits)
hash_id_begins_with_hash before [] h = absurd (cc)
hash_id_begins_with_hash before (b ∷ digits) h = (digits, ap (λ (c : ℕ). c ∷ digits) (eqb-true b 35 (and_parts (b == 35) (is_id_position_after_units before && is_nonempty_run rule.Digits digits) h).0))

colon_id_behind_percent_is_id_text : (before : List LineUnit) (text : List ℕ) → is_optional_colon_id before text ≡ true → IsIdText (37 ∷ text)
colon_id_behind_percent_is_id_text before [] h = absurd (cc)
colon_id_behind_percent_is_id_text before (b ∷ text) h = by_colon (b == 58) refl h
  where
    by_colon : (t : Bool) → (b == 58) ≡ t → (if t then is_hash_id (Byte 58 ∷ before) text else is_hash_id before (b ∷ text)) ≡ true → IsIdText (37 ∷ b ∷ text)
    by_colon true e h =
        let is = hash_id_begins_with_hash (Byte 58 ∷ before) text h in
        subst IsIdText (ap (λ (t : List ℕ). 37 ∷ 58 ∷ t) (sym is.1) ∙ ap (λ (c : ℕ). 37 ∷ c ∷ text) (sym (eqb-true b 58 e))) colon
    by_colon false e h = let is = hash_id_begins_with_hash before (b ∷ text) h in subst (λ (t : List ℕ). IsIdText (37 ∷ t)) (sym is.1) percent

pub numeric_id_is_id_text : (before : List LineUnit) (text : List ℕ) → is_numeric_id before text ≡ true → IsIdText text
numeric_id_is_id_text before [] h = absurd (cc)
numeric_id_is_id_text before (b ∷ text) h = by_percent (b == 37) refl h
  where
    by_percent : (t : Bool) → (b == 37) ≡ t → (if t then is_optional_colon_id (Byte 37 ∷ before) text else is_hash_id before (b ∷ text)) ≡ true → IsIdText (b ∷ text)
    by_percent true e h = subst (λ (c : ℕ). IsIdText (c ∷ text)) (sym (eqb-true b 37 e)) (colon_id_behind_percent_is_id_text (Byte 37 ∷ before) text h)
    by_percent false e h = let is = hash_id_begins_with_hash before (b ∷ text) h in subst IsIdText (sym is.1) hash

nonunix_group_word_is_word_token_text : (text : List ℕ) → is_non_unix_group_word text ≡ true → IsTokenTextOfKind kind.Word text
nonunix_group_word_is_word_token_text [] h = absurd (cc)
nonunix_group_word_is_word_token_text (b ∷ []) h = absurd (let none = (and_parts (b == 37) (is_colon_and_word []) h).1 in cc)
nonunix_group_word_is_word_token_text (b ∷ c ∷ text) h =
    let parts = and_parts (b == 37) (c == 58 && is_nonempty_run rule.Word text) h in
    let more = and_parts (c == 58) (is_nonempty_run rule.Word text) parts.1 in
    let whole : b ∷ c ∷ text ≡ 37 ∷ 58 ∷ text = ap (λ (x : ℕ). x ∷ c ∷ text) (eqb-true b 37 parts.0) ∙ ap (λ (x : ℕ). 37 ∷ x ∷ text) (eqb-true c 58 more.0) in
    subst (IsTokenTextOfKind kind.Word) (sym whole) (tidy_byte_before_tight_text_is_tight 37 (58 ∷ text) refl (tidy_byte_before_tight_text_is_tight 58 text refl (word_run_is_tight text more.1)), λ plus. absurd (cc))

-- a run of bytes that pass the test
bytes_reached_all_pass_test : (test : ℕ → Bool) (text : List ℕ) → reach_of_units (size_of_one_matching_byte test) 0 text ≡ length text → list_all test text ≡ true
bytes_reached_all_pass_test test [] e = refl
bytes_reached_all_pass_test test (b ∷ text) e = by_test (test b) refl e (λ h. bytes_reached_all_pass_test test text h)
  where
    by_test : (t : Bool) → test b ≡ t → reach_past_first_byte (if t then 1 else 0) (λ k. reach_of_units (size_of_one_matching_byte test) k text) ≡ suc (length text) → (reach_of_units (size_of_one_matching_byte test) 0 text ≡ length text → list_all test text ≡ true) → (t && list_all test text) ≡ true
    by_test true h e later = later (omega (arith, e))
    by_test false h e later = absurd (omega (arith, e))

nonempty_reached_bytes_pass_test : (test : ℕ → Bool) (text : List ℕ) → (nat_lt 0 (length text) && (reach_of_units (size_of_one_matching_byte test) 0 text == length text)) ≡ true → (text ≢ []) × (list_all test text ≡ true)
nonempty_reached_bytes_pass_test test [] h = absurd (cc)
nonempty_reached_bytes_pass_test test (b ∷ text) h =
    (λ e. absurd (cc), bytes_reached_all_pass_test test (b ∷ text) (eqb-true (reach_of_units (size_of_one_matching_byte test) 0 (b ∷ text)) (length (b ∷ text)) (and_parts (nat_lt 0 (length (b ∷ text))) (reach_of_units (size_of_one_matching_byte test) 0 (b ∷ text) == length (b ∷ text)) h).1))

digest_run_is_nonempty_digest_bytes : (text : List ℕ) → is_nonempty_run rule.Digest text ≡ true → (text ≢ []) × (list_all is_digest_byte text ≡ true)
unfolding leading_run_size
digest_run_is_nonempty_digest_bytes text h = nonempty_reached_bytes_pass_test is_digest_byte text h

name_run_is_nonempty_name_bytes : (text : List ℕ) → is_nonempty_run rule.Name text ≡ true → (text ≢ []) × (list_all is_byte_of_parameter_name text ≡ true)
unfolding leading_run_size
name_run_is_nonempty_name_bytes text h = nonempty_reached_bytes_pass_test is_byte_of_parameter_name text h

taken_path_run_begins_with_slash : (bytes : List ℕ) (n : ℕ) → has_given_first_byte 47 bytes ≡ true → is_nonempty_run rule.Path (take n bytes) ≡ true → has_given_first_byte 47 (take n bytes) ≡ true
taken_path_run_begins_with_slash [] n h some = absurd (cc)
taken_path_run_begins_with_slash (b ∷ bytes) zero h some = absurd (let none = (and_parts (nat_lt 0 (length (take 0 (b ∷ bytes)))) (leading_run_size rule.Path (take 0 (b ∷ bytes)) == length (take 0 (b ∷ bytes))) some).0 in cc)
taken_path_run_begins_with_slash (b ∷ bytes) (suc n) h some = h

quoted_size_of_empty_text_is_zero : quotes_and_run_between_size rule.Quote [] ≡ 0
unfolding quotes_and_run_between_size
quoted_size_of_empty_text_is_zero = refl

-- A piece of one of these forms.
pub good_form_piece_has_text_of_kind : (form : TokenForm) → IsFormBehindFirstToken form → (before : List LineUnit) (bytes : List ℕ) (n : ℕ) → n ≤ length bytes → is_piece_of_form form before bytes n ≡ true → IsTokenTextOfKind (kind_of_form form) (take n bytes)
good_form_piece_has_text_of_kind form a_number before bytes n inside h = numeric_id_is_id_text before (take n bytes) h
good_form_piece_has_text_of_kind form a_group before bytes n inside h = nonunix_group_word_is_word_token_text (take n bytes) h
good_form_piece_has_text_of_kind form a_word before bytes n inside h = (word_run_is_tight (take n bytes) h, λ plus. h)
good_form_piece_has_text_of_kind form a_digest before bytes n inside h = digest_run_is_nonempty_digest_bytes (take n bytes) h
good_form_piece_has_text_of_kind form a_name before bytes n inside h = name_run_is_nonempty_name_bytes (take n bytes) h
good_form_piece_has_text_of_kind form a_path before bytes n inside h =
    let parts = and_parts (has_given_first_byte 47 bytes) (is_nonempty_run rule.Path (take n bytes)) h in
    (path_run_is_tight (take n bytes) parts.1, taken_path_run_begins_with_slash bytes n parts.0 parts.1)
good_form_piece_has_text_of_kind form a_quoted before bytes n inside h =
    let parts = and_parts (nat_lt 0 n) (n == closed_quote_size bytes) h in
    taken_unit_is_tidy (quotes_and_run_between_size rule.Quote) (quoted_run_size_measures_tidy_front rule.Quote quote_unit_size_measures_tidy_front) bytes n (below_test_implies_below 0 n parts.0) (eqb-true n (closed_quote_size bytes) parts.1) quoted_size_of_empty_text_is_zero
good_form_piece_has_text_of_kind form an_argument before bytes n inside h = argument_of_size_is_tidy bytes n inside (and_parts (nat_lt 0 n) (is_argument_of_size bytes n) h).1
good_form_piece_has_text_of_kind form a_rest before bytes n inside h = rest_of_quoted_argument_is_tidy bytes n (eqb-true n (quoted_argument_rest_size bytes) (and_parts (nat_lt 0 n) (n == quoted_argument_rest_size bytes) h).1)
good_form_piece_has_text_of_kind form good before bytes n inside h = tt

-- A token where these forms may stand.
pub good_form_token_has_text_of_kind : (fs : List TokenForm) → AllByRecursion IsFormBehindFirstToken fs → (before : List LineUnit) (bytes : List ℕ) (k : TokenKind) (n : ℕ) → IsTokenOfKindAndSize fs before bytes k n → IsTokenTextOfKind k (take n bytes)
good_form_token_has_text_of_kind [] good before bytes k n is = subst (λ (c : TokenKind). IsTokenTextOfKind c (take n bytes)) (sym is.0) tt
good_form_token_has_text_of_kind (form ∷ fs) good before bytes k n is =
    elim is [
      | inl w ↦ subst (λ (c : TokenKind). IsTokenTextOfKind c (take n bytes)) (sym w.0) (good_form_piece_has_text_of_kind form good.0 before bytes n w.1.inside w.1.piece)
      | inr w ↦ good_form_token_has_text_of_kind fs good.1 before bytes k n w.1
    ]

-- ---- how an argument begins

-- with a byte, or with a pair
pub data OpensWithByteOrPair : List ℕ → Type 0 where
  by_byte : {b : ℕ} {rest : List ℕ} → is_tidy_byte b ≡ true → OpensWithByteOrPair (b ∷ rest)
  by_pair : {c : ℕ} {rest : List ℕ} → IsNoLineEndByte c → OpensWithByteOrPair (92 ∷ c ∷ rest)

path_unit_opens_text : (b : ℕ) (rest : List ℕ) (k : ℕ) → run_unit_size rule.Path (b ∷ rest) ≡ suc k → OpensWithByteOrPair (b ∷ rest)
path_unit_opens_text b rest k e = by_front (positive_run_begins_with_byte_or_pair is_path_byte b rest k e)
  where
    by_front : {bytes : List ℕ} → BeginsRunWithByteOrPair is_path_byte bytes → OpensWithByteOrPair bytes
    by_front (at_byte {b = b} h) = by_byte (byte_passing_test_is_tidy is_path_byte refl refl refl b h)
    by_front (at_pair is) = by_pair is

quoted_run_opens_text : (b : ℕ) (rest : List ℕ) (k : ℕ) → quotes_and_run_between_size rule.Clean (b ∷ rest) ≡ suc k → OpensWithByteOrPair (b ∷ rest)
unfolding quotes_and_run_between_size
quoted_run_opens_text b rest k e = by_test (b == 34 && has_given_first_byte 34 (drop (leading_run_size rule.Clean rest) rest)) refl e
  where
    by_test : (t : Bool) → (b == 34 && has_given_first_byte 34 (drop (leading_run_size rule.Clean rest) rest)) ≡ t → (if t then leading_run_size rule.Clean rest + 2 else 0) ≡ suc k → OpensWithByteOrPair (b ∷ rest)
    by_test true h e = subst (λ (x : ℕ). OpensWithByteOrPair (x ∷ rest)) (sym (eqb-true b 34 (and_parts (b == 34) (has_given_first_byte 34 (drop (leading_run_size rule.Clean rest) rest)) h).0)) (by_byte refl)
    by_test false h e = absurd (omega (arith, e))

argument_unit_opens_text : (b : ℕ) (rest : List ℕ) (k : ℕ) → argument_unit_size (b ∷ rest) ≡ suc k → OpensWithByteOrPair (b ∷ rest)
argument_unit_opens_text b rest k e = by_first (run_unit_size rule.Path (b ∷ rest)) refl e
  where
    by_first : (n : ℕ) → run_unit_size rule.Path (b ∷ rest) ≡ n → first_nonzero_number n (quotes_and_run_between_size rule.Clean (b ∷ rest)) ≡ suc k → OpensWithByteOrPair (b ∷ rest)
    by_first zero h e = quoted_run_opens_text b rest k e
    by_first (suc n) h e = path_unit_opens_text b rest n h

argument_units_open_text : (b : ℕ) (rest : List ℕ) (k : ℕ) → argument_units_size (b ∷ rest) ≡ suc k → OpensWithByteOrPair (b ∷ rest)
unfolding argument_units_size
argument_units_open_text b rest k e = by_unit (argument_unit_size (b ∷ rest)) refl e
  where
    by_unit : (n : ℕ) → argument_unit_size (b ∷ rest) ≡ n → reach_past_first_byte n (λ m. reach_of_units argument_unit_size m rest) ≡ suc k → OpensWithByteOrPair (b ∷ rest)
    by_unit zero h e = absurd (omega (arith, e))
    by_unit (suc n) h e = argument_unit_opens_text b rest n h

broken_quote_begins_with_quote : (b : ℕ) (rest : List ℕ) → 0 < quoted_front_to_inner_separator_size (b ∷ rest) → (b == 34) ≡ true
unfolding quoted_front_to_inner_separator_size
broken_quote_begins_with_quote b rest some = by_quote (b == 34) refl
  where
    by_test : (t : Bool) → (quotes_and_run_between_size rule.Clean (b ∷ rest) == 0 && not (closed_quote_size (b ∷ rest) == 0)) ≡ t → 0 < (if t then leading_run_size rule.Clean rest + 1 else 0) → (closed_quote_size (b ∷ rest) == 0) ≡ true → ⊥
    by_test true h some none = let not_none = (and_parts (quotes_and_run_between_size rule.Clean (b ∷ rest) == 0) (not (closed_quote_size (b ∷ rest) == 0)) h).1 in let other : not true ≡ true = ap not (sym none) ∙ not_none in cc
    by_test false h some none = omega (arith, some)

    by_quote : (t : Bool) → (b == 34) ≡ t → (b == 34) ≡ true
    by_quote true e = e
    by_quote false e = absurd (by_test (quotes_and_run_between_size rule.Clean (b ∷ rest) == 0 && not (closed_quote_size (b ∷ rest) == 0)) refl some (ap (λ (n : ℕ). n == 0) (other_byte_begins_no_closed_quote b rest e)))

pub sized_argument_opens_with_byte_or_pair : (bytes : List ℕ) (n : ℕ) → n ≤ length bytes → (nat_lt 0 n && is_argument_of_size bytes n) ≡ true → OpensWithByteOrPair (take n bytes)
sized_argument_opens_with_byte_or_pair bytes zero inside h = absurd (cc)
sized_argument_opens_with_byte_or_pair [] (suc n) inside h = absurd (omega arith)
sized_argument_opens_with_byte_or_pair (b ∷ rest) (suc n) inside h = by_whole (argument_units_size (take (suc n) (b ∷ rest))) refl (and_parts (nat_lt 0 (suc n)) (is_argument_of_size (b ∷ rest) (suc n)) h).1
  where
    by_whole : (w : ℕ) → argument_units_size (take (suc n) (b ∷ rest)) ≡ w → (w == suc n || (nat_lt 0 (quoted_front_to_inner_separator_size (drop w (b ∷ rest))) && (w + quoted_front_to_inner_separator_size (drop w (b ∷ rest)) == suc n))) ≡ true → OpensWithByteOrPair (b ∷ take n rest)
    by_whole (suc w) e h = argument_units_open_text b (take n rest) w e
    by_whole zero e h =
        elim (or_cases (0 == suc n) (nat_lt 0 (quoted_front_to_inner_separator_size (b ∷ rest)) && (0 + quoted_front_to_inner_separator_size (b ∷ rest) == suc n)) h) [
          | inl is ↦ absurd (let same = eqb-true 0 (suc n) is in omega (arith, same))
          | inr is ↦
              let some = below_test_implies_below 0 (quoted_front_to_inner_separator_size (b ∷ rest)) (and_parts (nat_lt 0 (quoted_front_to_inner_separator_size (b ∷ rest))) (0 + quoted_front_to_inner_separator_size (b ∷ rest) == suc n) is).0 in
              subst (λ (x : ℕ). OpensWithByteOrPair (x ∷ take n rest)) (sym (eqb-true b 34 (broken_quote_begins_with_quote b rest some))) (by_byte refl)
        ]
