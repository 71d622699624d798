-- A line that ends in a LF is a line whatever follows it.
use Rattle.std.proofs.Common.{◌≡◌, ◌≢◌, ℕ, Bool, true, false, not, ◌&&◌, ◌||◌, List, [], ◌∷◌, ◌++◌, length, drop, refl, sym, ap, subst, ◌∙◌, Some, None, inl, inr}
use Rattle.std.specs.Prelude.{◌==◌, if◌then◌else◌, nat_eq}
use Rattle.std.specs.List.{starts_with}
use Rattle.std.proofs.lemmas.List.{append_assoc}
use Rattle.sudoers_text.specs.Unit.{LineUnit, Continuation, Pair, Quoted, Comment, Byte, bytes_of_unit, bytes_of_reversed_units, AreUnitsBefore, unit_at, unit_after_backslash, begins_line_end, begins_lf, begins_digit, has_path_after_blanks, has_blanks_and_path, is_rest_of_hash_include, include_word, includedir_word, is_hash_of_comment, is_id_position_after_units, bytes_of_units_after_leading_gap, is_empty, is_blank, bytes_up_to_line_end, rest_of_quoted_part}
use Rattle.sudoers_text.specs.Line.{IsLogicalLineBefore, IsLineEndingOrTextEnd, by_lf, by_crlf, at_end}
use Rattle.std.proofs.lemmas.Bool.Decides.{eqb_tells}
use Rattle.sudoers_text.proofs.Reading.{choice_is_one_of_its_sides}

lf_start_ignores_text_after_lf : (k r s : List ℕ) → begins_lf (k ++ 10 ∷ r) ≡ begins_lf (k ++ 10 ∷ s)
lf_start_ignores_text_after_lf [] r s = refl
lf_start_ignores_text_after_lf (b ∷ k) r s = refl

line_end_start_ignores_text_after_lf : (k r s : List ℕ) → begins_line_end (k ++ 10 ∷ r) ≡ begins_line_end (k ++ 10 ∷ s)
line_end_start_ignores_text_after_lf [] r s = refl
line_end_start_ignores_text_after_lf (b ∷ k) r s = ap (λ (t : Bool). b == 10 || (b == 13 && t)) (lf_start_ignores_text_after_lf k r s)

escaped_unit_ignores_text_after_lf : (k r s : List ℕ) → unit_after_backslash (k ++ 10 ∷ r) ≡ unit_after_backslash (k ++ 10 ∷ s)
escaped_unit_ignores_text_after_lf [] r s = refl
escaped_unit_ignores_text_after_lf (b ∷ k) r s = ap (λ (t : Bool). if t then Continuation (b == 13) else Pair b) (line_end_start_ignores_text_after_lf (b ∷ k) r s)

digit_start_ignores_text_after_lf : (k r s : List ℕ) → begins_digit (k ++ 10 ∷ r) ≡ begins_digit (k ++ 10 ∷ s)
digit_start_ignores_text_after_lf [] r s = refl
digit_start_ignores_text_after_lf (b ∷ k) r s = refl

path_start_ignores_text_after_lf : (k r s : List ℕ) → has_path_after_blanks (k ++ 10 ∷ r) ≡ has_path_after_blanks (k ++ 10 ∷ s)
path_start_ignores_text_after_lf [] r s = refl
path_start_ignores_text_after_lf (b ∷ k) r s =
    ap (λ (t : Bool). if is_blank b then t else not (b == 35) && not (begins_line_end (b ∷ (k ++ 10 ∷ r)))) (path_start_ignores_text_after_lf k r s)
    ∙ ap (λ (t : Bool). if is_blank b then has_path_after_blanks (k ++ 10 ∷ s) else not (b == 35) && not t) (line_end_start_ignores_text_after_lf (b ∷ k) r s)

blanks_and_path_ignore_text_after_lf : (k r s : List ℕ) → has_blanks_and_path (k ++ 10 ∷ r) ≡ has_blanks_and_path (k ++ 10 ∷ s)
blanks_and_path_ignore_text_after_lf [] r s = refl
blanks_and_path_ignore_text_after_lf (b ∷ k) r s = ap (λ (t : Bool). is_blank b && t) (path_start_ignores_text_after_lf k r s)

-- no LF stands in a word
HasNoLf : List ℕ → Type 0
HasNoLf [] = Unit {0}
HasNoLf (c ∷ cs) = (nat_eq c 10 ≡ false) × HasNoLf cs

is_word_then_path : List ℕ → List ℕ → Bool
is_word_then_path word text = starts_with nat_eq text word && has_blanks_and_path (drop (length word) text)

conjunction_is_associative : (a b c : Bool) → (a && b && c) ≡ (a && (b && c))
conjunction_is_associative true b c = refl
conjunction_is_associative false b c = refl

word_then_path_ignores_text_after_lf : (word k r s : List ℕ) → HasNoLf word → is_word_then_path word (k ++ 10 ∷ r) ≡ is_word_then_path word (k ++ 10 ∷ s)
unfolding is_word_then_path HasNoLf
word_then_path_ignores_text_after_lf [] k r s none = blanks_and_path_ignore_text_after_lf k r s
word_then_path_ignores_text_after_lf (c ∷ cs) [] r s none = let differs = none.0 in rw differs refl
word_then_path_ignores_text_after_lf (c ∷ cs) (b ∷ k) r s none =
    conjunction_is_associative (nat_eq c b) (starts_with nat_eq (k ++ 10 ∷ r) cs) (has_blanks_and_path (drop (length cs) (k ++ 10 ∷ r)))
    ∙ ap (λ (t : Bool). nat_eq c b && t) (word_then_path_ignores_text_after_lf cs k r s none.1)
    ∙ sym (conjunction_is_associative (nat_eq c b) (starts_with nat_eq (k ++ 10 ∷ s) cs) (has_blanks_and_path (drop (length cs) (k ++ 10 ∷ s))))

include_rest_ignores_text_after_lf : (k r s : List ℕ) → is_rest_of_hash_include (k ++ 10 ∷ r) ≡ is_rest_of_hash_include (k ++ 10 ∷ s)
unfolding is_word_then_path HasNoLf
include_rest_ignores_text_after_lf k r s =
    ap (λ (t : Bool). t || is_word_then_path includedir_word (k ++ 10 ∷ r)) (word_then_path_ignores_text_after_lf include_word k r s (refl, (refl, (refl, (refl, (refl, (refl, (refl, tt))))))))
    ∙ ap (λ (t : Bool). is_word_then_path include_word (k ++ 10 ∷ s) || t) (word_then_path_ignores_text_after_lf includedir_word k r s (refl, (refl, (refl, (refl, (refl, (refl, (refl, (refl, (refl, (refl, tt)))))))))))

comment_hash_ignores_text_after_lf : (before : List LineUnit) (k r s : List ℕ) → is_hash_of_comment before (k ++ 10 ∷ r) ≡ is_hash_of_comment before (k ++ 10 ∷ s)
comment_hash_ignores_text_after_lf before k r s =
    ap (λ (t : Bool). not (is_id_position_after_units before && t) && not (is_empty (bytes_of_units_after_leading_gap before) && is_rest_of_hash_include (k ++ 10 ∷ r))) (digit_start_ignores_text_after_lf k r s)
    ∙ ap (λ (t : Bool). not (is_id_position_after_units before && begins_digit (k ++ 10 ∷ s)) && not (is_empty (bytes_of_units_after_leading_gap before) && t)) (include_rest_ignores_text_after_lf k r s)

lf_past_bytes_ignores_text_after_lf : (bytes m r s : List ℕ) → begins_lf (bytes ++ (m ++ 10 ∷ r)) ≡ begins_lf (bytes ++ (m ++ 10 ∷ s))
lf_past_bytes_ignores_text_after_lf [] m r s = lf_start_ignores_text_after_lf m r s
lf_past_bytes_ignores_text_after_lf (b ∷ bytes) m r s = refl

line_end_past_bytes_ignores_later_text : (b : ℕ) (bytes m r s : List ℕ) → begins_line_end (b ∷ (bytes ++ (m ++ 10 ∷ r))) ≡ begins_line_end (b ∷ (bytes ++ (m ++ 10 ∷ s)))
line_end_past_bytes_ignores_later_text b bytes m r s = ap (λ (t : Bool). b == 10 || (b == 13 && t)) (lf_past_bytes_ignores_text_after_lf bytes m r s)

quoted_part_ignores_text_after_lf : (behind : Bool) (bytes m r s : List ℕ) → rest_of_quoted_part behind (bytes ++ (m ++ 10 ∷ r)) ≡ bytes → rest_of_quoted_part behind (bytes ++ (m ++ 10 ∷ s)) ≡ bytes
quoted_part_ignores_text_after_lf true [] [] r s h = absurd (cc)
quoted_part_ignores_text_after_lf true [] (c ∷ m) r s h = absurd (cc)
quoted_part_ignores_text_after_lf false [] [] r s h = refl
quoted_part_ignores_text_after_lf false [] (c ∷ m) r s h =
    choice_is_one_of_its_sides (c == 34) _ _ _ h (λ _ e. absurd (cc)) (λ other h1.
    choice_is_one_of_its_sides (begins_line_end (c ∷ (m ++ 10 ∷ r))) _ _ _ h1 (λ is _.
    let same : begins_line_end (c ∷ (m ++ 10 ∷ s)) ≡ true = sym (line_end_past_bytes_ignores_later_text c [] m r s) ∙ is in
    ap (λ (t : Bool). if t then c ∷ [] else (if begins_line_end (c ∷ (m ++ 10 ∷ s)) then [] else c ∷ rest_of_quoted_part (c == 92) (m ++ 10 ∷ s))) other
    ∙ ap (λ (t : Bool). if t then [] else c ∷ rest_of_quoted_part (c == 92) (m ++ 10 ∷ s)) same) (λ _ e. absurd (cc)))
quoted_part_ignores_text_after_lf true (b ∷ bytes) m r s h =
    let left : rest_of_quoted_part (b == 13 && begins_lf (bytes ++ (m ++ 10 ∷ r))) (bytes ++ (m ++ 10 ∷ r)) ≡ bytes = cc in
    let same : rest_of_quoted_part (b == 13 && begins_lf (bytes ++ (m ++ 10 ∷ s))) (bytes ++ (m ++ 10 ∷ r)) ≡ bytes =
    subst (λ (t : Bool). rest_of_quoted_part (b == 13 && t) (bytes ++ (m ++ 10 ∷ r)) ≡ bytes) (lf_past_bytes_ignores_text_after_lf bytes m r s) left in
    ap (λ (t : List ℕ). b ∷ t) (quoted_part_ignores_text_after_lf (b == 13 && begins_lf (bytes ++ (m ++ 10 ∷ s))) bytes m r s same)
quoted_part_ignores_text_after_lf false (b ∷ bytes) m r s h =
    choice_is_one_of_its_sides (b == 34) _ _ _ h (λ is e. rw is e) (λ other h1.
    choice_is_one_of_its_sides (begins_line_end (b ∷ (bytes ++ (m ++ 10 ∷ r)))) _ _ _ h1 (λ _ e. absurd (cc)) (λ another e.
    let left : rest_of_quoted_part (b == 92) (bytes ++ (m ++ 10 ∷ r)) ≡ bytes = cc in
    let same : begins_line_end (b ∷ (bytes ++ (m ++ 10 ∷ s))) ≡ false = sym (line_end_past_bytes_ignores_later_text b bytes m r s) ∙ another in
    ap (λ (t : Bool). if t then b ∷ [] else (if begins_line_end (b ∷ (bytes ++ (m ++ 10 ∷ s))) then [] else b ∷ rest_of_quoted_part (b == 92) (bytes ++ (m ++ 10 ∷ s)))) other
    ∙ ap (λ (t : Bool). if t then [] else b ∷ rest_of_quoted_part (b == 92) (bytes ++ (m ++ 10 ∷ s))) same
    ∙ ap (λ (t : List ℕ). b ∷ t) (quoted_part_ignores_text_after_lf (b == 92) bytes m r s left)))

line_end_search_ignores_text_after_lf : (k r s : List ℕ) → bytes_up_to_line_end (k ++ 10 ∷ r) ≡ bytes_up_to_line_end (k ++ 10 ∷ s)
line_end_search_ignores_text_after_lf [] r s = refl
line_end_search_ignores_text_after_lf (b ∷ k) r s =
    ap (λ (t : Bool). if t then [] else b ∷ bytes_up_to_line_end (k ++ 10 ∷ r)) (line_end_start_ignores_text_after_lf (b ∷ k) r s)
    ∙ ap (λ (t : List ℕ). if begins_line_end (b ∷ (k ++ 10 ∷ s)) then [] else b ∷ t) (line_end_search_ignores_text_after_lf k r s)

-- what begins a unit that is no quoted part doesn't see past a LF
non_quote_unit_ignores_text_after_lf : (before : List LineUnit) (b : ℕ) (k r s : List ℕ) → (b == 34) ≡ false → unit_at before (b ∷ (k ++ 10 ∷ r)) ≡ unit_at before (b ∷ (k ++ 10 ∷ s))
non_quote_unit_ignores_text_after_lf before b k r s other =
    rw other (
    ap (λ (e : Bool). if e then None else (if b == 92 then Some (unit_after_backslash (k ++ 10 ∷ r)) else (if b == 35 && is_hash_of_comment before (k ++ 10 ∷ r) then Some (Comment (bytes_up_to_line_end (k ++ 10 ∷ r))) else Some (Byte b)))) (line_end_start_ignores_text_after_lf (b ∷ k) r s)
    ∙ ap (λ (e : LineUnit). if begins_line_end (b ∷ (k ++ 10 ∷ s)) then None else (if b == 92 then Some e else (if b == 35 && is_hash_of_comment before (k ++ 10 ∷ r) then Some (Comment (bytes_up_to_line_end (k ++ 10 ∷ r))) else Some (Byte b)))) (escaped_unit_ignores_text_after_lf k r s)
    ∙ ap (λ (t : Bool). if begins_line_end (b ∷ (k ++ 10 ∷ s)) then None else (if b == 92 then Some (unit_after_backslash (k ++ 10 ∷ s)) else (if b == 35 && t then Some (Comment (bytes_up_to_line_end (k ++ 10 ∷ r))) else Some (Byte b)))) (comment_hash_ignores_text_after_lf before k r s)
    ∙ ap (λ (t : List ℕ). if begins_line_end (b ∷ (k ++ 10 ∷ s)) then None else (if b == 92 then Some (unit_after_backslash (k ++ 10 ∷ s)) else (if b == 35 && is_hash_of_comment before (k ++ 10 ∷ s) then Some (Comment t) else Some (Byte b)))) (line_end_search_ignores_text_after_lf k r s))

unit_ignores_text_after_lf : (before : List LineUnit) (u : LineUnit) (m r s : List ℕ) → unit_at before (bytes_of_unit u ++ (m ++ 10 ∷ r)) ≡ Some u → unit_at before (bytes_of_unit u ++ (m ++ 10 ∷ s)) ≡ Some u
unit_ignores_text_after_lf before (Continuation false) m r s h = sym (non_quote_unit_ignores_text_after_lf before 92 (10 ∷ m) r s refl) ∙ h
unit_ignores_text_after_lf before (Continuation true) m r s h = sym (non_quote_unit_ignores_text_after_lf before 92 (13 ∷ 10 ∷ m) r s refl) ∙ h
unit_ignores_text_after_lf before (Pair b) m r s h = sym (non_quote_unit_ignores_text_after_lf before 92 (b ∷ m) r s refl) ∙ h
unit_ignores_text_after_lf before (Quoted bytes) m r s h =
    let part : rest_of_quoted_part false (bytes ++ (m ++ 10 ∷ r)) ≡ bytes = cc in
    ap (λ (t : List ℕ). Some (Quoted t)) (quoted_part_ignores_text_after_lf false bytes m r s part)
unit_ignores_text_after_lf before (Comment bytes) m r s h =
    let family : List ℕ → Type 0 = λ t. unit_at before (35 ∷ t) ≡ Some (Comment bytes) in
    subst family (append_assoc bytes m (10 ∷ s))
    (sym (non_quote_unit_ignores_text_after_lf before 35 (bytes ++ m) r s refl) ∙ subst family (sym (append_assoc bytes m (10 ∷ r))) h)
unit_ignores_text_after_lf before (Byte b) m r s h =
    elim (eqb_tells b 34) [
      | inl w ↦
          let bad : unit_at before (34 ∷ (m ++ 10 ∷ r)) ≡ Some (Byte 34) = subst (λ (c : ℕ). unit_at before (c ∷ (m ++ 10 ∷ r)) ≡ Some (Byte c)) w.1 h in
          absurd (cc)
      | inr w ↦ sym (non_quote_unit_ignores_text_after_lf before b m r s w.0) ∙ h
    ]

-- units before a LF are units whatever stands behind it
pub units_ignore_text_after_lf : (us : List LineUnit) (m r s : List ℕ) → AreUnitsBefore us (m ++ 10 ∷ r) → AreUnitsBefore us (m ++ 10 ∷ s)
units_ignore_text_after_lf [] m r s each = tt
units_ignore_text_after_lf (u ∷ us) m r s each = (
  unit_ignores_text_after_lf us u m r s each.0,
  subst (λ (t : List ℕ). AreUnitsBefore us t) (append_assoc (bytes_of_unit u) m (10 ∷ s))
      (units_ignore_text_after_lf us (bytes_of_unit u ++ m) r s (subst (λ (t : List ℕ). AreUnitsBefore us t) (sym (append_assoc (bytes_of_unit u) m (10 ∷ r))) each.1)),
)

-- a line that has a line end is a line before anything
pub line_with_ending_is_line_anywhere : (line : List ℕ) (units : List LineUnit) (ending rest other : List ℕ) → line ≡ bytes_of_reversed_units units ++ ending → AreUnitsBefore units (ending ++ rest) → IsLineEndingOrTextEnd units ending rest → (rest ≡ [] → ending ≡ [] → ⊥) → IsLogicalLineBefore line other
line_with_ending_is_line_anywhere line units ending rest other text each by_lf ended = record {
  units = units;
  ending = 10 ∷ [];
  text = text;
  each = units_ignore_text_after_lf units [] rest other each;
  ends = by_lf;
}
line_with_ending_is_line_anywhere line units ending rest other text each by_crlf ended = record {
  units = units;
  ending = 13 ∷ 10 ∷ [];
  text = text;
  each = units_ignore_text_after_lf units (13 ∷ []) rest other each;
  ends = by_crlf;
}
line_with_ending_is_line_anywhere line units ending rest other text each at_end ended = absurd (ended refl refl)

-- A line before something is a line before anything.
pub inner_line_is_line_anywhere : (line rest other : List ℕ) → IsLogicalLineBefore line rest → rest ≢ [] → IsLogicalLineBefore line other
inner_line_is_line_anywhere line rest other x some = line_with_ending_is_line_anywhere line x.units x.ending rest other x.text x.each x.ends (λ none _. some none)

-- A line of a text is a text of one line.
pub line_before_text_is_line_alone : (line rest : List ℕ) → IsLogicalLineBefore line rest → IsLogicalLineBefore line []
line_before_text_is_line_alone line [] x = x
line_before_text_is_line_alone line (b ∷ rest) x = inner_line_is_line_anywhere line (b ∷ rest) [] x (λ e. cc)
