-- How far a text has been cut.
use Rattle.std.proofs.Common.{◌≡◌, ◌↔◌, ℕ, zero, suc, ◌+◌, ◌-◌, ◌<◌, ◌≤◌, Bool, true, List, [], ◌∷◌, ◌++◌, length, take, drop, refl, sym, ap, subst, ◌∙◌, arith, append-nil}
use Rattle.std.specs.Prelude.{slice_range, slice_get, Some}
use Rattle.std.proofs.lemmas.List.{length-drop, length-take-le, drop-drop, take-append-drop, append_assoc, map-append, same_from_push, take_all, drop_all}
use Rattle.sudoers_text.specs.declared.cutting.LineSpan.{LineSpan}
use Rattle.sudoers_text.specs.Line.{IsLogicalLineBefore, IsUnfinishedLine, join, AreLogicalLines, AreLinesOfText}
use Rattle.sudoers_text.specs.Span.{texts_of_spans, AreContiguousSpans}
use Rattle.sudoers_text.specs.Fault.{LastLineIsUnfinished}
use Rattle.sudoers_text.proofs.Units.{slice_and_unit_are_longer_slice}

pub join_of_concatenation_is_concatenated_joins : (xs ys : List (List ℕ)) → join (xs ++ ys) ≡ join xs ++ join ys
join_of_concatenation_is_concatenated_joins [] ys = refl
join_of_concatenation_is_concatenated_joins (x ∷ xs) ys = ap (λ (t : List ℕ). x ++ t) (join_of_concatenation_is_concatenated_joins xs ys) ∙ sym (append_assoc x (join xs) (join ys))

-- each of the lines is a logical line before the next ones and this text
abbrev pub AreLinesBefore : List (List ℕ) → List ℕ → Type 0
AreLinesBefore [] rest = Unit {0}
AreLinesBefore (line ∷ lines) rest = IsLogicalLineBefore line (join lines ++ rest) × AreLinesBefore lines rest

lines_before_text_extended_by_line : (lines : List (List ℕ)) (line rest : List ℕ) → AreLinesBefore lines (line ++ rest) → IsLogicalLineBefore line rest → AreLinesBefore (lines ++ line ∷ []) rest
lines_before_text_extended_by_line [] line rest each last = (last, tt)
lines_before_text_extended_by_line (first ∷ lines) line rest each last =
    let behind : join lines ++ (line ++ rest) ≡ join (lines ++ line ∷ []) ++ rest =
    sym (append_assoc (join lines) line rest)
    ∙ ap (λ (t : List ℕ). join lines ++ t ++ rest) (sym (append-nil line))
    ∙ ap (λ (t : List ℕ). t ++ rest) (sym (join_of_concatenation_is_concatenated_joins lines (line ∷ []))) in
    (subst (λ (t : List ℕ). IsLogicalLineBefore first t) behind each.0, lines_before_text_extended_by_line lines line rest each.1 last)

lines_before_empty_text_are_logical_lines : (lines : List (List ℕ)) → AreLinesBefore lines [] → AreLogicalLines lines
lines_before_empty_text_are_logical_lines [] each = tt
lines_before_empty_text_are_logical_lines (line ∷ lines) each = (subst (λ (t : List ℕ). IsLogicalLineBefore line t) (append-nil (join lines)) each.0, lines_before_empty_text_are_logical_lines lines each.1)

pub rest_from_place_is_slice_and_rest : (text : List ℕ) (from to : ℕ) → from ≤ to → drop from text ≡ slice_range text from to ++ drop to text
rest_from_place_is_slice_and_rest text from to below =
    let same : from + (to - from) ≡ to = omega arith in
    sym (take-append-drop (to - from) (drop from text))
    ∙ ap (λ (t : List ℕ). slice_range text from to ++ t) (drop-drop (to - from) from text ∙ ap (λ (n : ℕ). drop n text) same)

pub slice_size_is_difference_of_places : (text : List ℕ) (from to : ℕ) → to ≤ length text → length (slice_range text from to) ≡ to - from
slice_size_is_difference_of_places text from to inside = length-take-le (to - from) (drop from text) (omega (arith, length-drop from text))

adjacent_slices_join_to_slice : (text : List ℕ) (a b c : ℕ) → a ≤ b → b ≤ c → c ≤ length text → slice_range text a b ++ slice_range text b c ≡ slice_range text a c
adjacent_slices_join_to_slice text a b c ab bc inside =
    let size : b + length (slice_range text b c) ≡ c = omega (arith, slice_size_is_difference_of_places text b c inside) in
    slice_and_unit_are_longer_slice text (slice_range text b c) a b ab (omega arith)
    (rest_from_place_is_slice_and_rest text b c bc ∙ ap (λ (n : ℕ). slice_range text b c ++ drop n text) (sym size))
    ∙ ap (λ (n : ℕ). slice_range text a n) size

pub contiguous_spans_with_next_are_contiguous : (spans : List LineSpan) (from middle to : ℕ) → AreContiguousSpans from spans middle → middle < to → AreContiguousSpans from (spans ++ record { start = middle; stop = to } ∷ []) to
contiguous_spans_with_next_are_contiguous [] from middle to follow below = (sym follow, below, refl)
contiguous_spans_with_next_are_contiguous (span ∷ spans) from middle to follow below = (follow.0, follow.1, contiguous_spans_with_next_are_contiguous spans span.stop middle to follow.2 below)

pub contiguous_spans_end_no_earlier_than_start : (spans : List LineSpan) (from to : ℕ) → AreContiguousSpans from spans to → from ≤ to
contiguous_spans_end_no_earlier_than_start [] from to follow = omega (arith, follow)
contiguous_spans_end_no_earlier_than_start (span ∷ spans) from to follow = omega (arith, follow.0, follow.1, contiguous_spans_end_no_earlier_than_start spans span.stop to follow.2)

pub join_of_contiguous_span_texts_is_slice : (text : List ℕ) (spans : List LineSpan) (from to : ℕ) → AreContiguousSpans from spans to → to ≤ length text → join (texts_of_spans text spans) ≡ slice_range text from to
join_of_contiguous_span_texts_is_slice text [] from to follow inside =
    let none : 0 ≡ to - from = omega (arith, follow) in
    ap (λ (n : ℕ). take n (drop from text)) none
join_of_contiguous_span_texts_is_slice text (span ∷ spans) from to follow inside =
    let below = contiguous_spans_end_no_earlier_than_start spans span.stop to follow.2 in
    ap (λ (t : List ℕ). slice_range text span.start span.stop ++ t) (join_of_contiguous_span_texts_is_slice text spans span.stop to follow.2 inside)
    ∙ adjacent_slices_join_to_slice text span.start span.stop to (omega (arith, follow.1)) below inside
    ∙ ap (λ (n : ℕ). slice_range text n to) follow.0

list_with_appended_element_is_not_empty : {A : Type 0} (xs : List A) (x : A) → [] ≡ xs ++ x ∷ [] → ⊥
list_with_appended_element_is_not_empty [] x e = cc
list_with_appended_element_is_not_empty (y ∷ ys) x e = cc

pub empty_list_has_no_unfinished_last_line : LastLineIsUnfinished [] → ⊥
empty_list_has_no_unfinished_last_line ends = list_with_appended_element_is_not_empty ends.before ends.last ends.place

pub unfinished_last_of_lines_is_unfinished_line : (lines : List (List ℕ)) (line : List ℕ) → LastLineIsUnfinished (lines ++ line ∷ []) → IsUnfinishedLine line
unfinished_last_of_lines_is_unfinished_line lines line ends =
    let same = same_from_push lines ends.before line ends.last ends.place in
    subst (λ (t : List ℕ). IsUnfinishedLine t) (sym same.1) ends.unfinished

-- The spans are the lines up to a place of the text.
pub record AreSpansOfTextUpTo (text : List ℕ) (spans : List LineSpan) (start : ℕ) (continues : Bool) : Type 0 where
  pub each : AreLinesBefore (texts_of_spans text spans) (drop start text)
  pub follow : AreContiguousSpans 0 spans start
  pub inside : start ≤ length text
  pub last : start ≡ length text → (continues ≡ true) ↔ LastLineIsUnfinished (texts_of_spans text spans)

pub cut_spans_extend_by_line_span : (text : List ℕ) (spans : List LineSpan) (start stop : ℕ) (continues next : Bool) → AreSpansOfTextUpTo text spans start continues → start < stop → stop ≤ length text → IsLogicalLineBefore (slice_range text start stop) (drop stop text) → (stop ≡ length text → (next ≡ true) ↔ IsUnfinishedLine (slice_range text start stop)) → AreSpansOfTextUpTo text (spans ++ record { start = start; stop = stop } ∷ []) stop next
cut_spans_extend_by_line_span text spans start stop continues next cutting later inside line open_text =
    let here = slice_range text start stop in
    let more : texts_of_spans text (spans ++ record { start = start; stop = stop } ∷ []) ≡ texts_of_spans text spans ++ here ∷ [] =
    map-append (λ (span : LineSpan). slice_range text span.start span.stop) spans (record { start = start; stop = stop } ∷ []) in
    let each : AreLinesBefore (texts_of_spans text spans ++ here ∷ []) (drop stop text) =
    lines_before_text_extended_by_line (texts_of_spans text spans) here (drop stop text)
    (subst (λ (t : List ℕ). AreLinesBefore (texts_of_spans text spans) t) (rest_from_place_is_slice_and_rest text start stop (omega arith)) cutting.each) line in
    record {
      each = subst (λ (ls : List (List ℕ)). AreLinesBefore ls (drop stop text)) (sym more) each;
      follow = contiguous_spans_with_next_are_contiguous spans 0 start stop cutting.follow later;
      inside = inside;
      last = λ all. (
        λ is. record { before = texts_of_spans text spans; last = here; place = more; unfinished = (open_text all).0 is },
        λ ends. (open_text all).1 (unfinished_last_of_lines_is_unfinished_line (texts_of_spans text spans) here (subst (λ (ls : List (List ℕ)). LastLineIsUnfinished ls) more ends)),
      );
    }

pub complete_cut_spans_are_text_lines : (text : List ℕ) (spans : List LineSpan) (start : ℕ) (continues : Bool) → AreSpansOfTextUpTo text spans start continues → length text ≤ start → AreLinesOfText text (texts_of_spans text spans)
complete_cut_spans_are_text_lines text spans start continues cutting past =
    let whole : slice_range text 0 start ≡ text = take_all (start - 0) text (omega arith) in
    record {
      joined = join_of_contiguous_span_texts_is_slice text spans 0 start cutting.follow cutting.inside ∙ whole;
      each = lines_before_empty_text_are_logical_lines (texts_of_spans text spans) (subst (λ (t : List ℕ). AreLinesBefore (texts_of_spans text spans) t) (drop_all start text past) cutting.each);
    }

-- a span of the list lies in the text
pub span_of_contiguous_spans_is_within_end : (spans : List LineSpan) (from to i : ℕ) (span : LineSpan) → AreContiguousSpans from spans to → slice_get spans i ≡ Some span → (span.start < span.stop) × (span.stop ≤ to)
span_of_contiguous_spans_is_within_end [] from to i span follow is = cc
span_of_contiguous_spans_is_within_end (first ∷ spans) from to zero span follow is =
    let same : first ≡ span = cc in
    subst (λ (s : LineSpan). (s.start < s.stop) × (s.stop ≤ to)) same (follow.1, contiguous_spans_end_no_earlier_than_start spans first.stop to follow.2)
span_of_contiguous_spans_is_within_end (first ∷ spans) from to (suc i) span follow is = span_of_contiguous_spans_is_within_end spans first.stop to i span follow.2 is

pub text_at_span_index_is_its_slice : (text : List ℕ) (spans : List LineSpan) (i : ℕ) (span : LineSpan) → slice_get spans i ≡ Some span → slice_get (texts_of_spans text spans) i ≡ Some (slice_range text span.start span.stop)
text_at_span_index_is_its_slice text [] i span is = cc
text_at_span_index_is_its_slice text (first ∷ spans) zero span is =
    let same : first ≡ span = cc in
    ap (λ (s : LineSpan). Some (slice_range text s.start s.stop)) same
text_at_span_index_is_its_slice text (first ∷ spans) (suc i) span is = text_at_span_index_is_its_slice text spans i span is
