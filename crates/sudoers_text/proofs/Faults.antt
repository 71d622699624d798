-- Which fault of a text comes first, by its spans.
use Rattle.std.proofs.Common.{◌≡◌, ℕ, ◌+◌, ◌-◌, ◌<◌, ◌≤◌, List, [], ◌∷◌, ◌++◌, length, take, drop, refl, sym, ap, subst, ◌∙◌, arith, get_or}
use Rattle.std.specs.Prelude.{slice_range, slice_get}
use Rattle.std.proofs.lemmas.List.{drop_more, take_more, take-append-drop, map-append, take_all, drop_all}
use Rattle.sudoers_text.specs.declared.cutting.LineSpan.{LineSpan}
use Rattle.sudoers_text.specs.declared.fault.TextFault.{TextFault}
use Rattle.sudoers_text.specs.declared.fault.TextFault.TheVariants.{LineTooLong, Nul, OpenContinuation}
use Rattle.sudoers_text.specs.Line.{join, AreLinesOfText}
use Rattle.sudoers_text.specs.Span.{texts_of_spans, AreContiguousSpans}
use Rattle.sudoers_text.specs.Fault.{LastLineIsUnfinished, HasFaultAt, IsFirstFaultOfLines, line_limit, lf_count}
use Rattle.sudoers_text.proofs.Pieces.{join_of_contiguous_span_texts_is_slice, contiguous_spans_end_no_earlier_than_start, slice_size_is_difference_of_places}
use Rattle.sudoers_text.proofs.First.{IsFirstNul, AreLinesWithinLimit, short_lines_with_short_line_are_short, HasNoNul, HasNoNulBelow, no_nul_below_end_is_no_nul, nul_before_long_line_is_first_fault as nul_of_lines, long_line_before_nul_is_first_fault as long_of_lines, unfinished_good_lines_have_open_fault as open_of_lines, short_closed_lines_have_no_fault as no_fault_of_lines}

-- The spans below an index have been looked at: none is too long, and no NUL stands in them.
pub record AreSpansBelowIndexFaultless (text : List ℕ) (spans : List LineSpan) (i nul : ℕ) : Type 0 where
  pub start : ℕ
  pub front : AreContiguousSpans 0 (take i spans) start
  pub back : AreContiguousSpans start (drop i spans) (length text)
  pub short : AreLinesWithinLimit (texts_of_spans text (take i spans))
  pub later : start ≤ nul

spans_with_following_span_are_contiguous : (spans : List LineSpan) (from middle : ℕ) (span : LineSpan) → AreContiguousSpans from spans middle → span.start ≡ middle → span.start < span.stop → AreContiguousSpans from (spans ++ span ∷ []) span.stop
spans_with_following_span_are_contiguous [] from middle span follow start below = (start ∙ sym follow, below, refl)
spans_with_following_span_are_contiguous (first ∷ spans) from middle span follow start below = (follow.0, follow.1, spans_with_following_span_are_contiguous spans first.stop middle span follow.2 start below)

-- the span at an index begins where the ones before it end
pub record IsSpanNextAfterChecked (text : List ℕ) (spans : List LineSpan) (i start : ℕ) (span : LineSpan) : Type 0 where
  pub begins : span.start ≡ start
  pub later : span.start < span.stop
  pub rest : AreContiguousSpans span.stop (drop (i + 1) spans) (length text)
  pub inside : span.stop ≤ length text
  pub taken : take (i + 1) spans ≡ take i spans ++ span ∷ []
  pub whole : texts_of_spans text spans ≡ texts_of_spans text (take i spans) ++ slice_range text span.start span.stop ∷ texts_of_spans text (drop (i + 1) spans)

pub span_at_index_is_next_after_checked : (text : List ℕ) (spans : List LineSpan) (i nul : ℕ) (span : LineSpan) (checked : AreSpansBelowIndexFaultless text spans i nul) → i < length spans → get_or spans i span ≡ span → IsSpanNextAfterChecked text spans i checked.start span
span_at_index_is_next_after_checked text spans i nul span checked inside here =
    let cut : drop i spans ≡ span ∷ drop (i + 1) spans = drop_more spans i span inside ∙ ap (λ (s : LineSpan). s ∷ drop (i + 1) spans) here in
    let follow : AreContiguousSpans checked.start (span ∷ drop (i + 1) spans) (length text) = subst (λ (ss : List LineSpan). AreContiguousSpans checked.start ss (length text)) cut checked.back in
    let split : spans ≡ take i spans ++ span ∷ drop (i + 1) spans = sym (take-append-drop i spans) ∙ ap (λ (ss : List LineSpan). take i spans ++ ss) cut in
    record {
      begins = follow.0;
      later = follow.1;
      rest = follow.2;
      inside = contiguous_spans_end_no_earlier_than_start (drop (i + 1) spans) span.stop (length text) follow.2;
      taken = take_more spans i span inside ∙ ap (λ (s : LineSpan). take i spans ++ s ∷ []) here;
      whole = ap (λ (ss : List LineSpan). texts_of_spans text ss) split ∙ map-append (λ (s : LineSpan). slice_range text s.start s.stop) (take i spans) (span ∷ drop (i + 1) spans);
    }

pub checked_spans_with_short_span_are_checked : (text : List ℕ) (spans : List LineSpan) (i nul : ℕ) (span : LineSpan) (checked : AreSpansBelowIndexFaultless text spans i nul) → IsSpanNextAfterChecked text spans i checked.start span → span.stop - span.start ≤ line_limit → span.stop ≤ nul → AreSpansBelowIndexFaultless text spans (i + 1) nul
checked_spans_with_short_span_are_checked text spans i nul span checked next fits below =
    let front : AreContiguousSpans 0 (take i spans ++ span ∷ []) span.stop = spans_with_following_span_are_contiguous (take i spans) 0 checked.start span checked.front next.begins next.later in
    let size : length (slice_range text span.start span.stop) ≤ line_limit = omega (arith, slice_size_is_difference_of_places text span.start span.stop next.inside) in
    let texts_are : texts_of_spans text (take (i + 1) spans) ≡ texts_of_spans text (take i spans) ++ slice_range text span.start span.stop ∷ [] =
    ap (λ (ss : List LineSpan). texts_of_spans text ss) next.taken ∙ map-append (λ (s : LineSpan). slice_range text s.start s.stop) (take i spans) (span ∷ []) in
    record {
      start = span.stop;
      front = subst (λ (ss : List LineSpan). AreContiguousSpans 0 ss span.stop) (sym next.taken) front;
      back = next.rest;
      short = subst AreLinesWithinLimit (sym texts_are) (short_lines_with_short_line_are_short (texts_of_spans text (take i spans)) (slice_range text span.start span.stop) checked.short size);
      later = below;
    }

-- the lines before an index, and the others
span_texts_split_at_index : (text : List ℕ) (spans : List LineSpan) (i : ℕ) → texts_of_spans text spans ≡ texts_of_spans text (take i spans) ++ texts_of_spans text (drop i spans)
span_texts_split_at_index text spans i =
    ap (λ (ss : List LineSpan). texts_of_spans text ss) (sym (take-append-drop i spans)) ∙ map-append (λ (s : LineSpan). slice_range text s.start s.stop) (take i spans) (drop i spans)

-- what the lines before an index join to
checked_lines_join_to_text_before_start : (text : List ℕ) (spans : List LineSpan) (i nul : ℕ) (checked : AreSpansBelowIndexFaultless text spans i nul) → join (texts_of_spans text (take i spans)) ≡ take checked.start text
checked_lines_join_to_text_before_start text spans i nul checked =
    let inside = contiguous_spans_end_no_earlier_than_start (drop i spans) checked.start (length text) checked.back in
    let none : checked.start - 0 ≡ checked.start = omega arith in
    join_of_contiguous_span_texts_is_slice text (take i spans) 0 checked.start checked.front inside ∙ ap (λ (n : ℕ). take n text) none

checked_lines_have_size_of_start : (text : List ℕ) (spans : List LineSpan) (i nul : ℕ) (checked : AreSpansBelowIndexFaultless text spans i nul) → length (join (texts_of_spans text (take i spans))) ≡ checked.start
checked_lines_have_size_of_start text spans i nul checked =
    let inside = contiguous_spans_end_no_earlier_than_start (drop i spans) checked.start (length text) checked.back in
    ap length (join_of_contiguous_span_texts_is_slice text (take i spans) 0 checked.start checked.front inside) ∙ slice_size_is_difference_of_places text 0 checked.start inside ∙ omega arith

-- no NUL stands in the lines before the first one
text_has_no_nul_below_first : (text : List ℕ) (lines : List (List ℕ)) (nul n : ℕ) → AreLinesOfText text lines → IsFirstNul text nul → n ≤ nul → HasNoNulBelow (join lines) n
text_has_no_nul_below_first text lines nul n cuts is past k below here = is.before k (omega arith) (sym (ap (λ (t : List ℕ). slice_get t k) cuts.joined) ∙ here)

pub nul_within_line_limit_is_first_fault : (text : List ℕ) (spans : List LineSpan) (i nul reach : ℕ) (checked : AreSpansBelowIndexFaultless text spans i nul) → AreLinesOfText text (texts_of_spans text spans) → IsFirstNul text nul → reach ≤ checked.start + line_limit → reach ≤ length text → nul < reach → IsFirstFaultOfLines (texts_of_spans text spans) (Nul nul)
nul_within_line_limit_is_first_fault text spans i nul reach checked cuts is fits inside below =
    nul_of_lines (texts_of_spans text spans) (texts_of_spans text (take i spans)) (texts_of_spans text (drop i spans)) nul checked.short (span_texts_split_at_index text spans i)
    (omega (arith, checked_lines_have_size_of_start text spans i nul checked)) (text_has_no_nul_below_first text (texts_of_spans text spans) nul nul cuts is (omega arith))
    (ap (λ (t : List ℕ). slice_get t nul) cuts.joined ∙ is.found (omega arith))

pub next_span_over_limit_is_first_fault : (text : List ℕ) (spans : List LineSpan) (i nul : ℕ) (span : LineSpan) (checked : AreSpansBelowIndexFaultless text spans i nul) → IsSpanNextAfterChecked text spans i checked.start span → AreLinesOfText text (texts_of_spans text spans) → IsFirstNul text nul → line_limit < span.stop - span.start → span.start + line_limit ≤ nul → (number : ℕ) → number ≡ lf_count (take span.start text) + 1 → IsFirstFaultOfLines (texts_of_spans text spans) (LineTooLong number)
next_span_over_limit_is_first_fault text spans i nul span checked next cuts is long past number numbered =
    long_of_lines (texts_of_spans text spans) (texts_of_spans text (take i spans)) (slice_range text span.start span.stop) (texts_of_spans text (drop (i + 1) spans)) number checked.short next.whole
    (omega (arith, slice_size_is_difference_of_places text span.start span.stop next.inside))
    (numbered ∙ ap (λ (t : List ℕ). lf_count t + 1) (ap (λ (n : ℕ). take n text) next.begins ∙ sym (checked_lines_join_to_text_before_start text spans i nul checked)))
    (text_has_no_nul_below_first text (texts_of_spans text spans) nul (length (join (texts_of_spans text (take i spans))) + line_limit) cuts is (omega (arith, next.begins, checked_lines_have_size_of_start text spans i nul checked)))

-- All spans have been looked at.
lines_of_checked_spans_are_short : (text : List ℕ) (spans : List LineSpan) (i nul : ℕ) (checked : AreSpansBelowIndexFaultless text spans i nul) → length spans ≤ i → AreLinesWithinLimit (texts_of_spans text spans)
lines_of_checked_spans_are_short text spans i nul checked past = subst (λ (ss : List LineSpan). AreLinesWithinLimit (texts_of_spans text ss)) (take_all i spans past) checked.short

checked_spans_end_before_first_nul : (text : List ℕ) (spans : List LineSpan) (i nul : ℕ) (checked : AreSpansBelowIndexFaultless text spans i nul) → length spans ≤ i → length text ≤ nul
checked_spans_end_before_first_nul text spans i nul checked past =
    let done : drop i spans ≡ [] = drop_all i spans past in
    let back : checked.start ≡ length text = subst (λ (ss : List LineSpan). AreContiguousSpans checked.start ss (length text)) done checked.back in
    omega (arith, checked.later, back)

lines_of_checked_spans_have_no_nul : (text : List ℕ) (spans : List LineSpan) (i nul : ℕ) (checked : AreSpansBelowIndexFaultless text spans i nul) → length spans ≤ i → AreLinesOfText text (texts_of_spans text spans) → IsFirstNul text nul → HasNoNul (join (texts_of_spans text spans))
lines_of_checked_spans_have_no_nul text spans i nul checked past cuts is =
    no_nul_below_end_is_no_nul (join (texts_of_spans text spans))
    (text_has_no_nul_below_first text (texts_of_spans text spans) nul (length (join (texts_of_spans text spans))) cuts is (omega (arith, ap length cuts.joined, checked_spans_end_before_first_nul text spans i nul checked past)))

pub unfinished_last_span_is_first_fault : (text : List ℕ) (spans : List LineSpan) (i nul : ℕ) (checked : AreSpansBelowIndexFaultless text spans i nul) → length spans ≤ i → AreLinesOfText text (texts_of_spans text spans) → IsFirstNul text nul → LastLineIsUnfinished (texts_of_spans text spans) → IsFirstFaultOfLines (texts_of_spans text spans) OpenContinuation
unfinished_last_span_is_first_fault text spans i nul checked past cuts is ends =
    open_of_lines (texts_of_spans text spans) (lines_of_checked_spans_are_short text spans i nul checked past) (lines_of_checked_spans_have_no_nul text spans i nul checked past cuts is) ends

pub checked_closed_spans_have_no_fault : (text : List ℕ) (spans : List LineSpan) (i nul : ℕ) (checked : AreSpansBelowIndexFaultless text spans i nul) → length spans ≤ i → AreLinesOfText text (texts_of_spans text spans) → IsFirstNul text nul → (LastLineIsUnfinished (texts_of_spans text spans) → ⊥) → (fault : TextFault) (at : ℕ) → HasFaultAt (texts_of_spans text spans) fault at → ⊥
checked_closed_spans_have_no_fault text spans i nul checked past cuts is closed =
    no_fault_of_lines (texts_of_spans text spans) (lines_of_checked_spans_are_short text spans i nul checked past) (lines_of_checked_spans_have_no_nul text spans i nul checked past cuts is) closed
