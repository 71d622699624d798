-- A device of the proof: lines as places in their text. Contracts see the list of texts that it makes of them.
use Rattle.std.specs.Prelude.{◌≡◌, ◌<◌, ℕ, List, [], ◌∷◌, map, slice_range}
use Rattle.sudoers_text.specs.declared.cutting.LineSpan.{LineSpan}

-- the texts of the spans
abbrev pub texts_of_spans : List ℕ → List LineSpan → List (List ℕ)
texts_of_spans text spans = map (λ span. slice_range text span.start span.stop) spans

-- The spans stand one behind the other, from one place to another.
abbrev pub AreContiguousSpans : ℕ → List LineSpan → ℕ → Type 0
AreContiguousSpans from [] to = from ≡ to
AreContiguousSpans from (span ∷ spans) to = (span.start ≡ from) × (span.start < span.stop) × AreContiguousSpans span.stop spans to
