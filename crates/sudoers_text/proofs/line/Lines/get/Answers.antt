use Rattle.std.proofs.Common.{◌≡◌, ◌∙◌, ℕ, List, Some, sym, subst, ap, arith, length}
use Rattle.std.specs.Prelude.{slice_get}
use Rattle.std.proofs.lemmas.Option.{slice_get-get_or}
use Rattle.sudoers_text.specs.declared.cutting.LineSpan.{LineSpan}
use Rattle.sudoers_text.proofs.Pieces.{span_of_contiguous_spans_is_within_end, text_at_span_index_is_its_slice}
use Rattle.sudoers_text.proofs.line.Lines.get.Goals as goal

pub slice_of_span-requires : goal.slice_of_span-requires
slice_of_span-requires c =
    let found = c.in_ok-span.ensures.lookup in
    let span = c.in_ok-span.span.now in
    let family : List LineSpan → Type 0 = λ spans. slice_get spans c.args.i ≡ Some span in
    let here = subst family c.deref.ensures.value (slice_get-get_or c.deref.result.now c.args.i span found.3.0 ∙ ap (λ (s : LineSpan). Some s) (sym (found.3.1 span))) in
    let inside = span_of_contiguous_spans_is_within_end c.self.inside.spans.items 0 (length c.self.inside.text.now) c.args.i span c.self.invariant here in
    record { below = omega (arith, inside.0); inside = inside.1 }

pub returns : goal.returns
returns c =
    let found = c.in_ok-span.ensures.lookup in
    let span = c.in_ok-span.span.now in
    let family : List LineSpan → Type 0 = λ spans. slice_get spans c.args.i ≡ Some span in
    let here = subst family c.deref.ensures.value (slice_get-get_or c.deref.result.now c.args.i span found.3.0 ∙ ap (λ (s : LineSpan). Some s) (sym (found.3.1 span))) in
    let lines : List (List ℕ) → Type 0 = λ lines. Some c.slice_of_span.result.now ≡ slice_get lines c.args.i in
    subst lines c.self.view_is (ap (λ (t : List ℕ). Some t) c.slice_of_span.ensures ∙ sym (text_at_span_index_is_its_slice c.self.inside.text.now c.self.inside.spans.items c.args.i span here))
