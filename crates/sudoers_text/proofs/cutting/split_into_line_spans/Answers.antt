use Rattle.std.proofs.Common.{List, sym, subst, arith}
use Rattle.sudoers_text.specs.declared.cutting.LineSpan.{LineSpan}
use Rattle.sudoers_text.proofs.Pieces.{AreSpansOfTextUpTo, cut_spans_extend_by_line_span, complete_cut_spans_are_text_lines}
use Rattle.sudoers_text.proofs.cutting.split_into_line_spans.Goals as goal

pub loop-start-preserved : goal.loop-start-preserved
loop-start-preserved c =
    let end = c.find_line_end_by_backslash-end in
    let family : List LineSpan → Type 0 = λ spans. AreSpansOfTextUpTo c.args.text.now spans end.result.stop end.result.continues in
    let cut = subst family (sym c.in_ok-push.ensures.items)
    (cut_spans_extend_by_line_span c.args.text.now c.loop-start.spans.items c.loop-start.start end.result.stop c.loop-start.continues end.result.continues
    c.loop-start.invariant.cut end.ensures.later end.ensures.inside end.ensures.line end.ensures.open_text) in
    record { cut = cut; clear = λ k from below is. c.find_backslash_unless_known-backslash.ensures k (omega (arith, end.ensures.later)) below is }

pub returns-clause-cuts : goal.returns-clause-cuts
returns-clause-cuts c = complete_cut_spans_are_text_lines c.args.text.now c.loop-start.spans.items c.loop-start.start c.loop-start.continues c.loop-start.invariant.cut c.loop-start-test.false
