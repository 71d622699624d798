use Rattle.std.proofs.Common.{◌<◌, ℕ, List, length, get_or, arith}
use Rattle.std.proofs.lemmas.List.{get_or_default}
use Rattle.sudoers_text.specs.declared.cutting.LineSpan.{LineSpan}
use Rattle.sudoers_text.proofs.Faults.{IsSpanNextAfterChecked, AreSpansBelowIndexFaultless, span_at_index_is_next_after_checked, checked_spans_with_short_span_are_checked, nul_within_line_limit_is_first_fault, next_span_over_limit_is_first_fault, unfinished_last_span_is_first_fault, checked_closed_spans_have_no_fault}
use Rattle.sudoers_text.proofs.cutting.find_first_fault.Goals as goal
use Rattle.sudoers_text.proofs.cutting.find_first_fault.Goals.{then-long, else-long}

at_index : (text : List ℕ) (spans : List LineSpan) (i nul : ℕ) (checked : AreSpansBelowIndexFaultless text spans i nul) → i < length spans → IsSpanNextAfterChecked text spans i checked.start (get_or spans i (record { start = 0; stop = 0 }))
at_index text spans i nul checked inside =
    let span = get_or spans i (record { start = 0; stop = 0 }) in
    span_at_index_is_next_after_checked text spans i nul span checked inside (get_or_default spans i span (record { start = 0; stop = 0 }) inside)

pub returns-then-nul-reach-clause-some : goal.returns-then-nul-reach-clause-some
returns-then-nul-reach-clause-some c =
    let n = c.find_first_nul-nul.ensures in
    let checked = c.loop-span.invariant in
    let next = at_index c.args.text.now c.args.spans.now c.loop-span.span-index c.find_first_nul-nul.result checked c.loop-span-test.true in
    let first = nul_within_line_limit_is_first_fault c.args.text.now c.args.spans.now c.loop-span.span-index c.find_first_nul-nul.result c.if-long.reach checked c.requires.cuts
    (record { inside = n.inside; before = n.before; found = n.found }) in
    elim c.if-long.branch [
      | then-long w ↦ first (omega (arith, w.reach-is, next.begins)) (omega (arith, w.reach-is, w.if-long.true, next.inside)) c.if-nul-reach.true
      | else-long w ↦ first (omega (arith, w.reach-is, w.if-long.false, next.begins)) (omega (arith, w.reach-is, next.inside)) c.if-nul-reach.true
    ]

pub returns-then-long-2-clause-some : goal.returns-then-long-2-clause-some
returns-then-long-2-clause-some c =
    let n = c.find_first_nul-nul.ensures in
    let checked = c.loop-span.invariant in
    let spans = c.args.spans.now in
    let span = get_or spans c.loop-span.span-index (record { start = 0; stop = 0 }) in
    let next = at_index c.args.text.now c.args.spans.now c.loop-span.span-index c.find_first_nul-nul.result checked c.loop-span-test.true in
    let first = next_span_over_limit_is_first_fault c.args.text.now spans c.loop-span.span-index c.find_first_nul-nul.result span checked next c.requires.cuts
    (record { inside = n.inside; before = n.before; found = n.found }) c.if-long-2.true in
    elim c.if-long.branch [
      | then-long w ↦ first (omega (arith, w.reach-is, c.if-nul-reach.false)) c.physical_line_number_at.result c.physical_line_number_at.ensures
      | else-long w ↦ absurd (omega (arith, w.if-long.false, c.if-long-2.true))
    ]

pub loop-span-preserved : goal.loop-span-preserved
loop-span-preserved c =
    let checked = c.loop-span.invariant in
    let spans = c.args.spans.now in
    let span = get_or spans c.loop-span.span-index (record { start = 0; stop = 0 }) in
    let next = at_index c.args.text.now c.args.spans.now c.loop-span.span-index c.find_first_nul-nul.result checked c.loop-span-test.true in
    let more = checked_spans_with_short_span_are_checked c.args.text.now spans c.loop-span.span-index c.find_first_nul-nul.result span checked next c.if-long-2.false in
    elim c.if-long.branch [
      | then-long w ↦ absurd (omega (arith, w.if-long.true, c.if-long-2.false))
      | else-long w ↦ more (omega (arith, w.reach-is, c.if-nul-reach.false))
    ]

pub returns-then-continues-clause-some : goal.returns-then-continues-clause-some
returns-then-continues-clause-some c =
    let n = c.find_first_nul-nul.ensures in
    unfinished_last_span_is_first_fault c.args.text.now c.args.spans.now c.loop-span.span-index c.find_first_nul-nul.result c.loop-span.invariant c.loop-span-test.false c.requires.cuts
    (record { inside = n.inside; before = n.before; found = n.found }) (c.requires.continues.0 c.if-continues.true)

pub returns-else-continues-clause-none : goal.returns-else-continues-clause-none
returns-else-continues-clause-none c =
    let n = c.find_first_nul-nul.ensures in
    checked_closed_spans_have_no_fault c.args.text.now c.args.spans.now c.loop-span.span-index c.find_first_nul-nul.result c.loop-span.invariant c.loop-span-test.false c.requires.cuts
    (record { inside = n.inside; before = n.before; found = n.found }) (λ ends. let is = c.requires.continues.1 ends in let isnt = c.if-continues.false in cc)
