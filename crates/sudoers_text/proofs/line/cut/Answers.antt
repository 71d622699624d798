use Rattle.std.proofs.Common.{ℕ, List, Ok, Err, sym, subst}
use Rattle.sudoers_text.specs.declared.cutting.LineSpan.{LineSpan}
use Rattle.sudoers_text.specs.declared.fault.TextFault.{TextFault}
use Rattle.sudoers_text.specs.declared.fault.TextFault.TheVariants.{TooLarge}
use Rattle.sudoers_text.specs.Line.{AreLinesOfText}
use Rattle.sudoers_text.specs.Span.{texts_of_spans}
use Rattle.sudoers_text.specs.Fault.{HasFaultAt}
use Rattle.sudoers_text.proofs.Found.{outcome_of_cut_is_computed_outcome, first_fault_is_computed_outcome}
use Rattle.sudoers_text.proofs.line.cut.Goals as goal

pub returns-then-text-gt-TEXT_LIMIT-clause-outcome : goal.returns-then-text-gt-TEXT_LIMIT-clause-outcome
returns-then-text-gt-TEXT_LIMIT-clause-outcome c = outcome_of_cut_is_computed_outcome c.args.text.now (Err TooLarge) c.if-text-gt-TEXT_LIMIT.true

pub returns-in-Some-clause-outcome : goal.returns-in-Some-clause-outcome
returns-in-Some-clause-outcome c =
    let family : List LineSpan → Type 0 = λ spans. AreLinesOfText c.args.text.now (texts_of_spans c.args.text.now spans) in
    first_fault_is_computed_outcome c.args.text.now (texts_of_spans c.args.text.now c.deref.result.now) c.in-Some.fault c.if-text-gt-TEXT_LIMIT.false
    (subst family (sym c.deref.ensures.value) c.in_ok-pieces.ensures.cuts) c.in-Some.ensures.some

pub returns-clause-outcome : goal.returns-clause-outcome
returns-clause-outcome c =
    let family : List LineSpan → Type 0 = λ spans. (fault : TextFault) (at : ℕ) → HasFaultAt (texts_of_spans c.args.text.now spans) fault at → ⊥ in
    outcome_of_cut_is_computed_outcome c.args.text.now (Ok (texts_of_spans c.args.text.now c.in_ok-pieces.pieces.spans.items)) (record {
      fits = c.if-text-gt-TEXT_LIMIT.false;
      cuts = c.in_ok-pieces.ensures.cuts;
      sound = subst family c.deref.ensures.value c.in-None.ensures.none;
    })
