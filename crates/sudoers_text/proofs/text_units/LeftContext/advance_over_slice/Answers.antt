use Rattle.std.proofs.Common.{◌≡◌, ◌+◌, ◌≤◌, ◌∙◌, ◌∷◌, ℕ, List, length, ap, subst, sym}
use Rattle.std.specs.Prelude.{◌==◌, slice_range}
use Rattle.sudoers_text.specs.Unit.{LineUnit, bytes_of_unit}
use Rattle.sudoers_text.specs.internal.Left.{LeftDescribesUnits, model_of_unit}
use Rattle.sudoers_text.specs.Token.{units_with_those_of_bytes}
use Rattle.sudoers_text.proofs.Passed.{AreUnitsLeftLeadingToUnits, IsPlainUnitStepWithin, unit_of_slice_start_is_plain_step, context_at_end_describes_led_units, plain_run_keeps_units_leading_to, plain_run_ends_within_slice}
use Rattle.sudoers_text.proofs.text_units.LeftContext.advance_over_slice.Goals as goal

pub pass_unit-left-requires-clause-stands : goal.pass_unit-left-requires-clause-stands
pass_unit-left-requires-clause-stands c =
    (unit_of_slice_start_is_plain_step c.args.text.now (c.loop-at.at + length c.find_plain_run_to_pass-run.result.now) c.args.to (model_of_unit c.read_byte_or_escape_unit-unit.result) c.if-at-to.true c.requires.inside c.read_byte_or_escape_unit-unit.ensures).stands

pub loop-at-preserved-then-at-to : goal.loop-at-preserved-then-at-to
loop-at-preserved-then-at-to c =
    let text : List ℕ = c.args.text.now in
    let at : ℕ = c.loop-at.at + length c.find_plain_run_to_pass-run.result.now in
    let u : LineUnit = model_of_unit c.read_byte_or_escape_unit-unit.result in
    let step : IsPlainUnitStepWithin text at c.args.to u = unit_of_slice_start_is_plain_step text at c.args.to u c.if-at-to.true c.requires.inside c.read_byte_or_escape_unit-unit.ensures in
    let size : c.len-at.result ≡ length (bytes_of_unit u) = c.len-at.ensures in
    record {
      below = subst (λ (n : ℕ). at + n ≤ c.args.to) (sym size) step.inside;
      passes = λ before known.
          let whole = units_with_those_of_bytes before (slice_range text c.args.from c.args.to) in
          let here : AreUnitsLeftLeadingToUnits text at c.args.to c.pass_plain_run-left.result whole =
          plain_run_keeps_units_leading_to text c.loop-at.at c.args.to c.loop-at.left c.pass_plain_run-left.result c.find_plain_run_to_pass-run.result.now whole c.requires.inside (c.loop-at.invariant.passes before known) c.find_plain_run_to_pass-run.ensures
          (record { item = c.pass_plain_run-left.ensures.item; continues = c.pass_plain_run-left.ensures.continues; begun = c.pass_plain_run-left.ensures.begun }) in
          record {
            units = u ∷ here.units;
            knows = subst (λ (n : ℕ). LeftDescribesUnits text (at + n) c.pass_unit-left.result (u ∷ here.units)) (sym size) (c.pass_unit-left.ensures here.units here.knows);
            same = ap (λ (n : ℕ). units_with_those_of_bytes (u ∷ here.units) (slice_range text (at + n) c.args.to)) size ∙ sym (step.passes here.units) ∙ here.same;
          };
    }

pub loop-at-preserved : goal.loop-at-preserved
loop-at-preserved c =
    let text : List ℕ = c.args.text.now in
    record {
      below = plain_run_ends_within_slice text c.loop-at.at c.args.to (c.loop-at.left.begun == 0) c.find_plain_run_to_pass-run.result.now c.loop-at.invariant.below c.requires.inside c.find_plain_run_to_pass-run.ensures;
      passes = λ before known.
          plain_run_keeps_units_leading_to text c.loop-at.at c.args.to c.loop-at.left c.pass_plain_run-left.result c.find_plain_run_to_pass-run.result.now (units_with_those_of_bytes before (slice_range text c.args.from c.args.to)) c.requires.inside (c.loop-at.invariant.passes before known) c.find_plain_run_to_pass-run.ensures
          (record { item = c.pass_plain_run-left.ensures.item; continues = c.pass_plain_run-left.ensures.continues; begun = c.pass_plain_run-left.ensures.begun });
    }

pub returns : goal.returns
returns c = λ before known.
    context_at_end_describes_led_units c.args.text.now c.loop-at.at c.args.to c.loop-at.left (units_with_those_of_bytes before (slice_range c.args.text.now c.args.from c.args.to))
    c.loop-at-test.false c.loop-at.invariant.below (c.loop-at.invariant.passes before known)
