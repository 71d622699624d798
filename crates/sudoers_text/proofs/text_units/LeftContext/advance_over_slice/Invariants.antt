use Rattle.std.proofs.Common.{◌-◌, ◌≤◌, List}
use Rattle.std.specs.Prelude.{slice_range}
use Rattle.sudoers_text.specs.Unit.{LineUnit}
use Rattle.sudoers_text.specs.internal.Left.{LeftDescribesUnits}
use Rattle.sudoers_text.specs.Token.{units_with_those_of_bytes}
use Rattle.sudoers_text.proofs.Passed.{AreUnitsLeftLeadingToUnits}
use Rattle.sudoers_text.proofs.text_units.LeftContext.advance_over_slice.Given as goal

-- what is known of the units so far, and that what follows makes of them what the whole makes
abbrev pub invariant-loop-at : goal.invariant-loop-at
invariant-loop-at l = record {
  below : l.at ≤ l.to;
  passes : (before : List LineUnit) → LeftDescribesUnits l.text l.fn.from l.fn.self before
      → AreUnitsLeftLeadingToUnits l.text l.at l.to l.left (units_with_those_of_bytes before (slice_range l.text l.fn.from l.to));
}

abbrev pub decreases-loop-at : goal.decreases-loop-at
decreases-loop-at l = l.to - l.at
