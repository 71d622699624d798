use Rattle.std.proofs.Common.{◌-◌, length}
use Rattle.sudoers_text.proofs.Reading.{HasReadUnitsFromStart}
use Rattle.sudoers_text.proofs.cutting.find_line_end_by_units.Given as goal

abbrev pub invariant-loop-unit : goal.invariant-loop-unit
invariant-loop-unit l = HasReadUnitsFromStart l.text l.start l.at l.left

abbrev pub decreases-loop-unit : goal.decreases-loop-unit
decreases-loop-unit l = length l.initial.text - l.at
