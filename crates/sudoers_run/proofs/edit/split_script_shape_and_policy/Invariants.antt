use Rattle.std.proofs.Common.{◌≡◌, ◌≤◌, ◌-◌, length, take, drop}
use Rattle.std.specs.Option.{option_map}
use Rattle.sudoers_edit_script.specs.Physical.{physical_lines}
use Rattle.sudoers_run.specs.Edit.{script_shape_and_policy_lines, script_shape_and_policy_text}
use Rattle.sudoers_run.proofs.EditLemmas.{joined_parts_after_front}
use Rattle.sudoers_run.proofs.edit.split_script_shape_and_policy.Given as goal

abbrev pub invariant-loop-at : goal.invariant-loop-at
invariant-loop-at l =
    (l.at ≤ length l.input)
    × (option_map (joined_parts_after_front (take l.at l.input)) (script_shape_and_policy_lines (physical_lines (drop l.at l.input))) ≡ script_shape_and_policy_text l.input)

abbrev pub decreases-loop-at : goal.decreases-loop-at
decreases-loop-at l = length l.input - l.at
