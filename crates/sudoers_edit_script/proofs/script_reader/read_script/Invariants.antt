use Rattle.std.proofs.Common.{◌≡◌, ◌+◌, ◌≤◌, length}
use Rattle.sudoers_edit_script.specs.Physical.{physical_lines}
use Rattle.sudoers_edit_script.specs.ScriptReading.{edits_spelled_by_text}
use Rattle.sudoers_edit_script.specs.internal.ScriptStanding.{result_of_remaining_lines}
use Rattle.sudoers_edit_script.proofs.script_reader.read_script.Given as goal

abbrev pub invariant-loop-rest : goal.invariant-loop-rest
invariant-loop-rest l = (l.reading.line + length l.rest ≤ length l.text + 1) × (result_of_remaining_lines l.reading (physical_lines l.rest) ≡ edits_spelled_by_text l.text)

abbrev pub decreases-loop-rest : goal.decreases-loop-rest
decreases-loop-rest l = length l.rest
