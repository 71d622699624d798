use Rattle.std.proofs.Common.{◌≡◌, ◌++◌, length}
use Rattle.std.specs.List.{flat_map}
use Rattle.sudoers_edit_script.specs.Physical.{physical_lines}
use Rattle.sudoers_edit_script.specs.Script.{payload_line_of_text_line}
use Rattle.sudoers_edit_script.proofs.spelling.append_payload_lines.Given as goal

abbrev pub invariant-loop-rest : goal.invariant-loop-rest
invariant-loop-rest l = l.out.items ++ flat_map payload_line_of_text_line (physical_lines l.rest) ≡ l.initial.out.items ++ flat_map payload_line_of_text_line (physical_lines l.text)

abbrev pub decreases-loop-rest : goal.decreases-loop-rest
decreases-loop-rest l = length l.rest
