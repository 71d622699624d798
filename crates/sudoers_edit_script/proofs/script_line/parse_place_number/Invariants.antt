use Rattle.std.proofs.Common.{◌≡◌, ◌≤◌, drop}
use Rattle.sudoers_edit_script.specs.ScriptReading.{place_number_from_digits}
use Rattle.sudoers_edit_script.proofs.script_line.parse_place_number.Given as goal

abbrev pub invariant-loop-byte : goal.invariant-loop-byte
invariant-loop-byte l = (l.number ≤ 4294967296) × (place_number_from_digits l.number (drop l.byte-index l.word) ≡ place_number_from_digits 0 l.word)
