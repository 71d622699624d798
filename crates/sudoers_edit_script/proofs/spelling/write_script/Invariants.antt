use Rattle.std.proofs.Common.{◌≡◌, ◌≤◌, ◌+◌, take, drop}
use Rattle.std.specs.List.{prefix_len}
use Rattle.sudoers_edit_script.specs.Script.{spelling_of_edits, file_number_set_after_edits, has_word_names}
use Rattle.sudoers_edit_script.proofs.spelling.write_script.Given as goal

abbrev pub invariant-loop-count : goal.invariant-loop-count
invariant-loop-count l =
    (l.count ≤ 65536) × (l.out.items ≡ spelling_of_edits (take l.count l.edits)) × (l.file ≡ file_number_set_after_edits 0 (take l.count l.edits))
    × (l.count + prefix_len has_word_names (drop l.count l.edits) ≡ prefix_len has_word_names l.edits)
