use Rattle.sudoers_check.proofs.Common.{List, Mention, AreKeysOfUndefinedMentions, [], definitions_of_lines, drop, undefined_notes_in_lines, ◌++◌, ◌≡◌}
use Rattle.sudoers_check.proofs.notes.make_notes_of_undefined_names.Given as goal

abbrev pub invariant-loop-number : goal.invariant-loop-number
invariant-loop-number l =
    let lines = l.policy.walk.lines in
    let ds = definitions_of_lines lines in
    (before : List Mention) × AreKeysOfUndefinedMentions ds l.seen before
    × (l.notes.items ++ undefined_notes_in_lines ds l.policy.walk before l.number (drop l.number lines) ≡ undefined_notes_in_lines ds l.policy.walk [] 0 lines)
