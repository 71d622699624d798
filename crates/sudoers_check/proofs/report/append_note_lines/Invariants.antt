use Rattle.sudoers_check.proofs.Common.{drop, flat_map, note_text, ◌++◌, ◌≡◌}
use Rattle.sudoers_check.proofs.report.append_note_lines.Given as goal

abbrev pub invariant-loop-note : goal.invariant-loop-note
invariant-loop-note l =
    l.text.items ++ flat_map (note_text l.policy l.word) (drop l.note-index l.notes) ≡ l.initial.text.items ++ flat_map (note_text l.policy l.word) l.notes
