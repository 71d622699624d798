use Rattle.sudoers_check.proofs.Common.{List, Mention, AreKeysOfUndefinedMentions, definitions_of_lines, drop, new_undefined_mentions, notes_of_mentions, ◌++◌, ◌≡◌}
use Rattle.sudoers_check.proofs.notes.append_notes_of_undefined.Given as goal

abbrev pub invariant-loop-mention : goal.invariant-loop-mention
invariant-loop-mention l =
    (before : List Mention) → AreKeysOfUndefinedMentions (definitions_of_lines l.walk) l.initial.seen before → (now : List Mention)
    × AreKeysOfUndefinedMentions (definitions_of_lines l.walk) l.seen now × (now ++ drop l.mention-index l.mentions ≡ before ++ l.mentions)
    × (l.notes.items ++ notes_of_mentions l.cursor.spot l.cursor.text.now (new_undefined_mentions (definitions_of_lines l.walk) now (drop l.mention-index l.mentions))
    ≡ l.initial.notes.items ++ notes_of_mentions l.initial.cursor.spot l.initial.cursor.text.now (new_undefined_mentions (definitions_of_lines l.walk) before l.mentions))
