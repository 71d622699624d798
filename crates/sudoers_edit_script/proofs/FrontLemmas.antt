-- Where a reading stops: the lines before are a front of a script, and with that line they are none.
use Rattle.std.proofs.Common.{◌≡◌, ◌⊎◌, ℕ, zero, suc, ◌+◌, ◌-◌, ◌<◌, ◌≤◌, Bool, true, false, not, List, [], ◌∷◌, ◌++◌, length, take, refl, sym, ap, subst, ◌∙◌, arith, inl, inr, append_assoc, append-nil}
use Rattle.std.specs.Prelude.{Result, Ok, Err, nat_le}
use Rattle.std.proofs.lemmas.List.{take_all}
use Rattle.std.proofs.lemmas.Bool.{cases_Bool, leb-true, leb-false, or_parts}
use Rattle.sudoers_text.specs.Ended.{ends_in_lf, has_inner_line_without_lf}
use Rattle.sudoers_text.specs.Line.{join as text_of}
use Rattle.sudoers_edit_script.specs.Physical.{physical_lines}
use Rattle.sudoers_edit_script.specs.Script.{spelling_of_edits, AreSpellable, edit_limit, IsScriptPrefix, IsFirstBadScriptLine, IsUnfinishedScriptUpToLine, HasMaxEditsBeforeLine}
use Rattle.sudoers_edit_script.specs.ScriptReading.{Between, edits_from_position, edits_spelled_by_text, IsFaultFoundWhenReadingLine}
use Rattle.sudoers_edit_script.specs.declared.edit.Edit.{Edit}
use Rattle.sudoers_edit_script.specs.declared.script_reader.ScriptFault.{ScriptFault}
use Rattle.sudoers_edit_script.specs.declared.script_reader.ScriptFault.TheVariants as faults
use Rattle.sudoers_edit_script.proofs.PhysicalLemmas.{IsPhysicalLine, ArePhysicalLines, text_of_joined_lines, physical_lines_are_lines_of_text, ended_line_is_first_physical_line}
use Rattle.sudoers_edit_script.proofs.ScriptLemmas.{lines_spell_edits_read_from_them, text_read_as_edits_is_their_spelling}
use Rattle.sudoers_edit_script.proofs.SpellingLemmas.{spelling_of_edits_is_read_back}
use Rattle.sudoers_edit_script.proofs.ToldLemmas.{IsLineBeforeWanting, IsFaultReportedAtPosition}
use Rattle.sudoers_edit_script.proofs.StopLemmas.{AreLinesEndedInLf, IsFaultResult, StopsReadingLinesAtFault, reading_with_fault_stops_at_it}

-- FRONTS

-- lines with LF are the lines of their text, before any
joined_ended_lines_are_physical_lines : (ks : List (List ℕ)) (rest : List ℕ) → ArePhysicalLines ks → AreLinesEndedInLf ks → physical_lines (text_of_joined_lines ks ++ rest) ≡ ks ++ physical_lines rest
joined_ended_lines_are_physical_lines [] rest each ended = refl
joined_ended_lines_are_physical_lines (k ∷ ks) rest each ended =
    ap physical_lines (append_assoc k (text_of_joined_lines ks) rest)
    ∙ ended_line_is_first_physical_line k (text_of_joined_lines ks ++ rest) each.0 ended.0
    ∙ ap (λ (ls : List (List ℕ)). k ∷ ls) (joined_ended_lines_are_physical_lines ks rest each.1 ended.1)

-- so they are with nothing behind
ended_lines_are_lines_of_their_text : (ks : List (List ℕ)) → ArePhysicalLines ks → AreLinesEndedInLf ks → ks ≡ physical_lines (text_of_joined_lines ks)
ended_lines_are_lines_of_their_text ks each ended =
    sym (append-nil ks) ∙ sym (joined_ended_lines_are_physical_lines ks [] each ended) ∙ ap physical_lines (append-nil (text_of_joined_lines ks))

-- the first of lines are lines
leading_lines_are_lines : (n : ℕ) (ks : List (List ℕ)) → ArePhysicalLines ks → ArePhysicalLines (take n ks)
leading_lines_are_lines zero ks each = tt
leading_lines_are_lines (suc n) [] each = tt
leading_lines_are_lines (suc n) (k ∷ ks) each = (each.0, leading_lines_are_lines n ks each.1)

-- lines behind lines are lines
appended_lines_are_lines : (ks ls : List (List ℕ)) → ArePhysicalLines ks → ArePhysicalLines ls → ArePhysicalLines (ks ++ ls)
appended_lines_are_lines [] ls each more = more
appended_lines_are_lines (k ∷ ks) ls each more = (each.0, appended_lines_are_lines ks ls each.1 more)

-- of lines with LF the first have it
leading_ended_lines_are_ended : (ks ls : List (List ℕ)) → AreLinesEndedInLf (ks ++ ls) → AreLinesEndedInLf ks
leading_ended_lines_are_ended [] ls ended = tt
leading_ended_lines_are_ended (k ∷ ks) ls ended = (ended.0, leading_ended_lines_are_ended ks ls ended.1)

-- lines with LF that give edits are the lines of their spelling
lines_read_as_edits_are_their_spelling : (ks : List (List ℕ)) (edits : List Edit) → ArePhysicalLines ks → AreLinesEndedInLf ks → edits_from_position ks 1 Between 0 0 ≡ Ok edits
    → (ks ≡ physical_lines (spelling_of_edits edits)) × (length edits ≤ edit_limit) × AreSpellable edits
lines_read_as_edits_are_their_spelling ks edits each ended e =
    let s = lines_spell_edits_read_from_them ks each 1 Between 0 0 edits (omega arith) tt (omega arith) e in
    (ended_lines_are_lines_of_their_text ks each ended ∙ ap physical_lines s.text, omega (arith, s.few), s.spellable)

-- How the reading of a text stops.
abbrev StopsReadingTextAtFault : List ℕ → ScriptFault → Type 0
StopsReadingTextAtFault text fault = StopsReadingLinesAtFault (physical_lines text) 1 Between 0 0 fault

-- so it stops
refused_text_stops_at_its_fault : (text : List ℕ) (fault : ScriptFault) → edits_spelled_by_text text ≡ Err fault → StopsReadingTextAtFault text fault
refused_text_stops_at_its_fault text fault e = reading_with_fault_stops_at_it (physical_lines text) 1 Between 0 0 fault (omega arith) (omega arith) tt (omega arith) e

-- the lines before a fault are a front
lines_before_fault_are_script_prefix : (text : List ℕ) (fault : ScriptFault) (s : StopsReadingTextAtFault text fault) → IsScriptPrefix (take s.read (physical_lines text))
lines_before_fault_are_script_prefix text fault s =
    let each = appended_lines_are_lines (take s.read (physical_lines text)) s.more (leading_lines_are_lines s.read (physical_lines text) (physical_lines_are_lines_of_text text).0) s.each in
    let by = lines_read_as_edits_are_their_spelling (take s.read (physical_lines text) ++ s.more) s.edits each s.ended s.alive in
    record { more = s.more; edits = s.edits; spellable = by.2; few = by.1; whole = by.0 }

-- and with its line they are none
lines_with_faulty_line_are_no_prefix : (text : List ℕ) (fault : ScriptFault) (s : StopsReadingTextAtFault text fault) → s.read < length (physical_lines text)
    → IsScriptPrefix (take (suc s.read) (physical_lines text)) → ⊥
lines_with_faulty_line_are_no_prefix text fault s h f =
    let told : IsFaultResult (edits_from_position (take (suc s.read) (physical_lines text) ++ f.more) 1 Between 0 0) = s.dead h f.more in
    let spelled : edits_from_position (physical_lines (spelling_of_edits f.edits)) 1 Between 0 0 ≡ Ok f.edits = spelling_of_edits_is_read_back f.edits f.spellable f.few in
    subst IsFaultResult (ap (λ (ls : List (List ℕ)). edits_from_position ls 1 Between 0 0) f.whole ∙ spelled) told

-- the line of a fault that is told at a line
line_of_fault_is_first_bad_line : (text : List ℕ) (fault : ScriptFault) (line : ℕ) (s : StopsReadingTextAtFault text fault) → line ≡ 1 + s.read → s.read < length (physical_lines text)
    → IsFirstBadScriptLine line (physical_lines text)
line_of_fault_is_first_bad_line text fault line s at h =
    record {
      counted = omega (arith, at);
      within = omega (arith, at, h);
      before = subst (λ (n : ℕ). IsScriptPrefix (take n (physical_lines text))) (let e : s.read ≡ line - 1 = omega (arith, at) in e) (lines_before_fault_are_script_prefix text fault s);
      dead = λ f. lines_with_faulty_line_are_no_prefix text fault s h
          (subst (λ (n : ℕ). IsScriptPrefix (take n (physical_lines text))) (let e : line ≡ suc s.read = omega (arith, at) in e) f);
    }

-- the line of a fault that wants another line than the next
incomplete_line_ends_at_its_fault : (text : List ℕ) (fault : ScriptFault) (line : ℕ) (s : StopsReadingTextAtFault text fault)
    → (s.read < length (physical_lines text)) ⊎ (s.read ≡ length (physical_lines text))
    → IsLineBeforeWanting fault line (1 + s.read) (edits_from_position (take s.read (physical_lines text)) 1 Between 0 0) → IsUnfinishedScriptUpToLine line (physical_lines text)
incomplete_line_ends_at_its_fault text fault line s last w =
    let at : line ≡ s.read = omega (arith, w.0) in
    record {
      counted = w.1;
      within = (elim last [ inl h ↦ omega (arith, h, at) | inr h ↦ omega (arith, h, at) ]);
      front = subst (λ (n : ℕ). IsScriptPrefix (take n (physical_lines text))) (sym at) (lines_before_fault_are_script_prefix text fault s);
      alone = λ edits spellable few h.
          let spelled : edits_from_position (physical_lines (spelling_of_edits edits)) 1 Between 0 0 ≡ Ok edits = spelling_of_edits_is_read_back edits spellable few in
          let told : edits_from_position (take line (physical_lines text)) 1 Between 0 0 ≡ Err fault = ap (λ (n : ℕ). edits_from_position (take n (physical_lines text)) 1 Between 0 0) at ∙ w.2 in
          let no : Ok edits ≡ Err fault = sym spelled ∙ sym (ap (λ (ls : List (List ℕ)). edits_from_position ls 1 Between 0 0) h) ∙ told in
          cc;
      ends = (elim last [
        | inl h ↦ inr (λ f. lines_with_faulty_line_are_no_prefix text fault s h
            (subst (λ (n : ℕ). IsScriptPrefix (take n (physical_lines text))) (let e : line + 1 ≡ suc s.read = omega (arith, at) in e) f))
        | inr h ↦ inl (at ∙ h)
      ]);
    }

-- THE LAWS

-- a line that may not stand there is the first with which the lines are no front, or a `file` line before a line that is
pub bad_word_line_is_bad_or_incomplete : (text : List ℕ) (line : ℕ) → edits_spelled_by_text text ≡ Err (faults.BadWord line)
    → IsFirstBadScriptLine line (physical_lines text) ⊎ IsUnfinishedScriptUpToLine line (physical_lines text)
bad_word_line_is_bad_or_incomplete text line e =
    let s = refused_text_stops_at_its_fault text (faults.BadWord line) e in
    elim s.told [
      | inl h ↦ elim h.1 [
        | inl at ↦ inl (line_of_fault_is_first_bad_line text (faults.BadWord line) line s at h.0)
        | inr w ↦ inr (incomplete_line_ends_at_its_fault text (faults.BadWord line) line s (inl h.0) w)
      ]
      | inr h ↦ inr (incomplete_line_ends_at_its_fault text (faults.BadWord line) line s (inr h.0) h.1)
    ]

-- a line with a bad number is such a line
pub bad_number_line_is_first_bad_line : (text : List ℕ) (line : ℕ) → edits_spelled_by_text text ≡ Err (faults.BadNumber line) → IsFirstBadScriptLine line (physical_lines text)
bad_number_line_is_first_bad_line text line e =
    let s = refused_text_stops_at_its_fault text (faults.BadNumber line) e in
    elim s.told [ inl h ↦ line_of_fault_is_first_bad_line text (faults.BadNumber line) line s h.1 h.0 | inr h ↦ absurd h.1 ]

-- a command without its text ends a front that is no script, and no line can follow it
pub missing_payload_line_ends_incomplete : (text : List ℕ) (line : ℕ) → edits_spelled_by_text text ≡ Err (faults.NoPayload line) → IsUnfinishedScriptUpToLine line (physical_lines text)
missing_payload_line_ends_incomplete text line e =
    let s = refused_text_stops_at_its_fault text (faults.NoPayload line) e in
    elim s.told [
      | inl h ↦ incomplete_line_ends_at_its_fault text (faults.NoPayload line) line s (inl h.0) h.1
      | inr h ↦ incomplete_line_ends_at_its_fault text (faults.NoPayload line) line s (inr h.0) h.1
    ]

-- the lines before one edit too many spell as many as there may be
pub too_many_fault_has_max_edits_before : (text : List ℕ) → edits_spelled_by_text text ≡ Err faults.TooMany → (line : ℕ) × IsFirstBadScriptLine line (physical_lines text) × HasMaxEditsBeforeLine line (physical_lines text)
too_many_fault_has_max_edits_before text e =
    let s = refused_text_stops_at_its_fault text faults.TooMany e in
    let each = leading_lines_are_lines s.read (physical_lines text) (physical_lines_are_lines_of_text text).0 in
    let same : s.read ≡ 1 + s.read - 1 = omega arith in
    elim s.told [
      | inl h ↦
          let full = h.1 in
          let by = lines_read_as_edits_are_their_spelling (take s.read (physical_lines text)) full.0 each (leading_ended_lines_are_ended (take s.read (physical_lines text)) s.more s.ended) full.1 in (
            1 + s.read,
            line_of_fault_is_first_bad_line text faults.TooMany (1 + s.read) s refl h.0,
            record {
              edits = full.0;
              spellable = by.2;
              full = omega (arith, full.2);
              whole = subst (λ (n : ℕ). take n (physical_lines text) ≡ physical_lines (spelling_of_edits full.0)) same by.0;
            },
          )
      | inr h ↦ absurd h.1
    ]

-- BYTES

-- the text of lines
pub text_of_lines_is_their_join : (ks : List (List ℕ)) → text_of ks ≡ text_of_joined_lines ks
text_of_lines_is_their_join [] = refl
text_of_lines_is_their_join (k ∷ ks) = ap (λ (z : List ℕ). k ++ z) (text_of_lines_is_their_join ks)

-- the physical lines of a text are its pieces
pub physical_lines_join_to_text : (text : List ℕ) → text_of (physical_lines text) ≡ text
physical_lines_join_to_text text = text_of_lines_is_their_join (physical_lines text) ∙ (physical_lines_are_lines_of_text text).2

-- of lines behind lines
join_of_appended_lines_is_appended_joins : (ks ls : List (List ℕ)) → text_of_joined_lines (ks ++ ls) ≡ text_of_joined_lines ks ++ text_of_joined_lines ls
join_of_appended_lines_is_appended_joins [] ls = refl
join_of_appended_lines_is_appended_joins (k ∷ ks) ls = ap (λ (z : List ℕ). k ++ z) (join_of_appended_lines_is_appended_joins ks ls) ∙ sym (append_assoc k (text_of_joined_lines ks) (text_of_joined_lines ls))

-- the bytes of a front begin a spelling
pub bytes_of_script_prefix_begin_a_spelling : (lines : List (List ℕ)) → IsScriptPrefix lines → (more : List ℕ) × (edits : List Edit) × AreSpellable edits × (length edits ≤ edit_limit) × (text_of lines ++ more ≡ spelling_of_edits edits)
bytes_of_script_prefix_begin_a_spelling lines f =
    let text : text_of_joined_lines lines ++ text_of_joined_lines f.more ≡ spelling_of_edits f.edits = sym (join_of_appended_lines_is_appended_joins lines f.more) ∙ ap text_of_joined_lines f.whole ∙ (physical_lines_are_lines_of_text (spelling_of_edits f.edits)).2 in
    (text_of_joined_lines f.more, f.edits, f.spellable, f.few, ap (λ (z : List ℕ). z ++ text_of_joined_lines f.more) (text_of_lines_is_their_join lines) ∙ text)

-- the last of lines ends in LF as their text does
nonempty_end_decides_final_lf : (k l : List ℕ) → (l ≡ [] → ⊥) → ends_in_lf (k ++ l) ≡ ends_in_lf l
nonempty_end_decides_final_lf [] l some = refl
nonempty_end_decides_final_lf (b ∷ bs) [] some = absurd (some refl)
nonempty_end_decides_final_lf (b ∷ []) (c ∷ cs) some = refl
nonempty_end_decides_final_lf (b ∷ d ∷ bs) (c ∷ cs) some = nonempty_end_decides_final_lf (d ∷ bs) (c ∷ cs) some

-- lines of which there is one have bytes
join_of_lines_is_not_empty : (k : List ℕ) (ks : List (List ℕ)) → IsPhysicalLine k → text_of_joined_lines (k ∷ ks) ≡ [] → ⊥
join_of_lines_is_not_empty [] ks is e = is
join_of_lines_is_not_empty (b ∷ bs) ks is e = cc

-- what is not false is true
not_being_false_is_being_true : (b : Bool) → not b ≡ false → b ≡ true
not_being_false_is_being_true true h = refl
not_being_false_is_being_true false h = sym h

-- the first of lines end in LF, if others follow or if the last does
leading_physical_lines_are_ended : (n : ℕ) (ks : List (List ℕ)) → ArePhysicalLines ks → has_inner_line_without_lf ks ≡ false → (n < length ks) ⊎ (ends_in_lf (text_of_joined_lines ks) ≡ true) → AreLinesEndedInLf (take n ks)
leading_physical_lines_are_ended zero ks each inside h = tt
leading_physical_lines_are_ended (suc n) [] each inside h = tt
leading_physical_lines_are_ended (suc n) (k ∷ []) each inside (inl h) = absurd (omega (arith, h))
leading_physical_lines_are_ended (suc zero) (k ∷ []) each inside (inr h) = (sym (ap ends_in_lf (append-nil k)) ∙ h, tt)
leading_physical_lines_are_ended (suc (suc n)) (k ∷ []) each inside (inr h) = (sym (ap ends_in_lf (append-nil k)) ∙ h, tt)
leading_physical_lines_are_ended (suc n) (k ∷ l ∷ ks) each inside (inl h) =
    let p = or_parts (not (ends_in_lf k)) (has_inner_line_without_lf (l ∷ ks)) inside in
    (not_being_false_is_being_true (ends_in_lf k) p.0, leading_physical_lines_are_ended n (l ∷ ks) each.1 p.1 (inl (omega (arith, h))))
leading_physical_lines_are_ended (suc n) (k ∷ l ∷ ks) each inside (inr h) =
    let p = or_parts (not (ends_in_lf k)) (has_inner_line_without_lf (l ∷ ks)) inside in
    (not_being_false_is_being_true (ends_in_lf k) p.0, leading_physical_lines_are_ended n (l ∷ ks) each.1 p.1 (inr (sym (nonempty_end_decides_final_lf k (text_of_joined_lines (l ∷ ks)) (join_of_lines_is_not_empty l ks each.1.0)) ∙ h)))

-- lines with LF whose bytes begin a spelling are a front
pub lines_beginning_a_spelling_are_prefix : (text more : List ℕ) (n : ℕ) (edits : List Edit) → AreSpellable edits → length edits ≤ edit_limit → (n < length (physical_lines text)) ⊎ (ends_in_lf text ≡ true) → text_of (take n (physical_lines text)) ++ more ≡ spelling_of_edits edits → IsScriptPrefix (take n (physical_lines text))
lines_beginning_a_spelling_are_prefix text more n edits spellable few h e =
    let p = physical_lines_are_lines_of_text text in
    let last : (n < length (physical_lines text)) ⊎ (ends_in_lf (text_of_joined_lines (physical_lines text)) ≡ true) = elim h [ inl l ↦ inl l | inr t ↦ inr (ap ends_in_lf p.2 ∙ t) ] in
    let ended = leading_physical_lines_are_ended n (physical_lines text) p.0 p.1 last in
    record {
      more = physical_lines more;
      edits = edits;
      spellable = spellable;
      few = few;
      whole =
          sym (joined_ended_lines_are_physical_lines (take n (physical_lines text)) more (leading_lines_are_lines n (physical_lines text) p.0) ended)
          ∙ ap (λ (z : List ℕ). physical_lines (z ++ more)) (sym (text_of_lines_is_their_join (take n (physical_lines text))))
          ∙ ap physical_lines e;
    }

-- ONE DEAD LINE

-- the first lines of the first lines
longer_leading_lines_extend_shorter : (m n : ℕ) (ls : List (List ℕ)) → m ≤ n → (rest : List (List ℕ)) × (take n ls ≡ take m ls ++ rest)
longer_leading_lines_extend_shorter zero n ls h = (take n ls, refl)
longer_leading_lines_extend_shorter (suc m) zero ls h = absurd (omega (arith, h))
longer_leading_lines_extend_shorter (suc m) (suc n) [] h = ([], refl)
longer_leading_lines_extend_shorter (suc m) (suc n) (l ∷ ls) h =
    let r = longer_leading_lines_extend_shorter m n ls (omega (arith, h)) in (r.0, ap (λ (z : List (List ℕ)). l ∷ z) r.1)

-- a front of a front is one
shorter_script_prefix_is_prefix : (m n : ℕ) (ls : List (List ℕ)) → m ≤ n → IsScriptPrefix (take n ls) → IsScriptPrefix (take m ls)
shorter_script_prefix_is_prefix m n ls h f =
    let r = longer_leading_lines_extend_shorter m n ls h in
    record {
      more = r.0 ++ f.more;
      edits = f.edits;
      spellable = f.spellable;
      few = f.few;
      whole = sym (append_assoc (take m ls) r.0 f.more) ∙ ap (λ (z : List (List ℕ)). z ++ f.more) (sym r.1) ∙ f.whole;
    }

-- no line is dead before the first dead one
first_bad_line_has_none_before : (ls : List (List ℕ)) (line other : ℕ) → IsFirstBadScriptLine line ls → IsFirstBadScriptLine other ls → other < line → ⊥
first_bad_line_has_none_before ls line other d e h = e.dead (shorter_script_prefix_is_prefix other (line - 1) ls (omega (arith, h)) d.before)

-- lines have one first dead line
pub first_bad_line_is_unique : (lines : List (List ℕ)) (line other : ℕ) → IsFirstBadScriptLine line lines → IsFirstBadScriptLine other lines → line ≡ other
first_bad_line_is_unique lines line other d e =
    elim (cases_Bool (nat_le line other)) [
      | inl t ↦ elim (cases_Bool (nat_le other line)) [
        | inl u ↦ let h : line ≤ other = leb-true line other t in let g : other ≤ line = leb-true other line u in omega arith
        | inr u ↦ absurd (first_bad_line_has_none_before lines other line e d (leb-false other line u))
      ]
      | inr t ↦ absurd (first_bad_line_has_none_before lines line other d e (leb-false line other t))
    ]

-- where a fault is told
fault_at_command_is_reported_at_line : (fault : ScriptFault) (line : ℕ) (alone : Result (List Edit) ScriptFault) → IsFaultReportedAtPosition fault line alone Between 0 → IsFaultFoundWhenReadingLine line (Err fault)
fault_at_command_is_reported_at_line (faults.BadWord at) line alone (inl h) = inl h
fault_at_command_is_reported_at_line (faults.BadWord at) line alone (inr w) = inr w.0
fault_at_command_is_reported_at_line (faults.BadNumber at) line alone h = h
fault_at_command_is_reported_at_line (faults.NoPayload at) line alone h = h.0
fault_at_command_is_reported_at_line faults.TooMany line alone h = tt
fault_at_command_is_reported_at_line faults.NoMemory line alone h = h

-- the whole lines of a script are a front
script_lines_are_script_prefix : (text : List ℕ) (edits : List Edit) → edits_spelled_by_text text ≡ Ok edits → IsScriptPrefix (physical_lines text)
script_lines_are_script_prefix text edits e =
    let r = text_read_as_edits_is_their_spelling text edits e in
    record { more = []; edits = edits; spellable = r.2; few = r.1; whole = append-nil (physical_lines text) ∙ ap physical_lines r.0 }

-- a text with a dead line is refused there, whatever is read of it
first_bad_line_is_reported_by_result : (result : Result (List Edit) ScriptFault) (text : List ℕ) (line : ℕ) → edits_spelled_by_text text ≡ result → IsFirstBadScriptLine line (physical_lines text) → IsFaultFoundWhenReadingLine line result
first_bad_line_is_reported_by_result (Ok edits) text line e d =
    let all : take (length (physical_lines text)) (physical_lines text) ≡ physical_lines text = take_all (length (physical_lines text)) (physical_lines text) (omega arith) in
    d.dead (shorter_script_prefix_is_prefix line (length (physical_lines text)) (physical_lines text) d.within (subst IsScriptPrefix (sym all) (script_lines_are_script_prefix text edits e)))
first_bad_line_is_reported_by_result (Err fault) text line e d =
    let s = refused_text_stops_at_its_fault text fault e in
    elim s.told [
      | inl h ↦
          let same : 1 + s.read ≡ line = first_bad_line_is_unique (physical_lines text) (1 + s.read) line (line_of_fault_is_first_bad_line text fault (1 + s.read) s refl h.0) d in
          let alone : Result (List Edit) ScriptFault = edits_from_position (take s.read (physical_lines text)) 1 Between 0 0 in
          fault_at_command_is_reported_at_line fault line alone (subst (λ (n : ℕ). IsFaultReportedAtPosition fault n alone Between 0) same h.1)
      | inr h ↦ absurd (d.dead (shorter_script_prefix_is_prefix line s.read (physical_lines text) (omega (arith, d.within, h.0)) (lines_before_fault_are_script_prefix text fault s)))
    ]

-- so it is told by its reading
pub first_bad_line_is_reported_by_reading : (text : List ℕ) (line : ℕ) → IsFirstBadScriptLine line (physical_lines text) → IsFaultFoundWhenReadingLine line (edits_spelled_by_text text)
first_bad_line_is_reported_by_reading text line d = first_bad_line_is_reported_by_result (edits_spelled_by_text text) text line refl d
