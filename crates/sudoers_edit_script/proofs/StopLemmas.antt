-- Where a reading stops with a fault: the lines before could go on, and with the next line none can.
use Rattle.std.proofs.Common.{◌≡◌, ◌⊎◌, ℕ, suc, ◌+◌, ◌^◌, ◌<◌, ◌≤◌, true, List, [], ◌∷◌, ◌++◌, length, take, Some, None, refl, sym, ap, subst, ◌∙◌, arith, inl, inr}
use Rattle.std.specs.Prelude.{Result, Ok, Err, codes}
use Rattle.std.proofs.lemmas.List.{length-append}
use Rattle.std.proofs.lemmas.Bool.{lt-leb}
use Rattle.sudoers_text.specs.Ended.{ends_in_lf}
use Rattle.sudoers_edit_script.specs.ScriptReading.{ScriptPosition, Between, Filed, Begun, Going, edit_completed_with_text, edits_from_position}
use Rattle.sudoers_edit_script.specs.internal.ScriptStanding.{result_after_edits}
use Rattle.sudoers_edit_script.specs.declared.edit.Edit.{Edit}
use Rattle.sudoers_edit_script.specs.declared.edit.Edit.TheVariants.{EndLine}
use Rattle.sudoers_edit_script.specs.declared.script_reader.ScriptFault.{ScriptFault}
use Rattle.sudoers_edit_script.specs.declared.script_reader.ScriptFault.TheVariants as faults
use Rattle.sudoers_edit_script.proofs.PhysicalLemmas.{ArePhysicalLines, text_without_lf_and_lf_are_line}
use Rattle.sudoers_edit_script.proofs.ScriptLemmas.{open_edit_count_at_position}
use Rattle.sudoers_edit_script.proofs.StepLemmas.{script_line_goes_on_or_fails}
use Rattle.sudoers_edit_script.proofs.ToldLemmas.{result_at_line_from_position, edits_from_position_are_result_at_line, IsLivePosition, IsLineBeforeWanting, IsFaultReportedAtPosition, GoesOnAfterLine, FailsAtLine, count_below_limit_keeps_result}

-- Each ends in LF.
abbrev pub AreLinesEndedInLf : List (List ℕ) → Type 0
AreLinesEndedInLf [] = Unit {0}
AreLinesEndedInLf (line ∷ lines) = (ends_in_lf line ≡ true) × AreLinesEndedInLf lines

-- It is a fault.
abbrev pub IsFaultResult : Result (List Edit) ScriptFault → Type 0
IsFaultResult (Ok edits) = ⊥
IsFaultResult (Err fault) = Unit {0}

-- The fault is told at the end of the lines, which give this: the last of them, before this line, wants another.
abbrev pub IsFaultReportedAtEnd : ScriptFault → ℕ → Result (List Edit) ScriptFault → Type 0
IsFaultReportedAtEnd (faults.BadWord at) line alone = IsLineBeforeWanting (faults.BadWord at) at line alone
IsFaultReportedAtEnd (faults.BadNumber at) line alone = ⊥
IsFaultReportedAtEnd (faults.NoPayload at) line alone = IsLineBeforeWanting (faults.NoPayload at) at line alone
IsFaultReportedAtEnd faults.TooMany line alone = ⊥
IsFaultReportedAtEnd faults.NoMemory line alone = ⊥

-- How a reading stops with a fault: behind so many lines, which other lines could have followed.
pub record StopsReadingLinesAtFault (lines : List (List ℕ)) (line : ℕ) (standing : ScriptPosition) (last count : ℕ) (fault : ScriptFault) : Type 0 where
  pub read : ℕ
  pub more : List (List ℕ)
  pub edits : List Edit
  pub each : ArePhysicalLines more
  pub ended : AreLinesEndedInLf (take read lines ++ more)
  pub alive : edits_from_position (take read lines ++ more) line standing last count ≡ Ok edits
  pub dead : read < length lines → (other : List (List ℕ)) → IsFaultResult (edits_from_position (take (suc read) lines ++ other) line standing last count)
  pub told : ((read < length lines) × IsFaultReportedAtPosition fault (line + read) (edits_from_position (take read lines) line standing last count) standing count)
      ⊎ ((read ≡ length lines) × IsFaultReportedAtEnd fault (line + read) (edits_from_position (take read lines) line standing last count))

-- LINES THAT GO ON

-- Lines that go on from here.
record HasLinesGoingOn (line : ℕ) (standing : ScriptPosition) (last count : ℕ) : Type 0 where
  more : List (List ℕ)
  edits : List Edit
  each : ArePhysicalLines more
  ended : AreLinesEndedInLf more
  gives : edits_from_position more line standing last count ≡ Ok edits

-- from where a script can go on it does
live_position_has_lines_going_on : (line : ℕ) (standing : ScriptPosition) (last count : ℕ) → IsLivePosition standing line count → HasLinesGoingOn line standing last count
live_position_has_lines_going_on line Between last count live = record { more = []; edits = []; each = tt; ended = tt; gives = refl }
live_position_has_lines_going_on line (Filed None at) last count live = absurd live
live_position_has_lines_going_on line (Filed (Some file) at) last count live =
    record {
      more = (codes "endline" ++ 10 ∷ []) ∷ [];
      edits = EndLine file ∷ [];
      each = (text_without_lf_and_lf_are_line (codes "endline") refl, tt);
      ended = (refl, tt);
      gives = count_below_limit_keeps_result count (Ok (EndLine file ∷ [])) (lt-leb 65536 count live.3);
    }
live_position_has_lines_going_on line (Begun begun at) last count live =
    record { more = (62 ∷ 10 ∷ []) ∷ []; edits = edit_completed_with_text begun [] ∷ []; each = ((refl, tt), tt); ended = (refl, tt); gives = refl }
live_position_has_lines_going_on line (Going begun so_far) last count live = record { more = []; edits = edit_completed_with_text begun so_far ∷ []; each = tt; ended = tt; gives = refl }

-- ONE LINE MORE

-- a fault behind edits is one of what is behind them
fault_after_edits_is_fault_of_rest : (edits : List Edit) (r : Result (List Edit) ScriptFault) (fault : ScriptFault) → result_after_edits edits r ≡ Err fault → r ≡ Err fault
fault_after_edits_is_fault_of_rest edits (Ok more) fault e = cc
fault_after_edits_is_fault_of_rest edits (Err other) fault e = e

-- a fault is one behind edits too
fault_stays_fault_after_edits : (edits : List Edit) (r : Result (List Edit) ScriptFault) → IsFaultResult r → IsFaultResult (result_after_edits edits r)
fault_stays_fault_after_edits edits (Ok more) h = h
fault_stays_fault_after_edits edits (Err fault) h = tt

-- what is told behind one line more
fault_report_stays_after_edits : (fault : ScriptFault) (at : ℕ) (r : Result (List Edit) ScriptFault) (edits : List Edit) (standing next : ScriptPosition) (count total : ℕ)
    → length edits + open_edit_count_at_position next + count ≡ open_edit_count_at_position standing + total
    → IsFaultReportedAtPosition fault at r next total → IsFaultReportedAtPosition fault at (result_after_edits edits r) standing count
fault_report_stays_after_edits (faults.BadWord l) at r edits standing next count total sum (inl h) = inl h
fault_report_stays_after_edits (faults.BadWord l) at r edits standing next count total sum (inr w) = inr (w.0, w.1, ap (result_after_edits edits) w.2)
fault_report_stays_after_edits (faults.BadNumber l) at r edits standing next count total sum h = h
fault_report_stays_after_edits (faults.NoPayload l) at r edits standing next count total sum h = (h.0, h.1, ap (result_after_edits edits) h.2)
fault_report_stays_after_edits faults.TooMany at r edits standing next count total sum h =
    (edits ++ h.0, ap (result_after_edits edits) h.1, omega (arith, length-append edits h.0, h.2, sum))
fault_report_stays_after_edits faults.NoMemory at r edits standing next count total sum h = absurd h

-- so it is at the end
fault_report_at_end_stays_after_edits : (fault : ScriptFault) (at : ℕ) (r : Result (List Edit) ScriptFault) (edits : List Edit) → IsFaultReportedAtEnd fault at r
    → IsFaultReportedAtEnd fault at (result_after_edits edits r)
fault_report_at_end_stays_after_edits (faults.BadWord l) at r edits h = (h.0, h.1, ap (result_after_edits edits) h.2)
fault_report_at_end_stays_after_edits (faults.BadNumber l) at r edits h = absurd h
fault_report_at_end_stays_after_edits (faults.NoPayload l) at r edits h = (h.0, h.1, ap (result_after_edits edits) h.2)
fault_report_at_end_stays_after_edits faults.TooMany at r edits h = absurd h
fault_report_at_end_stays_after_edits faults.NoMemory at r edits h = absurd h

-- ALL LINES

-- at the end of the lines
reading_stops_at_end_of_lines : (line : ℕ) (standing : ScriptPosition) (last count : ℕ) (fault : ScriptFault) → IsLivePosition standing line count
    → edits_from_position [] line standing last count ≡ Err fault → StopsReadingLinesAtFault [] line standing last count fault
reading_stops_at_end_of_lines line Between last count fault live e = cc
reading_stops_at_end_of_lines line (Filed None at) last count fault live e = absurd live
reading_stops_at_end_of_lines line (Filed (Some file) at) last count fault live e =
    let same : faults.BadWord at ≡ fault = cc in
    let w = live_position_has_lines_going_on line (Filed (Some file) at) last count live in
    subst (λ (f : ScriptFault). StopsReadingLinesAtFault [] line (Filed (Some file) at) last count f) same (record {
      read = 0;
      more = w.more;
      edits = w.edits;
      each = w.each;
      ended = w.ended;
      alive = w.gives;
      dead = λ h. absurd (omega (arith, h));
      told = inr (refl, (omega (arith, live.0), live.1, refl));
    })
reading_stops_at_end_of_lines line (Begun begun at) last count fault live e =
    let same : faults.NoPayload at ≡ fault = cc in
    let w = live_position_has_lines_going_on line (Begun begun at) last count live in
    subst (λ (f : ScriptFault). StopsReadingLinesAtFault [] line (Begun begun at) last count f) same (record {
      read = 0;
      more = w.more;
      edits = w.edits;
      each = w.each;
      ended = w.ended;
      alive = w.gives;
      dead = λ h. absurd (omega (arith, h));
      told = inr (refl, (omega (arith, live.0), live.1, refl));
    })
reading_stops_at_end_of_lines line (Going begun so_far) last count fault live e = cc

-- at the first line
reading_stops_at_first_line : (text : List ℕ) (lines : List (List ℕ)) (line : ℕ) (standing : ScriptPosition) (last count : ℕ) (fault : ScriptFault) → IsLivePosition standing line count
    → FailsAtLine (result_at_line_from_position standing last line count text) standing last line count
    → edits_from_position (text ∷ lines) line standing last count ≡ Err fault → StopsReadingLinesAtFault (text ∷ lines) line standing last count fault
reading_stops_at_first_line text lines line standing last count fault live f e =
    let w = live_position_has_lines_going_on line standing last count live in
    let here = f lines in
    let told : Err here.fault ≡ Err fault = sym (edits_from_position_are_result_at_line text lines line standing last count ∙ here.gives) ∙ e in
    let same : here.fault ≡ fault = cc in
    let at : line ≡ line + 0 = omega arith in
    record {
      read = 0;
      more = w.more;
      edits = w.edits;
      each = w.each;
      ended = w.ended;
      alive = w.gives;
      dead = λ h other. subst IsFaultResult (sym (edits_from_position_are_result_at_line text other line standing last count ∙ (f other).gives)) tt;
      told = inl (
        omega arith,
        subst (λ (l : ℕ). IsFaultReportedAtPosition fault l (edits_from_position [] line standing last count) standing count) at
            (subst (λ (z : ScriptFault). IsFaultReportedAtPosition z line (edits_from_position [] line standing last count) standing count) same here.told),
      );
    }

-- at a later line
reading_stops_at_later_line : (text : List ℕ) (lines : List (List ℕ)) (line : ℕ) (standing : ScriptPosition) (last count : ℕ) (fault : ScriptFault) (g : GoesOnAfterLine (result_at_line_from_position standing last line count text) text standing line count)
    → StopsReadingLinesAtFault lines (line + 1) g.next g.file g.total fault → StopsReadingLinesAtFault (text ∷ lines) line standing last count fault
reading_stops_at_later_line text lines line standing last count fault g s =
    let goes : (ls : List (List ℕ)) → edits_from_position (text ∷ ls) line standing last count ≡ result_after_edits g.edits (edits_from_position ls (line + 1) g.next g.file g.total) =
    λ ls. edits_from_position_are_result_at_line text ls line standing last count ∙ g.gives (edits_from_position ls (line + 1)) in
    let at : line + 1 + s.read ≡ line + suc s.read = omega arith in
    let alone : Result (List Edit) ScriptFault = edits_from_position (take s.read lines) (line + 1) g.next g.file g.total in
    record {
      read = suc s.read;
      more = s.more;
      edits = g.edits ++ s.edits;
      each = s.each;
      ended = (g.ended, s.ended);
      alive = goes (take s.read lines ++ s.more) ∙ ap (result_after_edits g.edits) s.alive;
      dead = λ h other.
          subst IsFaultResult (sym (goes (take (suc s.read) lines ++ other)))
          (fault_stays_fault_after_edits g.edits (edits_from_position (take (suc s.read) lines ++ other) (line + 1) g.next g.file g.total) (s.dead (omega (arith, h)) other));
      told = (elim s.told [
        | inl h ↦ inl (
          omega (arith, h.0),
          subst (λ (l : ℕ). IsFaultReportedAtPosition fault l (edits_from_position (take (suc s.read) (text ∷ lines)) line standing last count) standing count) at
              (subst (λ (r : Result (List Edit) ScriptFault). IsFaultReportedAtPosition fault (line + 1 + s.read) r standing count) (sym (goes (take s.read lines)))
              (fault_report_stays_after_edits fault (line + 1 + s.read) alone g.edits standing g.next count g.total g.sum h.1)),
        )
        | inr h ↦ inr (
          omega (arith, h.0),
          subst (λ (l : ℕ). IsFaultReportedAtEnd fault l (edits_from_position (take (suc s.read) (text ∷ lines)) line standing last count)) at
              (subst (λ (r : Result (List Edit) ScriptFault). IsFaultReportedAtEnd fault (line + 1 + s.read) r) (sym (goes (take s.read lines)))
              (fault_report_at_end_stays_after_edits fault (line + 1 + s.read) alone g.edits h.1)),
        )
      ]);
    }

-- how a reading of lines stops
pub reading_with_fault_stops_at_it : (lines : List (List ℕ)) (line : ℕ) (standing : ScriptPosition) (last count : ℕ) (fault : ScriptFault) → 0 < line → last + 1 ≤ 2 ^ 32
    → IsLivePosition standing line count → count ≤ 65536
    → edits_from_position lines line standing last count ≡ Err fault → StopsReadingLinesAtFault lines line standing last count fault
reading_with_fault_stops_at_it [] line standing last count fault pos set live fits e = reading_stops_at_end_of_lines line standing last count fault live e
reading_with_fault_stops_at_it (text ∷ lines) line standing last count fault pos set live fits e =
    elim (script_line_goes_on_or_fails standing text last line count pos set live fits) [
      | inl g ↦
          let told : result_after_edits g.edits (edits_from_position lines (line + 1) g.next g.file g.total) ≡ Err fault = sym (edits_from_position_are_result_at_line text lines line standing last count ∙ g.gives (edits_from_position lines (line + 1))) ∙ e in
          reading_stops_at_later_line text lines line standing last count fault g
          (reading_with_fault_stops_at_it lines (line + 1) g.next g.file g.total fault (omega arith) g.set g.live g.fits (fault_after_edits_is_fault_of_rest g.edits _ fault told))
      | inr f ↦ reading_stops_at_first_line text lines line standing last count fault live f e
    ]
