-- How a reading goes on behind a line, and which fault is told at one.
use Rattle.std.proofs.Common.{◌≡◌, ◌⊎◌, ℕ, ◌+◌, ◌^◌, ◌<◌, ◌≤◌, true, false, List, [], ◌∷◌, ◌++◌, length, Some, None, refl, ap, ◌∙◌, arith, inl, inr}
use Rattle.std.specs.Prelude.{Result, Ok, Err, nat_le}
use Rattle.std.proofs.lemmas.Bool.{false≢true, leb-true}
use Rattle.sudoers_text.specs.Ended.{ends_in_lf}
use Rattle.sudoers_edit_script.specs.ScriptReading.{ScriptPosition, Between, Filed, Begun, Going, ResultByPositionFileAndCount, edit_before_result, result_within_edit_limit, fault_of_flawed_line, result_at_command_line, result_after_file_line, result_at_first_payload_line, result_at_later_payload_line, edits_from_position, parsed_script_line, is_line_with_file_scoped_command, text_of_payload_line}
use Rattle.sudoers_edit_script.specs.internal.ScriptStanding.{result_after_edits}
use Rattle.sudoers_edit_script.specs.declared.edit.Edit.{Edit}
use Rattle.sudoers_edit_script.specs.declared.script_line.CommandFlaw.{CommandFlaw}
use Rattle.sudoers_edit_script.specs.declared.script_line.CommandFlaw.TheVariants as flaw
use Rattle.sudoers_edit_script.specs.declared.script_reader.ScriptFault.{ScriptFault}
use Rattle.sudoers_edit_script.specs.declared.script_reader.ScriptFault.TheVariants as faults
use Rattle.sudoers_edit_script.proofs.EndLemmas.{text_with_lf_added_ends_in_lf}
use Rattle.sudoers_edit_script.proofs.ScriptLemmas.{open_edit_count_at_position}

-- what a line does, by where it stands
abbrev pub result_at_line_from_position : ScriptPosition → ℕ → ℕ → ℕ → List ℕ → ResultByPositionFileAndCount → Result (List Edit) ScriptFault
result_at_line_from_position Between last line count text rest = result_at_command_line rest last line count (parsed_script_line last text)
result_at_line_from_position (Filed file at) last line count text rest = result_after_file_line (λ f. result_at_command_line rest f line count (parsed_script_line f text)) at file (is_line_with_file_scoped_command text)
result_at_line_from_position (Begun begun at) last line count text rest = result_at_first_payload_line rest last line count begun at (text_of_payload_line (parsed_script_line last text) text) (parsed_script_line last text)
result_at_line_from_position (Going begun so_far) last line count text rest = result_at_later_payload_line rest last line count begun so_far (text_of_payload_line (parsed_script_line last text) text) (parsed_script_line last text)

-- so it does before other lines
pub edits_from_position_are_result_at_line : (text : List ℕ) (lines : List (List ℕ)) (line : ℕ) (standing : ScriptPosition) (last count : ℕ)
    → edits_from_position (text ∷ lines) line standing last count ≡ result_at_line_from_position standing last line count text (edits_from_position lines (line + 1))
edits_from_position_are_result_at_line text lines line Between last count = refl
edits_from_position_are_result_at_line text lines line (Filed file at) last count = refl
edits_from_position_are_result_at_line text lines line (Begun begun at) last count = refl
edits_from_position_are_result_at_line text lines line (Going begun so_far) last count = refl

-- From here a script can go on before this line. What a line before it wants stands on the line right before it.
abbrev pub IsLivePosition : ScriptPosition → ℕ → ℕ → Type 0
IsLivePosition Between line count = Unit {0}
IsLivePosition (Filed None at) line count = ⊥
IsLivePosition (Filed (Some file) at) line count = (at + 1 ≡ line) × (0 < at) × (file + 1 ≤ 2 ^ 32) × (count < 65536)
IsLivePosition (Begun begun at) line count = (at + 1 ≡ line) × (0 < at)
IsLivePosition (Going begun so_far) line count = Unit {0}

-- The line right before this one wants another than this, and so do the lines before this one, which give this.
abbrev pub IsLineBeforeWanting : ScriptFault → ℕ → ℕ → Result (List Edit) ScriptFault → Type 0
IsLineBeforeWanting fault at line alone = (at + 1 ≡ line) × (0 < at) × (alone ≡ Err fault)

-- The fault is told where this line is read, and the lines before it give this.
abbrev pub IsFaultReportedAtPosition : ScriptFault → ℕ → Result (List Edit) ScriptFault → ScriptPosition → ℕ → Type 0
IsFaultReportedAtPosition (faults.BadWord at) line alone standing count = (at ≡ line) ⊎ IsLineBeforeWanting (faults.BadWord at) at line alone
IsFaultReportedAtPosition (faults.BadNumber at) line alone standing count = at ≡ line
IsFaultReportedAtPosition (faults.NoPayload at) line alone standing count = IsLineBeforeWanting (faults.NoPayload at) at line alone
IsFaultReportedAtPosition faults.TooMany line alone standing count = (edits : List Edit) × (alone ≡ Ok edits) × (length edits + count ≡ 65536 + open_edit_count_at_position standing)
IsFaultReportedAtPosition faults.NoMemory line alone standing count = ⊥

-- A line after which the reading goes on.
pub record GoesOnAfterLine (result : ResultByPositionFileAndCount → Result (List Edit) ScriptFault) (text : List ℕ) (standing : ScriptPosition) (line count : ℕ) : Type 0 where
  pub edits : List Edit
  pub next : ScriptPosition
  pub file : ℕ
  pub total : ℕ
  pub gives : (rest : ResultByPositionFileAndCount) → result rest ≡ result_after_edits edits (rest next file total)
  pub ended : ends_in_lf text ≡ true
  pub live : IsLivePosition next (line + 1) total
  pub set : file + 1 ≤ 2 ^ 32
  pub fits : total ≤ 65536
  pub sum : length edits + open_edit_count_at_position next + count ≡ open_edit_count_at_position standing + total

-- What a line gives is a fault, which is told there.
pub record IsFaultReportedAsResult (result : Result (List Edit) ScriptFault) (standing : ScriptPosition) (last line count : ℕ) : Type 0 where
  pub fault : ScriptFault
  pub gives : result ≡ Err fault
  pub told : IsFaultReportedAtPosition fault line (edits_from_position [] line standing last count) standing count

-- A line at which the reading fails, whatever lines follow.
abbrev pub FailsAtLine : (ResultByPositionFileAndCount → Result (List Edit) ScriptFault) → ScriptPosition → ℕ → ℕ → ℕ → Type 0
FailsAtLine result standing last line count = (lines : List (List ℕ)) → IsFaultReportedAsResult (result (edits_from_position lines (line + 1))) standing last line count

-- After a line the reading goes on, or it fails there.
abbrev pub GoesOnOrFailsAtLine : (ResultByPositionFileAndCount → Result (List Edit) ScriptFault) → List ℕ → ScriptPosition → ℕ → ℕ → ℕ → Type 0
GoesOnOrFailsAtLine result text standing last line count = GoesOnAfterLine result text standing line count ⊎ FailsAtLine result standing last line count

-- nothing before
pub result_after_no_edits_is_result : (r : Result (List Edit) ScriptFault) → r ≡ result_after_edits [] r
result_after_no_edits_is_result (Ok more) = refl
result_after_no_edits_is_result (Err fault) = refl

-- an edit before those before
pub edit_before_edits_joins_them : (edit : Edit) (edits : List Edit) (r : Result (List Edit) ScriptFault) → edit_before_result edit (result_after_edits edits r) ≡ result_after_edits (edit ∷ edits) r
edit_before_edits_joins_them edit edits (Ok more) = refl
edit_before_edits_joins_them edit edits (Err fault) = refl

-- one edit before
pub edit_before_result_is_result_after_one : (edit : Edit) (r : Result (List Edit) ScriptFault) → edit_before_result edit r ≡ result_after_edits (edit ∷ []) r
edit_before_result_is_result_after_one edit (Ok more) = refl
edit_before_result_is_result_after_one edit (Err fault) = refl

-- a line with LF ends in it behind `|` too
pub bar_before_ended_text_ends_in_lf : (l t : List ℕ) → l ≡ 124 ∷ t → ends_in_lf t ≡ true → ends_in_lf l ≡ true
bar_before_ended_text_ends_in_lf l [] e h = absurd (false≢true h)
bar_before_ended_text_ends_in_lf l (b ∷ bs) e h = ap ends_in_lf e ∙ h

-- a body and LF end in LF
pub body_and_lf_end_in_lf : (l body : List ℕ) → l ≡ body ++ 10 ∷ [] → ends_in_lf l ≡ true
body_and_lf_end_in_lf l body e = ap ends_in_lf e ∙ text_with_lf_added_ends_in_lf body

-- no room
pub count_at_limit_gives_too_many : (count : ℕ) (r : Result (List Edit) ScriptFault) → nat_le 65536 count ≡ true → result_within_edit_limit count r ≡ Err faults.TooMany
count_at_limit_gives_too_many count r t = rw t refl

-- room
pub count_below_limit_keeps_result : (count : ℕ) (r : Result (List Edit) ScriptFault) → nat_le 65536 count ≡ false → result_within_edit_limit count r ≡ r
count_below_limit_keeps_result count r f = rw f refl

-- FAULTS

-- one command too many
pub command_beyond_limit_fails : (result : ResultByPositionFileAndCount → Result (List Edit) ScriptFault) (last line count : ℕ) → count ≤ 65536 → nat_le 65536 count ≡ true
    → ((rest : ResultByPositionFileAndCount) → result rest ≡ Err faults.TooMany) → FailsAtLine result Between last line count
command_beyond_limit_fails result last line count fits t gives lines =
    let full : 65536 ≤ count = leb-true 65536 count t in
    record { fault = faults.TooMany; gives = gives (edits_from_position lines (line + 1)); told = ([], refl, omega arith) }

-- a line that may not stand there
pub line_with_bad_word_fails : (result : ResultByPositionFileAndCount → Result (List Edit) ScriptFault) (standing : ScriptPosition) (last line count : ℕ)
    → ((rest : ResultByPositionFileAndCount) → result rest ≡ Err (faults.BadWord line)) → FailsAtLine result standing last line count
line_with_bad_word_fails result standing last line count gives lines = record { fault = faults.BadWord line; gives = gives (edits_from_position lines (line + 1)); told = inl refl }

-- a line with a flaw
pub flawed_line_fails : (f : CommandFlaw) (result : ResultByPositionFileAndCount → Result (List Edit) ScriptFault) (last line count : ℕ) → ((rest : ResultByPositionFileAndCount) → result rest ≡ Err (fault_of_flawed_line f line))
    → FailsAtLine result Between last line count
flawed_line_fails flaw.Word result last line count gives = line_with_bad_word_fails result Between last line count gives
flawed_line_fails flaw.Number result last line count gives = λ lines. record { fault = faults.BadNumber line; gives = gives (edits_from_position lines (line + 1)); told = refl }

-- a fault that is told where a command has to come is told elsewhere too, if one command too many is
pub fault_between_commands_is_reported_elsewhere : (fault : ScriptFault) (line count : ℕ) (alone : Result (List Edit) ScriptFault) (standing : ScriptPosition)
    → IsFaultReportedAtPosition fault line (Ok []) Between count → (count ≡ 65536 → IsFaultReportedAtPosition faults.TooMany line alone standing count)
    → IsFaultReportedAtPosition fault line alone standing count
fault_between_commands_is_reported_elsewhere (faults.BadWord at) line count alone standing (inl h) full = inl h
fault_between_commands_is_reported_elsewhere (faults.BadWord at) line count alone standing (inr w) full = let no = w.2 in cc
fault_between_commands_is_reported_elsewhere (faults.BadNumber at) line count alone standing h full = h
fault_between_commands_is_reported_elsewhere (faults.NoPayload at) line count alone standing h full = let no = h.2 in cc
fault_between_commands_is_reported_elsewhere faults.TooMany line count alone standing h full =
    let none : h.0 ≡ [] = cc in
    let size : length h.0 ≡ 0 = ap length none in
    full (omega (arith, size, h.2))
fault_between_commands_is_reported_elsewhere faults.NoMemory line count alone standing h full = absurd h
