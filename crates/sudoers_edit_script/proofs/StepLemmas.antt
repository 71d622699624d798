-- What one line of a script does: the reading goes on behind it, or a fault is told there.
use Rattle.std.proofs.Common.{◌≡◌, ℕ, ◌+◌, ◌^◌, ◌<◌, ◌≤◌, Bool, true, false, ◌==◌, List, [], ◌∷◌, ◌++◌, Some, None, refl, ap, ◌∙◌, arith, inl, inr}
use Rattle.std.specs.Prelude.{Result, Ok, Err, nat_le, codes}
use Rattle.std.proofs.lemmas.Bool.{cases_Bool, leb-true, leb-false}
use Rattle.sudoers_text.specs.Ended.{ends_in_lf}
use Rattle.sudoers_edit_script.specs.Script.{command_words_of_edit, words_joined_by_spaces, one_based_decimal}
use Rattle.sudoers_edit_script.specs.ScriptReading.{ScriptPosition, Between, Filed, Begun, Going, ResultByPositionFileAndCount, edit_before_result, result_within_edit_limit, edit_completed_with_text, fault_of_flawed_line, result_at_file_line, result_at_command_line, result_after_file_line, result_at_first_payload_line, result_at_later_payload_line, edits_from_position, parsed_script_line, is_line_with_file_scoped_command, text_of_payload_line}
use Rattle.sudoers_edit_script.specs.declared.edit_awaiting_text.EditAwaitingText.{EditAwaitingText}
use Rattle.sudoers_edit_script.specs.declared.edit.Edit.{Edit}
use Rattle.sudoers_edit_script.specs.declared.script_line.ParsedScriptLine.{ParsedScriptLine}
use Rattle.sudoers_edit_script.specs.declared.script_line.ParsedScriptLine.TheVariants as says
use Rattle.sudoers_edit_script.specs.declared.script_reader.ScriptFault.{ScriptFault}
use Rattle.sudoers_edit_script.specs.declared.script_reader.ScriptFault.TheVariants as faults
use Rattle.sudoers_edit_script.proofs.CommandLemmas.{IsParsedCommandOrFlaw, line_with_file_command_parses_as_command}
use Rattle.sudoers_edit_script.proofs.LineLemmas.{IsCommandLineOfEdit, DoesLineMeanParsed, line_means_what_it_parses_to}
use Rattle.sudoers_edit_script.proofs.ToldLemmas.{FailsAtLine, IsFaultReportedAsResult, IsLivePosition, GoesOnOrFailsAtLine, line_with_bad_word_fails, edit_before_edits_joins_them, edit_before_result_is_result_after_one, result_after_no_edits_is_result, bar_before_ended_text_ends_in_lf, body_and_lf_end_in_lf, flawed_line_fails, count_below_limit_keeps_result, count_at_limit_gives_too_many, result_at_line_from_position, fault_between_commands_is_reported_elsewhere, command_beyond_limit_fails}

-- COMMANDS

-- the line of a command ends in LF
command_line_of_edit_ends_in_lf : (last : ℕ) (edit : Edit) (text : List ℕ) → IsCommandLineOfEdit last edit text → ends_in_lf text ≡ true
command_line_of_edit_ends_in_lf last edit text told = body_and_lf_end_in_lf text (words_joined_by_spaces (command_words_of_edit edit)) told.0

-- the line of a command that is all of its edit
whole_command_line_goes_on_or_fails : (edit : Edit) (text : List ℕ) (last line count : ℕ) → last + 1 ≤ 2 ^ 32 → IsCommandLineOfEdit last edit text → count ≤ 65536
    → GoesOnOrFailsAtLine (λ rest. result_within_edit_limit count (edit_before_result edit (rest Between last (count + 1)))) text Between last line count
whole_command_line_goes_on_or_fails edit text last line count set told fits =
    elim (cases_Bool (nat_le 65536 count)) [
      | inl t ↦ inr (command_beyond_limit_fails _ last line count fits t (λ rest. count_at_limit_gives_too_many count (edit_before_result edit (rest Between last (count + 1))) t))
      | inr f ↦ inl (record {
        edits = edit ∷ [];
        next = Between;
        file = last;
        total = count + 1;
        gives = λ rest. count_below_limit_keeps_result count (edit_before_result edit (rest Between last (count + 1))) f ∙ edit_before_result_is_result_after_one edit (rest Between last (count + 1));
        ended = command_line_of_edit_ends_in_lf last edit text told;
        live = tt;
        set = set;
        fits = (let h : count < 65536 = leb-false 65536 count f in omega arith);
        sum = omega arith;
      })
    ]

-- FILE LINES

-- a command behind a `file` line is one too many
command_beyond_limit_is_too_many : (rest : ResultByPositionFileAndCount) (file line count : ℕ) (said : ParsedScriptLine) → IsParsedCommandOrFlaw said → nat_le 65536 count ≡ true
    → result_at_command_line rest file line count said ≡ Err faults.TooMany
command_beyond_limit_is_too_many rest file line count (says.Begin begun) is t = count_at_limit_gives_too_many count (rest (Begun begun line) file (count + 1)) t
command_beyond_limit_is_too_many rest file line count (says.Whole edit) is t = count_at_limit_gives_too_many count (edit_before_result edit (rest Between file (count + 1))) t
command_beyond_limit_is_too_many rest file line count (says.Flawed f) is t = count_at_limit_gives_too_many count (Err (fault_of_flawed_line f line)) t
command_beyond_limit_is_too_many rest file line count (says.File f) is t = absurd is
command_beyond_limit_is_too_many rest file line count says.More is t = absurd is
command_beyond_limit_is_too_many rest file line count says.Last is t = absurd is
command_beyond_limit_is_too_many rest file line count says.Unended is t = absurd is
command_beyond_limit_is_too_many rest file line count says.Other is t = absurd is

-- what a line gives right behind a `file` line that no command may follow
reading_after_file_line_at_limit_fails : (lines : List (List ℕ)) (file last line count : ℕ) → count ≤ 65536 → nat_le 65536 count ≡ true
    → IsFaultReportedAsResult (edits_from_position lines (line + 1) (Filed (Some file) line) last count) Between last line count
reading_after_file_line_at_limit_fails [] file last line count fits t = record { fault = faults.BadWord line; gives = refl; told = inl refl }
reading_after_file_line_at_limit_fails (text ∷ lines) file last line count fits t =
    let gives : ℕ → Result (List Edit) ScriptFault = λ f. result_at_command_line (edits_from_position lines (line + 1 + 1)) f (line + 1) count (parsed_script_line f text) in
    elim (cases_Bool (is_line_with_file_scoped_command text)) [
      | inl y ↦ record {
        fault = faults.TooMany;
        gives = ap (result_after_file_line gives line (Some file)) y
            ∙ command_beyond_limit_is_too_many (edits_from_position lines (line + 1 + 1)) file (line + 1) count (parsed_script_line file text) (line_with_file_command_parses_as_command file text y) t;
        told = (let full : 65536 ≤ count = leb-true 65536 count t in ([], refl, omega arith));
      }
      | inr n ↦ record { fault = faults.BadWord line; gives = ap (result_after_file_line gives line (Some file)) n; told = inl refl }
    ]

-- and behind one whose number is none
reading_after_file_line_without_number_fails : (lines : List (List ℕ)) (last line count : ℕ) → IsFaultReportedAsResult (edits_from_position lines (line + 1) (Filed None line) last count) Between last line count
reading_after_file_line_without_number_fails [] last line count = record { fault = faults.BadWord line; gives = refl; told = inl refl }
reading_after_file_line_without_number_fails (text ∷ lines) last line count =
    let gives : ℕ → Result (List Edit) ScriptFault = λ f. result_at_command_line (edits_from_position lines (line + 1 + 1)) f (line + 1) count (parsed_script_line f text) in
    elim (cases_Bool (is_line_with_file_scoped_command text)) [
      | inl y ↦ record { fault = faults.BadNumber line; gives = ap (result_after_file_line gives line None) y; told = refl }
      | inr n ↦ record { fault = faults.BadWord line; gives = ap (result_after_file_line gives line None) n; told = inl refl }
    ]

-- a `file` line that sets another file
other_file_line_goes_on_or_fails : (file : ℕ) (text : List ℕ) (last line count : ℕ) → last + 1 ≤ 2 ^ 32 → ends_in_lf text ≡ true → file + 1 ≤ 2 ^ 32 → 0 < line → count ≤ 65536
    → GoesOnOrFailsAtLine (λ rest. rest (Filed (Some file) line) last count) text Between last line count
other_file_line_goes_on_or_fails file text last line count set ended proper pos fits =
    elim (cases_Bool (nat_le 65536 count)) [
      | inl t ↦ inr (λ lines. reading_after_file_line_at_limit_fails lines file last line count fits t)
      | inr f ↦ inl (record {
        edits = [];
        next = Filed (Some file) line;
        file = last;
        total = count;
        gives = λ rest. result_after_no_edits_is_result (rest (Filed (Some file) line) last count);
        ended = ended;
        live = (refl, pos, proper, leb-false 65536 count f);
        set = set;
        fits = fits;
        sum = omega arith;
      })
    ]

-- a `file` line
file_line_goes_on_or_fails : (file : ℕ) (text : List ℕ) (last line count : ℕ) → last + 1 ≤ 2 ^ 32 → ends_in_lf text ≡ true → file + 1 ≤ 2 ^ 32 → 0 < line → count ≤ 65536
    → GoesOnOrFailsAtLine (λ rest. result_at_file_line rest last line count (Some file)) text Between last line count
file_line_goes_on_or_fails file text last line count set ended proper pos fits =
    elim (cases_Bool (file == last)) [
      | inl t ↦ inr (line_with_bad_word_fails (λ rest. result_at_file_line rest last line count (Some file)) Between last line count (λ rest. rw t refl))
      | inr f ↦ rw f (other_file_line_goes_on_or_fails file text last line count set ended proper pos fits)
    ]

-- A LINE WHERE A COMMAND HAS TO COME

-- After a line that says this where a command has to come the reading goes on, or it fails there.
abbrev CommandLineGoesOnOrFails : ParsedScriptLine → List ℕ → ℕ → ℕ → ℕ → Type 0
CommandLineGoesOnOrFails said text last line count = GoesOnOrFailsAtLine (λ rest. result_at_command_line rest last line count said) text Between last line count

-- so it is for each line
command_line_goes_on_or_fails : (said : ParsedScriptLine) (text : List ℕ) (last line count : ℕ) → last + 1 ≤ 2 ^ 32 → DoesLineMeanParsed last said text → 0 < line → count ≤ 65536
    → CommandLineGoesOnOrFails said text last line count
command_line_goes_on_or_fails (says.Begin begun) text last line count set told pos fits =
    elim (cases_Bool (nat_le 65536 count)) [
      | inl t ↦ inr (command_beyond_limit_fails _ last line count fits t (λ rest. count_at_limit_gives_too_many count (rest (Begun begun line) last (count + 1)) t))
      | inr f ↦ inl (record {
        edits = [];
        next = Begun begun line;
        file = last;
        total = count + 1;
        gives = λ rest. count_below_limit_keeps_result count (rest (Begun begun line) last (count + 1)) f ∙ result_after_no_edits_is_result (rest (Begun begun line) last (count + 1));
        ended = command_line_of_edit_ends_in_lf last (edit_completed_with_text begun []) text told;
        live = (refl, pos);
        set = set;
        fits = (let h : count < 65536 = leb-false 65536 count f in omega arith);
        sum = omega arith;
      })
    ]
command_line_goes_on_or_fails (says.Whole edit) text last line count set told pos fits = whole_command_line_goes_on_or_fails edit text last line count set told.0 fits
command_line_goes_on_or_fails (says.Flawed f) text last line count set told pos fits =
    elim (cases_Bool (nat_le 65536 count)) [
      | inl t ↦ inr (command_beyond_limit_fails _ last line count fits t (λ rest. count_at_limit_gives_too_many count (Err (fault_of_flawed_line f line)) t))
      | inr g ↦ inr (flawed_line_fails f _ last line count (λ rest. count_below_limit_keeps_result count (Err (fault_of_flawed_line f line)) g))
    ]
command_line_goes_on_or_fails (says.File (Some file)) text last line count set told pos fits =
    file_line_goes_on_or_fails file text last line count set (body_and_lf_end_in_lf text (words_joined_by_spaces (codes "file" ∷ one_based_decimal file ∷ [])) told.0) told.1 pos fits
command_line_goes_on_or_fails (says.File None) text last line count set told pos fits = inr (λ lines. reading_after_file_line_without_number_fails lines last line count)
command_line_goes_on_or_fails says.More text last line count set told pos fits = inr (line_with_bad_word_fails _ Between last line count (λ rest. refl))
command_line_goes_on_or_fails says.Last text last line count set told pos fits = inr (line_with_bad_word_fails _ Between last line count (λ rest. refl))
command_line_goes_on_or_fails says.Unended text last line count set told pos fits = inr (line_with_bad_word_fails _ Between last line count (λ rest. refl))
command_line_goes_on_or_fails says.Other text last line count set told pos fits = inr (line_with_bad_word_fails _ Between last line count (λ rest. refl))

-- A LINE BEHIND A `FILE` LINE

-- a line right behind a `file` line
filed_line_goes_on_or_fails : (text : List ℕ) (file at last line count : ℕ) (names : Bool) → is_line_with_file_scoped_command text ≡ names → 0 < line → IsLivePosition (Filed (Some file) at) line count
    → GoesOnOrFailsAtLine (λ rest. result_after_file_line (λ f. result_at_command_line rest f line count (parsed_script_line f text)) at (Some file) names) text (Filed (Some file) at) last line count
filed_line_goes_on_or_fails text file at last line count false names pos live =
    inr (λ lines. record { fault = faults.BadWord at; gives = refl; told = inr (live.0, live.1, refl) })
filed_line_goes_on_or_fails text file at last line count true names pos live =
    elim (command_line_goes_on_or_fails (parsed_script_line file text) text file line count live.2 (line_means_what_it_parses_to file text live.2) pos (omega (arith, live.3))) [
      | inl g ↦ inl (record {
        edits = g.edits;
        next = g.next;
        file = g.file;
        total = g.total;
        gives = g.gives;
        ended = g.ended;
        live = g.live;
        set = g.set;
        fits = g.fits;
        sum = g.sum;
      })
      | inr f ↦ inr (λ lines. record {
        fault = (f lines).fault;
        gives = (f lines).gives;
        told = fault_between_commands_is_reported_elsewhere (f lines).fault line count (Err (faults.BadWord at)) (Filed (Some file) at) (f lines).told
            (λ full. absurd (omega (arith, full, live.3)));
      })
    ]

-- THE FIRST LINE OF A TEXT

-- no text behind a command
missing_payload_fails : (result : ResultByPositionFileAndCount → Result (List Edit) ScriptFault) (last line count : ℕ) (begun : EditAwaitingText) (at : ℕ) → (at + 1 ≡ line) × (0 < at)
    → ((rest : ResultByPositionFileAndCount) → result rest ≡ Err (faults.NoPayload at)) → FailsAtLine result (Begun begun at) last line count
missing_payload_fails result last line count begun at placed gives lines = record { fault = faults.NoPayload at; gives = gives (edits_from_position lines (line + 1)); told = (placed.0, placed.1, refl) }

-- a line right behind a command that wants a text
first_payload_line_goes_on_or_fails : (said : ParsedScriptLine) (text t : List ℕ) (last line count : ℕ) (begun : EditAwaitingText) (at : ℕ) → last + 1 ≤ 2 ^ 32 → DoesLineMeanParsed last said text
    → (at + 1 ≡ line) × (0 < at) → count ≤ 65536
    → GoesOnOrFailsAtLine (λ rest. result_at_first_payload_line rest last line count begun at t said) text (Begun begun at) last line count
first_payload_line_goes_on_or_fails says.More text t last line count begun at set told placed fits =
    inl (record {
      edits = [];
      next = Going begun t;
      file = last;
      total = count;
      gives = λ rest. result_after_no_edits_is_result (rest (Going begun t) last count);
      ended = bar_before_ended_text_ends_in_lf text told.0 told.1 told.2;
      live = tt;
      set = set;
      fits = fits;
      sum = omega arith;
    })
first_payload_line_goes_on_or_fails says.Last text t last line count begun at set told placed fits =
    inl (record {
      edits = edit_completed_with_text begun t ∷ [];
      next = Between;
      file = last;
      total = count;
      gives = λ rest. edit_before_result_is_result_after_one (edit_completed_with_text begun t) (rest Between last count);
      ended = body_and_lf_end_in_lf text (62 ∷ told.0) told.1;
      live = tt;
      set = set;
      fits = fits;
      sum = omega arith;
    })
first_payload_line_goes_on_or_fails says.Unended text t last line count begun at set told placed fits = inr (line_with_bad_word_fails _ (Begun begun at) last line count (λ rest. refl))
first_payload_line_goes_on_or_fails (says.Begin _) text t last line count begun at set told placed fits = inr (missing_payload_fails _ last line count begun at placed (λ rest. refl))
first_payload_line_goes_on_or_fails (says.Whole _) text t last line count begun at set told placed fits = inr (missing_payload_fails _ last line count begun at placed (λ rest. refl))
first_payload_line_goes_on_or_fails (says.Flawed _) text t last line count begun at set told placed fits = inr (missing_payload_fails _ last line count begun at placed (λ rest. refl))
first_payload_line_goes_on_or_fails (says.File _) text t last line count begun at set told placed fits = inr (missing_payload_fails _ last line count begun at placed (λ rest. refl))
first_payload_line_goes_on_or_fails says.Other text t last line count begun at set told placed fits = inr (missing_payload_fails _ last line count begun at placed (λ rest. refl))

-- A LATER LINE

-- a command behind a text
command_after_payload_goes_on_or_fails : (said : ParsedScriptLine) (text : List ℕ) (last line count : ℕ) (begun : EditAwaitingText) (so_far : List ℕ) → CommandLineGoesOnOrFails said text last line count
    → GoesOnOrFailsAtLine (λ rest. edit_before_result (edit_completed_with_text begun so_far) (result_at_command_line rest last line count said)) text (Going begun so_far) last line count
command_after_payload_goes_on_or_fails said text last line count begun so_far (inl g) =
    inl (record {
      edits = edit_completed_with_text begun so_far ∷ g.edits;
      next = g.next;
      file = g.file;
      total = g.total;
      gives = λ rest. ap (edit_before_result (edit_completed_with_text begun so_far)) (g.gives rest) ∙ edit_before_edits_joins_them (edit_completed_with_text begun so_far) g.edits (rest g.next g.file g.total);
      ended = g.ended;
      live = g.live;
      set = g.set;
      fits = g.fits;
      sum = omega (arith, g.sum);
    })
command_after_payload_goes_on_or_fails said text last line count begun so_far (inr f) =
    inr (λ lines. record {
      fault = (f lines).fault;
      gives = ap (edit_before_result (edit_completed_with_text begun so_far)) (f lines).gives;
      told = fault_between_commands_is_reported_elsewhere (f lines).fault line count (Ok (edit_completed_with_text begun so_far ∷ [])) (Going begun so_far) (f lines).told
          (λ full. (edit_completed_with_text begun so_far ∷ [], refl, omega (arith, full)));
    })

-- a line behind a part of a text
later_payload_line_goes_on_or_fails : (said : ParsedScriptLine) (text t : List ℕ) (last line count : ℕ) (begun : EditAwaitingText) (so_far : List ℕ) → last + 1 ≤ 2 ^ 32 → DoesLineMeanParsed last said text → 0 < line
    → count ≤ 65536
    → GoesOnOrFailsAtLine (λ rest. result_at_later_payload_line rest last line count begun so_far t said) text (Going begun so_far) last line count
later_payload_line_goes_on_or_fails says.More text t last line count begun so_far set told pos fits =
    inl (record {
      edits = [];
      next = Going begun (so_far ++ t);
      file = last;
      total = count;
      gives = λ rest. result_after_no_edits_is_result (rest (Going begun (so_far ++ t)) last count);
      ended = bar_before_ended_text_ends_in_lf text told.0 told.1 told.2;
      live = tt;
      set = set;
      fits = fits;
      sum = omega arith;
    })
later_payload_line_goes_on_or_fails says.Last text [] last line count begun so_far set told pos fits = inr (line_with_bad_word_fails _ (Going begun so_far) last line count (λ rest. refl))
later_payload_line_goes_on_or_fails says.Last text (b ∷ t) last line count begun so_far set told pos fits =
    inl (record {
      edits = edit_completed_with_text begun (so_far ++ b ∷ t) ∷ [];
      next = Between;
      file = last;
      total = count;
      gives = λ rest. edit_before_result_is_result_after_one (edit_completed_with_text begun (so_far ++ b ∷ t)) (rest Between last count);
      ended = body_and_lf_end_in_lf text (62 ∷ told.0) told.1;
      live = tt;
      set = set;
      fits = fits;
      sum = omega arith;
    })
later_payload_line_goes_on_or_fails says.Unended text t last line count begun so_far set told pos fits = inr (line_with_bad_word_fails _ (Going begun so_far) last line count (λ rest. refl))
later_payload_line_goes_on_or_fails (says.Begin other) text t last line count begun so_far set told pos fits =
    command_after_payload_goes_on_or_fails (says.Begin other) text last line count begun so_far (command_line_goes_on_or_fails (says.Begin other) text last line count set told pos fits)
later_payload_line_goes_on_or_fails (says.Whole edit) text t last line count begun so_far set told pos fits =
    command_after_payload_goes_on_or_fails (says.Whole edit) text last line count begun so_far (command_line_goes_on_or_fails (says.Whole edit) text last line count set told pos fits)
later_payload_line_goes_on_or_fails (says.Flawed f) text t last line count begun so_far set told pos fits =
    command_after_payload_goes_on_or_fails (says.Flawed f) text last line count begun so_far (command_line_goes_on_or_fails (says.Flawed f) text last line count set told pos fits)
later_payload_line_goes_on_or_fails (says.File file) text t last line count begun so_far set told pos fits =
    command_after_payload_goes_on_or_fails (says.File file) text last line count begun so_far (command_line_goes_on_or_fails (says.File file) text last line count set told pos fits)
later_payload_line_goes_on_or_fails says.Other text t last line count begun so_far set told pos fits =
    command_after_payload_goes_on_or_fails says.Other text last line count begun so_far (command_line_goes_on_or_fails says.Other text last line count set told pos fits)

-- EACH LINE

-- after a line the reading goes on, or it fails there
pub script_line_goes_on_or_fails : (standing : ScriptPosition) (text : List ℕ) (last line count : ℕ) → 0 < line → last + 1 ≤ 2 ^ 32 → IsLivePosition standing line count → count ≤ 65536
    → GoesOnOrFailsAtLine (result_at_line_from_position standing last line count text) text standing last line count
script_line_goes_on_or_fails Between text last line count pos set live fits = command_line_goes_on_or_fails (parsed_script_line last text) text last line count set (line_means_what_it_parses_to last text set) pos fits
script_line_goes_on_or_fails (Filed None at) text last line count pos set live fits = absurd live
script_line_goes_on_or_fails (Filed (Some file) at) text last line count pos set live fits = filed_line_goes_on_or_fails text file at last line count (is_line_with_file_scoped_command text) refl pos live
script_line_goes_on_or_fails (Begun begun at) text last line count pos set live fits =
    first_payload_line_goes_on_or_fails (parsed_script_line last text) text (text_of_payload_line (parsed_script_line last text) text) last line count begun at set (line_means_what_it_parses_to last text set) live fits
script_line_goes_on_or_fails (Going begun so_far) text last line count pos set live fits =
    later_payload_line_goes_on_or_fails (parsed_script_line last text) text (text_of_payload_line (parsed_script_line last text) text) last line count begun so_far set (line_means_what_it_parses_to last text set) pos fits
