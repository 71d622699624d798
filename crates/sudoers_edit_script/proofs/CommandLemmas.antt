-- A line that names lines says a command, or has a flaw.
use Rattle.std.proofs.Common.{◌≡◌, ℕ, Bool, true, false, ◌==◌, List, [], ◌∷◌, ◌++◌, Option, Some, None, refl, sym, ap, subst, ◌∙◌, inl, inr}
use Rattle.std.specs.Prelude.{Result, Ok, Err, codes}
use Rattle.std.specs.Option.{option_map_or}
use Rattle.std.specs.Str.{bytes_eq}
use Rattle.std.proofs.lemmas.Bool.{true≢false, cases_Bool, eqb-true, eqb-false}
use Rattle.std.proofs.lemmas.Slice.Eq.{bytes_eq-Decides}
use Rattle.sudoers_text.specs.Ended.{ends_in_lf}
use Rattle.sudoers_grammar.specs.Piece.{value_of_matching_row}
use Rattle.sudoers_edit_script.specs.Physical.{byte_joined_to_first_line}
use Rattle.sudoers_edit_script.specs.ScriptReading.{words_between_spaces, line_without_final_lf, commands_by_word, line_made_of_value_or_flawed, parsed_command_without_arguments, parsed_single_place, parsed_two_places, parsed_command_arguments, parsed_command_if_line_ends_in_lf, parsed_words_of_line, parsed_script_line, is_file_scoped_command, are_words_of_file_scoped_command, is_line_with_file_scoped_command}
use Rattle.sudoers_edit_script.specs.declared.command_words.EditCommand.{EditCommand}
use Rattle.sudoers_edit_script.specs.declared.command_words.EditCommand.TheVariants as by
use Rattle.sudoers_edit_script.specs.declared.edit_awaiting_text.EditAwaitingText.TheVariants as draft
use Rattle.sudoers_edit_script.specs.declared.edit.Edit.{Edit}
use Rattle.sudoers_edit_script.specs.declared.edit.Edit.TheVariants.{Delete, Move, DropDef, EndLine, OpenEnd}
use Rattle.sudoers_edit_script.specs.declared.script_line.CommandFlaw.{CommandFlaw}
use Rattle.sudoers_edit_script.specs.declared.script_line.ParsedScriptLine.{ParsedScriptLine}
use Rattle.sudoers_edit_script.specs.declared.script_line.ParsedScriptLine.TheVariants as says
use Rattle.sudoers_edit_script.proofs.PhysicalLemmas.{ended_text_is_restored_by_lf}
use Rattle.sudoers_edit_script.proofs.WordLemmas.{byte_unlike_space_joins_first_word}

-- The line begins with the word of a command.
abbrev pub IsParsedCommandOrFlaw : ParsedScriptLine → Type 0
IsParsedCommandOrFlaw (says.Begin begun) = Unit {0}
IsParsedCommandOrFlaw (says.Whole edit) = Unit {0}
IsParsedCommandOrFlaw (says.Flawed f) = Unit {0}
IsParsedCommandOrFlaw _ = ⊥

-- what makes a command, or a flaw, does
result_or_flaw_is_command : {A : Type 0} (say : A → ParsedScriptLine) (r : Result A CommandFlaw) → ((x : A) → IsParsedCommandOrFlaw (say x)) → IsParsedCommandOrFlaw (line_made_of_value_or_flawed say r)
result_or_flaw_is_command say (Ok x) h = h x
result_or_flaw_is_command say (Err f) h = tt

-- so does a command of one word
one_word_command_is_command : (edit : Edit) (ws : List (List ℕ)) → IsParsedCommandOrFlaw (parsed_command_without_arguments edit ws)
one_word_command_is_command edit [] = tt
one_word_command_is_command edit (w ∷ ws) = tt

-- so does a command whose edit names lines
arguments_of_file_command_are_command : (last : ℕ) (command : EditCommand) (ws : List (List ℕ)) → is_file_scoped_command command ≡ true → IsParsedCommandOrFlaw (parsed_command_arguments last command ws)
arguments_of_file_command_are_command last by.Insert ws h = result_or_flaw_is_command (λ at. says.Begin (draft.Insert last at)) (parsed_single_place ws) (λ at. tt)
arguments_of_file_command_are_command last by.Delete ws h = result_or_flaw_is_command (λ at. says.Whole (Delete last at)) (parsed_single_place ws) (λ at. tt)
arguments_of_file_command_are_command last by.Move ws h = result_or_flaw_is_command (λ places. says.Whole (Move last places.0 places.1)) (parsed_two_places ws) (λ places. tt)
arguments_of_file_command_are_command last by.AddDef ws h = result_or_flaw_is_command (λ places. says.Begin (draft.AddDef last places.0 places.1)) (parsed_two_places ws) (λ places. tt)
arguments_of_file_command_are_command last by.DropDef ws h = result_or_flaw_is_command (λ places. says.Whole (DropDef last places.0 places.1)) (parsed_two_places ws) (λ places. tt)
arguments_of_file_command_are_command last by.EndLine ws h = one_word_command_is_command (EndLine last) ws
arguments_of_file_command_are_command last by.OpenEnd ws h = one_word_command_is_command (OpenEnd last) ws
arguments_of_file_command_are_command last by.AddMember ws h = cc
arguments_of_file_command_are_command last by.DropMember ws h = cc
arguments_of_file_command_are_command last by.Rename ws h = cc
arguments_of_file_command_are_command last by.Prune ws h = cc

-- with LF at the end of the line or without
known_file_command_word_is_command : (last : ℕ) (ended : Bool) (ws : List (List ℕ)) (o : Option EditCommand) → option_map_or is_file_scoped_command o false ≡ true → IsParsedCommandOrFlaw (parsed_command_if_line_ends_in_lf last ended ws o)
known_file_command_word_is_command last ended ws None h = cc
known_file_command_word_is_command last true ws (Some command) h = arguments_of_file_command_are_command last command ws h
known_file_command_word_is_command last false ws (Some command) h = tt

-- words that name lines do
words_with_file_command_are_command : (last : ℕ) (ended : Bool) (ws : List (List ℕ)) → are_words_of_file_scoped_command ws ≡ true → IsParsedCommandOrFlaw (parsed_words_of_line last ended ws)
words_with_file_command_are_command last ended [] h = cc
words_with_file_command_are_command last ended (w ∷ ws) h =
    elim (cases_Bool (bytes_eq w (codes "file"))) [
      | inl t ↦ absurd (true≢false (sym h ∙ ap (λ (z : List ℕ). are_words_of_file_scoped_command (z ∷ ws)) ((bytes_eq-Decides w (codes "file")).0 t)))
      | inr f ↦ rw f (known_file_command_word_is_command last ended ws (value_of_matching_row commands_by_word w) h)
    ]

-- THE FIRST BYTE

-- What words begin with this byte are.
record HasFirstWordWithByte (b : ℕ) (ws : List (List ℕ)) : Type 0 where
  word : List ℕ
  more : List (List ℕ)
  is : ws ≡ (b ∷ word) ∷ more

-- a byte before words begins them
byte_joined_to_words_begins_them : (b : ℕ) (ws : List (List ℕ)) → HasFirstWordWithByte b (byte_joined_to_first_line b ws)
byte_joined_to_words_begins_them b [] = record { word = []; more = []; is = refl }
byte_joined_to_words_begins_them b (w ∷ ws) = record { word = w; more = ws; is = refl }

-- a line that does not begin with LF begins with the same byte without its end
line_without_lf_keeps_first_byte : (b : ℕ) (bs body : List ℕ) → (b == 10) ≡ false → b ∷ bs ≡ body ++ 10 ∷ [] → (more : List ℕ) × (body ≡ b ∷ more)
line_without_lf_keeps_first_byte b bs [] f e = let same : b ≡ 10 = cc in absurd (eqb-false b 10 f same)
line_without_lf_keeps_first_byte b bs (c ∷ cs) f e = let same : c ≡ b = cc in (cs, ap (λ (z : ℕ). z ∷ cs) same)

-- so do its words, if it does not begin with a space
line_words_begin_with_first_byte : (b : ℕ) (bs : List ℕ) → (b == 10) ≡ false → (b == 32) ≡ false → HasFirstWordWithByte b (words_between_spaces (line_without_final_lf (b ∷ bs)))
line_words_begin_with_first_byte b bs f g =
    let led : (more : List ℕ) → HasFirstWordWithByte b (words_between_spaces (b ∷ more)) = λ more. subst (HasFirstWordWithByte b) (sym (byte_unlike_space_joins_first_word b more g)) (byte_joined_to_words_begins_them b (words_between_spaces more)) in
    elim (cases_Bool (ends_in_lf (b ∷ bs))) [
      | inl t ↦
          let p = line_without_lf_keeps_first_byte b bs (line_without_final_lf (b ∷ bs)) f (ended_text_is_restored_by_lf (b ∷ bs) t) in
          subst (λ (z : List ℕ). HasFirstWordWithByte b (words_between_spaces z)) (sym p.1) (led p.0)
      | inr u ↦ rw u (led bs)
    ]

-- a line that begins with `|` names no lines
bar_line_has_no_file_command : (b : ℕ) (bs : List ℕ) → (b == 124) ≡ true → is_line_with_file_scoped_command (b ∷ bs) ≡ false
bar_line_has_no_file_command b bs t =
    let led = line_words_begin_with_first_byte 124 bs refl refl in
    ap (λ (z : ℕ). is_line_with_file_scoped_command (z ∷ bs)) (eqb-true b 124 t) ∙ ap are_words_of_file_scoped_command led.is

-- nor does one that begins with `>`
angle_line_has_no_file_command : (b : ℕ) (bs : List ℕ) → (b == 62) ≡ true → is_line_with_file_scoped_command (b ∷ bs) ≡ false
angle_line_has_no_file_command b bs t =
    let led = line_words_begin_with_first_byte 62 bs refl refl in
    ap (λ (z : ℕ). is_line_with_file_scoped_command (z ∷ bs)) (eqb-true b 62 t) ∙ ap are_words_of_file_scoped_command led.is

-- a line that names lines is a command, or has a flaw
pub line_with_file_command_parses_as_command : (last : ℕ) (l : List ℕ) → is_line_with_file_scoped_command l ≡ true → IsParsedCommandOrFlaw (parsed_script_line last l)
line_with_file_command_parses_as_command last [] h = cc
line_with_file_command_parses_as_command last (b ∷ bs) h =
    elim (cases_Bool (b == 124)) [
      | inl t ↦ absurd (true≢false (sym h ∙ bar_line_has_no_file_command b bs t))
      | inr f ↦ rw f (elim (cases_Bool (b == 62)) [
        | inl t ↦ absurd (true≢false (sym h ∙ angle_line_has_no_file_command b bs t))
        | inr g ↦ rw g (words_with_file_command_are_command last (ends_in_lf (b ∷ bs)) (words_between_spaces (line_without_final_lf (b ∷ bs))) h)
      ])
    ]
