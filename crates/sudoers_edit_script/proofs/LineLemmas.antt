-- What a line says.
use Rattle.std.proofs.Common.{◌≡◌, ℕ, ◌+◌, ◌≤◌, Bool, true, false, ◌==◌, List, [], ◌∷◌, ◌++◌, drop, refl, sym, ap, ◌∙◌, arith, inl, inr, ◌^◌, subst, append_assoc}
use Rattle.std.proofs.lemmas.Bool.{false≢true, cases_Bool, eqb-true, and_parts}
use Rattle.std.specs.Prelude.{codes, Option, Some, None, Ok, if◌then◌else◌}
use Rattle.std.specs.List.{list_any}
use Rattle.std.specs.Option.{ok_or, is_some, unwrap_or}
use Rattle.std.specs.Str.{bytes_eq}
use Rattle.sudoers_text.specs.Ended.{ends_in_lf}
use Rattle.sudoers_grammar.specs.Piece.{value_of_matching_row}
use Rattle.sudoers_grammar.specs.declared.node.Kind.{Kind}
use Rattle.sudoers_edit_script.specs.Physical.{physical_lines}
use Rattle.sudoers_edit_script.specs.declared.edit_awaiting_text.EditAwaitingText.{EditAwaitingText}
use Rattle.sudoers_edit_script.specs.declared.edit_awaiting_text.EditAwaitingText.TheVariants as draft
use Rattle.sudoers_edit_script.specs.declared.edit.Edit.{Edit}
use Rattle.sudoers_edit_script.specs.declared.edit.Edit.TheVariants.{Insert, Delete, Move, AddMember, DropMember, AddDef, DropDef, Rename, EndLine, OpenEnd, Prune}
use Rattle.sudoers_edit_script.specs.declared.command_words.EditCommand.{EditCommand}
use Rattle.sudoers_edit_script.specs.declared.script_line.CommandFlaw.TheVariants as flaw
use Rattle.sudoers_edit_script.specs.declared.script_line.ParsedScriptLine.{ParsedScriptLine}
use Rattle.sudoers_edit_script.specs.declared.script_line.ParsedScriptLine.TheVariants as says
use Rattle.sudoers_edit_script.specs.Script.{one_based_decimal, word_for_alias_kind, command_words_of_edit, words_joined_by_spaces, payload_lines_of_edit, payload_of_text, spelling_of_edit, file_number_named_by_edit, script_line_setting_file_number, file_number_set_after_edit, is_spellable_word, IsSpellable}
use Rattle.sudoers_edit_script.specs.ScriptReading.{words_between_spaces, place_of_word, commands_by_word, parsed_single_place, both_places_or_flaw, parsed_two_places, alias_of_kind_or_flaw, parsed_alias_and_word, line_made_of_value_or_flawed, parsed_command_if_line_ends_in_lf, parsed_words_of_line, edit_completed_with_text, line_without_final_lf, parsed_script_line, are_words_of_file_scoped_command, is_line_with_file_scoped_command}
use Rattle.sudoers_edit_script.proofs.NumberLemmas.{one_based_decimal_is_read_back}
use Rattle.sudoers_edit_script.proofs.EndLemmas.{ended_text_is_body_and_lf, text_with_lf_added_ends_in_lf}
use Rattle.sudoers_edit_script.proofs.PhysicalLemmas.{IsPhysicalLine, ended_text_is_restored_by_lf, lf_added_is_removed_again, text_without_lf_and_lf_are_line, ended_line_is_first_physical_line}
use Rattle.sudoers_edit_script.proofs.SayLemmas.{DoWordsMeanParsed, alias_kind_word_is_read_back, words_mean_what_they_parse_to}
use Rattle.sudoers_edit_script.proofs.WordLemmas.{AreSpellableWords, command_words_are_spellable, file_line_words_are_spellable, words_between_spaces_join_to_text, joined_words_have_no_lf, joined_words_are_split_back}

-- the line of an edit's command
abbrev pub command_line_of_edit : Edit → List ℕ
command_line_of_edit edit = words_joined_by_spaces (command_words_of_edit edit) ++ 10 ∷ []

-- what that line says
abbrev pub parsed_line_of_edit : Edit → ParsedScriptLine
parsed_line_of_edit (Insert file at text) = says.Begin (draft.Insert file at)
parsed_line_of_edit (AddMember kind name at splice) = says.Begin (draft.AddMember kind name at)
parsed_line_of_edit (AddDef file line at splice) = says.Begin (draft.AddDef file line at)
parsed_line_of_edit edit = says.Whole edit

-- an edit has a text, or its command is all of it
pub property_of_texted_and_whole_edits_holds : (P : Edit → Type 0) → ((begun : EditAwaitingText) (text : List ℕ) → P (edit_completed_with_text begun text)) → ((edit : Edit) → parsed_line_of_edit edit ≡ says.Whole edit → payload_lines_of_edit edit ≡ [] → P edit) → (edit : Edit) → P edit
property_of_texted_and_whole_edits_holds P begun whole (Insert file at text) = begun (draft.Insert file at) text
property_of_texted_and_whole_edits_holds P begun whole (Delete file at) = whole (Delete file at) refl refl
property_of_texted_and_whole_edits_holds P begun whole (Move file from to) = whole (Move file from to) refl refl
property_of_texted_and_whole_edits_holds P begun whole (AddMember kind name at splice) = begun (draft.AddMember kind name at) splice
property_of_texted_and_whole_edits_holds P begun whole (DropMember kind name at) = whole (DropMember kind name at) refl refl
property_of_texted_and_whole_edits_holds P begun whole (AddDef file line at splice) = begun (draft.AddDef file line at) splice
property_of_texted_and_whole_edits_holds P begun whole (DropDef file line at) = whole (DropDef file line at) refl refl
property_of_texted_and_whole_edits_holds P begun whole (Rename kind name fresh) = whole (Rename kind name fresh) refl refl
property_of_texted_and_whole_edits_holds P begun whole (EndLine file) = whole (EndLine file) refl refl
property_of_texted_and_whole_edits_holds P begun whole (OpenEnd file) = whole (OpenEnd file) refl refl
property_of_texted_and_whole_edits_holds P begun whole Prune = whole Prune refl refl

-- What an edit with a text is, whatever its text.
pub record HasTextIndependentCommand (begun : EditAwaitingText) (text : List ℕ) : Type 0 where
  pub said : parsed_line_of_edit (edit_completed_with_text begun text) ≡ says.Begin begun
  pub line : command_line_of_edit (edit_completed_with_text begun text) ≡ command_line_of_edit (edit_completed_with_text begun [])
  pub lines : payload_lines_of_edit (edit_completed_with_text begun text) ≡ payload_of_text text
  pub file : file_number_named_by_edit (edit_completed_with_text begun text) ≡ file_number_named_by_edit (edit_completed_with_text begun [])
  pub spellable : IsSpellable (edit_completed_with_text begun []) → IsSpellable (edit_completed_with_text begun text)
  pub spelled : IsSpellable (edit_completed_with_text begun text) → IsSpellable (edit_completed_with_text begun [])

-- so it is
pub edit_with_text_has_its_command : (begun : EditAwaitingText) (text : List ℕ) → HasTextIndependentCommand begun text
edit_with_text_has_its_command (draft.Insert file at) text = record { said = refl; line = refl; lines = refl; file = refl; spellable = λ h. h; spelled = λ h. h }
edit_with_text_has_its_command (draft.AddMember kind name at) text = record { said = refl; line = refl; lines = refl; file = refl; spellable = λ h. h; spelled = λ h. h }
edit_with_text_has_its_command (draft.AddDef file line at) text = record { said = refl; line = refl; lines = refl; file = refl; spellable = λ h. h; spelled = λ h. h }

-- an edit's spelling is its line, and the lines of its text
pub edit_spelling_is_command_line_and_payload : (edit : Edit) → spelling_of_edit edit ≡ command_line_of_edit edit ++ payload_lines_of_edit edit
edit_spelling_is_command_line_and_payload edit = sym (append_assoc (words_joined_by_spaces (command_words_of_edit edit)) (10 ∷ []) (payload_lines_of_edit edit))

-- with no text it is its line
pub edit_without_payload_is_its_command_line : (edit : Edit) → payload_lines_of_edit edit ≡ [] → command_line_of_edit edit ≡ spelling_of_edit edit
edit_without_payload_is_its_command_line edit h = ap (λ (z : List ℕ). words_joined_by_spaces (command_words_of_edit edit) ++ 10 ∷ z) (sym h)

-- with one it is the line of its command, and that text's lines
pub texted_edit_is_command_line_and_payload : (begun : EditAwaitingText) (text : List ℕ) → spelling_of_edit (edit_completed_with_text begun text) ≡ command_line_of_edit (edit_completed_with_text begun []) ++ payload_of_text text
texted_edit_is_command_line_and_payload begun text =
    let t = edit_with_text_has_its_command begun text in
    edit_spelling_is_command_line_and_payload (edit_completed_with_text begun text) ∙ ap (λ (z : List ℕ). z ++ payload_lines_of_edit (edit_completed_with_text begun text)) t.line ∙ ap (λ (z : List ℕ). command_line_of_edit (edit_completed_with_text begun []) ++ z) t.lines

-- The line is that of the command of the edit, which needs no `file` line where this file is set.
abbrev pub IsCommandLineOfEdit : ℕ → Edit → List ℕ → Type 0
IsCommandLineOfEdit last edit l = (l ≡ command_line_of_edit edit) × IsSpellable edit × (file_number_set_after_edit last edit ≡ last)

-- a line that says this where this file is set
abbrev pub DoesLineMeanParsed : ℕ → ParsedScriptLine → List ℕ → Type 0
DoesLineMeanParsed last (says.Begin begun) l = IsCommandLineOfEdit last (edit_completed_with_text begun []) l
DoesLineMeanParsed last (says.Whole edit) l = IsCommandLineOfEdit last edit l × (payload_lines_of_edit edit ≡ [])
DoesLineMeanParsed last (says.Flawed f) l = Unit {0}
DoesLineMeanParsed last (says.File (Some file)) l = (l ≡ script_line_setting_file_number file) × (file + 1 ≤ 2 ^ 32)
DoesLineMeanParsed last (says.File None) l = Unit {0}
DoesLineMeanParsed last says.More l = (t : List ℕ) × (l ≡ 124 ∷ t) × (ends_in_lf t ≡ true)
DoesLineMeanParsed last says.Last l = (t : List ℕ) × (l ≡ 62 ∷ t ++ 10 ∷ [])
DoesLineMeanParsed last says.Unended l = Unit {0}
DoesLineMeanParsed last says.Other l = Unit {0}

-- a line that begins with `|` says so
bar_line_means_further_payload : (last b : ℕ) (bs : List ℕ) → (b == 124) ≡ true → DoesLineMeanParsed last (if ends_in_lf (b ∷ bs) then says.More else says.Unended) (b ∷ bs)
bar_line_means_further_payload last b [] h =
    elim (cases_Bool (b == 10)) [
      | inl t ↦ let e : b ≡ 124 = eqb-true b 124 h in let f : b ≡ 10 = eqb-true b 10 t in absurd (omega arith)
      | inr f ↦ rw f tt
    ]
bar_line_means_further_payload last b (c ∷ bs) h =
    elim (cases_Bool (ends_in_lf (c ∷ bs))) [
      | inl t ↦ rw t (c ∷ bs, ap (λ (z : ℕ). z ∷ c ∷ bs) (eqb-true b 124 h), t)
      | inr f ↦ rw f tt
    ]

-- what stands between `>` and LF
angle_line_has_text_before_lf : (b : ℕ) (bs body : List ℕ) → (b == 62) ≡ true → b ∷ bs ≡ body ++ 10 ∷ [] → (t : List ℕ) × (b ∷ bs ≡ 62 ∷ t ++ 10 ∷ [])
angle_line_has_text_before_lf b bs [] h e = let f : b ≡ 10 = cc in let g : b ≡ 62 = eqb-true b 62 h in absurd (omega arith)
angle_line_has_text_before_lf b bs (c ∷ cs) h e = let f : bs ≡ cs ++ 10 ∷ [] = cc in let g : b ≡ 62 = eqb-true b 62 h in (cs, cc)

-- a line that begins with `>` says so
angle_line_means_last_payload : (last b : ℕ) (bs : List ℕ) → (b == 62) ≡ true → DoesLineMeanParsed last (if ends_in_lf (b ∷ bs) then says.Last else says.Unended) (b ∷ bs)
angle_line_means_last_payload last b bs h =
    elim (cases_Bool (ends_in_lf (b ∷ bs))) [
      | inl t ↦ let p = ended_text_is_body_and_lf (b ∷ bs) t in rw t (angle_line_has_text_before_lf b bs p.0 h p.1)
      | inr f ↦ rw f tt
    ]

-- a line of words without LF is no command
words_without_lf_mean_no_command : (last : ℕ) (l : List ℕ) (ws : List (List ℕ)) (o : Option EditCommand) → DoesLineMeanParsed last (parsed_command_if_line_ends_in_lf last false ws o) l
words_without_lf_mean_no_command last l ws None = tt
words_without_lf_mean_no_command last l ws (Some command) = tt

-- so it is not, whatever its words
words_of_unended_line_mean_unended : (last : ℕ) (l : List ℕ) (ws : List (List ℕ)) → DoesLineMeanParsed last (parsed_words_of_line last false ws) l
words_of_unended_line_mean_unended last l [] = tt
words_of_unended_line_mean_unended last l (w ∷ ws) =
    elim (cases_Bool (bytes_eq w (codes "file"))) [
      | inl t ↦ rw t tt
      | inr f ↦ rw f (words_without_lf_mean_no_command last l ws (value_of_matching_row commands_by_word w))
    ]

-- a text by the words of an edit's command
words_of_command_give_command_line : (body : List ℕ) (edit : Edit) → words_between_spaces body ≡ command_words_of_edit edit → body ++ 10 ∷ [] ≡ command_line_of_edit edit
words_of_command_give_command_line body edit e = ap (λ (z : List ℕ). z ++ 10 ∷ []) (sym (words_between_spaces_join_to_text body) ∙ ap words_joined_by_spaces e)

-- what words say the line of them and LF says
words_meaning_parsed_give_line_meaning_it : (last : ℕ) (body : List ℕ) (said : ParsedScriptLine) → DoWordsMeanParsed last said (words_between_spaces body) → DoesLineMeanParsed last said (body ++ 10 ∷ [])
words_meaning_parsed_give_line_meaning_it last body (says.Begin begun) h = (words_of_command_give_command_line body (edit_completed_with_text begun []) h.0, h.1, h.2)
words_meaning_parsed_give_line_meaning_it last body (says.Whole edit) h = ((words_of_command_give_command_line body edit h.0.0, h.0.1, h.0.2), h.1)
words_meaning_parsed_give_line_meaning_it last body (says.Flawed f) h = tt
words_meaning_parsed_give_line_meaning_it last body (says.File (Some file)) h = (ap (λ (z : List ℕ). z ++ 10 ∷ []) (sym (words_between_spaces_join_to_text body) ∙ ap words_joined_by_spaces h.0), h.1)
words_meaning_parsed_give_line_meaning_it last body (says.File None) h = tt
words_meaning_parsed_give_line_meaning_it last body says.More h = absurd h
words_meaning_parsed_give_line_meaning_it last body says.Last h = absurd h
words_meaning_parsed_give_line_meaning_it last body says.Unended h = absurd h
words_meaning_parsed_give_line_meaning_it last body says.Other h = tt

-- a line of words with LF is the command or the `file` line that it says
ended_words_mean_what_they_parse_to : (last : ℕ) (body : List ℕ) → last + 1 ≤ 2 ^ 32 → DoesLineMeanParsed last (parsed_words_of_line last true (words_between_spaces body)) (body ++ 10 ∷ [])
ended_words_mean_what_they_parse_to last body set = words_meaning_parsed_give_line_meaning_it last body (parsed_words_of_line last true (words_between_spaces body)) (words_mean_what_they_parse_to last set (words_between_spaces body))

-- a line that begins with another byte says so
words_line_means_what_it_parses_to : (last : ℕ) (l : List ℕ) → last + 1 ≤ 2 ^ 32 → DoesLineMeanParsed last (parsed_words_of_line last (ends_in_lf l) (words_between_spaces (line_without_final_lf l))) l
words_line_means_what_it_parses_to last l set =
    elim (cases_Bool (ends_in_lf l)) [
      | inl t ↦
          let whole : l ≡ line_without_final_lf l ++ 10 ∷ [] = ended_text_is_restored_by_lf l t in
          let told = ended_words_mean_what_they_parse_to last (line_without_final_lf l) set in
          subst (λ (e : Bool). DoesLineMeanParsed last (parsed_words_of_line last e (words_between_spaces (line_without_final_lf l))) l) (sym t)
          (subst (λ (z : List ℕ). DoesLineMeanParsed last (parsed_words_of_line last true (words_between_spaces (line_without_final_lf l))) z) (sym whole) told)
      | inr f ↦ subst (λ (e : Bool). DoesLineMeanParsed last (parsed_words_of_line last e (words_between_spaces (line_without_final_lf l))) l) (sym f) (words_of_unended_line_mean_unended last l (words_between_spaces (line_without_final_lf l)))
    ]

-- each line says what it says
pub line_means_what_it_parses_to : (last : ℕ) (l : List ℕ) → last + 1 ≤ 2 ^ 32 → DoesLineMeanParsed last (parsed_script_line last l) l
line_means_what_it_parses_to last [] set = tt
line_means_what_it_parses_to last (b ∷ bs) set =
    elim (cases_Bool (b == 124)) [
      | inl t ↦ rw t (bar_line_means_further_payload last b bs t)
      | inr f ↦ rw f (elim (cases_Bool (b == 62)) [
        | inl t ↦ rw t (angle_line_means_last_payload last b bs t)
        | inr g ↦ rw g (words_line_means_what_it_parses_to last (b ∷ bs) set)
      ])
    ]

-- THE LINES OF A SPELLING

-- a line of words is the first
words_line_is_first_physical_line : (ws : List (List ℕ)) (rest : List ℕ) → AreSpellableWords ws
    → physical_lines ((words_joined_by_spaces ws ++ 10 ∷ []) ++ rest) ≡ (words_joined_by_spaces ws ++ 10 ∷ []) ∷ physical_lines rest
words_line_is_first_physical_line ws rest h = ended_line_is_first_physical_line (words_joined_by_spaces ws ++ 10 ∷ []) rest (text_without_lf_and_lf_are_line (words_joined_by_spaces ws) (joined_words_have_no_lf ws h)) (text_with_lf_added_ends_in_lf (words_joined_by_spaces ws))

-- the line of a command is the first
pub command_line_is_first_physical_line : (edit : Edit) (rest : List ℕ) → IsSpellable edit → physical_lines (command_line_of_edit edit ++ rest) ≡ command_line_of_edit edit ∷ physical_lines rest
command_line_is_first_physical_line edit rest h = words_line_is_first_physical_line (command_words_of_edit edit) rest (command_words_are_spellable edit h)

-- so is a `file` line
pub file_line_is_first_physical_line : (file : ℕ) (rest : List ℕ) → file + 1 ≤ 2 ^ 32 → physical_lines (script_line_setting_file_number file ++ rest) ≡ script_line_setting_file_number file ∷ physical_lines rest
file_line_is_first_physical_line file rest h = words_line_is_first_physical_line (codes "file" ∷ one_based_decimal file ∷ []) rest (file_line_words_are_spellable file h)

-- the line of a command says what its words say
command_line_parses_as_its_words : (last : ℕ) (edit : Edit) → parsed_script_line last (command_line_of_edit edit) ≡ parsed_words_of_line last (ends_in_lf (command_line_of_edit edit)) (words_between_spaces (line_without_final_lf (command_line_of_edit edit)))
command_line_parses_as_its_words last (Insert file at text) = refl
command_line_parses_as_its_words last (Delete file at) = refl
command_line_parses_as_its_words last (Move file from to) = refl
command_line_parses_as_its_words last (AddMember kind name at splice) = refl
command_line_parses_as_its_words last (DropMember kind name at) = refl
command_line_parses_as_its_words last (AddDef file line at splice) = refl
command_line_parses_as_its_words last (DropDef file line at) = refl
command_line_parses_as_its_words last (Rename kind name fresh) = refl
command_line_parses_as_its_words last (EndLine file) = refl
command_line_parses_as_its_words last (OpenEnd file) = refl
command_line_parses_as_its_words last Prune = refl

-- words whose line says this, with LF and without
joined_words_with_lf_parse_as_words : (last : ℕ) (ws : List (List ℕ)) → words_between_spaces (words_joined_by_spaces ws) ≡ ws
    → parsed_words_of_line last (ends_in_lf (words_joined_by_spaces ws ++ 10 ∷ [])) (words_between_spaces (line_without_final_lf (words_joined_by_spaces ws ++ 10 ∷ []))) ≡ parsed_words_of_line last true ws
joined_words_with_lf_parse_as_words last ws h =
    ap (λ (b : Bool). parsed_words_of_line last b (words_between_spaces (line_without_final_lf (words_joined_by_spaces ws ++ 10 ∷ [])))) (text_with_lf_added_ends_in_lf (words_joined_by_spaces ws))
    ∙ ap (λ (t : List ℕ). parsed_words_of_line last true (words_between_spaces t)) (lf_added_is_removed_again (words_joined_by_spaces ws))
    ∙ ap (parsed_words_of_line last true) h

-- the words of a command's line are its own
words_of_known_command_are_split_back : (ws : List (List ℕ)) → parsed_words_of_line 0 false ws ≡ says.Flawed flaw.Word → AreSpellableWords ws → words_between_spaces (words_joined_by_spaces ws) ≡ ws
words_of_known_command_are_split_back [] some h = cc
words_of_known_command_are_split_back (w ∷ ws) some h = joined_words_are_split_back w ws h

-- an alias's words are read as they are
alias_kind_and_name_are_read_back : (kind : Kind) (name more : List ℕ) → is_spellable_word name ≡ true → parsed_alias_and_word (word_for_alias_kind kind ∷ name ∷ more ∷ []) ≡ Ok (kind, name, more)
alias_kind_and_name_are_read_back kind name more h = ap (alias_of_kind_or_flaw name more) (alias_kind_word_is_read_back kind) ∙ rw h refl

-- so are those of a member, behind a command
alias_and_member_place_are_read_back : (say : Kind × List ℕ × List ℕ → ℕ → ParsedScriptLine) (kind : Kind) (name : List ℕ) (at : ℕ) → is_spellable_word name ≡ true → at + 1 ≤ 2 ^ 32
    → line_made_of_value_or_flawed (λ alias. line_made_of_value_or_flawed (say alias) (ok_or (place_of_word alias.2) flaw.Number)) (parsed_alias_and_word (word_for_alias_kind kind ∷ name ∷ one_based_decimal at ∷ [])) ≡ say (kind, name, one_based_decimal at) at
alias_and_member_place_are_read_back say kind name at is fits =
    ap (line_made_of_value_or_flawed (λ alias. line_made_of_value_or_flawed (say alias) (ok_or (place_of_word alias.2) flaw.Number))) (alias_kind_and_name_are_read_back kind name (one_based_decimal at) is)
    ∙ ap (λ (o : Option ℕ). line_made_of_value_or_flawed (say (kind, name, one_based_decimal at)) (ok_or o flaw.Number)) (one_based_decimal_is_read_back at fits)

-- and two places
two_places_are_read_back : (say : ℕ × ℕ → ParsedScriptLine) (m n : ℕ) → m + 1 ≤ 2 ^ 32 → n + 1 ≤ 2 ^ 32 → line_made_of_value_or_flawed say (parsed_two_places (one_based_decimal m ∷ one_based_decimal n ∷ [])) ≡ say (m, n)
two_places_are_read_back say m n fits more =
    ap (λ (o : Option ℕ). line_made_of_value_or_flawed say (both_places_or_flaw o (place_of_word (one_based_decimal n)))) (one_based_decimal_is_read_back m fits)
    ∙ ap (λ (o : Option ℕ). line_made_of_value_or_flawed say (both_places_or_flaw (Some m) o)) (one_based_decimal_is_read_back n more)

-- and one
one_place_is_read_back : (say : ℕ → ParsedScriptLine) (at : ℕ) → at + 1 ≤ 2 ^ 32 → line_made_of_value_or_flawed say (parsed_single_place (one_based_decimal at ∷ [])) ≡ say at
one_place_is_read_back say at fits = ap (λ (o : Option ℕ). line_made_of_value_or_flawed say (ok_or o flaw.Number)) (one_based_decimal_is_read_back at fits)

-- the words of a command say it where its file is set
command_words_of_edit_are_read_back : (last : ℕ) (edit : Edit) → IsSpellable edit → parsed_words_of_line (file_number_set_after_edit last edit) true (command_words_of_edit edit) ≡ parsed_line_of_edit edit
command_words_of_edit_are_read_back last (Insert file at text) h = one_place_is_read_back (λ n. says.Begin (draft.Insert file n)) at h.0.1
command_words_of_edit_are_read_back last (Delete file at) h = one_place_is_read_back (λ n. says.Whole (Delete file n)) at h.0.1
command_words_of_edit_are_read_back last (Move file from to) h = two_places_are_read_back (λ places. says.Whole (Move file places.0 places.1)) from to h.0.1 h.0.2
command_words_of_edit_are_read_back last (AddMember kind name at splice) h = alias_and_member_place_are_read_back (λ alias n. says.Begin (draft.AddMember alias.0 alias.1 n)) kind name at h.1 h.0
command_words_of_edit_are_read_back last (DropMember kind name at) h = alias_and_member_place_are_read_back (λ alias n. says.Whole (DropMember alias.0 alias.1 n)) kind name at h.1 h.0
command_words_of_edit_are_read_back last (AddDef file line at splice) h = two_places_are_read_back (λ places. says.Begin (draft.AddDef file places.0 places.1)) line at h.0.1 h.0.2
command_words_of_edit_are_read_back last (DropDef file line at) h = two_places_are_read_back (λ places. says.Whole (DropDef file places.0 places.1)) line at h.0.1 h.0.2
command_words_of_edit_are_read_back last (Rename kind name fresh) h =
    let p = and_parts (is_spellable_word name) (is_spellable_word fresh) h.1 in
    ap (line_made_of_value_or_flawed (λ alias. if is_spellable_word alias.2 then says.Whole (Rename alias.0 alias.1 alias.2) else says.Flawed flaw.Word)) (alias_kind_and_name_are_read_back kind name fresh p.0)
    ∙ ap (λ (b : Bool). if b then says.Whole (Rename kind name fresh) else says.Flawed flaw.Word) p.1
command_words_of_edit_are_read_back last (EndLine file) h = refl
command_words_of_edit_are_read_back last (OpenEnd file) h = refl
command_words_of_edit_are_read_back last Prune h = refl

-- the first of them is that of a command
first_command_word_is_known : (edit : Edit) → parsed_words_of_line 0 false (command_words_of_edit edit) ≡ says.Flawed flaw.Word
first_command_word_is_known (Insert file at text) = refl
first_command_word_is_known (Delete file at) = refl
first_command_word_is_known (Move file from to) = refl
first_command_word_is_known (AddMember kind name at splice) = refl
first_command_word_is_known (DropMember kind name at) = refl
first_command_word_is_known (AddDef file line at splice) = refl
first_command_word_is_known (DropDef file line at) = refl
first_command_word_is_known (Rename kind name fresh) = refl
first_command_word_is_known (EndLine file) = refl
first_command_word_is_known (OpenEnd file) = refl
first_command_word_is_known Prune = refl

-- so the words of a command's line are its own
command_words_of_edit_are_split_back : (edit : Edit) → IsSpellable edit → words_between_spaces (words_joined_by_spaces (command_words_of_edit edit)) ≡ command_words_of_edit edit
command_words_of_edit_are_split_back edit h = words_of_known_command_are_split_back (command_words_of_edit edit) (first_command_word_is_known edit) (command_words_are_spellable edit h)

-- the line of a command says it where its file is set
pub command_line_of_edit_is_read_back : (last : ℕ) (edit : Edit) → IsSpellable edit → parsed_script_line (file_number_set_after_edit last edit) (command_line_of_edit edit) ≡ parsed_line_of_edit edit
command_line_of_edit_is_read_back last edit h =
    command_line_parses_as_its_words (file_number_set_after_edit last edit) edit
    ∙ joined_words_with_lf_parse_as_words (file_number_set_after_edit last edit) (command_words_of_edit edit) (command_words_of_edit_are_split_back edit h)
    ∙ command_words_of_edit_are_read_back last edit h

-- a `file` line says the file that it sets
pub file_line_is_read_back : (last file : ℕ) → file + 1 ≤ 2 ^ 32 → parsed_script_line last (script_line_setting_file_number file) ≡ says.File (Some file)
file_line_is_read_back last file h =
    joined_words_with_lf_parse_as_words last (codes "file" ∷ one_based_decimal file ∷ []) (joined_words_are_split_back (codes "file") (one_based_decimal file ∷ []) (file_line_words_are_spellable file h))
    ∙ ap says.File (one_based_decimal_is_read_back file h)

-- the words of a command name lines if its edit does
command_words_name_file_if_edit_does : (edit : Edit) → are_words_of_file_scoped_command (command_words_of_edit edit) ≡ is_some (file_number_named_by_edit edit)
command_words_name_file_if_edit_does (Insert file at text) = refl
command_words_name_file_if_edit_does (Delete file at) = refl
command_words_name_file_if_edit_does (Move file from to) = refl
command_words_name_file_if_edit_does (AddMember kind name at splice) = refl
command_words_name_file_if_edit_does (DropMember kind name at) = refl
command_words_name_file_if_edit_does (AddDef file line at splice) = refl
command_words_name_file_if_edit_does (DropDef file line at) = refl
command_words_name_file_if_edit_does (Rename kind name fresh) = refl
command_words_name_file_if_edit_does (EndLine file) = refl
command_words_name_file_if_edit_does (OpenEnd file) = refl
command_words_name_file_if_edit_does Prune = refl

-- so does its line
pub command_line_names_file_if_edit_does : (edit : Edit) → IsSpellable edit → is_line_with_file_scoped_command (command_line_of_edit edit) ≡ is_some (file_number_named_by_edit edit)
command_line_names_file_if_edit_does edit h =
    ap (λ (t : List ℕ). are_words_of_file_scoped_command (words_between_spaces t)) (lf_added_is_removed_again (words_joined_by_spaces (command_words_of_edit edit)))
    ∙ ap are_words_of_file_scoped_command (command_words_of_edit_are_split_back edit h)
    ∙ command_words_name_file_if_edit_does edit

-- a `file` line does not
pub file_line_has_no_file_command : (file : ℕ) → file + 1 ≤ 2 ^ 32 → is_line_with_file_scoped_command (script_line_setting_file_number file) ≡ false
file_line_has_no_file_command file h =
    ap (λ (t : List ℕ). are_words_of_file_scoped_command (words_between_spaces t)) (lf_added_is_removed_again (words_joined_by_spaces (codes "file" ∷ one_based_decimal file ∷ [])))
    ∙ ap are_words_of_file_scoped_command (joined_words_are_split_back (codes "file") (one_based_decimal file ∷ []) (file_line_words_are_spellable file h))

-- so the edit of such a line, where this file is set, names lines of this file
pub file_command_line_names_set_file : (last : ℕ) (edit : Edit) (l : List ℕ) → IsCommandLineOfEdit last edit l → is_line_with_file_scoped_command l ≡ true → file_number_named_by_edit edit ≡ Some last
file_command_line_names_set_file last edit l told names = some_last (file_number_named_by_edit edit) (sym (ap is_line_with_file_scoped_command told.0 ∙ command_line_names_file_if_edit_does edit told.1) ∙ names) told.2
  where
    some_last : (file : Option ℕ) → is_some file ≡ true → unwrap_or file last ≡ last → file ≡ Some last
    some_last None some same = cc
    some_last (Some f) some same = ap Some same

-- a line of a text with its LF, behind `|`
pub bar_line_is_first_physical_line : (k rest : List ℕ) → IsPhysicalLine k → ends_in_lf k ≡ true → physical_lines (124 ∷ k ++ rest) ≡ (124 ∷ k) ∷ physical_lines rest
bar_line_is_first_physical_line [] rest is ended = absurd is
bar_line_is_first_physical_line (b ∷ bs) rest is ended = ended_line_is_first_physical_line (124 ∷ b ∷ bs) rest (refl, is) ended

-- it says so
pub bar_line_parses_as_further_payload : (last : ℕ) (k : List ℕ) → ends_in_lf k ≡ true → parsed_script_line last (124 ∷ k) ≡ says.More
bar_line_parses_as_further_payload last [] ended = absurd (false≢true ended)
bar_line_parses_as_further_payload last (b ∷ bs) ended = rw ended refl

-- the rest of a text, behind `>`
pub angle_line_is_first_physical_line : (k rest : List ℕ) → list_any (λ y. y == 10) k ≡ false → physical_lines ((62 ∷ k ++ 10 ∷ []) ++ rest) ≡ (62 ∷ k ++ 10 ∷ []) ∷ physical_lines rest
angle_line_is_first_physical_line k rest h = ended_line_is_first_physical_line (62 ∷ k ++ 10 ∷ []) rest (text_without_lf_and_lf_are_line (62 ∷ k) h) (text_with_lf_added_ends_in_lf (62 ∷ k))

-- it says so
pub angle_line_parses_as_last_payload : (last : ℕ) (k : List ℕ) → parsed_script_line last (62 ∷ k ++ 10 ∷ []) ≡ says.Last
angle_line_parses_as_last_payload last k = ap (λ (e : Bool). if e then says.Last else says.Unended) (text_with_lf_added_ends_in_lf (62 ∷ k))

-- and its text is that
pub text_of_angle_line_is_read_back : (k : List ℕ) → drop 1 (line_without_final_lf (62 ∷ k ++ 10 ∷ [])) ≡ k
text_of_angle_line_is_read_back k = ap (drop 1) (lf_added_is_removed_again (62 ∷ k))
