-- What the words of a line say.
use Rattle.std.proofs.Common.{◌≡◌, ℕ, ◌+◌, ◌≤◌, true, List, [], ◌∷◌, refl, sym, ap, inl, inr, ◌^◌, subst}
use Rattle.std.proofs.lemmas.Bool.{cases_Bool}
use Rattle.std.specs.Prelude.{codes, Option, Some, None, if◌then◌else◌}
use Rattle.std.specs.Option.{ok_or}
use Rattle.std.specs.Str.{bytes_eq}
use Rattle.std.proofs.lemmas.Slice.Eq.{bytes_eq-Decides}
use Rattle.sudoers_grammar.specs.Piece.{value_of_matching_row}
use Rattle.sudoers_grammar.specs.declared.node.Kind.{Kind}
use Rattle.sudoers_grammar.specs.declared.node.Kind.TheVariants as kind_of
use Rattle.sudoers_edit_script.specs.declared.edit_awaiting_text.EditAwaitingText.TheVariants as draft
use Rattle.sudoers_edit_script.specs.declared.edit.Edit.{Edit}
use Rattle.sudoers_edit_script.specs.declared.edit.Edit.TheVariants.{Delete, Move, DropMember, DropDef, Rename, EndLine, OpenEnd, Prune}
use Rattle.sudoers_edit_script.specs.declared.command_words.EditCommand.{EditCommand}
use Rattle.sudoers_edit_script.specs.declared.command_words.EditCommand.TheVariants as by
use Rattle.sudoers_edit_script.specs.declared.script_line.CommandFlaw.TheVariants as flaw
use Rattle.sudoers_edit_script.specs.declared.script_line.ParsedScriptLine.{ParsedScriptLine}
use Rattle.sudoers_edit_script.specs.declared.script_line.ParsedScriptLine.TheVariants as says
use Rattle.sudoers_edit_script.specs.Script.{one_based_decimal, word_for_alias_kind, command_words_of_edit, payload_lines_of_edit, file_number_set_after_edit, is_spellable_word, IsSpellable}
use Rattle.sudoers_edit_script.specs.ScriptReading.{place_of_word, alias_kinds_by_word, commands_by_word, parsed_single_place, both_places_or_flaw, parsed_two_places, alias_of_kind_or_flaw, parsed_alias_and_word, line_made_of_value_or_flawed, parsed_command_without_arguments, parsed_command_arguments, parsed_command_if_line_ends_in_lf, parsed_file_line, parsed_words_of_line, edit_completed_with_text}
use Rattle.sudoers_edit_script.proofs.NumberLemmas.{word_of_place_is_its_decimal}

-- what is looked up stands in a row
abbrev HaveRowsProperty : {X : Type 0} → (List ℕ → X → Type 0) → List (List ℕ × X) → Type 0
HaveRowsProperty P [] = Unit {0}
HaveRowsProperty P (row ∷ rows) = P row.0 row.1 × HaveRowsProperty P rows

-- so it has what each row has
value_of_matching_row_has_row_property : {X : Type 0} (P : List ℕ → X → Type 0) (rows : List (List ℕ × X)) (w : List ℕ) (x : X) → HaveRowsProperty P rows → value_of_matching_row rows w ≡ Some x → P w x
value_of_matching_row_has_row_property P [] w x h e = cc
value_of_matching_row_has_row_property P (row ∷ rows) w x h e =
    elim (cases_Bool (bytes_eq w row.0)) [
      | inl t ↦
          let same : w ≡ row.0 = (bytes_eq-Decides w row.0).0 t in
          let told : Some row.1 ≡ Some x = rw t at e in
          let this : row.1 ≡ x = cc in
          subst (λ (z : List ℕ). P z x) (sym same) (subst (λ z. P row.0 z) this h.0)
      | inr f ↦ value_of_matching_row_has_row_property P rows w x h.1 (rw f at e)
    ]

-- the word of a kind is read as it
pub alias_kind_word_is_read_back : (kind : Kind) → value_of_matching_row alias_kinds_by_word (word_for_alias_kind kind) ≡ Some kind
alias_kind_word_is_read_back kind_of.User = refl
alias_kind_word_is_read_back kind_of.Runas = refl
alias_kind_word_is_read_back kind_of.Host = refl
alias_kind_word_is_read_back kind_of.Cmnd = refl

-- and is the only one
word_of_alias_kind_is_unique : (w : List ℕ) (kind : Kind) → value_of_matching_row alias_kinds_by_word w ≡ Some kind → w ≡ word_for_alias_kind kind
word_of_alias_kind_is_unique w kind e = value_of_matching_row_has_row_property (λ v k. v ≡ word_for_alias_kind k) alias_kinds_by_word w kind (refl, (refl, (refl, (refl, tt)))) e

-- the word of a command
abbrev word_of_edit_command : EditCommand → List ℕ
word_of_edit_command by.Insert = codes "insert"
word_of_edit_command by.Delete = codes "delete"
word_of_edit_command by.Move = codes "move"
word_of_edit_command by.AddMember = codes "add"
word_of_edit_command by.DropMember = codes "drop"
word_of_edit_command by.AddDef = codes "adddef"
word_of_edit_command by.DropDef = codes "dropdef"
word_of_edit_command by.Rename = codes "rename"
word_of_edit_command by.EndLine = codes "endline"
word_of_edit_command by.OpenEnd = codes "openend"
word_of_edit_command by.Prune = codes "prune"

-- it is the only one
word_of_command_is_unique : (w : List ℕ) (command : EditCommand) → value_of_matching_row commands_by_word w ≡ Some command → w ≡ word_of_edit_command command
word_of_command_is_unique w command e =
    value_of_matching_row_has_row_property (λ v c. v ≡ word_of_edit_command c) commands_by_word w command (refl, (refl, (refl, (refl, (refl, (refl, (refl, (refl, (refl, (refl, (refl, tt))))))))))) e

-- The words are those of the command of this edit, which needs no `file` line where this file is set.
abbrev AreCommandWordsOfEdit : ℕ → Edit → List (List ℕ) → Type 0
AreCommandWordsOfEdit last edit ws = (ws ≡ command_words_of_edit edit) × IsSpellable edit × (file_number_set_after_edit last edit ≡ last)

-- words that say this where this file is set
abbrev pub DoWordsMeanParsed : ℕ → ParsedScriptLine → List (List ℕ) → Type 0
DoWordsMeanParsed last (says.Begin begun) ws = AreCommandWordsOfEdit last (edit_completed_with_text begun []) ws
DoWordsMeanParsed last (says.Whole edit) ws = AreCommandWordsOfEdit last edit ws × (payload_lines_of_edit edit ≡ [])
DoWordsMeanParsed last (says.Flawed f) ws = Unit {0}
DoWordsMeanParsed last (says.File (Some file)) ws = (ws ≡ codes "file" ∷ one_based_decimal file ∷ []) × (file + 1 ≤ 2 ^ 32)
DoWordsMeanParsed last (says.File None) ws = Unit {0}
DoWordsMeanParsed last says.More ws = ⊥
DoWordsMeanParsed last says.Last ws = ⊥
DoWordsMeanParsed last says.Unended ws = ⊥
DoWordsMeanParsed last says.Other ws = Unit {0}

-- a place behind a command makes it say so
word_of_place_gives_meaning : (last : ℕ) (say : ℕ → ParsedScriptLine) (w : List ℕ) (o : Option ℕ) (ws : List (List ℕ)) → place_of_word w ≡ o
    → ((at : ℕ) → w ≡ one_based_decimal at → at + 1 ≤ 2 ^ 32 → DoWordsMeanParsed last (say at) ws) → DoWordsMeanParsed last (line_made_of_value_or_flawed say (ok_or o flaw.Number)) ws
word_of_place_gives_meaning last say w (Some at) ws e h = let p = word_of_place_is_its_decimal w at e in h at p.0 p.1
word_of_place_gives_meaning last say w None ws e h = tt

-- one place behind it does
command_with_one_place_has_meaning : (last : ℕ) (say : ℕ → ParsedScriptLine) (first : List ℕ) (ws : List (List ℕ)) → ((at : ℕ) → at + 1 ≤ 2 ^ 32 → DoWordsMeanParsed last (say at) (first ∷ one_based_decimal at ∷ []))
    → DoWordsMeanParsed last (line_made_of_value_or_flawed say (parsed_single_place ws)) (first ∷ ws)
command_with_one_place_has_meaning last say first [] h = tt
command_with_one_place_has_meaning last say first (w ∷ []) h =
    word_of_place_gives_meaning last say w (place_of_word w) (first ∷ w ∷ []) refl (λ at e fits. subst (λ (z : List ℕ). DoWordsMeanParsed last (say at) (first ∷ z ∷ [])) (sym e) (h at fits))
command_with_one_place_has_meaning last say first (w ∷ v ∷ ws) h = tt

-- two places
two_place_words_give_meaning : (last : ℕ) (say : ℕ × ℕ → ParsedScriptLine) (v w : List ℕ) (o p : Option ℕ) (ws : List (List ℕ)) → place_of_word v ≡ o → place_of_word w ≡ p
    → ((m n : ℕ) → v ≡ one_based_decimal m → w ≡ one_based_decimal n → m + 1 ≤ 2 ^ 32 → n + 1 ≤ 2 ^ 32 → DoWordsMeanParsed last (say (m, n)) ws) → DoWordsMeanParsed last (line_made_of_value_or_flawed say (both_places_or_flaw o p)) ws
two_place_words_give_meaning last say v w (Some m) (Some n) ws e f h = let p = word_of_place_is_its_decimal v m e in let q = word_of_place_is_its_decimal w n f in h m n p.0 q.0 p.1 q.1
two_place_words_give_meaning last say v w (Some m) None ws e f h = tt
two_place_words_give_meaning last say v w None p ws e f h = tt

-- two places behind a command make it say so
command_with_two_places_has_meaning : (last : ℕ) (say : ℕ × ℕ → ParsedScriptLine) (first : List ℕ) (ws : List (List ℕ))
    → ((m n : ℕ) → m + 1 ≤ 2 ^ 32 → n + 1 ≤ 2 ^ 32 → DoWordsMeanParsed last (say (m, n)) (first ∷ one_based_decimal m ∷ one_based_decimal n ∷ []))
    → DoWordsMeanParsed last (line_made_of_value_or_flawed say (parsed_two_places ws)) (first ∷ ws)
command_with_two_places_has_meaning last say first [] h = tt
command_with_two_places_has_meaning last say first (v ∷ []) h = tt
command_with_two_places_has_meaning last say first (v ∷ w ∷ []) h =
    two_place_words_give_meaning last say v w (place_of_word v) (place_of_word w) (first ∷ v ∷ w ∷ []) refl refl (λ m n e f fits more.
    subst (λ (z : List ℕ). DoWordsMeanParsed last (say (m, n)) (first ∷ z ∷ w ∷ [])) (sym e) (subst (λ (z : List ℕ). DoWordsMeanParsed last (say (m, n)) (first ∷ one_based_decimal m ∷ z ∷ [])) (sym f) (h m n fits more)))
command_with_two_places_has_meaning last say first (v ∷ w ∷ u ∷ ws) h = tt

-- a kind and a name
word_of_alias_kind_gives_meaning : (last : ℕ) (say : Kind × List ℕ × List ℕ → ParsedScriptLine) (w name more : List ℕ) (o : Option Kind) (ws : List (List ℕ)) → value_of_matching_row alias_kinds_by_word w ≡ o
    → ((kind : Kind) → w ≡ word_for_alias_kind kind → is_spellable_word name ≡ true → DoWordsMeanParsed last (say (kind, name, more)) ws) → DoWordsMeanParsed last (line_made_of_value_or_flawed say (alias_of_kind_or_flaw name more o)) ws
word_of_alias_kind_gives_meaning last say w name more (Some kind) ws e h =
    elim (cases_Bool (is_spellable_word name)) [
      | inl t ↦ rw t (h kind (word_of_alias_kind_is_unique w kind e) t)
      | inr f ↦ rw f tt
    ]
word_of_alias_kind_gives_meaning last say w name more None ws e h = tt

-- a kind, a name and one word more behind a command make it say so
command_with_alias_has_meaning : (last : ℕ) (say : Kind × List ℕ × List ℕ → ParsedScriptLine) (first : List ℕ) (ws : List (List ℕ))
    → ((kind : Kind) (name more : List ℕ) → is_spellable_word name ≡ true → DoWordsMeanParsed last (say (kind, name, more)) (first ∷ word_for_alias_kind kind ∷ name ∷ more ∷ []))
    → DoWordsMeanParsed last (line_made_of_value_or_flawed say (parsed_alias_and_word ws)) (first ∷ ws)
command_with_alias_has_meaning last say first [] h = tt
command_with_alias_has_meaning last say first (w ∷ []) h = tt
command_with_alias_has_meaning last say first (w ∷ name ∷ []) h = tt
command_with_alias_has_meaning last say first (w ∷ name ∷ more ∷ []) h =
    word_of_alias_kind_gives_meaning last say w name more (value_of_matching_row alias_kinds_by_word w) (first ∷ w ∷ name ∷ more ∷ []) refl (λ kind e is.
    subst (λ (z : List ℕ). DoWordsMeanParsed last (say (kind, name, more)) (first ∷ z ∷ name ∷ more ∷ [])) (sym e) (h kind name more is))
command_with_alias_has_meaning last say first (w ∷ name ∷ more ∷ u ∷ ws) h = tt

-- with a place for that word
command_with_alias_and_place_has_meaning : (last : ℕ) (say : Kind × List ℕ × List ℕ → ℕ → ParsedScriptLine) (first : List ℕ) (ws : List (List ℕ))
    → ((kind : Kind) (name : List ℕ) (more : List ℕ) (at : ℕ) → is_spellable_word name ≡ true → at + 1 ≤ 2 ^ 32 → DoWordsMeanParsed last (say (kind, name, more) at) (first ∷ word_for_alias_kind kind ∷ name ∷ one_based_decimal at ∷ []))
    → DoWordsMeanParsed last (line_made_of_value_or_flawed (λ alias. line_made_of_value_or_flawed (say alias) (ok_or (place_of_word alias.2) flaw.Number)) (parsed_alias_and_word ws)) (first ∷ ws)
command_with_alias_and_place_has_meaning last say first ws h =
    command_with_alias_has_meaning last (λ alias. line_made_of_value_or_flawed (say alias) (ok_or (place_of_word alias.2) flaw.Number)) first ws (λ kind name more is.
    word_of_place_gives_meaning last (say (kind, name, more)) more (place_of_word more) (first ∷ word_for_alias_kind kind ∷ name ∷ more ∷ []) refl (λ at e fits.
    subst (λ (z : List ℕ). DoWordsMeanParsed last (say (kind, name, more) at) (first ∷ word_for_alias_kind kind ∷ name ∷ z ∷ [])) (sym e) (h kind name more at is fits)))

-- no word more behind a command makes it say so
command_of_one_word_has_meaning : (last : ℕ) (edit : Edit) (first : List ℕ) (ws : List (List ℕ)) → AreCommandWordsOfEdit last edit (first ∷ []) → payload_lines_of_edit edit ≡ []
    → DoWordsMeanParsed last (parsed_command_without_arguments edit ws) (first ∷ ws)
command_of_one_word_has_meaning last edit first [] h k = (h, k)
command_of_one_word_has_meaning last edit first (w ∷ ws) h k = tt

-- a command with such words is that of an edit in the file that is set
arguments_of_command_have_meaning : (last : ℕ) → last + 1 ≤ 2 ^ 32 → (command : EditCommand) (ws : List (List ℕ)) → DoWordsMeanParsed last (parsed_command_arguments last command ws) (word_of_edit_command command ∷ ws)
arguments_of_command_have_meaning last set by.Insert ws = command_with_one_place_has_meaning last (λ at. says.Begin (draft.Insert last at)) (codes "insert") ws (λ at fits. (refl, ((set, fits), refl), refl))
arguments_of_command_have_meaning last set by.Delete ws = command_with_one_place_has_meaning last (λ at. says.Whole (Delete last at)) (codes "delete") ws (λ at fits. ((refl, ((set, fits), refl), refl), refl))
arguments_of_command_have_meaning last set by.Move ws =
    command_with_two_places_has_meaning last (λ places. says.Whole (Move last places.0 places.1)) (codes "move") ws (λ m n fits more. ((refl, ((set, fits, more), refl), refl), refl))
arguments_of_command_have_meaning last set by.AddMember ws =
    command_with_alias_and_place_has_meaning last (λ alias at. says.Begin (draft.AddMember alias.0 alias.1 at)) (codes "add") ws (λ kind name more at is fits. (refl, (fits, is), refl))
arguments_of_command_have_meaning last set by.DropMember ws =
    command_with_alias_and_place_has_meaning last (λ alias at. says.Whole (DropMember alias.0 alias.1 at)) (codes "drop") ws (λ kind name more at is fits. ((refl, (fits, is), refl), refl))
arguments_of_command_have_meaning last set by.AddDef ws =
    command_with_two_places_has_meaning last (λ places. says.Begin (draft.AddDef last places.0 places.1)) (codes "adddef") ws (λ m n fits more. (refl, ((set, fits, more), refl), refl))
arguments_of_command_have_meaning last set by.DropDef ws =
    command_with_two_places_has_meaning last (λ places. says.Whole (DropDef last places.0 places.1)) (codes "dropdef") ws (λ m n fits more. ((refl, ((set, fits, more), refl), refl), refl))
arguments_of_command_have_meaning last set by.Rename ws =
    command_with_alias_has_meaning last (λ alias. if is_spellable_word alias.2 then says.Whole (Rename alias.0 alias.1 alias.2) else says.Flawed flaw.Word) (codes "rename") ws
    (λ kind name fresh is. elim (cases_Bool (is_spellable_word fresh)) [
      | inl t ↦ rw t ((refl, (tt, rw (is, t) refl), refl), refl)
      | inr f ↦ rw f tt
    ])
arguments_of_command_have_meaning last set by.EndLine ws = command_of_one_word_has_meaning last (EndLine last) (codes "endline") ws (refl, (set, refl), refl) refl
arguments_of_command_have_meaning last set by.OpenEnd ws = command_of_one_word_has_meaning last (OpenEnd last) (codes "openend") ws (refl, (set, refl), refl) refl
arguments_of_command_have_meaning last set by.Prune ws = command_of_one_word_has_meaning last Prune (codes "prune") ws (refl, (tt, refl), refl) refl

-- so are the words of an ended line, where their first is that of a command
ended_command_words_have_meaning : (last : ℕ) → last + 1 ≤ 2 ^ 32 → (w : List ℕ) (ws : List (List ℕ)) (o : Option EditCommand) → value_of_matching_row commands_by_word w ≡ o
    → DoWordsMeanParsed last (parsed_command_if_line_ends_in_lf last true ws o) (w ∷ ws)
ended_command_words_have_meaning last set w ws None e = tt
ended_command_words_have_meaning last set w ws (Some command) e =
    subst (λ (z : List ℕ). DoWordsMeanParsed last (parsed_command_arguments last command ws) (z ∷ ws)) (sym (word_of_command_is_unique w command e)) (arguments_of_command_have_meaning last set command ws)

-- a number behind `file` is that of the file that the line sets
file_number_word_has_meaning : (last : ℕ) (w : List ℕ) (o : Option ℕ) → place_of_word w ≡ o → DoWordsMeanParsed last (says.File o) (codes "file" ∷ w ∷ [])
file_number_word_has_meaning last w (Some file) e = let p = word_of_place_is_its_decimal w file e in (ap (λ (z : List ℕ). codes "file" ∷ z ∷ []) p.0, p.1)
file_number_word_has_meaning last w None e = tt

-- the words of a `file` line
file_line_words_have_meaning : (last : ℕ) (ws : List (List ℕ)) → DoWordsMeanParsed last (parsed_file_line true ws) (codes "file" ∷ ws)
file_line_words_have_meaning last [] = tt
file_line_words_have_meaning last (w ∷ []) = file_number_word_has_meaning last w (place_of_word w) refl
file_line_words_have_meaning last (w ∷ v ∷ ws) = tt

-- words say what they say
pub words_mean_what_they_parse_to : (last : ℕ) → last + 1 ≤ 2 ^ 32 → (ws : List (List ℕ)) → DoWordsMeanParsed last (parsed_words_of_line last true ws) ws
words_mean_what_they_parse_to last set [] = tt
words_mean_what_they_parse_to last set (w ∷ ws) =
    elim (cases_Bool (bytes_eq w (codes "file"))) [
      | inl t ↦ rw t (subst (λ (z : List ℕ). DoWordsMeanParsed last (parsed_file_line true ws) (z ∷ ws)) (sym ((bytes_eq-Decides w (codes "file")).0 t)) (file_line_words_have_meaning last ws))
      | inr f ↦ rw f (ended_command_words_have_meaning last set w ws (value_of_matching_row commands_by_word w) refl)
    ]
