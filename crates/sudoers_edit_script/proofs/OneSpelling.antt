-- Two lists of edits have two spellings, however many they are.
use Rattle.std.proofs.Common.{◌≡◌, ℕ, ◌+◌, ◌≤◌, ◌^◌, true, false, List, [], ◌∷◌, ◌++◌, ◌==◌, Some, refl, sym, ap, subst, ◌∙◌, arith, inl, inr, append_assoc}
use Rattle.std.specs.List.{flat_map, list_any}
use Rattle.std.proofs.lemmas.Bool.{false≢true, cases_Bool}
use Rattle.sudoers_text.specs.Ended.{ends_in_lf}
use Rattle.sudoers_edit_script.specs.Physical.{physical_lines}
use Rattle.sudoers_edit_script.specs.Script.{payload_of_text, payload_line_of_text_line, payload_lines_of_edit, spelling_of_edit, file_number_named_by_edit, script_line_setting_file_number, file_line_before_edit, file_number_set_after_edit, spelling_of_edits_with_file_set, spelling_of_edits, IsSpellable, AreSpellable}
use Rattle.sudoers_edit_script.specs.ScriptReading.{edit_completed_with_text, parsed_script_line, line_without_final_lf}
use Rattle.sudoers_edit_script.specs.declared.edit.Edit.{Edit}
use Rattle.sudoers_edit_script.specs.declared.edit.Edit.TheVariants.{Insert, Delete, Move, AddMember, DropMember, AddDef, DropDef, Rename, EndLine, OpenEnd, Prune}
use Rattle.sudoers_edit_script.specs.declared.script_line.ParsedScriptLine.{ParsedScriptLine}
use Rattle.sudoers_edit_script.specs.declared.script_line.ParsedScriptLine.TheVariants as says
use Rattle.sudoers_edit_script.proofs.EndLemmas.{text_with_lf_added_ends_in_lf}
use Rattle.sudoers_edit_script.proofs.FileLemmas.{edit_needs_file_line_or_none, file_set_after_edit_fits, file_line_sets_file_of_its_edit, edit_spelling_begins_with_command_line}
use Rattle.sudoers_edit_script.proofs.PhysicalLemmas.{IsPhysicalLine, ArePhysicalLines, text_of_joined_lines, physical_lines_are_lines_of_text, ended_line_is_first_physical_line, text_without_lf_and_lf_are_line, unended_line_has_no_lf, lf_added_is_removed_again}
use Rattle.sudoers_edit_script.proofs.LineLemmas.{command_line_of_edit, parsed_line_of_edit, property_of_texted_and_whole_edits_holds, edit_with_text_has_its_command, command_line_of_edit_is_read_back, file_line_is_read_back, file_line_is_first_physical_line}
use Rattle.sudoers_edit_script.proofs.SpellingLemmas.{spelling_begins_with_nonpayload_line, file_set_by_file_line_fits}

-- the lines of a text determine it
texts_of_same_physical_lines_are_equal : (a b : List ℕ) → physical_lines a ≡ physical_lines b → a ≡ b
texts_of_same_physical_lines_are_equal a b e = sym (physical_lines_are_lines_of_text a).2 ∙ ap text_of_joined_lines e ∙ (physical_lines_are_lines_of_text b).2

-- two texts that begin with a line agree in it and behind it
equal_texts_have_equal_lines : (k l a b : List ℕ) (ks ls : List (List ℕ)) → physical_lines a ≡ k ∷ ks → physical_lines b ≡ l ∷ ls → a ≡ b → (k ≡ l) × (ks ≡ ls)
equal_texts_have_equal_lines k l a b ks ls e f h =
    let g : k ∷ ks ≡ l ∷ ls = sym e ∙ ap physical_lines h ∙ f in (cc, cc)

-- PARTS OF A TEXT

-- A line; or an empty one.
abbrev pub IsLineOfPayloadText : List ℕ → Type 0
IsLineOfPayloadText k = (ends_in_lf k ≡ true → IsPhysicalLine k) × (ends_in_lf k ≡ false → list_any (λ y. y == 10) k ≡ false)

-- Each is a line, or empty.
abbrev pub AreLinesOfPayloadText : List (List ℕ) → Type 0
AreLinesOfPayloadText [] = Unit {0}
AreLinesOfPayloadText (k ∷ ks) = IsLineOfPayloadText k × AreLinesOfPayloadText ks

-- lines are such parts
physical_lines_are_payload_text_lines : (ks : List (List ℕ)) → ArePhysicalLines ks → AreLinesOfPayloadText ks
physical_lines_are_payload_text_lines [] each = tt
physical_lines_are_payload_text_lines (k ∷ ks) each = ((λ _. each.0, λ h. unended_line_has_no_lf k each.0 h), physical_lines_are_payload_text_lines ks each.1)

-- the lines of a text, or one empty line
abbrev pub payload_text_lines : List ℕ → List (List ℕ)
payload_text_lines [] = [] ∷ []
payload_text_lines (b ∷ bs) = physical_lines (b ∷ bs)

-- what the parts of a text are
pub payload_text_lines_join_and_give_payload : (text : List ℕ) → AreLinesOfPayloadText (payload_text_lines text) × (payload_of_text text ≡ flat_map payload_line_of_text_line (payload_text_lines text)) × (text_of_joined_lines (payload_text_lines text) ≡ text)
payload_text_lines_join_and_give_payload [] = (((λ h. absurd (false≢true h), λ _. refl), tt), refl, refl)
payload_text_lines_join_and_give_payload (b ∷ bs) = let p = physical_lines_are_lines_of_text (b ∷ bs) in (physical_lines_are_payload_text_lines (physical_lines (b ∷ bs)) p.0, refl, p.2)

-- `|` before a line with its LF makes such a line
bar_before_ended_line_is_ended_line : (k : List ℕ) → IsPhysicalLine k → ends_in_lf k ≡ true → IsPhysicalLine (124 ∷ k) × (ends_in_lf (124 ∷ k) ≡ true)
bar_before_ended_line_is_ended_line [] is h = absurd is
bar_before_ended_line_is_ended_line (b ∷ bs) is h = ((refl, is), h)

-- a line of a payload is a line that ends in LF
pub payload_line_is_ended_line : (k : List ℕ) → IsLineOfPayloadText k → IsPhysicalLine (payload_line_of_text_line k) × (ends_in_lf (payload_line_of_text_line k) ≡ true)
payload_line_is_ended_line k part =
    elim (cases_Bool (ends_in_lf k)) [
      | inl t ↦ subst (λ (z : List ℕ). IsPhysicalLine z × (ends_in_lf z ≡ true)) (let e : 124 ∷ k ≡ payload_line_of_text_line k = sym (rw t refl) in e) (bar_before_ended_line_is_ended_line k (part.0 t) t)
      | inr f ↦ subst (λ (z : List ℕ). IsPhysicalLine z × (ends_in_lf z ≡ true)) (let e : 62 ∷ k ++ 10 ∷ [] ≡ payload_line_of_text_line k = sym (rw f refl) in e) (text_without_lf_and_lf_are_line (62 ∷ k) (part.1 f), text_with_lf_added_ends_in_lf (62 ∷ k))
    ]

-- LF behind two texts tells them apart as before
lf_added_to_texts_is_injective : (k l : List ℕ) → k ++ 10 ∷ [] ≡ l ++ 10 ∷ [] → k ≡ l
lf_added_to_texts_is_injective k l e = sym (lf_added_is_removed_again k) ∙ ap line_without_final_lf e ∙ lf_added_is_removed_again l

-- two parts have two lines in a payload
equal_payload_lines_have_equal_text_lines : (k l : List ℕ) → payload_line_of_text_line k ≡ payload_line_of_text_line l → k ≡ l
equal_payload_lines_have_equal_text_lines k l e =
    elim (cases_Bool (ends_in_lf k)) [
      | inl t ↦ elim (cases_Bool (ends_in_lf l)) [
        | inl u ↦ let f : 124 ∷ k ≡ 124 ∷ l = sym (rw t refl) ∙ e ∙ rw u refl in cc
        | inr u ↦ let f : 124 ∷ k ≡ 62 ∷ l ++ 10 ∷ [] = sym (rw t refl) ∙ e ∙ rw u refl in cc
      ]
      | inr t ↦ elim (cases_Bool (ends_in_lf l)) [
        | inl u ↦ let f : 62 ∷ k ++ 10 ∷ [] ≡ 124 ∷ l = sym (rw t refl) ∙ e ∙ rw u refl in cc
        | inr u ↦
            let f : 62 ∷ k ++ 10 ∷ [] ≡ 62 ∷ l ++ 10 ∷ [] = sym (rw t refl) ∙ e ∙ rw u refl in
            let g : k ++ 10 ∷ [] ≡ l ++ 10 ∷ [] = cc in
            lf_added_to_texts_is_injective k l g
      ]
    ]

-- a text that begins with no line of a payload
abbrev BeginsWithoutPayloadLine : List ℕ → Type 0
BeginsWithoutPayloadLine [] = Unit {0}
BeginsWithoutPayloadLine (b ∷ bs) = (b ≡ 124 → ⊥) × (b ≡ 62 → ⊥)

-- a line of a payload does not begin such a text
payload_line_does_not_begin_without_payload : (k more : List ℕ) → BeginsWithoutPayloadLine (payload_line_of_text_line k ++ more) → ⊥
payload_line_does_not_begin_without_payload k more h =
    elim (cases_Bool (ends_in_lf k)) [
      | inl t ↦ let g : BeginsWithoutPayloadLine (124 ∷ k ++ more) = rw t at h in g.0 refl
      | inr f ↦ let g : BeginsWithoutPayloadLine ((62 ∷ k ++ 10 ∷ []) ++ more) = rw f at h in g.1 refl
    ]

-- a command begins with no line of a payload
edit_spelling_begins_without_payload : (edit : Edit) (rest : List ℕ) → BeginsWithoutPayloadLine (spelling_of_edit edit ++ rest)
edit_spelling_begins_without_payload (Insert file at text) rest = (λ e. omega (arith, e), λ e. omega (arith, e))
edit_spelling_begins_without_payload (Delete file at) rest = (λ e. omega (arith, e), λ e. omega (arith, e))
edit_spelling_begins_without_payload (Move file from to) rest = (λ e. omega (arith, e), λ e. omega (arith, e))
edit_spelling_begins_without_payload (AddMember kind name at splice) rest = (λ e. omega (arith, e), λ e. omega (arith, e))
edit_spelling_begins_without_payload (DropMember kind name at) rest = (λ e. omega (arith, e), λ e. omega (arith, e))
edit_spelling_begins_without_payload (AddDef file line at splice) rest = (λ e. omega (arith, e), λ e. omega (arith, e))
edit_spelling_begins_without_payload (DropDef file line at) rest = (λ e. omega (arith, e), λ e. omega (arith, e))
edit_spelling_begins_without_payload (Rename kind name fresh) rest = (λ e. omega (arith, e), λ e. omega (arith, e))
edit_spelling_begins_without_payload (EndLine file) rest = (λ e. omega (arith, e), λ e. omega (arith, e))
edit_spelling_begins_without_payload (OpenEnd file) rest = (λ e. omega (arith, e), λ e. omega (arith, e))
edit_spelling_begins_without_payload Prune rest = (λ e. omega (arith, e), λ e. omega (arith, e))

-- nor does a spelling
spelling_begins_without_payload_line : (last : ℕ) (edits : List Edit) → BeginsWithoutPayloadLine (spelling_of_edits_with_file_set last edits)
spelling_begins_without_payload_line last [] = tt
spelling_begins_without_payload_line last (edit ∷ edits) =
    let rest : List ℕ = spelling_of_edits_with_file_set (file_number_set_after_edit last edit) edits in
    elim (edit_needs_file_line_or_none last (file_number_named_by_edit edit)) [
      | inl u ↦ subst (λ (z : List ℕ). BeginsWithoutPayloadLine (z ++ (spelling_of_edit edit ++ rest))) (sym u.none) (edit_spelling_begins_without_payload edit rest)
      | inr s ↦ subst (λ (z : List ℕ). BeginsWithoutPayloadLine (z ++ (spelling_of_edit edit ++ rest))) (sym s.line) (λ e. omega (arith, e), λ e. omega (arith, e))
    ]

-- PAYLOADS

-- the first line of a payload, before anything
first_payload_line_is_first_physical_line : (k : List ℕ) (ks : List (List ℕ)) (rest : List ℕ) → IsLineOfPayloadText k → physical_lines (flat_map payload_line_of_text_line (k ∷ ks) ++ rest) ≡ payload_line_of_text_line k ∷ physical_lines (flat_map payload_line_of_text_line ks ++ rest)
first_payload_line_is_first_physical_line k ks rest part =
    let p = payload_line_is_ended_line k part in
    ap physical_lines (append_assoc (payload_line_of_text_line k) (flat_map payload_line_of_text_line ks) rest)
    ∙ ended_line_is_first_physical_line (payload_line_of_text_line k) (flat_map payload_line_of_text_line ks ++ rest) p.0 p.1

-- two payloads before spellings that are one text have the same parts, and the same behind them
equal_payloads_have_equal_text_lines : (ks ls : List (List ℕ)) (rest other : List ℕ) → AreLinesOfPayloadText ks → AreLinesOfPayloadText ls → BeginsWithoutPayloadLine rest → BeginsWithoutPayloadLine other → flat_map payload_line_of_text_line ks ++ rest ≡ flat_map payload_line_of_text_line ls ++ other → (ks ≡ ls) × (rest ≡ other)
equal_payloads_have_equal_text_lines [] [] rest other p q r s e = (refl, e)
equal_payloads_have_equal_text_lines [] (l ∷ ls) rest other p q r s e =
    let f : rest ≡ payload_line_of_text_line l ++ (flat_map payload_line_of_text_line ls ++ other) = e ∙ append_assoc (payload_line_of_text_line l) (flat_map payload_line_of_text_line ls) other in
    absurd (payload_line_does_not_begin_without_payload l (flat_map payload_line_of_text_line ls ++ other) (subst BeginsWithoutPayloadLine f r))
equal_payloads_have_equal_text_lines (k ∷ ks) [] rest other p q r s e =
    let f : other ≡ payload_line_of_text_line k ++ (flat_map payload_line_of_text_line ks ++ rest) = sym e ∙ append_assoc (payload_line_of_text_line k) (flat_map payload_line_of_text_line ks) rest in
    absurd (payload_line_does_not_begin_without_payload k (flat_map payload_line_of_text_line ks ++ rest) (subst BeginsWithoutPayloadLine f s))
equal_payloads_have_equal_text_lines (k ∷ ks) (l ∷ ls) rest other p q r s e =
    let lines = equal_texts_have_equal_lines (payload_line_of_text_line k) (payload_line_of_text_line l) (flat_map payload_line_of_text_line (k ∷ ks) ++ rest) (flat_map payload_line_of_text_line (l ∷ ls) ++ other) (physical_lines (flat_map payload_line_of_text_line ks ++ rest)) (physical_lines (flat_map payload_line_of_text_line ls ++ other)) (first_payload_line_is_first_physical_line k ks rest p.0) (first_payload_line_is_first_physical_line l ls other q.0) e in
    let more = equal_payloads_have_equal_text_lines ks ls rest other p.1 q.1 r s (texts_of_same_physical_lines_are_equal (flat_map payload_line_of_text_line ks ++ rest) (flat_map payload_line_of_text_line ls ++ other) lines.1) in
    let first : k ≡ l = equal_payload_lines_have_equal_text_lines k l lines.0 in
    let behind : ks ≡ ls = more.0 in
    (cc, more.1)

-- and so they are of the same text
equal_payloads_have_equal_texts : (text word rest other : List ℕ) → BeginsWithoutPayloadLine rest → BeginsWithoutPayloadLine other → payload_of_text text ++ rest ≡ payload_of_text word ++ other → (text ≡ word) × (rest ≡ other)
equal_payloads_have_equal_texts text word rest other r s e =
    let p = payload_text_lines_join_and_give_payload text in
    let q = payload_text_lines_join_and_give_payload word in
    let same = equal_payloads_have_equal_text_lines (payload_text_lines text) (payload_text_lines word) rest other p.0 q.0 r s
    (sym (ap (λ (z : List ℕ). z ++ rest) p.1) ∙ e ∙ ap (λ (z : List ℕ). z ++ other) q.1) in
    (sym p.2 ∙ ap text_of_joined_lines same.0 ∙ q.2, same.1)

-- EDITS

-- the edit whose command says this and that brings this text
abbrev edit_of_parsed_line_and_text : ParsedScriptLine → List ℕ → Edit
edit_of_parsed_line_and_text (says.Begin begun) text = edit_completed_with_text begun text
edit_of_parsed_line_and_text (says.Whole edit) text = edit
edit_of_parsed_line_and_text _ text = Prune

-- what stands behind a command that says this, if it brings this text
abbrev payload_of_parsed_line_and_text : ParsedScriptLine → List ℕ → List ℕ
payload_of_parsed_line_and_text (says.Begin begun) text = payload_of_text text
payload_of_parsed_line_and_text _ text = []

-- An edit by what its command says, and by its text.
record IsEditOfItsParsedLine (edit : Edit) : Type 0 where
  text : List ℕ
  made : edit ≡ edit_of_parsed_line_and_text (parsed_line_of_edit edit) text
  rest : payload_lines_of_edit edit ≡ payload_of_parsed_line_and_text (parsed_line_of_edit edit) text

-- each is made so
edit_is_of_parsed_line_and_text : (edit : Edit) → IsEditOfItsParsedLine edit
edit_is_of_parsed_line_and_text edit =
    property_of_texted_and_whole_edits_holds IsEditOfItsParsedLine
    (λ begun text.
    let t = edit_with_text_has_its_command begun text in
    record {
      text = text;
      made = ap (λ (x : ParsedScriptLine). edit_of_parsed_line_and_text x text) (sym t.said);
      rest = t.lines ∙ ap (λ (x : ParsedScriptLine). payload_of_parsed_line_and_text x text) (sym t.said);
    })
    (λ e said lines. record {
      text = [];
      made = ap (λ (x : ParsedScriptLine). edit_of_parsed_line_and_text x []) (sym said);
      rest = lines ∙ ap (λ (x : ParsedScriptLine). payload_of_parsed_line_and_text x []) (sym said);
    })
    edit

-- the same behind a command, before spellings that are one text, is of one edit, and the same is behind it
equal_payload_text_gives_equal_edit : (said : ParsedScriptLine) (text word rest other : List ℕ) → BeginsWithoutPayloadLine rest → BeginsWithoutPayloadLine other → payload_of_parsed_line_and_text said text ++ rest ≡ payload_of_parsed_line_and_text said word ++ other → (edit_of_parsed_line_and_text said text ≡ edit_of_parsed_line_and_text said word) × (rest ≡ other)
equal_payload_text_gives_equal_edit (says.Begin begun) text word rest other r s e = let same = equal_payloads_have_equal_texts text word rest other r s e in (ap (edit_completed_with_text begun) same.0, same.1)
equal_payload_text_gives_equal_edit (says.Whole edit) text word rest other r s e = (refl, e)
equal_payload_text_gives_equal_edit (says.Flawed f) text word rest other r s e = (refl, e)
equal_payload_text_gives_equal_edit (says.File file) text word rest other r s e = (refl, e)
equal_payload_text_gives_equal_edit says.More text word rest other r s e = (refl, e)
equal_payload_text_gives_equal_edit says.Last text word rest other r s e = (refl, e)
equal_payload_text_gives_equal_edit says.Unended text word rest other r s e = (refl, e)
equal_payload_text_gives_equal_edit says.Other text word rest other r s e = (refl, e)

-- two edits whose commands are one line, before the same bytes, are one, and the same is behind them
same_line_and_payload_imply_equal_edits : (edit other : Edit) (rest more : List ℕ) → parsed_line_of_edit edit ≡ parsed_line_of_edit other → BeginsWithoutPayloadLine rest → BeginsWithoutPayloadLine more → payload_lines_of_edit edit ++ rest ≡ payload_lines_of_edit other ++ more → (edit ≡ other) × (rest ≡ more)
same_line_and_payload_imply_equal_edits edit other rest more said r s e =
    let m = edit_is_of_parsed_line_and_text edit in
    let n = edit_is_of_parsed_line_and_text other in
    let whole : payload_of_parsed_line_and_text (parsed_line_of_edit edit) m.text ++ rest ≡ payload_of_parsed_line_and_text (parsed_line_of_edit edit) n.text ++ more =
    ap (λ (z : List ℕ). z ++ rest) (sym m.rest) ∙ e
    ∙ ap (λ (z : List ℕ). z ++ more) (n.rest ∙ ap (λ (x : ParsedScriptLine). payload_of_parsed_line_and_text x n.text) (sym said)) in
    let same = equal_payload_text_gives_equal_edit (parsed_line_of_edit edit) m.text n.text rest more r s whole in
    (m.made ∙ same.0 ∙ ap (λ (x : ParsedScriptLine). edit_of_parsed_line_and_text x n.text) said ∙ sym n.made, same.1)

-- a spelling of an edit has bytes
spelling_of_edit_is_not_empty : (last : ℕ) (edit : Edit) (edits : List Edit) → last + 1 ≤ 2 ^ 32 → IsSpellable edit → spelling_of_edits_with_file_set last (edit ∷ edits) ≡ [] → ⊥
spelling_of_edit_is_not_empty last edit edits fits n e =
    let b = spelling_begins_with_nonpayload_line last edit edits fits n in
    let no : b.line ∷ b.more ≡ [] = sym b.lines ∙ ap physical_lines e in
    cc

-- two edits whose spellings begin one text are one if the same file is set for both, and the same is behind them
same_spelling_in_file_implies_equal_edits : (last : ℕ) (edit other : Edit) (rest more : List ℕ) → IsSpellable edit → IsSpellable other → BeginsWithoutPayloadLine rest → BeginsWithoutPayloadLine more
    → file_number_set_after_edit last edit ≡ file_number_set_after_edit last other
    → spelling_of_edit edit ++ rest ≡ spelling_of_edit other ++ more → (edit ≡ other) × (rest ≡ more)
same_spelling_in_file_implies_equal_edits last edit other rest more n m r s set e =
    let lines = equal_texts_have_equal_lines _ _ _ _ _ _ (edit_spelling_begins_with_command_line edit rest n) (edit_spelling_begins_with_command_line other more m) e in
    let said : parsed_line_of_edit edit ≡ parsed_line_of_edit other =
    sym (command_line_of_edit_is_read_back last edit n) ∙ ap (parsed_script_line (file_number_set_after_edit last edit)) lines.0
    ∙ ap (λ (f : ℕ). parsed_script_line f (command_line_of_edit other)) set ∙ command_line_of_edit_is_read_back last other m in
    same_line_and_payload_imply_equal_edits edit other rest more said r s (texts_of_same_physical_lines_are_equal (payload_lines_of_edit edit ++ rest) (payload_lines_of_edit other ++ more) lines.1)

-- the line of a command is no `file` line
command_spelling_is_no_file_line : (last file : ℕ) (edit : Edit) (rest more : List ℕ) → IsSpellable edit → file + 1 ≤ 2 ^ 32 → spelling_of_edit edit ++ rest ≡ script_line_setting_file_number file ++ more → ⊥
command_spelling_is_no_file_line last file edit rest more n fits e =
    let lines = equal_texts_have_equal_lines _ _ _ _ _ _ (edit_spelling_begins_with_command_line edit rest n) (file_line_is_first_physical_line file more fits) e in
    let said : parsed_line_of_edit edit ≡ says.File (Some file) =
    sym (command_line_of_edit_is_read_back last edit n) ∙ ap (parsed_script_line (file_number_set_after_edit last edit)) lines.0 ∙ file_line_is_read_back (file_number_set_after_edit last edit) file fits in
    property_of_texted_and_whole_edits_holds (λ x. parsed_line_of_edit x ≡ says.File (Some file) → ⊥)
    (λ begun text f. (let no : says.Begin begun ≡ says.File (Some file) = sym (edit_with_text_has_its_command begun text).said ∙ f in cc))
    (λ x whole none f. (let no : says.Whole x ≡ says.File (Some file) = sym whole ∙ f in cc))
    edit said

-- two `file` lines that begin one text set one file, and the same is behind them
equal_file_lines_have_equal_files : (file other : ℕ) (rest more : List ℕ) → file + 1 ≤ 2 ^ 32 → other + 1 ≤ 2 ^ 32 → script_line_setting_file_number file ++ rest ≡ script_line_setting_file_number other ++ more
    → (file ≡ other) × (rest ≡ more)
equal_file_lines_have_equal_files file other rest more fits fit e =
    let lines = equal_texts_have_equal_lines _ _ _ _ _ _ (file_line_is_first_physical_line file rest fits) (file_line_is_first_physical_line other more fit) e in
    let said : says.File (Some file) ≡ says.File (Some other) = sym (file_line_is_read_back 0 file fits) ∙ ap (parsed_script_line 0) lines.0 ∙ file_line_is_read_back 0 other fit in
    (cc, texts_of_same_physical_lines_are_equal rest more lines.1)

-- two edits whose spellings, with their `file` lines, begin one text are one, and the same is behind them
edits_beginning_same_text_are_equal : (last : ℕ) (edit other : Edit) (rest more : List ℕ) → last + 1 ≤ 2 ^ 32 → IsSpellable edit → IsSpellable other → BeginsWithoutPayloadLine rest → BeginsWithoutPayloadLine more
    → file_line_before_edit last (file_number_named_by_edit edit) ++ (spelling_of_edit edit ++ rest) ≡ file_line_before_edit last (file_number_named_by_edit other) ++ (spelling_of_edit other ++ more) → (edit ≡ other) × (rest ≡ more)
edits_beginning_same_text_are_equal last edit other rest more fits n m r q e =
    let a : List ℕ = spelling_of_edit edit ++ rest in
    let b : List ℕ = spelling_of_edit other ++ more in
    let known : (z w : List ℕ) → file_line_before_edit last (file_number_named_by_edit edit) ≡ z → file_line_before_edit last (file_number_named_by_edit other) ≡ w → z ++ a ≡ w ++ b =
    λ z w f g. sym (ap (λ (x : List ℕ). x ++ a) f) ∙ e ∙ ap (λ (x : List ℕ). x ++ b) g in
    elim (edit_needs_file_line_or_none last (file_number_named_by_edit edit)) [
      | inl u ↦ elim (edit_needs_file_line_or_none last (file_number_named_by_edit other)) [
        | inl v ↦ same_spelling_in_file_implies_equal_edits last edit other rest more n m r q (u.same ∙ sym v.same) (known [] [] u.none v.none)
        | inr t ↦ absurd (command_spelling_is_no_file_line last t.to edit rest b n (file_set_by_file_line_fits last other t fits m) (known [] (script_line_setting_file_number t.to) u.none t.line))
      ]
      | inr s ↦ elim (edit_needs_file_line_or_none last (file_number_named_by_edit other)) [
        | inl v ↦ absurd (command_spelling_is_no_file_line last s.to other more a m (file_set_by_file_line_fits last edit s fits n) (sym (known (script_line_setting_file_number s.to) [] s.line v.none)))
        | inr t ↦
            let same = equal_file_lines_have_equal_files s.to t.to a b (file_set_by_file_line_fits last edit s fits n) (file_set_by_file_line_fits last other t fits m)
            (known (script_line_setting_file_number s.to) (script_line_setting_file_number t.to) s.line t.line) in
            same_spelling_in_file_implies_equal_edits last edit other rest more n m r q (file_line_sets_file_of_its_edit last edit s ∙ same.0 ∙ sym (file_line_sets_file_of_its_edit last other t)) same.1
      ]
    ]

-- two lists of edits have two spellings where the same file is set
spelling_with_file_set_is_injective : (last : ℕ) (edits others : List Edit) → last + 1 ≤ 2 ^ 32 → AreSpellable edits → AreSpellable others
    → spelling_of_edits_with_file_set last edits ≡ spelling_of_edits_with_file_set last others → edits ≡ others
spelling_with_file_set_is_injective last [] [] fits n m e = refl
spelling_with_file_set_is_injective last [] (other ∷ others) fits n m e = absurd (spelling_of_edit_is_not_empty last other others fits m.0 (sym e))
spelling_with_file_set_is_injective last (edit ∷ edits) [] fits n m e = absurd (spelling_of_edit_is_not_empty last edit edits fits n.0 e)
spelling_with_file_set_is_injective last (edit ∷ edits) (other ∷ others) fits n m e =
    let f : ℕ = file_number_set_after_edit last edit in
    let g : ℕ = file_number_set_after_edit last other in
    let same = edits_beginning_same_text_are_equal last edit other (spelling_of_edits_with_file_set f edits) (spelling_of_edits_with_file_set g others) fits n.0 m.0
    (spelling_begins_without_payload_line f edits) (spelling_begins_without_payload_line g others) e in
    let rest : spelling_of_edits_with_file_set f edits ≡ spelling_of_edits_with_file_set f others = same.1 ∙ ap (λ (x : Edit). spelling_of_edits_with_file_set (file_number_set_after_edit last x) others) (sym same.0) in
    ap (λ (x : Edit). x ∷ edits) same.0 ∙ ap (λ (xs : List Edit). other ∷ xs) (spelling_with_file_set_is_injective f edits others (file_set_after_edit_fits last edit fits n.0.0) n.1 m.1 rest)

-- THE LAW: two lists of edits have two spellings
pub spelling_of_edits_is_injective : (edits others : List Edit) → AreSpellable edits → AreSpellable others → spelling_of_edits edits ≡ spelling_of_edits others → edits ≡ others
spelling_of_edits_is_injective edits others n m e = spelling_with_file_set_is_injective 0 edits others (omega arith) n m e
