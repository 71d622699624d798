-- What is written is read as what it was written of.
use Rattle.std.proofs.Common.{◌≡◌, ℕ, ◌+◌, ◌≤◌, false, List, [], ◌∷◌, length, take, refl, sym, ap, ◌∙◌, arith, inl, inr}
use Rattle.std.specs.Prelude.{◌&&◌, Ok, Err, nat_lt}
use Rattle.std.specs.List.{prefix_len}
use Rattle.std.proofs.lemmas.Bool.{cases_Bool, and_cases, and_right, le-ltb, ltb-false}
use Rattle.std.proofs.lemmas.List.Sums.{prefix_len-le-length}
use Rattle.sudoers_edit_script.specs.Physical.{physical_lines}
use Rattle.sudoers_edit_script.specs.Script.{spelling_of_edits, has_word_names, HaveFittingNumbers, AreSpellable, script_or_fault_at_bad_name, script_or_first_fault}
use Rattle.sudoers_edit_script.specs.ScriptReading.{edits_spelled_by_text}
use Rattle.sudoers_edit_script.specs.declared.edit.Edit.{Edit}
use Rattle.sudoers_edit_script.specs.declared.script_reader.ScriptFault.TheVariants as faults
use Rattle.sudoers_edit_script.proofs.ScriptLemmas.{text_read_as_edits_is_their_spelling}
use Rattle.sudoers_edit_script.proofs.SpellingLemmas.{spelling_of_edits_is_read_back}

-- of edits that have a spelling all names are words
spellable_edits_all_have_word_names : (edits : List Edit) → AreSpellable edits → prefix_len has_word_names edits ≡ length edits
spellable_edits_all_have_word_names [] h = refl
spellable_edits_all_have_word_names (edit ∷ edits) h = let more = spellable_edits_all_have_word_names edits h.1 in rw h.0.1 (omega (arith, more))

-- and back, if their numbers fit
edits_with_word_names_are_spellable : (edits : List Edit) → HaveFittingNumbers edits → prefix_len has_word_names edits ≡ length edits → AreSpellable edits
edits_with_word_names_are_spellable [] n h = tt
edits_with_word_names_are_spellable (edit ∷ edits) n h =
    elim (cases_Bool (has_word_names edit)) [
      | inl t ↦ let more = rw t at h in ((n.0, t), edits_with_word_names_are_spellable edits n.1 (omega (arith, more)))
      | inr f ↦ let none = rw f at h in absurd (omega (arith, none))
    ]

-- What is known of edits that are written.
record IsScriptWrittenOfEdits (named : ℕ) (edits : List Edit) (text : List ℕ) : Type 0 where
  few : length edits ≤ 65536
  all : length edits ≤ named
  spelled : text ≡ spelling_of_edits edits

-- where a text is written
written_script_is_spelling_of_its_edits : (named : ℕ) (edits : List Edit) (text : List ℕ) → script_or_fault_at_bad_name named edits ≡ Ok text → IsScriptWrittenOfEdits named edits text
written_script_is_spelling_of_its_edits named edits text e =
    elim (cases_Bool (nat_lt named 65536 && nat_lt named (length edits))) [
      | inl t ↦ let none : Err (faults.BadWord (length (physical_lines (spelling_of_edits (take named edits))) + 1)) ≡ Ok text = rw t at e in cc
      | inr f ↦
          let e2 = rw f at e in
          elim (cases_Bool (nat_lt 65536 (length edits))) [
            | inl t ↦ let none : Err faults.TooMany ≡ Ok text = rw t at e2 in cc
            | inr g ↦
                let same : Ok (spelling_of_edits edits) ≡ Ok text = rw g at e2 in
                let few : length edits ≤ 65536 = ltb-false 65536 (length edits) g in
                let all : length edits ≤ named = elim (and_cases (nat_lt named 65536) (nat_lt named (length edits)) f) [
                  | inl h ↦ let big : 65536 ≤ named = ltb-false named 65536 h in omega arith
                  | inr h ↦ ltb-false named (length edits) h
                ] in
                record { few = few; all = all; spelled = cc }
          ]
    ]

-- THE LAW: what is written is read as the edits
pub written_script_is_read_back : (edits : List Edit) (text : List ℕ) → HaveFittingNumbers edits → script_or_first_fault edits ≡ Ok text → edits_spelled_by_text text ≡ Ok edits
written_script_is_read_back edits text n e =
    let w = written_script_is_spelling_of_its_edits (prefix_len has_word_names edits) edits text e in
    let whole : prefix_len has_word_names edits ≡ length edits = omega (arith, prefix_len-le-length has_word_names edits, w.all) in
    ap edits_spelled_by_text w.spelled ∙ spelling_of_edits_is_read_back edits (edits_with_word_names_are_spellable edits n whole) w.few

-- and what is read as edits is written of them
pub script_of_read_edits_is_text : (edits : List Edit) (text : List ℕ) → edits_spelled_by_text text ≡ Ok edits → script_or_first_fault edits ≡ Ok text
script_of_read_edits_is_text edits text e =
    let r = text_read_as_edits_is_their_spelling text edits e in
    let whole : prefix_len has_word_names edits ≡ length edits = spellable_edits_all_have_word_names edits r.2 in
    let none : nat_lt (prefix_len has_word_names edits) (length edits) ≡ false = le-ltb (prefix_len has_word_names edits) (length edits) (omega (arith, whole)) in
    let front : (nat_lt (prefix_len has_word_names edits) 65536 && nat_lt (prefix_len has_word_names edits) (length edits)) ≡ false = and_right (nat_lt (prefix_len has_word_names edits) 65536) (nat_lt (prefix_len has_word_names edits) (length edits)) none in
    let few : nat_lt 65536 (length edits) ≡ false = le-ltb 65536 (length edits) (omega (arith, r.1)) in
    rw (front, few) (ap Ok (sym r.0))
