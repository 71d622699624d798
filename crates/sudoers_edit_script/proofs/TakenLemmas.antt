-- One more of the edits that are written.
use Rattle.std.proofs.Common.{◌≡◌, ℕ, zero, suc, ◌+◌, ◌<◌, List, [], ◌∷◌, ◌++◌, length, get_or, take, refl, sym, ap, ◌∙◌, arith, add-one, append_assoc, append-nil}
use Rattle.sudoers_edit_script.specs.Script.{spelling_of_edit, spelling_of_edits_with_file_set, file_number_named_by_edit, file_number_set_after_edits, file_line_before_edit, file_number_set_after_edit}
use Rattle.sudoers_edit_script.specs.declared.edit.Edit.{Edit}

-- What is written of one edit more, and the file that is set then.
pub record IsSpellingWithOneMoreEdit (last : ℕ) (edits : List Edit) (n : ℕ) (edit : Edit) : Type 0 where
  pub spelled : spelling_of_edits_with_file_set last (take (n + 1) edits)
      ≡ (spelling_of_edits_with_file_set last (take n edits) ++ file_line_before_edit (file_number_set_after_edits last (take n edits)) (file_number_named_by_edit edit)) ++ spelling_of_edit edit
  pub file : file_number_set_after_edits last (take (n + 1) edits) ≡ file_number_set_after_edit (file_number_set_after_edits last (take n edits)) edit

-- the same with the successor
next_edit_extends_spelling_and_file_set : (last : ℕ) (edits : List Edit) (n : ℕ) (edit : Edit) → n < length edits → edit ≡ get_or edits n edit
    → (spelling_of_edits_with_file_set last (take (suc n) edits) ≡ (spelling_of_edits_with_file_set last (take n edits) ++ file_line_before_edit (file_number_set_after_edits last (take n edits)) (file_number_named_by_edit edit)) ++ spelling_of_edit edit)
    × (file_number_set_after_edits last (take (suc n) edits) ≡ file_number_set_after_edit (file_number_set_after_edits last (take n edits)) edit)
next_edit_extends_spelling_and_file_set last [] n edit h e = absurd (omega (arith, h))
next_edit_extends_spelling_and_file_set last (x ∷ xs) zero edit h e =
    rw e (ap (λ (z : List ℕ). file_line_before_edit last (file_number_named_by_edit x) ++ z) (append-nil (spelling_of_edit x)), refl)
next_edit_extends_spelling_and_file_set last (x ∷ xs) (suc n) edit h e =
    let more = next_edit_extends_spelling_and_file_set (file_number_set_after_edit last x) xs n edit (omega (arith, h)) e in
    let so_far : List ℕ = spelling_of_edits_with_file_set (file_number_set_after_edit last x) (take n xs) in
    let set : List ℕ = file_line_before_edit (file_number_set_after_edits (file_number_set_after_edit last x) (take n xs)) (file_number_named_by_edit edit) in
    let a : List ℕ = file_line_before_edit last (file_number_named_by_edit x) in (
      ap (λ (z : List ℕ). a ++ (spelling_of_edit x ++ z)) more.0
          ∙ ap (λ (z : List ℕ). a ++ z) (sym (append_assoc (spelling_of_edit x) (so_far ++ set) (spelling_of_edit edit)) ∙ ap (λ (z : List ℕ). z ++ spelling_of_edit edit) (sym (append_assoc (spelling_of_edit x) so_far set)))
          ∙ sym (append_assoc a ((spelling_of_edit x ++ so_far) ++ set) (spelling_of_edit edit))
          ∙ ap (λ (z : List ℕ). z ++ spelling_of_edit edit) (sym (append_assoc a (spelling_of_edit x ++ so_far) set)),
      more.1,
    )

-- so it is written
pub leading_edits_have_one_more_spelled : (last : ℕ) (edits : List Edit) (n : ℕ) (edit : Edit) → n < length edits → edit ≡ get_or edits n edit → IsSpellingWithOneMoreEdit last edits n edit
leading_edits_have_one_more_spelled last edits n edit h e =
    let b = next_edit_extends_spelling_and_file_set last edits n edit h e in
    record { spelled = rw add-one b.0; file = rw add-one b.1 }
