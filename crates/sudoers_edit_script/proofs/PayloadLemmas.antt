-- The payload of a text that grows by a line.
use Rattle.std.proofs.Common.{◌≡◌, ℕ, true, false, List, [], ◌∷◌, ◌++◌, refl, sym, ap, ◌∙◌, append_assoc, append-nil}
use Rattle.std.specs.List.{flat_map}
use Rattle.std.proofs.lemmas.Grind.{flat_map-append}
use Rattle.sudoers_text.specs.Ended.{ends_in_lf}
use Rattle.sudoers_edit_script.specs.Physical.{physical_lines}
use Rattle.sudoers_edit_script.specs.Script.{payload_of_text, payload_line_of_text_line, spelling_of_edit}
use Rattle.sudoers_edit_script.specs.ScriptReading.{edit_completed_with_text}
use Rattle.sudoers_edit_script.specs.declared.edit_awaiting_text.EditAwaitingText.{EditAwaitingText}
use Rattle.sudoers_edit_script.proofs.PhysicalLemmas.{IsPhysicalLine, text_of_joined_lines, line_is_its_only_physical_line, ended_text_and_more_have_appended_lines, nonempty_text_without_lf_is_line, text_without_lf_is_unended, line_before_final_lf_has_no_lf}
use Rattle.sudoers_edit_script.proofs.LineLemmas.{command_line_of_edit, texted_edit_is_command_line_and_payload}

-- the payload of a line with its LF
pub ended_line_has_bar_line_as_payload : (t : List ℕ) → IsPhysicalLine t → ends_in_lf t ≡ true → payload_of_text t ≡ 124 ∷ t
ended_line_has_bar_line_as_payload [] is h = absurd is
ended_line_has_bar_line_as_payload (b ∷ bs) is h =
    ap (flat_map payload_line_of_text_line) (line_is_its_only_physical_line (b ∷ bs) is) ∙ append-nil (payload_line_of_text_line (b ∷ bs)) ∙ rw h refl

-- the payload of the rest of a text, which may be empty
pub payload_of_unended_line_is_angle_line : (t : List ℕ) → IsPhysicalLine (62 ∷ t ++ 10 ∷ []) → payload_of_text t ≡ 62 ∷ t ++ 10 ∷ []
payload_of_unended_line_is_angle_line [] is = refl
payload_of_unended_line_is_angle_line (b ∷ bs) is =
    let lacks = line_before_final_lf_has_no_lf (62 ∷ b ∷ bs) is in
    let h : ends_in_lf (b ∷ bs) ≡ false = text_without_lf_is_unended (b ∷ bs) lacks in
    ap (flat_map payload_line_of_text_line) (line_is_its_only_physical_line (b ∷ bs) (nonempty_text_without_lf_is_line b bs lacks)) ∙ append-nil (payload_line_of_text_line (b ∷ bs)) ∙ rw h refl

-- the payload of a text that is not empty
payload_of_nonempty_text_is_its_lines : (t : List ℕ) → (t ≡ [] → ⊥) → payload_of_text t ≡ flat_map payload_line_of_text_line (physical_lines t)
payload_of_nonempty_text_is_its_lines [] some = absurd (some refl)
payload_of_nonempty_text_is_its_lines (b ∷ bs) some = refl

-- more behind a text that ends in LF
payload_after_ended_text_is_appended : (a t : List ℕ) → ends_in_lf a ≡ true → (t ≡ [] → ⊥) → payload_of_text (a ++ t) ≡ payload_of_text a ++ payload_of_text t
payload_after_ended_text_is_appended [] t h some = cc
payload_after_ended_text_is_appended (a ∷ bs) t h some =
    ap (flat_map payload_line_of_text_line) (ended_text_and_more_have_appended_lines (a ∷ bs) t h)
    ∙ flat_map-append payload_line_of_text_line (physical_lines (a ∷ bs)) (physical_lines t)
    ∙ ap (λ (z : List ℕ). payload_of_text (a ∷ bs) ++ z) (sym (payload_of_nonempty_text_is_its_lines t some))

-- a line behind `|` is one
pub line_after_bar_is_line : (t : List ℕ) → ends_in_lf t ≡ true → IsPhysicalLine (124 ∷ t) → IsPhysicalLine t
line_after_bar_is_line [] h is = cc
line_after_bar_is_line (b ∷ bs) h is = is.1

-- a line is not empty
pub line_is_not_empty : (t : List ℕ) → IsPhysicalLine t → t ≡ [] → ⊥
line_is_not_empty [] is e = is
line_is_not_empty (b ∷ bs) is e = cc

-- what ends in LF ends any text in it
pub appended_ended_text_ends_in_lf : (a t : List ℕ) → ends_in_lf t ≡ true → ends_in_lf (a ++ t) ≡ true
appended_ended_text_ends_in_lf [] t h = h
appended_ended_text_ends_in_lf (a ∷ []) [] h = cc
appended_ended_text_ends_in_lf (a ∷ []) (b ∷ bs) h = h
appended_ended_text_ends_in_lf (a ∷ b ∷ bs) t h = appended_ended_text_ends_in_lf (b ∷ bs) t h

-- the spelling of an open edit whose text grows by a line
pub payload_line_extends_spelling_of_open_edit : (so_far l t : List ℕ) (begun : EditAwaitingText) (lines : List (List ℕ)) → ends_in_lf so_far ≡ true → (t ≡ [] → ⊥) → l ≡ payload_of_text t → spelling_of_edit (edit_completed_with_text begun so_far) ++ (l ++ text_of_joined_lines lines) ≡ spelling_of_edit (edit_completed_with_text begun (so_far ++ t)) ++ text_of_joined_lines lines
payload_line_extends_spelling_of_open_edit so_far l t begun lines ended some e =
    sym (append_assoc (spelling_of_edit (edit_completed_with_text begun so_far)) l (text_of_joined_lines lines))
    ∙ ap (λ (z : List ℕ). z ++ text_of_joined_lines lines) (
    ap (λ (z : List ℕ). z ++ l) (texted_edit_is_command_line_and_payload begun so_far)
    ∙ ap (λ (z : List ℕ). (command_line_of_edit (edit_completed_with_text begun []) ++ payload_of_text so_far) ++ z) e
    ∙ append_assoc (command_line_of_edit (edit_completed_with_text begun [])) (payload_of_text so_far) (payload_of_text t)
    ∙ ap (λ (z : List ℕ). command_line_of_edit (edit_completed_with_text begun []) ++ z) (sym (payload_after_ended_text_is_appended so_far t ended some))
    ∙ sym (texted_edit_is_command_line_and_payload begun (so_far ++ t))
    )
