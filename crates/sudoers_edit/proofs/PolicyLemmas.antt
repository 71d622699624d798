-- A policy line by line, from the laws of logical lines.
use Rattle.sudoers_edit.proofs.Common.{EachIsOneLineWhenCut, SplitsIntoItselfAsOnlyLine, Line, List, Ok, Some, [], ap, append-nil, arith, cut_outcome_of_text, false, has_inner_line_without_lf, join, length, refl, slice_get}
use Rattle.sudoers_edit.proofs.Common.{slice_index_or, suc, sym, text_limit, texts_of_lines, zero, ℕ, ◌∙◌, ◌∷◌, ◌≡◌, ◌≤◌}

-- what the laws say
abbrev pub CutLinesStandAlone : Type 0
CutLinesStandAlone = (text : List ℕ) (lines : List (List ℕ)) → cut_outcome_of_text text ≡ Ok lines
    → EachIsOneLineWhenCut lines × (has_inner_line_without_lf lines ≡ false) × (join lines ≡ text) × (length text ≤ text_limit)

only_line_of_text_is_text : (lines : List (List ℕ)) (text : List ℕ) → length lines ≡ 1 → join lines ≡ text → lines ≡ text ∷ []
only_line_of_text_is_text [] text one same = absurd (omega arith)
only_line_of_text_is_text (line ∷ []) text one same = ap (λ (t : List ℕ). t ∷ []) (sym (append-nil line) ∙ same)
only_line_of_text_is_text (line ∷ next ∷ lines) text one same = absurd (omega arith)

-- a text that is cut into one line is that line
pub text_with_one_line_is_single_line : CutLinesStandAlone → (text : List ℕ) (lines : List (List ℕ)) → cut_outcome_of_text text ≡ Ok lines → length lines ≡ 1 → SplitsIntoItselfAsOnlyLine text
text_with_one_line_is_single_line law text lines is one = is ∙ ap (λ (ls : List (List ℕ)). Ok ls) (only_line_of_text_is_text lines text one (law text lines is).2)

pub found_line_is_line_at_index : (lines : List (List ℕ)) (at : ℕ) (line d : List ℕ) → slice_get lines at ≡ Some line → slice_index_or lines at d ≡ line
found_line_is_line_at_index [] at line d is = cc
found_line_is_line_at_index (first ∷ lines) zero line d is = cc
found_line_is_line_at_index (first ∷ lines) (suc n) line d is = found_line_is_line_at_index lines n line d is

pub texts_are_as_many_as_lines : (lines : List Line) → length (texts_of_lines lines) ≡ length lines
texts_are_as_many_as_lines [] = refl
texts_are_as_many_as_lines (line ∷ lines) = ap suc (texts_are_as_many_as_lines lines)
