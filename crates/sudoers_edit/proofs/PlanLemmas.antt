-- Changes of one file that edits of it are.
use Rattle.sudoers_edit.proofs.Common.{AllByRecursion, AreChangesOfEdit, AreApplicableChangesOfFile, Edit, EditSetsFileLines, Err, IfOk, IsLogicalLine, LineChange, LineTexts, List, LoadedPolicy, Ok, Put, Result, Swap, Take}
use Rattle.sudoers_edit.proofs.Common.{[], arith, length, line_texts_of_file, lines_after_changes, named_files_of_policy, policy_or_load_fault, refl, slice_index_or, subst, suc, sym, zero, ℕ, ◌<◌, ◌∷◌, ◌≡◌, ◌≤◌}
use Rattle.sudoers_edit.specs.declared.edit_plan.EditPlan.{EditPlan}

pub numbered_logical_line_is_logical : (ls : LineTexts) (at : ℕ) → AllByRecursion IsLogicalLine ls → at < length ls → IsLogicalLine (slice_index_or ls at [])
numbered_logical_line_is_logical [] at all within = absurd (omega (arith, within))
numbered_logical_line_is_logical (l ∷ ls) zero all within = all.0
numbered_logical_line_is_logical (l ∷ ls) (suc at) all within = numbered_logical_line_is_logical ls at all.1 (omega (arith, within))

-- what the law says of changes of one file
abbrev pub OneFileChangesMakeEdit : Type 0
OneFileChangesMakeEdit = (edit back : Edit) (inverse : List Edit) (policy : LoadedPolicy) (f : ℕ) (changes : List LineChange) → policy_or_load_fault (named_files_of_policy policy) ≡ Ok policy
    → AreApplicableChangesOfFile f changes (line_texts_of_file policy f) → EditSetsFileLines edit back inverse policy f (lines_after_changes changes (line_texts_of_file policy f)) → AreChangesOfEdit edit inverse policy changes

-- changes of one file that make the lines to which the edit leads
pub changes_making_its_lines_are_of_edit : OneFileChangesMakeEdit → (edit back : Edit) (inverse : List Edit) (policy : LoadedPolicy) (f : ℕ) (new : LineTexts) (changes : List LineChange) → policy_or_load_fault (named_files_of_policy policy) ≡ Ok policy
    → AreApplicableChangesOfFile f changes (line_texts_of_file policy f) → lines_after_changes changes (line_texts_of_file policy f) ≡ new → EditSetsFileLines edit back inverse policy f new → AreChangesOfEdit edit inverse policy changes
changes_making_its_lines_are_of_edit law edit back inverse policy f new changes loaded fits is to =
    law edit back inverse policy f changes loaded fits (subst (EditSetsFileLines edit back inverse policy f) (sym is) to)

-- a plan of these changes
pub plan_of_these_changes_is_of_edit : {E : Type 0} → (r : Result EditPlan E) (edit : Edit) (inverse : List Edit) (policy : LoadedPolicy) (changes : List LineChange) → AreChangesOfEdit edit inverse policy changes
    → IfOk r (λ plan. plan.changes.items ≡ changes) → IfOk r (λ plan. plan.inverse ≡ inverse) → IfOk r (λ plan. AreChangesOfEdit edit plan.inverse policy plan.changes.items)
plan_of_these_changes_is_of_edit (Ok plan) edit inverse policy changes leads changes_are inverse_is =
    subst (λ i. AreChangesOfEdit edit i policy plan.changes.items) (sym inverse_is) (subst (AreChangesOfEdit edit inverse policy) (sym changes_are) leads)
plan_of_these_changes_is_of_edit (Err e) edit inverse policy changes leads changes_are inverse_is = tt

pub put_of_logical_line_changes_file : (f at : ℕ) (text : List ℕ) (lines : LineTexts) → at ≤ length lines → IsLogicalLine text → AreApplicableChangesOfFile f (Put f at text ∷ []) lines
put_of_logical_line_changes_file f at text lines within whole = record { of_file = (refl, tt); order = (omega arith, within); whole = (whole, tt) }

pub take_of_present_line_changes_file : (f at : ℕ) (lines : LineTexts) → at < length lines → AreApplicableChangesOfFile f (Take f at ∷ []) lines
take_of_present_line_changes_file f at lines within = record { of_file = (refl, tt); order = (omega arith, omega (arith, within)); whole = tt }

pub swap_of_logical_line_changes_file : (f at : ℕ) (text : List ℕ) (lines : LineTexts) → at < length lines → IsLogicalLine text → AreApplicableChangesOfFile f (Swap f at text ∷ []) lines
swap_of_logical_line_changes_file f at text lines within whole = record { of_file = (refl, tt); order = (omega arith, omega (arith, within)); whole = (whole, tt) }
