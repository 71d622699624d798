-- Lines that all end in LF, and changes of them.
use Rattle.std.proofs.Common.{◌≡◌, ℕ, ◌+◌, Bool, true, false, ◌==◌, if◌then◌else◌, List, [], ◌∷◌, ◌++◌, refl}
use Rattle.std.specs.List.{AllByRecursion}
use Rattle.sudoers_text.specs.Ended.{ends_in_lf, has_inner_line_without_lf}
use Rattle.sudoers_tree.specs.Changed.{lines_after_changes, lines_changed_from_number, texts_of_changes, texts_put_before_line, line_after_changes}
use Rattle.sudoers_tree.specs.declared.line_change.LineChange.{LineChange}
use Rattle.sudoers_tree.specs.declared.line_change.LineChange.TheVariants.{Put, Swap, Take}

abbrev pub AreLinesEndedInLf : List (List ℕ) → Type 0
AreLinesEndedInLf lines = AllByRecursion (λ line. ends_in_lf line ≡ true) lines

appended_ended_lines_are_ended : (ks js : List (List ℕ)) → AreLinesEndedInLf ks → AreLinesEndedInLf js → AreLinesEndedInLf (ks ++ js)
appended_ended_lines_are_ended [] js kept more = more
appended_ended_lines_are_ended (k ∷ ks) js kept more = (kept.0, appended_ended_lines_are_ended ks js kept.1 more)

ended_lines_have_no_inner_unended_line : (ks : List (List ℕ)) → AreLinesEndedInLf ks → has_inner_line_without_lf ks ≡ false
ended_lines_have_no_inner_unended_line [] ended = refl
ended_lines_have_no_inner_unended_line (k ∷ []) ended = refl
ended_lines_have_no_inner_unended_line (k ∷ j ∷ js) ended = rw ended.0 (ended_lines_have_no_inner_unended_line (j ∷ js) ended.1)

either_branch_of_ended_lines_is_ended : (b : Bool) (ks js : List (List ℕ)) → AreLinesEndedInLf ks → AreLinesEndedInLf js → AreLinesEndedInLf (if b then ks else js)
either_branch_of_ended_lines_is_ended true ks js here there = here
either_branch_of_ended_lines_is_ended false ks js here there = there

lines_put_by_ended_changes_are_ended : (n : ℕ) (changes : List LineChange) → AreLinesEndedInLf (texts_of_changes changes) → AreLinesEndedInLf (texts_put_before_line n changes)
lines_put_by_ended_changes_are_ended n [] ended = tt
lines_put_by_ended_changes_are_ended n (Put file at text ∷ changes) ended =
    let rest : AreLinesEndedInLf (texts_put_before_line n changes) = lines_put_by_ended_changes_are_ended n changes ended.1 in
    either_branch_of_ended_lines_is_ended (at == n) (text ∷ texts_put_before_line n changes) (texts_put_before_line n changes) (ended.0, rest) rest
lines_put_by_ended_changes_are_ended n (Swap file at text ∷ changes) ended = lines_put_by_ended_changes_are_ended n changes ended.1
lines_put_by_ended_changes_are_ended n (Take file at ∷ changes) ended = lines_put_by_ended_changes_are_ended n changes ended

line_after_ended_changes_is_ended : (n : ℕ) (changes : List LineChange) (line : List ℕ) → AreLinesEndedInLf (texts_of_changes changes) → ends_in_lf line ≡ true → AreLinesEndedInLf (line_after_changes n changes line)
line_after_ended_changes_is_ended n [] line ended lf = (lf, tt)
line_after_ended_changes_is_ended n (Put file at text ∷ changes) line ended lf = line_after_ended_changes_is_ended n changes line ended.1 lf
line_after_ended_changes_is_ended n (Swap file at text ∷ changes) line ended lf =
    either_branch_of_ended_lines_is_ended (at == n) (text ∷ []) (line_after_changes n changes line) (ended.0, tt) (line_after_ended_changes_is_ended n changes line ended.1 lf)
line_after_ended_changes_is_ended n (Take file at ∷ changes) line ended lf =
    either_branch_of_ended_lines_is_ended (at == n) [] (line_after_changes n changes line) tt (line_after_ended_changes_is_ended n changes line ended lf)

ended_lines_changed_are_ended : (n : ℕ) (changes : List LineChange) (lines : List (List ℕ)) → AreLinesEndedInLf (texts_of_changes changes) → AreLinesEndedInLf lines
    → AreLinesEndedInLf (lines_changed_from_number n changes lines)
ended_lines_changed_are_ended n changes [] new old = lines_put_by_ended_changes_are_ended n changes new
ended_lines_changed_are_ended n changes (line ∷ lines) new old =
    appended_ended_lines_are_ended (texts_put_before_line n changes) (line_after_changes n changes line ++ lines_changed_from_number (n + 1) changes lines) (lines_put_by_ended_changes_are_ended n changes new)
    (appended_ended_lines_are_ended (line_after_changes n changes line) (lines_changed_from_number (n + 1) changes lines) (line_after_ended_changes_is_ended n changes line new old.0)
    (ended_lines_changed_are_ended (n + 1) changes lines new old.1))

-- lines that all end in LF, changed by changes that bring such lines
pub ended_lines_changed_have_no_inner_unended : (changes : List LineChange) (lines : List (List ℕ)) → AreLinesEndedInLf (texts_of_changes changes) → AreLinesEndedInLf lines
    → has_inner_line_without_lf (lines_after_changes changes lines) ≡ false
ended_lines_changed_have_no_inner_unended changes lines new old = ended_lines_have_no_inner_unended_line (lines_after_changes changes lines) (ended_lines_changed_are_ended 0 changes lines new old)
