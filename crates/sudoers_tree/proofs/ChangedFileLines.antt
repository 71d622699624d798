-- The lines of files of which lines were changed.
use Rattle.sudoers_tree.proofs.Common.{AllByRecursion, AreApplicableChanges, AreFileNumbersOfChangesInOrder, AreLinesOfText, IsCutOutcome, IsFaultlessCut, IsLogicalLine, LineChange, List, NamedFile, ParsedFile, [], ap, ap₂}
use Rattle.sudoers_tree.proofs.Common.{arith, changed_files_from_number, changes_of_file, false, file_names, file_number_of_change, files_after_changes, has_inner_line_without_lf, if◌then◌else◌, join, length}
use Rattle.sudoers_tree.proofs.Common.{lines_after_changes, lines_of_changed_file, lines_of_numbered_file, map, named_of, nat_tests, refl, subst, suc, sym, texts_of_lines, zero, ℕ, ◌+◌, ◌==◌, ◌∙◌, ◌∷◌, ◌≡◌, ◌≤◌}
use Rattle.sudoers_tree.proofs.ChangedLines.{changed_lines_are_logical_lines}
use Rattle.sudoers_tree.proofs.CutFiles.{AreLinesCutFromTheirJoin}
use Rattle.sudoers_tree.proofs.FileChanges.{changes_of_file_bring_logical_lines}
use Rattle.sudoers_tree.proofs.Outcomes.{ComputedCutsAreCutOutcomes}
use Rattle.sudoers_tree.proofs.WholeLines.{AreAllLogicalLines}

-- the first file is the changed one, and so are those behind it
first_changed_file_is_first_and_rest_follow : (f : ℕ) (changes : List LineChange) (new old : ParsedFile) (news olds : List ParsedFile)
    → map named_of (new ∷ news) ≡ changed_files_from_number f changes (old ∷ olds)
    → (new.name ≡ old.name) × (join (texts_of_lines new.lines) ≡ join (lines_of_changed_file f changes old)) × (map named_of news ≡ changed_files_from_number (f + 1) changes olds)
first_changed_file_is_first_and_rest_follow f changes new old news olds same =
    let first : named_of new ≡ record { name = old.name; bytes = join (lines_of_changed_file f changes old) } = cc in
    (ap (λ (file : NamedFile). file.name) first, ap (λ (file : NamedFile). file.bytes) first, cc)

-- The names are those of the files before.
pub changed_files_keep_file_names : (f : ℕ) (changes : List LineChange) (news olds : List ParsedFile) → map named_of news ≡ changed_files_from_number f changes olds
    → file_names news ≡ file_names olds
changed_files_keep_file_names f changes [] [] same = refl
changed_files_keep_file_names f changes [] (old ∷ olds) same = absurd cc
changed_files_keep_file_names f changes (new ∷ news) [] same = absurd cc
changed_files_keep_file_names f changes (new ∷ news) (old ∷ olds) same =
    let is = first_changed_file_is_first_and_rest_follow f changes new old news olds same in
    ap₂ (λ (name : List ℕ) names. name ∷ names) is.0 (changed_files_keep_file_names (f + 1) changes news olds is.2)

-- No change is of a file past the last.
file_past_last_has_no_changes : (f g : ℕ) (changes : List LineChange) (count : ℕ) → AreFileNumbersOfChangesInOrder g changes count → count ≤ f → changes_of_file f changes ≡ []
file_past_last_has_no_changes f g [] count by_files past = refl
file_past_last_has_no_changes f g (change ∷ changes) count by_files past =
    let other : (file_number_of_change change == f) ≡ false = grind (arith, nat_tests, by_files.1, past) in
    ap (λ t. if t then change ∷ changes_of_file f changes else changes_of_file f changes) other
    ∙ file_past_last_has_no_changes f (file_number_of_change change) changes count by_files.2 past

-- The bytes of each file are those of its lines after the changes.
text_of_changed_file_is_changed_text : (f k g : ℕ) (changes : List LineChange) (news olds : List ParsedFile) → g ≡ f + k → AreFileNumbersOfChangesInOrder 0 changes (f + length olds)
    → map named_of news ≡ changed_files_from_number f changes olds
    → join (texts_of_lines (lines_of_numbered_file news k)) ≡ join (lines_after_changes (changes_of_file g changes) (texts_of_lines (lines_of_numbered_file olds k)))
text_of_changed_file_is_changed_text f k g changes [] [] at by_files same =
    ap (λ cs. join (lines_after_changes cs [])) (sym (file_past_last_has_no_changes g 0 changes (f + 0) by_files (omega (arith, at))))
text_of_changed_file_is_changed_text f k g changes [] (old ∷ olds) at by_files same = absurd cc
text_of_changed_file_is_changed_text f k g changes (new ∷ news) [] at by_files same = absurd cc
text_of_changed_file_is_changed_text f zero g changes (new ∷ news) (old ∷ olds) at by_files same =
    let here : f ≡ g = omega (arith, at) in
    (first_changed_file_is_first_and_rest_follow f changes new old news olds same).1 ∙ ap (λ n. join (lines_of_changed_file n changes old)) here
text_of_changed_file_is_changed_text f (suc k) g changes (new ∷ news) (old ∷ olds) at by_files same =
    let count : f + length (old ∷ olds) ≡ f + 1 + length olds = omega arith in
    text_of_changed_file_is_changed_text (f + 1) k g changes news olds (omega (arith, at)) (subst (AreFileNumbersOfChangesInOrder 0 changes) count by_files)
    (first_changed_file_is_first_and_rest_follow f changes new old news olds same).2

-- what the laws of lines say
abbrev pub TextHasUniqueLines : Type 0
TextHasUniqueLines = (text : List ℕ) (lines others : List (List ℕ)) → AreLinesOfText text lines → AreLinesOfText text others → lines ≡ others

abbrev pub LogicalLinesAreLinesOfTheirJoin : Type 0
LogicalLinesAreLinesOfTheirJoin = (lines : List (List ℕ)) → AllByRecursion IsLogicalLine lines → has_inner_line_without_lf lines ≡ false → AreLinesOfText (join lines) lines

-- The lines of each file are those before after the changes.
pub lines_of_changed_file_are_changed_lines : ComputedCutsAreCutOutcomes → TextHasUniqueLines → LogicalLinesAreLinesOfTheirJoin → (changes : List LineChange) (news olds : List ParsedFile) → AreApplicableChanges changes olds
    → map named_of news ≡ files_after_changes changes olds → ((f : ℕ) → AreLinesCutFromTheirJoin (texts_of_lines (lines_of_numbered_file news f))) → ((f : ℕ) → AreAllLogicalLines (texts_of_lines (lines_of_numbered_file olds f)))
    → (f : ℕ) → texts_of_lines (lines_of_numbered_file news f) ≡ lines_after_changes (changes_of_file f changes) (texts_of_lines (lines_of_numbered_file olds f))
lines_of_changed_file_are_changed_lines cuts one joins changes news olds can same cut whole f =
    let new : List (List ℕ) = texts_of_lines (lines_of_numbered_file news f) in
    let after : List (List ℕ) = lines_after_changes (changes_of_file f changes) (texts_of_lines (lines_of_numbered_file olds f)) in
    let is : IsFaultlessCut (join new) new = subst (IsCutOutcome (join new)) (cut f) (cuts (join new)) in
    let count : length olds ≡ 0 + length olds = omega arith in
    let bytes : join new ≡ join after = text_of_changed_file_is_changed_text 0 f f changes news olds (omega arith) (subst (AreFileNumbersOfChangesInOrder 0 changes) count can.by_files) same in
    let lines : AreAllLogicalLines after = changed_lines_are_logical_lines 0 (changes_of_file f changes) (texts_of_lines (lines_of_numbered_file olds f)) (whole f) (changes_of_file_bring_logical_lines f changes can.lines) in
    one (join new) new after is.cuts (subst (λ text. AreLinesOfText text after) (sym bytes) (joins after lines (can.ended f)))
