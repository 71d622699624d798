-- Changes of the lines of several files, of which all end in LF.
use Rattle.std.proofs.Common.{◌≡◌, ◌∙◌, ◌⊎◌, inl, inr, ◌≤◌, ◌<◌, ℕ, ◌+◌, Bool, true, false, ◌==◌, if◌then◌else◌, List, [], ◌∷◌, length, drop, get_or, slice_get, Some, None, refl, sym, ap, subst, arith}
use Rattle.std.specs.List.{AllByRecursion}
use Rattle.std.proofs.lemmas.Bool.Decides.{nat_tests}
use Rattle.std.proofs.lemmas.Option.{slice_get_past, slice_get_cases, slice_get_within, get_or_from_slice_get}
use Rattle.std.proofs.lemmas.List.{drop_more}
use Rattle.sudoers_text.specs.Ended.{ends_in_lf}
use Rattle.sudoers_text.specs.Whole.{IsLogicalLine}
use Rattle.sudoers_tree.specs.declared.line_change.LineChange.{LineChange}
use Rattle.sudoers_tree.specs.declared.line_change.LineChange.TheVariants.{Put, Swap, Take}
use Rattle.sudoers_tree.specs.Changed.{AreChangesInOrder, texts_of_changes, file_number_of_change}
use Rattle.sudoers_tree.specs.ChangedFiles.{AreApplicableChanges, AreFileNumbersOfChangesInOrder, changes_of_file}
use Rattle.sudoers_tree.specs.Files.{ParsedFile, lines_of_optional_file, lines_of_numbered_file}
use Rattle.sudoers_tree.specs.Line.{Line}
use Rattle.sudoers_tree.specs.Policy.{texts_of_lines}
use Rattle.cases.proofs.EndedLines.{AreLinesEndedInLf, ended_lines_changed_have_no_inner_unended}

-- a line that ends in LF, before the lines that are left
pub ended_line_before_ended_rest_is_ended : (lines : List Line) (n : ℕ) (line : Line) → Some line ≡ slice_get lines n → ends_in_lf line.text ≡ true
    → AreLinesEndedInLf (texts_of_lines (drop (n + 1) lines)) → AreLinesEndedInLf (texts_of_lines (drop n lines))
ended_line_before_ended_rest_is_ended lines n line is lf rest =
    let there : n < length lines = slice_get_within lines n line (sym is) in
    let same : get_or lines n line ≡ line = get_or_from_slice_get lines n line line (sym is) in
    let first : drop n lines ≡ line ∷ drop (n + 1) lines = drop_more lines n line there ∙ ap (λ l. l ∷ drop (n + 1) lines) same in
    subst (λ ls. AreLinesEndedInLf (texts_of_lines ls)) (sym first) (lf, rest)

-- a change more, or not
changes_with_or_without_first_are_ended : (b : Bool) (change : LineChange) (changes : List LineChange) → AreLinesEndedInLf (texts_of_changes (change ∷ changes)) → AreLinesEndedInLf (texts_of_changes changes)
    → AreLinesEndedInLf (texts_of_changes (if b then change ∷ changes else changes))
changes_with_or_without_first_are_ended true change changes more fewer = more
changes_with_or_without_first_are_ended false change changes more fewer = fewer

-- The changes of one file bring what all bring, or less.
changes_of_file_are_ended : (f : ℕ) (changes : List LineChange) → AreLinesEndedInLf (texts_of_changes changes) → AreLinesEndedInLf (texts_of_changes (changes_of_file f changes))
changes_of_file_are_ended f [] ended = tt
changes_of_file_are_ended f (Put file at text ∷ changes) ended =
    let rest : AreLinesEndedInLf (texts_of_changes (changes_of_file f changes)) = changes_of_file_are_ended f changes ended.1 in
    changes_with_or_without_first_are_ended (file == f) (Put file at text) (changes_of_file f changes) (ended.0, rest) rest
changes_of_file_are_ended f (Swap file at text ∷ changes) ended =
    let rest : AreLinesEndedInLf (texts_of_changes (changes_of_file f changes)) = changes_of_file_are_ended f changes ended.1 in
    changes_with_or_without_first_are_ended (file == f) (Swap file at text) (changes_of_file f changes) (ended.0, rest) rest
changes_of_file_are_ended f (Take file at ∷ changes) ended =
    let rest : AreLinesEndedInLf (texts_of_changes (changes_of_file f changes)) = changes_of_file_are_ended f changes ended in
    changes_with_or_without_first_are_ended (file == f) (Take file at) (changes_of_file f changes) rest rest

-- No change is of a file that is not there.
missing_file_has_no_changes : (f g : ℕ) (changes : List LineChange) (count : ℕ) → AreFileNumbersOfChangesInOrder g changes count → count ≤ f → changes_of_file f changes ≡ []
missing_file_has_no_changes f g [] count by_files past = refl
missing_file_has_no_changes f g (change ∷ changes) count by_files past = by (file_number_of_change change == f) refl (missing_file_has_no_changes f (file_number_of_change change) changes count by_files.2 past)
  where
    by : (t : Bool) → (file_number_of_change change == f) ≡ t → changes_of_file f changes ≡ [] → changes_of_file f (change ∷ changes) ≡ []
    by true e none =
        let same : file_number_of_change change ≡ f = grind (arith, nat_tests) in
        absurd (omega (arith, same, by_files.1, past))
    by false e none = ap (λ t. if t then change ∷ changes_of_file f changes else changes_of_file f changes) e ∙ none

-- A file that is not there has no line.
missing_file_has_no_lines : (files : List ParsedFile) (f : ℕ) → length files ≤ f → lines_of_numbered_file files f ≡ []
missing_file_has_no_lines files f past = ap lines_of_optional_file (slice_get_past files f past)

-- If the changes are in order in each file that is there, they are in each.
changes_in_present_files_are_in_order : (changes : List LineChange) (files : List ParsedFile) → AreFileNumbersOfChangesInOrder 0 changes (length files)
    → ((f : ℕ) → f < length files → AreChangesInOrder 0 (changes_of_file f changes) (length (lines_of_numbered_file files f)))
    → (f : ℕ) → AreChangesInOrder 0 (changes_of_file f changes) (length (lines_of_numbered_file files f))
changes_in_present_files_are_in_order changes files by_files order f = by (slice_get_cases files f).1
  where
    by : ((x : ParsedFile) × (f < length files) × (slice_get files f ≡ Some x) × (get_or files f x ≡ x)) ⊎ ((length files ≤ f) × (slice_get files f ≡ None))
        → AreChangesInOrder 0 (changes_of_file f changes) (length (lines_of_numbered_file files f))
    by (inl (x, there, is, same)) = order f there
    by (inr (past, is)) =
        let none : changes_of_file f changes ≡ [] = missing_file_has_no_changes f 0 changes (length files) by_files past in
        rw none (omega arith)

-- If each line of each file that is there ends in LF, each line of each does.
lines_of_present_files_are_ended : (files : List ParsedFile) → ((f : ℕ) → f < length files → AreLinesEndedInLf (texts_of_lines (lines_of_numbered_file files f)))
    → (f : ℕ) → AreLinesEndedInLf (texts_of_lines (lines_of_numbered_file files f))
lines_of_present_files_are_ended files ended f = by (slice_get_cases files f).1
  where
    by : ((x : ParsedFile) × (f < length files) × (slice_get files f ≡ Some x) × (get_or files f x ≡ x)) ⊎ ((length files ≤ f) × (slice_get files f ≡ None))
        → AreLinesEndedInLf (texts_of_lines (lines_of_numbered_file files f))
    by (inl (x, there, is, same)) = ended f there
    by (inr (past, is)) = rw (missing_file_has_no_lines files f past) tt

-- Such changes can be made of files of which each line ends in LF.
pub ended_changes_in_order_are_applicable : (changes : List LineChange) (files : List ParsedFile) → AreFileNumbersOfChangesInOrder 0 changes (length files)
    → ((f : ℕ) → f < length files → AreChangesInOrder 0 (changes_of_file f changes) (length (lines_of_numbered_file files f)))
    → AllByRecursion IsLogicalLine (texts_of_changes changes) → AreLinesEndedInLf (texts_of_changes changes)
    → ((f : ℕ) → f < length files → AreLinesEndedInLf (texts_of_lines (lines_of_numbered_file files f))) → AreApplicableChanges changes files
ended_changes_in_order_are_applicable changes files by_files order lines new old = record {
  by_files = by_files;
  order = changes_in_present_files_are_in_order changes files by_files order;
  lines = lines;
  ended = λ f. ended_lines_changed_have_no_inner_unended (changes_of_file f changes) (texts_of_lines (lines_of_numbered_file files f)) (changes_of_file_are_ended f changes new) (lines_of_present_files_are_ended files old f);
}
