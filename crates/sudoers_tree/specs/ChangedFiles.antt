-- Files of a policy of which lines are changed.
use Rattle.std.specs.Prelude.{◌≡◌, ◌≤◌, ◌<◌, ℕ, ◌+◌, ◌==◌, false, List, [], ◌∷◌, length, if◌then◌else◌}
use Rattle.std.specs.List.{AllByRecursion}
use Rattle.sudoers_text.specs.Ended.{has_inner_line_without_lf}
use Rattle.sudoers_text.specs.Line.{join}
use Rattle.sudoers_text.specs.Whole.{IsLogicalLine}
use Rattle.sudoers_tree.specs.declared.line_change.LineChange.{LineChange}
use Rattle.sudoers_tree.specs.declared.named_files.NamedFile.{NamedFile}
use Rattle.sudoers_tree.specs.Changed.{AreChangesInOrder, texts_of_changes, lines_after_changes, file_number_of_change}
use Rattle.sudoers_tree.specs.Files.{ParsedFile, lines_of_numbered_file}
use Rattle.sudoers_tree.specs.Policy.{texts_of_lines}

-- those of the changes that are of the file with this number
abbrev pub changes_of_file : ℕ → List LineChange → List LineChange
changes_of_file f [] = []
changes_of_file f (change ∷ changes) = if file_number_of_change change == f then change ∷ changes_of_file f changes else changes_of_file f changes

-- the lines of the file with the number f after the changes of them
abbrev pub lines_of_changed_file : ℕ → List LineChange → ParsedFile → List (List ℕ)
lines_of_changed_file f changes file = lines_after_changes (changes_of_file f changes) (texts_of_lines file.lines)

-- these files, the first of which has the number f, with their bytes after the changes
abbrev pub changed_files_from_number : ℕ → List LineChange → List ParsedFile → List NamedFile
changed_files_from_number f changes [] = []
changed_files_from_number f changes (file ∷ files) =
    record { name = file.name; bytes = join (lines_of_changed_file f changes file) } ∷ changed_files_from_number (f + 1) changes files

-- the files with their bytes after the changes
abbrev pub files_after_changes : List LineChange → List ParsedFile → List NamedFile
files_after_changes changes files = changed_files_from_number 0 changes files

-- The numbers of the files of the changes do not descend, and lie from f on below this count.
abbrev pub AreFileNumbersOfChangesInOrder : ℕ → List LineChange → ℕ → Type 0
AreFileNumbersOfChangesInOrder f [] count = Unit {0}
AreFileNumbersOfChangesInOrder f (change ∷ changes) count = (f ≤ file_number_of_change change) × (file_number_of_change change < count) × AreFileNumbersOfChangesInOrder (file_number_of_change change) changes count

-- The changes can be made of these files at once. They go by the files. In each file their places ascend among its lines. Each text is one
-- logical line. No line without LF then stands before another.
pub record AreApplicableChanges (changes : List LineChange) (files : List ParsedFile) : Type 0 where
  pub by_files : AreFileNumbersOfChangesInOrder 0 changes (length files)
  pub order : (f : ℕ) → AreChangesInOrder 0 (changes_of_file f changes) (length (lines_of_numbered_file files f))
  pub lines : AllByRecursion IsLogicalLine (texts_of_changes changes)
  pub ended : (f : ℕ) → has_inner_line_without_lf (lines_after_changes (changes_of_file f changes) (texts_of_lines (lines_of_numbered_file files f))) ≡ false
