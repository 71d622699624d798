-- Lists of lines of which some are changed.
use Rattle.std.specs.Prelude.{ℕ, zero, suc, ◌+◌, ◌==◌, ◌≤◌, List, [], ◌∷◌, ◌++◌, Option, Some, None, option_to_list, if◌then◌else◌}
use Rattle.std.specs.List.{flat_map}
use Rattle.sudoers_tree.specs.declared.line_change.LineChange.{LineChange}
use Rattle.sudoers_tree.specs.declared.line_change.LineChange.TheVariants.{Put, Swap, Take}

-- the lines, of which the one at a place is another
abbrev pub lines_with_one_replaced : ℕ → List ℕ → List (List ℕ) → List (List ℕ)
lines_with_one_replaced at line [] = []
lines_with_one_replaced zero line (old ∷ lines) = line ∷ lines
lines_with_one_replaced (suc at) line (old ∷ lines) = old ∷ lines_with_one_replaced at line lines

-- ---- several changes at once

-- These are changes of the lines of one file: its number is not looked at.

-- the texts that these changes put before the line with this number, in their order
abbrev pub texts_put_before_line : ℕ → List LineChange → List (List ℕ)
texts_put_before_line n [] = []
texts_put_before_line n (Put file at text ∷ changes) = if at == n then text ∷ texts_put_before_line n changes else texts_put_before_line n changes
texts_put_before_line n (Swap file at text ∷ changes) = texts_put_before_line n changes
texts_put_before_line n (Take file at ∷ changes) = texts_put_before_line n changes

-- what these changes leave of the line with this number: the line, or the text that replaces it, or nothing
abbrev pub line_after_changes : ℕ → List LineChange → List ℕ → List (List ℕ)
line_after_changes n [] line = line ∷ []
line_after_changes n (Put file at text ∷ changes) line = line_after_changes n changes line
line_after_changes n (Swap file at text ∷ changes) line = if at == n then text ∷ [] else line_after_changes n changes line
line_after_changes n (Take file at ∷ changes) line = if at == n then [] else line_after_changes n changes line

-- these lines, the first of which has the number n, after the changes: before each line the texts that are put there, then what is left
-- of the line, and at the end the texts that are put there
abbrev pub lines_changed_from_number : ℕ → List LineChange → List (List ℕ) → List (List ℕ)
lines_changed_from_number n changes [] = texts_put_before_line n changes
lines_changed_from_number n changes (line ∷ lines) = texts_put_before_line n changes ++ (line_after_changes n changes line ++ lines_changed_from_number (n + 1) changes lines)

-- the lines after the changes
abbrev pub lines_after_changes : List LineChange → List (List ℕ) → List (List ℕ)
lines_after_changes changes lines = lines_changed_from_number 0 changes lines

-- the place of a change
abbrev pub line_number_of_change : LineChange → ℕ
line_number_of_change (Put file at text) = at
line_number_of_change (Swap file at text) = at
line_number_of_change (Take file at) = at

-- the first place that a change after it may have
abbrev pub min_line_number_after_change : LineChange → ℕ
min_line_number_after_change (Put file at text) = at
min_line_number_after_change (Swap file at text) = at + 1
min_line_number_after_change (Take file at) = at + 1

-- The places of the changes ascend from the number n on, among so many lines. At a place, what is put there comes first, and the line is
-- replaced or taken out once.
abbrev pub AreChangesInOrder : ℕ → List LineChange → ℕ → Type 0
AreChangesInOrder n [] count = n ≤ count
AreChangesInOrder n (change ∷ changes) count = (n ≤ line_number_of_change change) × AreChangesInOrder (min_line_number_after_change change) changes count

-- the text that a change brings
abbrev pub text_of_change : LineChange → Option (List ℕ)
text_of_change (Put file at text) = Some text
text_of_change (Swap file at text) = Some text
text_of_change (Take file at) = None

-- the number of the file whose lines a change is of
abbrev pub file_number_of_change : LineChange → ℕ
file_number_of_change (Put file at text) = file
file_number_of_change (Swap file at text) = file
file_number_of_change (Take file at) = file

-- the texts that these changes bring
abbrev pub texts_of_changes : List LineChange → List (List ℕ)
texts_of_changes changes = flat_map (λ change. option_to_list (text_of_change change)) changes
