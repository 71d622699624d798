-- A device of the proofs, which no public contract cites: what changes of lines make of them, the first before the others.
use Rattle.std.specs.Prelude.{◌≡◌, ℕ, ◌+◌, ◌-◌, List, [], ◌∷◌, ◌++◌, length, take, drop, option_to_list}
use Rattle.sudoers_tree.specs.Changed.{lines_changed_from_number, line_number_of_change, min_line_number_after_change, text_of_change, AreChangesInOrder}
use Rattle.sudoers_tree.specs.declared.line_change.LineChange.{LineChange}
use Rattle.sudoers_edit.specs.Landing.{LineTexts}

-- without changes the lines stay
abbrev pub NoChangesLaw : Type 0
NoChangesLaw = (n : ℕ) (lines : LineTexts) → lines_changed_from_number n [] lines ≡ lines

-- the first change is made, and the others of the lines behind it
abbrev pub FirstChangeLaw : Type 0
FirstChangeLaw = (n : ℕ) (change : LineChange) (changes : List LineChange) (lines : LineTexts) → AreChangesInOrder n (change ∷ changes) (n + length lines)
    → lines_changed_from_number n (change ∷ changes) lines
    ≡ take (line_number_of_change change - n) lines ++ (option_to_list (text_of_change change) ++ lines_changed_from_number (min_line_number_after_change change) changes (drop (min_line_number_after_change change - n) lines))
