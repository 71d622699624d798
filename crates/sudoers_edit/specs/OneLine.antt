-- Texts that are one line.
use Rattle.std.specs.Prelude.{◌≡◌, ℕ, Bool, true, false, List, [], ◌∷◌, Result, Ok, Err}
use Rattle.sudoers_text.specs.Cut.{cut_outcome_of_text}
use Rattle.sudoers_text.specs.declared.fault.TextFault.{TextFault}

-- The text is the one line of itself.
abbrev pub SplitsIntoItselfAsOnlyLine : List ℕ → Type 0
SplitsIntoItselfAsOnlyLine text = cut_outcome_of_text text ≡ Ok (text ∷ [])

-- the cut gives exactly one line
abbrev pub is_cut_outcome_with_exactly_one_line : Result (List (List ℕ)) TextFault → Bool
is_cut_outcome_with_exactly_one_line (Ok []) = false
is_cut_outcome_with_exactly_one_line (Ok (line ∷ [])) = true
is_cut_outcome_with_exactly_one_line (Ok (line ∷ next ∷ lines)) = false
is_cut_outcome_with_exactly_one_line (Err fault) = false

abbrev pub is_one_logical_line : List ℕ → Bool
is_one_logical_line text = is_cut_outcome_with_exactly_one_line (cut_outcome_of_text text)
