-- What the cut of a text gives, as a function that computes. Of its own it defines nothing: that it gives the lines or the
-- first fault, as these are defined, is a law (`cut_is`), and that there is no other outcome is one too (`one_outcome`).
use Rattle.std.specs.Prelude.{◌≡◌, ℕ, zero, suc, ◌+◌, Bool, ◌&&◌, ◌==◌, nat_lt, if◌then◌else◌, List, [], ◌∷◌, length, take, drop, position, Option, None, Some, Result, Ok, Err}
use Rattle.std.specs.Option.{option_map, option_map_or}
use Rattle.sudoers_text.specs.Unit.{LineUnit, bytes_of_unit, bytes_of_reversed_units, unit_at, line_end_size}
use Rattle.sudoers_text.specs.Line.{has_open_last_unit}
use Rattle.sudoers_text.specs.Fault.{text_limit, line_limit, lf_count}
use Rattle.sudoers_text.specs.declared.fault.TextFault.{TextFault}
use Rattle.sudoers_text.specs.declared.fault.TextFault.TheVariants.{TooLarge, LineTooLong, Nul, OpenContinuation, NoMemory}

-- The units from a place on, up to the first place where none begins, the last one first; before: those left of the
-- place; most: look no further than so many.
unfoldable pub reversed_units_from_place : ℕ → List LineUnit → List ℕ → List LineUnit
reversed_units_from_place zero before text = before
reversed_units_from_place (suc most) before text =
    option_map_or (λ u. reversed_units_from_place most (u ∷ before) (drop (length (bytes_of_unit u)) text)) (unit_at before text) before

-- the units of the first line of a text
unfoldable pub units_of_first_line : List ℕ → List LineUnit
units_of_first_line text = reversed_units_from_place (length text) [] text

-- how many bytes these have
unfoldable pub size_of_first_line_units : List ℕ → ℕ
size_of_first_line_units text = length (bytes_of_reversed_units (units_of_first_line text))

-- how many bytes the first line of a text has
unfoldable pub first_line_size : List ℕ → ℕ
first_line_size text = size_of_first_line_units text + line_end_size (drop (size_of_first_line_units text) text)

-- the lines of a text, no more than so many
unfoldable pub first_lines_up_to_count : ℕ → List ℕ → List (List ℕ)
first_lines_up_to_count zero text = []
first_lines_up_to_count (suc most) [] = []
first_lines_up_to_count (suc most) (b ∷ text) =
    take (first_line_size (b ∷ text)) (b ∷ text) ∷ first_lines_up_to_count most (drop (first_line_size (b ∷ text)) (b ∷ text))

unfoldable pub logical_lines_of_text : List ℕ → List (List ℕ)
logical_lines_of_text text = first_lines_up_to_count (length text) text

-- the line has no line end, and ends in a continuation or in a lone backslash
unfoldable pub is_unfinished_line : List ℕ → Bool
is_unfinished_line line = (line_end_size (drop (size_of_first_line_units line) line) == 0) && has_open_last_unit (units_of_first_line line)

-- the first of two
abbrev pub first_present_fault : Option TextFault → Option TextFault → Option TextFault
first_present_fault None other = other
first_present_fault (Some fault) other = Some fault

-- a NUL in the line's first bytes, or its length; number: the physical line on which it begins, at: its place
unfoldable pub fault_of_logical_line : ℕ → ℕ → List ℕ → Option TextFault
fault_of_logical_line number at line =
    first_present_fault (option_map (λ k. Nul (at + k)) (position (λ b. b == 0) (take line_limit line)))
    (if nat_lt line_limit (length line) then Some (LineTooLong number) else None)

-- the first fault of lines, of which the first begins on this physical line and at this place
unfoldable pub first_fault_of_lines : ℕ → ℕ → List (List ℕ) → Option TextFault
first_fault_of_lines number at [] = None
first_fault_of_lines number at (line ∷ []) =
    first_present_fault (fault_of_logical_line number at line) (if is_unfinished_line line then Some OpenContinuation else None)
first_fault_of_lines number at (line ∷ next ∷ lines) =
    first_present_fault (fault_of_logical_line number at line) (first_fault_of_lines (number + lf_count line) (at + length line) (next ∷ lines))

-- the outcome of a text: its lines, or its first fault
unfoldable pub cut_outcome_of_text : List ℕ → Result (List (List ℕ)) TextFault
cut_outcome_of_text text =
    if nat_lt text_limit (length text) then Err TooLarge
    else option_map_or (λ fault. Err fault) (first_fault_of_lines 1 0 (logical_lines_of_text text)) (Ok (logical_lines_of_text text))

-- what was returned is the outcome, unless memory ran out
abbrev pub IsOutcomeUnlessNoMemory : Result (List (List ℕ)) TextFault → Result (List (List ℕ)) TextFault → Type 0
IsOutcomeUnlessNoMemory (Ok lines) outcome = outcome ≡ Ok lines
IsOutcomeUnlessNoMemory (Err TooLarge) outcome = outcome ≡ Err TooLarge
IsOutcomeUnlessNoMemory (Err (LineTooLong line)) outcome = outcome ≡ Err (LineTooLong line)
IsOutcomeUnlessNoMemory (Err (Nul at)) outcome = outcome ≡ Err (Nul at)
IsOutcomeUnlessNoMemory (Err OpenContinuation) outcome = outcome ≡ Err OpenContinuation
IsOutcomeUnlessNoMemory (Err NoMemory) outcome = Unit {0}

-- Each of the lines is the one line of a text.
abbrev pub EachIsOneLineWhenCut : List (List ℕ) → Type 0
EachIsOneLineWhenCut [] = Unit {0}
EachIsOneLineWhenCut (line ∷ lines) = (cut_outcome_of_text line ≡ Ok (line ∷ [])) × EachIsOneLineWhenCut lines
