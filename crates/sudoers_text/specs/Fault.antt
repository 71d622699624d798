-- The faults of a text, and which comes first.
use Rattle.std.specs.Prelude.{◌≡◌, ℕ, ◌+◌, ◌<◌, ◌≤◌, ◌⊎◌, ◌==◌, List, [], ◌∷◌, ◌++◌, length, Some, slice_get, Result, Ok, Err}
use Rattle.std.specs.List.{count_by}
use Rattle.sudoers_text.specs.Line.{join, AreLinesOfText, IsUnfinishedLine}
use Rattle.sudoers_text.specs.declared.fault.TextFault.{TextFault}
use Rattle.sudoers_text.specs.declared.fault.TextFault.TheVariants.{TooLarge, LineTooLong, Nul, OpenContinuation, NoMemory}

-- how many bytes a text and a line may have
abbrev pub text_limit : ℕ
text_limit = 1048576

abbrev pub line_limit : ℕ
line_limit = 65536

abbrev pub lf_count : List ℕ → ℕ
lf_count text = count_by (λ b. b == 10) text

-- A line is too long. Its fault stands at the first byte past the limit, and its number is that of the physical
-- line on which it begins, from 1.
pub record IsTooLongLine (lines : List (List ℕ)) (number at : ℕ) : Type 0 where
  pub before : List (List ℕ)
  pub line : List ℕ
  pub after : List (List ℕ)
  pub place : lines ≡ before ++ line ∷ after
  pub long : line_limit < length line
  pub at_limit : at ≡ length (join before) + line_limit
  pub numbered : number ≡ lf_count (join before) + 1

-- The last line ends in a continuation or in a lone backslash.
pub record LastLineIsUnfinished (lines : List (List ℕ)) : Type 0 where
  pub before : List (List ℕ)
  pub last : List ℕ
  pub place : lines ≡ before ++ last ∷ []
  pub unfinished : IsUnfinishedLine last

-- The fault stands at this byte of a text of these lines.
abbrev pub HasFaultAt : List (List ℕ) → TextFault → ℕ → Type 0
HasFaultAt lines TooLarge at = ⊥
HasFaultAt lines (LineTooLong number) at = IsTooLongLine lines number at
HasFaultAt lines (Nul byte) at = (at ≡ byte) × (slice_get (join lines) byte ≡ Some 0)
HasFaultAt lines OpenContinuation at = (at ≡ length (join lines)) × LastLineIsUnfinished lines
HasFaultAt lines NoMemory at = ⊥

-- at one byte a line's length counts first
abbrev pub rank_of_fault : TextFault → ℕ
rank_of_fault (LineTooLong _) = 0
rank_of_fault TooLarge = 1
rank_of_fault (Nul _) = 1
rank_of_fault OpenContinuation = 1
rank_of_fault NoMemory = 1

-- a fault at the first place comes no later than the other at the second
abbrev pub FaultStandsNoLater : TextFault → ℕ → TextFault → ℕ → Type 0
FaultStandsNoLater fault at other place = (at < place) ⊎ ((at ≡ place) × (rank_of_fault fault ≤ rank_of_fault other))

-- the first fault of a text of these lines
pub record IsFirstFaultOfLines (lines : List (List ℕ)) (fault : TextFault) : Type 0 where
  pub at : ℕ
  pub stands : HasFaultAt lines fault at
  pub first : (other : TextFault) (place : ℕ) → HasFaultAt lines other place → FaultStandsNoLater fault at other place

-- The lines are those of the text, and nothing is wrong with it.
pub record IsFaultlessCut (text : List ℕ) (lines : List (List ℕ)) : Type 0 where
  pub fits : length text ≤ text_limit
  pub cuts : AreLinesOfText text lines
  pub sound : (fault : TextFault) (at : ℕ) → HasFaultAt lines fault at → ⊥

-- what is wrong with a text that is not too large
pub record HasFirstFaultInLines (text : List ℕ) (fault : TextFault) : Type 0 where
  pub fits : length text ≤ text_limit
  pub lines : List (List ℕ)
  pub cuts : AreLinesOfText text lines
  pub first : IsFirstFaultOfLines lines fault

-- This is the fault with which the text is refused. Want of memory is none of the text.
abbrev pub IsFaultOfText : List ℕ → TextFault → Type 0
IsFaultOfText text TooLarge = text_limit < length text
IsFaultOfText text (LineTooLong line) = HasFirstFaultInLines text (LineTooLong line)
IsFaultOfText text (Nul at) = HasFirstFaultInLines text (Nul at)
IsFaultOfText text OpenContinuation = HasFirstFaultInLines text OpenContinuation
IsFaultOfText text NoMemory = ⊥

-- the lines of a text with which nothing is wrong, or the fault with which it is refused
abbrev pub IsOutcomeOfCut : List ℕ → Result (List (List ℕ)) TextFault → Type 0
IsOutcomeOfCut text (Ok lines) = IsFaultlessCut text lines
IsOutcomeOfCut text (Err fault) = IsFaultOfText text fault
