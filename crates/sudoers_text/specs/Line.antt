-- Logical lines.
use Rattle.std.specs.Prelude.{◌≡◌, ℕ, Bool, true, false, ◌==◌, ◌||◌, List, [], ◌∷◌, ◌++◌}
use Rattle.sudoers_text.specs.Ended.{ends_in_lf}
use Rattle.sudoers_text.specs.Unit.{LineUnit, Continuation, Pair, Quoted, Comment, Byte, bytes_of_reversed_units, AreUnitsBefore}

-- How a line of these units ends before this text: by LF or CR LF, or, at the text's end, behind one or more units.
pub data IsLineEndingOrTextEnd : List LineUnit → List ℕ → List ℕ → Type 0 where
  by_lf : {units : List LineUnit} {rest : List ℕ} → IsLineEndingOrTextEnd units (10 ∷ []) rest
  by_crlf : {units : List LineUnit} {rest : List ℕ} → IsLineEndingOrTextEnd units (13 ∷ 10 ∷ []) rest
  at_end : {u : LineUnit} {units : List LineUnit} → IsLineEndingOrTextEnd (u ∷ units) [] []

-- line is a logical line, where rest is what follows it
pub record IsLogicalLineBefore (line rest : List ℕ) : Type 0 where
  pub units : List LineUnit
  pub ending : List ℕ
  pub text : line ≡ bytes_of_reversed_units units ++ ending
  pub each : AreUnitsBefore units (ending ++ rest)
  pub ends : IsLineEndingOrTextEnd units ending rest

abbrev pub join : List (List ℕ) → List ℕ
join [] = []
join (line ∷ lines) = line ++ join lines

-- each of the lines is a logical line before the next ones
abbrev pub AreLogicalLines : List (List ℕ) → Type 0
AreLogicalLines [] = Unit {0}
AreLogicalLines (line ∷ lines) = IsLogicalLineBefore line (join lines) × AreLogicalLines lines

-- The lines are the logical lines of the text.
pub record AreLinesOfText (text : List ℕ) (lines : List (List ℕ)) : Type 0 where
  pub joined : join lines ≡ text
  pub each : AreLogicalLines lines

-- the last byte is a backslash that is in no pair
abbrev pub ends_in_unpaired_backslash : Bool → List ℕ → Bool
ends_in_unpaired_backslash behind_backslash [] = behind_backslash
ends_in_unpaired_backslash true (b ∷ rest) = ends_in_unpaired_backslash false rest
ends_in_unpaired_backslash false (b ∷ rest) = ends_in_unpaired_backslash (b == 92) rest

-- the last unit is a continuation, or a backslash alone, or a quoted part that ends in one of these, where a last LF is
-- that of a continuation
abbrev pub has_open_last_unit : List LineUnit → Bool
has_open_last_unit [] = false
has_open_last_unit (Continuation _ ∷ _) = true
has_open_last_unit (Pair _ ∷ _) = false
has_open_last_unit (Quoted bytes ∷ _) = ends_in_lf bytes || ends_in_unpaired_backslash false bytes
has_open_last_unit (Comment _ ∷ _) = false
has_open_last_unit (Byte b ∷ _) = b == 92

-- a line without line end, that ends in a continuation or in a lone backslash
pub record IsUnfinishedLine (line : List ℕ) : Type 0 where
  pub units : List LineUnit
  pub text : line ≡ bytes_of_reversed_units units
  pub each : AreUnitsBefore units []
  pub last : has_open_last_unit units ≡ true
