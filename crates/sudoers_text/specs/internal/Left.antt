-- A device of the proof, which no public contract cites: what the code keeps of the units left of a place.
use Rattle.std.specs.Prelude.{◌≡◌, ◌≤◌, ◌-◌, ◌==◌, ◌||◌, not, ℕ, Bool, true, false, List, [], ◌∷◌, ◌++◌, ◌+◌, drop, length, slice_range, Option, Some, None}
use Rattle.sudoers_text.specs.Unit.{LineUnit, Continuation, Pair, Quoted, Comment, Byte, bytes_of_unit, is_id_position_after_units, bytes_of_units_after_leading_gap, is_empty}
use Rattle.sudoers_text.specs.Line.{has_open_last_unit}
use Rattle.sudoers_text.specs.declared.text_units.LeftContext.{LeftContext}
use Rattle.sudoers_text.specs.declared.text_units.TextUnit.{TextUnit as Piece}
use Rattle.sudoers_text.specs.declared.text_units.TextUnit.TheVariants.{Continuation as a_continuation, Pair as a_pair, Quoted as a_quoted, Comment as a_comment, Byte as a_byte}

-- a unit without where it lies in memory
abbrev pub model_of_unit : Piece → LineUnit
model_of_unit (a_continuation crlf) = Continuation crlf
model_of_unit (a_pair b) = Pair b
model_of_unit (a_quoted bytes) = Quoted bytes.now
model_of_unit (a_comment bytes) = Comment bytes.now
model_of_unit (a_byte b) = Byte b

abbrev pub model_of_unit_option : Option Piece → Option LineUnit
model_of_unit_option None = None
model_of_unit_option (Some u) = Some (model_of_unit u)

-- It tells what these units tell.
pub record LeftAgreesWithUnits (left : LeftContext) (before : List LineUnit) : Type 0 where
  pub item : left.item ≡ is_id_position_after_units before
  pub first : (left.begun == 0) ≡ is_empty (bytes_of_units_after_leading_gap before)

-- At this place of the text these units stand left.
pub record LeftDescribesUnits (text : List ℕ) (at : ℕ) (left : LeftContext) (before : List LineUnit) : Type 0 where
  pub item : left.item ≡ is_id_position_after_units before
  pub continues : at ≡ length text → left.continues ≡ has_open_last_unit before
  pub within : left.begun ≤ at
  pub size : length (bytes_of_units_after_leading_gap before) ≡ left.begun
  pub begins : bytes_of_units_after_leading_gap before ≡ slice_range text (at - left.begun) at

-- The unit's bytes stand at this place of the text.
pub record UnitStandsAt (text : List ℕ) (at : ℕ) (unit : LineUnit) : Type 0 where
  pub inside : at ≤ length text
  pub reads : drop at text ≡ bytes_of_unit unit ++ drop (at + length (bytes_of_unit unit)) text

-- the last byte is neither a backslash nor a CR, so that it is the last of a unit whatever follows
abbrev pub ends_without_backslash_or_cr : List ℕ → Bool
ends_without_backslash_or_cr [] = true
ends_without_backslash_or_cr (b ∷ []) = not (b == 92 || b == 13)
ends_without_backslash_or_cr (b ∷ c ∷ rest) = ends_without_backslash_or_cr (c ∷ rest)

-- `#` or `%` begins the bytes
abbrev pub has_leading_hash_or_percent : List ℕ → Bool
has_leading_hash_or_percent [] = false
has_leading_hash_or_percent (b ∷ rest) = b == 35 || b == 37
