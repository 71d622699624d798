-- A device of the proof, which no public contract cites: what the code keeps of what stands left of a place.
use Rattle.std.specs.Prelude.{◌≡◌, ◌≤◌, ℕ, List, true, length, take}
use Rattle.sudoers_text.specs.declared.tokenizing.LeftContextAtOffset.{LeftContextAtOffset}
use Rattle.sudoers_text.specs.internal.Left.{LeftDescribesUnits, ends_without_backslash_or_cr}
use Rattle.sudoers_text.specs.Token.{units_left_of_place}

-- It knows what stands left of its place, and there stands no backslash and no CR.
pub record DescribesLeftAtOffset (line : List ℕ) (reached : LeftContextAtOffset) : Type 0 where
  pub knows : LeftDescribesUnits line reached.at reached.left (units_left_of_place line reached.at)
  pub apart : ends_without_backslash_or_cr (take reached.at line) ≡ true

-- It knows this of a place of the line that is not behind the offset.
pub record HasReachedOffset (line : List ℕ) (reached : LeftContextAtOffset) (at : ℕ) : Type 0 where
  pub inside : at ≤ length line
  pub below : reached.at ≤ at
  pub knows : DescribesLeftAtOffset line reached
