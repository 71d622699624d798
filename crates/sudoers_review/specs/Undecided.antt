-- The rows of which it is not decided whether a later one covers them, as they are counted.
use Rattle.std.specs.Prelude.{◌≡◌, List, [], ◌∷◌, length, slice_get, Some}
use Rattle.sudoers_compare.specs.FlatSpecs.{PlacedRow}
use Rattle.sudoers_review.specs.declared.overruled.UndecidedRows.{UndecidedRows}

-- Of all rows these are left: so many, and the first has this number.
abbrev pub AreCountedRows : List PlacedRow → UndecidedRows → List PlacedRow → Type 0
AreCountedRows all counted [] = counted.count ≡ 0
AreCountedRows all counted (first ∷ others) = (counted.count ≡ length (first ∷ others)) × (slice_get all counted.first ≡ Some first)
