-- A device of the proof, which no public contract cites: texts without where they lie in memory.
use Rattle.std.specs.Prelude.{ℕ, List, map}
use Rattle.std.specs.Borrow.{Bor}

abbrev pub texts_of_view : List (Bor (List ℕ)) → List (List ℕ)
texts_of_view texts = map (λ (text : Bor (List ℕ)). text.now) texts
