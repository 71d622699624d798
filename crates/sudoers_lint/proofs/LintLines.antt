-- The parts of a line, joined one by one.
use Rattle.std.proofs.Common.{◌≡◌, ℕ, List, ◌++◌}
use Rattle.std.proofs.lemmas.List.{append_assoc}

pub eight_parts_are_grouped : (o a b c d e f g h : List ℕ)
    → (((((((o ++ a) ++ b) ++ c) ++ d) ++ e) ++ f) ++ g) ++ h ≡ o ++ (a ++ b ++ c ++ d ++ e ++ f ++ g ++ h)
eight_parts_are_grouped o a b c d e f g h = simp append_assoc
