-- A device of the proof, which no public contract cites: the bytes with which the words begin that choose a line's mode.
use Rattle.std.specs.Prelude.{ℕ, ◌==◌, ◌||◌, Bool, false, List, [], ◌∷◌}

-- `#`, `@`, `D`, `H`, `R` and `U`, as of `#include`, `@include`, `Defaults`, `Host_Alias`, `Runas_Alias` and `User_Alias`
abbrev pub has_first_byte_of_mode_word : List ℕ → Bool
has_first_byte_of_mode_word [] = false
has_first_byte_of_mode_word (b ∷ rest) = b == 35 || b == 64 || b == 68 || b == 72 || b == 82 || b == 85
