-- The name of the host in the name of an included file.
use Rattle.std.specs.Prelude.{ℕ, ◌==◌, ◌&&◌, ◌||◌, Bool, false, List, [], ◌∷◌}
use Rattle.sudoers_grammar.specs.Piece.{has_first_byte}

-- `%h`, for which sudo writes the name of the host
abbrev pub has_host_mark : List ℕ → Bool
has_host_mark [] = false
has_host_mark (b ∷ rest) = (b == 37 && has_first_byte 104 rest) || has_host_mark rest
