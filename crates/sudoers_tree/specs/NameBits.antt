-- The bits of a name: a number with one or two bits, by its bytes.
use Rattle.std.specs.Prelude.{ℕ, ◌+◌, ◌*◌, ◌^◌, ◌/◌, ◌%◌, List, [], ◌∷◌}
use Rattle.std.specs.Int.Bits.{bit_or}

-- the sum of bytes after the sum `sum`
abbrev pub name_hash_after : ℕ → List ℕ → ℕ
name_hash_after sum [] = sum
name_hash_after sum (b ∷ bytes) = name_hash_after ((sum * 31 + b) % 65521) bytes

-- the bits of a name: two bits of 64, which may be the same
abbrev pub bits_of_name : List ℕ → ℕ
bits_of_name name = bit_or (2 ^ (name_hash_after 0 name % 64)) (2 ^ (name_hash_after 0 name / 64 % 64))
