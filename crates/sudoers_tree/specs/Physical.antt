-- Where bytes stand in the physical lines of a text.
use Rattle.std.specs.Prelude.{ℕ, ◌+◌, ◌==◌, if◌then◌else◌, List, [], ◌∷◌}
use Rattle.sudoers_text.specs.Fault.{lf_count}

-- the number of the physical line after these bytes, from 1
abbrev pub physical_line_after_bytes : List ℕ → ℕ
physical_line_after_bytes bytes = lf_count bytes + 1

-- how many bytes stand behind the last LF of these, where so many stand before them
abbrev pub byte_count_after_last_lf : ℕ → List ℕ → ℕ
byte_count_after_last_lf n [] = n
byte_count_after_last_lf n (b ∷ bytes) = if b == 10 then byte_count_after_last_lf 0 bytes else byte_count_after_last_lf (n + 1) bytes

-- the column of the byte after these, from 1
abbrev pub column_behind : List ℕ → ℕ
column_behind bytes = byte_count_after_last_lf 0 bytes + 1
