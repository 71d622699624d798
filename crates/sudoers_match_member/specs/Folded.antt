-- Bytes as they are, or with ASCII letters in lower case.
use Rattle.std.specs.Prelude.{ℕ, ◌+◌, Bool, true, false, List, map, if◌then◌else◌}
use Rattle.sudoers_match_member.specs.Class.{is_upper}

unfoldable pub byte_case_folded_if_wanted : Bool → ℕ → ℕ
byte_case_folded_if_wanted true b = if is_upper b then b + 32 else b
byte_case_folded_if_wanted false b = b

abbrev pub bytes_case_folded_if_wanted : Bool → List ℕ → List ℕ
bytes_case_folded_if_wanted lower bytes = map (byte_case_folded_if_wanted lower) bytes
