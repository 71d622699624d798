-- How the code reads a run of plain bytes at once: a device of the proof, that no public contract cites.
use Rattle.std.specs.Prelude.{ℕ, Bool, not, ◌||◌, ◌==◌, List, [], ◌∷◌, if◌then◌else◌}
use Rattle.sudoers_text.specs.Unit.{is_blank, is_sign_byte_before_id, is_comma_colon_or_equals}

-- Wherever it stands behind a line's beginning the byte is a unit of its own, and what stands left of it is not asked for:
-- it is none of LF, CR, `\`, `"`, `#` and `>`.
abbrev pub is_plain_unit_byte : ℕ → Bool
is_plain_unit_byte b = not (b == 10 || b == 13 || b == 92 || b == 34 || b == 35 || b == 62)

-- the plain bytes up to the first that is none
abbrev pub plain_prefix_of_bytes : List ℕ → List ℕ
plain_prefix_of_bytes [] = []
plain_prefix_of_bytes (b ∷ rest) = if is_plain_unit_byte b then b ∷ plain_prefix_of_bytes rest else []

-- an ID may begin behind the byte where it may before it
abbrev pub is_blank_or_sign_byte : ℕ → Bool
is_blank_or_sign_byte b = is_blank b || is_sign_byte_before_id b

-- An ID may begin behind plain bytes. item: it may before them.
abbrev pub is_id_position_after_run : Bool → List ℕ → Bool
is_id_position_after_run item [] = item
is_id_position_after_run item (b ∷ run) = is_id_position_after_run (if is_blank_or_sign_byte b then item else is_comma_colon_or_equals b) run
