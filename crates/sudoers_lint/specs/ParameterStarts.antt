-- Where the parameters of a Defaults line begin.
use Rattle.std.specs.Prelude.{ℕ, List, [], ◌∷◌, ◌++◌, Option, Some, None, if◌then◌else◌}
use Rattle.std.specs.Option.{unwrap_or}
use Rattle.sudoers_text.specs.Found.{tokens_of_line}
use Rattle.sudoers_text.specs.LineMode.{line_mode}
use Rattle.sudoers_grammar.specs.Piece.{TokenWithBytes, is_mark_of_byte, is_parameter_name_kind, tokens_with_bytes}

-- the first of the `!` that stand directly before what follows the token; `sign` is that before the token
abbrev pub first_sign_behind : Option ℕ → TokenWithBytes → Option ℕ
first_sign_behind sign t = if is_mark_of_byte 33 t then Some (unwrap_or sign t.start) else None

-- of the name of a parameter the place where the parameter begins: that of its first `!`, or its own
abbrev pub start_if_parameter_name : Option ℕ → TokenWithBytes → List ℕ
start_if_parameter_name sign t = if is_parameter_name_kind t.kind then unwrap_or sign t.start ∷ [] else []

-- where the parameters begin whose names are among these tokens, in their order; `sign` is the first of the `!` directly before them
abbrev pub parameter_starts_in_tokens : Option ℕ → List TokenWithBytes → List ℕ
parameter_starts_in_tokens sign [] = []
parameter_starts_in_tokens sign (t ∷ ts) = start_if_parameter_name sign t ++ parameter_starts_in_tokens (first_sign_behind sign t) ts

-- where the parameters of the line with this text begin, in their order
abbrev pub parameter_starts : List ℕ → List ℕ
parameter_starts text = parameter_starts_in_tokens None (tokens_with_bytes text (tokens_of_line (line_mode text) text))
