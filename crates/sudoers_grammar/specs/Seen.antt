-- What a part of a line says, without where its text lies in memory.
use Rattle.std.specs.Prelude.{ℕ, List, Option, Some, None}
use Rattle.std.specs.Borrow.{Bor}
use Rattle.sudoers_grammar.specs.declared.token_with_text.TokenWithText.{TokenWithText}
use Rattle.sudoers_grammar.specs.Piece.{TokenWithBytes}

abbrev pub model_of_token_part : TokenWithText → TokenWithBytes
model_of_token_part part = record { kind = part.kind; text = part.text.now; start = part.start; stop = part.stop; last = part.last }

-- two parts of a text
abbrev pub model_of_split_parts : Option (Bor (List ℕ) × Bor (List ℕ)) → Option (List ℕ × List ℕ)
model_of_split_parts None = None
model_of_split_parts (Some parts) = Some (parts.0.now, parts.1.now)
