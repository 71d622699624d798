-- The tokens that a cursor shows, by where they come from.
use Rattle.std.specs.Prelude.{List, [], ◌∷◌, map, Bool, true, false}
use Rattle.sudoers_grammar.specs.declared.token_with_text.TokenWithText.{TokenWithText}
use Rattle.sudoers_grammar.specs.Piece.{TokenWithBytes, tokens_with_bytes}
use Rattle.sudoers_grammar.specs.Seen.{model_of_token_part}
use Rattle.sudoers_line_reader.specs.declared.cursor.TokenSource.{TokenSource}
use Rattle.sudoers_line_reader.specs.declared.cursor.TokenSource.TheVariants as source

-- the tokens that a source still has
abbrev pub tokens_of_source : TokenSource → List TokenWithBytes
tokens_of_source (source.Line left) = tokens_with_bytes left.line left.tokens
tokens_of_source (source.List tokens) = map model_of_token_part tokens.now

-- the next token, if one is left, and those behind it
abbrev pub tokens_from_next : Bool → TokenWithText → List TokenWithBytes → List TokenWithBytes
tokens_from_next false token behind = []
tokens_from_next true token behind = model_of_token_part token ∷ behind
