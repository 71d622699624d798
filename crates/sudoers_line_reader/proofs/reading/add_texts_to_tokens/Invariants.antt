use Rattle.std.proofs.Common.{◌≡◌, ◌++◌, map, drop}
use Rattle.sudoers_grammar.specs.Piece.{tokens_with_bytes}
use Rattle.sudoers_grammar.specs.Seen.{model_of_token_part}
use Rattle.sudoers_line_reader.proofs.reading.add_texts_to_tokens.Given as goal

abbrev pub invariant-loop-token : goal.invariant-loop-token
invariant-loop-token l = map model_of_token_part l.parts.items ++ tokens_with_bytes l.line (drop l.token-index l.tokens) ≡ tokens_with_bytes l.line l.tokens
