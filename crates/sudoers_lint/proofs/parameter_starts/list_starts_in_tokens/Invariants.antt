use Rattle.std.proofs.Common.{◌≡◌, ◌++◌, drop, None}
use Rattle.sudoers_grammar.specs.Piece.{tokens_with_bytes}
use Rattle.sudoers_lint.specs.ParameterStarts.{parameter_starts_in_tokens}
use Rattle.sudoers_lint.proofs.parameter_starts.list_starts_in_tokens.Given as goal

-- The places so far, and those among the tokens still to come.
abbrev pub invariant-loop-token : goal.invariant-loop-token
invariant-loop-token l =
    l.starts.items ++ parameter_starts_in_tokens l.sign (tokens_with_bytes l.text (drop l.token-index l.tokens))
    ≡ parameter_starts_in_tokens None (tokens_with_bytes l.text l.tokens)
