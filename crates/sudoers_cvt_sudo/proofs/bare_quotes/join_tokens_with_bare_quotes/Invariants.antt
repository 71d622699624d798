use Rattle.std.proofs.Common.{◌≡◌, ◌≤◌, ◌++◌, drop, length}
use Rattle.sudoers_grammar.specs.Piece.{tokens_with_bytes}
use Rattle.sudoers_cvt_sudo.specs.Quotes.{rest_with_bare_quotes}
use Rattle.sudoers_cvt_sudo.proofs.bare_quotes.join_tokens_with_bare_quotes.Given as goal

-- What is so far, and what is still to come.
abbrev pub invariant-loop-token : goal.invariant-loop-token
invariant-loop-token l = record {
  inside : l.at ≤ length l.line;
  whole : l.bare.items ++ rest_with_bare_quotes l.line l.at (tokens_with_bytes l.line (drop l.token-index l.tokens)) ≡ rest_with_bare_quotes l.line 0 (tokens_with_bytes l.line l.tokens);
}
