use Rattle.std.proofs.Common.{◌≡◌, ◌++◌, length, All}
use Rattle.sudoers_text.specs.Token.{IsTokenWithinLine}
use Rattle.sudoers_text.specs.Found.{tokens_of_line}
use Rattle.sudoers_text.proofs.line_tokens.tokens.Given as goal

abbrev pub invariant-loop-token : goal.invariant-loop-token
invariant-loop-token l = record {
  line : l.left.line ≡ l.line;
  all : l.tokens.items ++ l.left.tokens ≡ tokens_of_line l.fn.mode l.line;
  each : All (IsTokenWithinLine (length l.line)) l.tokens.items;
}

abbrev pub decreases-loop-token : goal.decreases-loop-token
decreases-loop-token l = length l.left.tokens
