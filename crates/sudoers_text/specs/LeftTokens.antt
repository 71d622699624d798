-- The tokens that are left of a line.
use Rattle.std.specs.Prelude.{ℕ, List}
use Rattle.sudoers_text.specs.declared.token.Token.{Token}

-- a line, and those of its tokens that were not taken yet
pub record LeftTokens : Type 0 where
  pub line : List ℕ
  pub tokens : List Token
