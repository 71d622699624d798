-- A device of the proof, which no public contract cites: a token, and what may stand behind it.
use Rattle.std.specs.Prelude.{◌≡◌, ◌≤◌, ◌+◌, ℕ, Bool, List, length, take, drop}
use Rattle.sudoers_text.specs.declared.context.TokenContext.{TokenContext}
use Rattle.sudoers_text.specs.declared.plain_tokens.TokenAndContextBehind.{TokenAndContextBehind}
use Rattle.sudoers_text.specs.Context.{token_forms_in_context, context_after_token}
use Rattle.sudoers_text.specs.Token.{units_left_of_place}
use Rattle.sudoers_text.specs.Found.{kind_and_size_of_token, kind_and_size_after_units}

-- It begins the bytes, where an ID may begin or not, and where the line has begun or not.
pub record IsTokenWithContextBehind (here : TokenContext) (token : TokenAndContextBehind) (item first : Bool) (bytes : List ℕ) : Type 0 where
  pub found : (token.kind, token.len) ≡ kind_and_size_of_token (token_forms_in_context here) item first bytes
  pub within : token.len ≤ length bytes
  pub behind : token.behind ≡ context_after_token here token.kind (take token.len bytes) (drop token.len bytes)

-- It stands at this place of the line.
pub record IsTokenOfLineAt (line : List ℕ) (here : TokenContext) (start : ℕ) (token : TokenAndContextBehind) : Type 0 where
  pub found : (token.kind, token.len) ≡ kind_and_size_after_units (token_forms_in_context here) (units_left_of_place line start) (drop start line)
  pub within : start + token.len ≤ length line
  pub behind : token.behind ≡ context_after_token here token.kind (take token.len (drop start line)) (drop token.len (drop start line))
