-- What one line says, and its first fault.
use Rattle.std.specs.Prelude.{◌≡◌, ℕ, ◌-◌, List, [], ◌∷◌, length, take, Result, Ok, Err, if◌then◌else◌}
use Rattle.sudoers_text.specs.declared.token.Token.{Token}
use Rattle.sudoers_text.specs.Token.{HasTokens}
use Rattle.sudoers_text.specs.LineMode.{line_mode}
use Rattle.sudoers_grammar.specs.declared.fault.Why.{Why}
use Rattle.sudoers_grammar.specs.declared.fault.LineFault.{LineFault}
use Rattle.sudoers_grammar.specs.declared.fault.LineFault.TheVariants.{Syntax, NoMemory}
use Rattle.sudoers_grammar.specs.Node.{Node}
use Rattle.sudoers_grammar.specs.Piece.{TokenWithBytes, tokens_with_bytes, has_last_byte}
use Rattle.sudoers_grammar.specs.Grammar.{Reads}
use Rattle.sudoers_grammar.specs.Fault.{IsFirstSyntaxFault}

-- The line says this: it is what its tokens say.
pub record LineReadsAsNode (line : List ℕ) (n : Node) : Type 0 where
  pub tokens : List Token
  pub has : HasTokens (line_mode line) line tokens
  pub reads : Reads (tokens_with_bytes line tokens) n

-- how many bytes the line end has with which the line ends
abbrev pub line_end_size_at_end : List ℕ → ℕ
line_end_size_at_end line =
    if has_last_byte 10 line then (if has_last_byte 13 (take (length line - 1) line) then 2 else 1) else 0

-- where a line has ended: at its line end, or at the end of its bytes
abbrev pub line_stop_before_line_end : List ℕ → ℕ
line_stop_before_line_end line = length line - line_end_size_at_end line

-- where the first of these tokens begins, or else here
abbrev pub first_token_start_or : ℕ → List TokenWithBytes → ℕ
first_token_start_or stop [] = stop
first_token_start_or stop (t ∷ ts) = t.start

-- The first fault of the line is at this byte, with this cause.
pub record IsLineSyntaxFault (line : List ℕ) (at : ℕ) (w : Why) : Type 0 where
  pub tokens : List Token
  pub has : HasTokens (line_mode line) line tokens
  pub rest : List TokenWithBytes
  pub first : IsFirstSyntaxFault (tokens_with_bytes line tokens) rest w
  pub place : at ≡ first_token_start_or (line_stop_before_line_end line) rest

-- The line has a first fault.
abbrev pub HasSyntaxFault : List ℕ → Type 0
HasSyntaxFault line = (at : ℕ) × (w : Why) × IsLineSyntaxFault line at w

-- What is answered where the line says this: this, but that memory may run out.
abbrev pub ReturnsNodeOrNoMemory : Result Node LineFault → Node → Type 0
ReturnsNodeOrNoMemory (Ok m) n = m ≡ n
ReturnsNodeOrNoMemory (Err (Syntax at w)) n = ⊥
ReturnsNodeOrNoMemory (Err NoMemory) n = Unit {0}

-- What is answered where this is the line's first fault: it, but that memory may run out.
abbrev pub ReturnsFaultOrNoMemory : Result Node LineFault → ℕ → Why → Type 0
ReturnsFaultOrNoMemory (Ok m) at w = ⊥
ReturnsFaultOrNoMemory (Err (Syntax a v)) at w = (a ≡ at) × (v ≡ w)
ReturnsFaultOrNoMemory (Err NoMemory) at w = Unit {0}

-- a fault of a line
abbrev pub IsFaultOfLine : List ℕ → LineFault → Type 0
IsFaultOfLine line (Syntax at w) = IsLineSyntaxFault line at w
IsFaultOfLine line NoMemory = Unit {0}
