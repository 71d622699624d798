-- What may stand behind the bytes of a line.
use Rattle.std.specs.Prelude.{◌≡◌, ◌⊎◌, ◌<◌, ◌+◌, ◌++◌, ◌&&◌, ◌==◌, ℕ, nat_lt, Bool, true, false, List, [], ◌∷◌, length, codes, Result, Ok, Err}
use Rattle.sudoers_grammar.specs.declared.fault.LineFault.{LineFault}
use Rattle.sudoers_grammar.specs.declared.fault.LineFault.TheVariants.{Syntax, NoMemory}
use Rattle.sudoers_grammar.specs.declared.fault.Why.{Why}
use Rattle.sudoers_grammar.specs.Node.{Node}
use Rattle.sudoers_grammar.specs.Line.{LineReadsAsNode, IsLineSyntaxFault}
use Rattle.sudoers_line_reader.specs.Outcome.{outcome_of_line}
use Rattle.sudoers_explain.specs.declared.expected_pieces.ExpectedPiece.{ExpectedPiece}
use Rattle.sudoers_explain.specs.declared.expected_pieces.ExpectedPiece.TheVariants as piece

-- a text of the piece, with a blank_of_byte before it where one is needed
abbrev pub sample_of_piece : ExpectedPiece → List ℕ
sample_of_piece piece.Name = codes " h"
sample_of_piece piece.Number = codes " #1"
sample_of_piece piece.Group = codes " %h"
sample_of_piece piece.Alias = codes " H"
sample_of_piece piece.All = codes " ALL"
sample_of_piece piece.Network = codes " 10.0.0.0/8"
sample_of_piece piece.Path = codes " /h"
sample_of_piece piece.Not = codes " !"
sample_of_piece piece.Equal = codes " ="
sample_of_piece piece.Comma = codes " ,"
sample_of_piece piece.Colon = codes " :"
sample_of_piece piece.Open = codes " ("
sample_of_piece piece.Close = codes " )"
sample_of_piece piece.Tag = codes " NOPASSWD:"
sample_of_piece piece.Scope = codes ":h"
sample_of_piece piece.Setting = 32 ∷ 67 ∷ 87 ∷ 68 ∷ 61 ∷ 34 ∷ 34 ∷ []
sample_of_piece piece.Digest = codes " sha224:"
sample_of_piece piece.Argument = codes " -h"
sample_of_piece piece.Adding = codes " +="
sample_of_piece piece.Quoted = 32 ∷ 34 ∷ 104 ∷ 32 ∷ 104 ∷ 34 ∷ []
sample_of_piece piece.Stamp = codes " 20300101000000Z"
sample_of_piece piece.End = []
sample_of_piece piece.Comment = codes " # h"

-- how many blanks stand before the piece in its text
abbrev pub blanks_before_piece : ExpectedPiece → ℕ
blanks_before_piece piece.Scope = 0
blanks_before_piece piece.End = 0
blanks_before_piece p = 1

-- It says something, or its first fault is that it ends at this byte, which is behind the other.
abbrev pub has_no_fault_before_end : ℕ → ℕ → Result Node LineFault → Bool
has_no_fault_before_end start stop (Ok n) = true
has_no_fault_before_end start stop (Err (Syntax at w)) = nat_lt start at && at == stop
has_no_fault_before_end start stop (Err NoMemory) = false

-- A line may go on with the piece: as it is computed.
abbrev pub may_piece_stand : List ℕ → ExpectedPiece → Bool
may_piece_stand before p = has_no_fault_before_end (length before + blanks_before_piece p) (length (before ++ sample_of_piece p)) (outcome_of_line (before ++ sample_of_piece p))

-- The line with the piece says something, or its first fault is at its end, behind the byte with which the piece begins.
abbrev pub MayPieceStand : List ℕ → ExpectedPiece → Type 0
MayPieceStand before p =
    ((n : Node) × LineReadsAsNode (before ++ sample_of_piece p) n)
    ⊎ ((at : ℕ) × (w : Why) × IsLineSyntaxFault (before ++ sample_of_piece p) at w × (length before + blanks_before_piece p < at) × (at ≡ length (before ++ sample_of_piece p)))
