-- What a line says, or its first fault, as a function that computes. Of its own it defines nothing: that it gives what
-- the line says or its first fault, as these are defined, is a law (`outcome_is`), and a line has one such outcome
-- (`one_reading`, `no_fault`, `one_fault`).
use Rattle.std.specs.Prelude.{◌≡◌, ℕ, ◌-◌, List, length, take, drop, Result, Ok, Err}
use Rattle.sudoers_text.specs.declared.token.Token.{Token}
use Rattle.sudoers_text.specs.LineMode.{line_mode}
use Rattle.sudoers_text.specs.Found.{tokens_of_line}
use Rattle.sudoers_grammar.specs.declared.fault.LineFault.{LineFault}
use Rattle.sudoers_grammar.specs.declared.fault.LineFault.TheVariants.{Syntax, NoMemory}
use Rattle.sudoers_grammar.specs.Node.{Node}
use Rattle.sudoers_grammar.specs.Piece.{TokenWithBytes, tokens_with_bytes}
use Rattle.sudoers_grammar.specs.Line.{LineReadsAsNode, IsLineSyntaxFault, line_stop_before_line_end, first_token_start_or}
use Rattle.sudoers_line_rows.specs.declared.rows.NodeRow.{NodeRow}
use Rattle.sudoers_line_rows.specs.declared.rows.Tables.{Tables}
use Rattle.sudoers_line_reader.specs.Reader.{ReadOutcome, Read, Halt}
use Rattle.sudoers_line_reader.specs.Descent.{whole_line_reader as reading, cause_at_first_token}
use Rattle.sudoers_line_rows.specs.Tables.{RowMeaningLasts, node_in_tables}

-- the fault behind so many of these tokens; stop: where the line has ended
abbrev pub fault_after_tokens : ℕ → ℕ → List TokenWithBytes → LineFault
fault_after_tokens stop n ts = Syntax (first_token_start_or stop (drop n ts)) (cause_at_first_token (take n ts) (drop n ts))

-- what these tokens say, or their first fault
abbrev pub line_outcome_of_reading : ℕ → List TokenWithBytes → ReadOutcome Node → Result Node LineFault
line_outcome_of_reading stop ts (Read n rest) = Ok n
line_outcome_of_reading stop ts (Halt rest) = Err (fault_after_tokens stop (length ts - length rest) ts)

abbrev pub line_outcome_of_tokens : List ℕ → List Token → Result Node LineFault
line_outcome_of_tokens line tokens = line_outcome_of_reading (line_stop_before_line_end line) (tokens_with_bytes line tokens) (reading (tokens_with_bytes line tokens))

-- the outcome of a line: what it says, or its first fault
unfoldable pub outcome_of_line : List ℕ → Result Node LineFault
outcome_of_line line = line_outcome_of_tokens line (tokens_of_line (line_mode line) line)

-- what the line says, or its first fault
abbrev pub IsOutcomeOfLine : List ℕ → Result Node LineFault → Type 0
IsOutcomeOfLine line (Ok n) = LineReadsAsNode line n
IsOutcomeOfLine line (Err (Syntax at w)) = IsLineSyntaxFault line at w
IsOutcomeOfLine line (Err NoMemory) = ⊥

-- what was returned is the outcome, unless memory ran out
abbrev pub IsLineOutcomeOrNoMemory : Result Node LineFault → Result Node LineFault → Type 0
IsLineOutcomeOrNoMemory (Ok n) outcome = outcome ≡ Ok n
IsLineOutcomeOrNoMemory (Err (Syntax at w)) outcome = outcome ≡ Err (Syntax at w)
IsLineOutcomeOrNoMemory (Err NoMemory) outcome = Unit {0}

-- The row says for good what the line says, or this is the line's first fault, unless memory ran out.
abbrev pub RowShowsOutcomeOrNoMemory : Tables → Result NodeRow LineFault → Result Node LineFault → Type 0
RowShowsOutcomeOrNoMemory t (Ok row) outcome = (outcome ≡ Ok (node_in_tables t row)) × RowMeaningLasts node_in_tables t row
RowShowsOutcomeOrNoMemory t (Err (Syntax at w)) outcome = outcome ≡ Err (Syntax at w)
RowShowsOutcomeOrNoMemory t (Err NoMemory) outcome = Unit {0}
