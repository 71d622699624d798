-- What bytes say that are one logical line.
use Rattle.std.specs.Prelude.{ℕ, List, Option, Some, None, if◌then◌else◌}
use Rattle.std.specs.Result.{result_ok}
use Rattle.sudoers_text.specs.Whole.{IsLogicalLine, is_logical_line}
use Rattle.sudoers_grammar.specs.Node.{Node}
use Rattle.sudoers_grammar.specs.Line.{LineReadsAsNode}
use Rattle.sudoers_line_reader.specs.Outcome.{outcome_of_line}

-- The bytes are one logical line that says this; or they are not one that parses.
abbrev pub IsReadingOfSingleLine : List ℕ → Option Node → Type 0
IsReadingOfSingleLine text (Some says) = IsLogicalLine text × LineReadsAsNode text says
IsReadingOfSingleLine text None = (says : Node) → IsLogicalLine text → LineReadsAsNode text says → ⊥

-- the same as a function that computes
unfoldable pub reading_of_single_line : List ℕ → Option Node
reading_of_single_line text = if is_logical_line text then result_ok (outcome_of_line text) else None
