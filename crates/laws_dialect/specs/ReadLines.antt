-- Lines that this toolkit reads.
use Rattle.std.specs.Prelude.{ℕ, List}
use Rattle.sudoers_grammar.specs.Node.{Node}
use Rattle.sudoers_grammar.specs.Line.{LineReadsAsNode}

-- The line says something.
abbrev pub IsReadLine : List ℕ → Type 0
IsReadLine line = (says : Node) × LineReadsAsNode line says
