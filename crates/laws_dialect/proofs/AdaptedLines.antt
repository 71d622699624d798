-- A line that is read is its own adapted line.
use Rattle.std.proofs.Common.{◌≡◌, ℕ, Bool, true, false, List, refl}
use Rattle.std.specs.Prelude.{if◌then◌else◌}
use Rattle.sudoers_text.specs.Adapted.{IsRespelledLine, respelled_line, is_one_line_as, adapted_line}
use Rattle.sudoers_grammar.specs.Node.{Node}
use Rattle.sudoers_grammar.specs.Line.{LineReadsAsNode}
use Rattle.laws_dialect.proofs.ReadLines.{read_line_is_respelled_to_itself}

-- The computed line is a respelled line, and there is no other.
abbrev pub ComputesRespelledLine : Type 0
ComputesRespelledLine = (line : List ℕ) → IsRespelledLine line (respelled_line line)

abbrev pub HasOneRespelledLine : Type 0
HasOneRespelledLine = (line respelled other : List ℕ) → IsRespelledLine line respelled → IsRespelledLine line other → respelled ≡ other

pub read_line_is_computed_respelled_line : ComputesRespelledLine → HasOneRespelledLine → (line : List ℕ) (says : Node) → LineReadsAsNode line says → respelled_line line ≡ line
read_line_is_computed_respelled_line computed one line says is = one line (respelled_line line) line (computed line) (read_line_is_respelled_to_itself line says is)

either_choice_of_line_is_line : (b : Bool) (line other : List ℕ) → other ≡ line → (if b then other else line) ≡ line
either_choice_of_line_is_line true line other e = e
either_choice_of_line_is_line false line other e = refl

pub read_line_is_its_adapted_line : ComputesRespelledLine → HasOneRespelledLine → (line : List ℕ) (says : Node) → LineReadsAsNode line says → adapted_line line ≡ line
unfolding adapted_line
read_line_is_its_adapted_line computed one line says is =
    either_choice_of_line_is_line (is_one_line_as line (respelled_line line)) line (respelled_line line) (read_line_is_computed_respelled_line computed one line says is)
