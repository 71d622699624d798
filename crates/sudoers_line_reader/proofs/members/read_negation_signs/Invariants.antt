use Rattle.std.proofs.Common.{◌≡◌, length}
use Rattle.sudoers_grammar.specs.Piece.{is_mark_of_byte}
use Rattle.sudoers_line_reader.specs.Reader.{repetition_reader, passing_token_reader}
use Rattle.sudoers_line_reader.specs.Descent.{sign_toggled_by_mark, negation_reader}
use Rattle.sudoers_line_reader.proofs.members.read_negation_signs.Given as goal

abbrev pub invariant-loop-cursor : goal.invariant-loop-cursor
invariant-loop-cursor l = negation_reader l.fn.cursor ≡ repetition_reader sign_toggled_by_mark (is_mark_of_byte 33) (passing_token_reader (is_mark_of_byte 33)) l.negated l.cursor

abbrev pub decreases-loop-cursor : goal.decreases-loop-cursor
decreases-loop-cursor l = length l.cursor
