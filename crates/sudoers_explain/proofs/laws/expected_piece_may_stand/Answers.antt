use Rattle.std.proofs.Common.{◌+◌, ◌++◌, length}
use Rattle.sudoers_line_reader.specs.Outcome.{outcome_of_line}
use Rattle.sudoers_explain.specs.ExpectedPieces.{blanks_before_piece, sample_of_piece}
use Rattle.sudoers_explain.proofs.LaterFaults.{computed_test_is_meant, meant_test_is_computed}
use Rattle.sudoers_explain.proofs.laws.expected_piece_may_stand.Goals as goal

pub returns : goal.returns
returns c before p =
    let line = before ++ sample_of_piece p in (
      (λ e. computed_test_is_meant (length before + blanks_before_piece p) (length line) line (outcome_of_line line) (c.outcome_is.ensures line) e),
      (λ m. meant_test_is_computed c.no_fault.ensures c.one_fault.ensures (length before + blanks_before_piece p) (length line) line (outcome_of_line line) (c.outcome_is.ensures line) m),
    )
