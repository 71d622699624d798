use Rattle.std.proofs.Common.{ℕ, List, sym, ap, ◌∙◌}
use Rattle.sudoers_text.specs.LineMode.{line_mode}
use Rattle.sudoers_text.specs.Found.{tokens_of_line}
use Rattle.sudoers_grammar.specs.Piece.{TokenWithBytes, tokens_with_bytes}
use Rattle.sudoers_grammar.specs.Line.{line_stop_before_line_end}
use Rattle.sudoers_line_reader.specs.Descent.{whole_line_reader as reading}
use Rattle.sudoers_line_reader.specs.Outcome.{line_outcome_of_reading, outcome_of_line}
use Rattle.sudoers_line_rows.proofs.CutBack.{cut_grown, cut_back, on_err_holds_if_claim_holds}
use Rattle.sudoers_line_reader.proofs.reading.read_line.Goals as goal

pub returns-in_err-find_fault_of_line-in-Fault-clause-grown : goal.returns-in_err-find_fault_of_line-in-Fault-clause-grown
returns-in_err-find_fault_of_line-in-Fault-clause-grown c = cut_grown _ _ _ _ c.row_counts-counts.ensures c.in-Err.ensures.grown c.cut_back_to_counts.ensures

pub returns-in_err-find_fault_of_line-in-Fault-clause-refused : goal.returns-in_err-find_fault_of_line-in-Fault-clause-refused
returns-in_err-find_fault_of_line-in-Fault-clause-refused c = on_err_holds_if_claim_holds _ (cut_back _ _ _ _ c.row_counts-counts.ensures c.in-Err.ensures.grown c.cut_back_to_counts.ensures)

pub returns-in-NoMemory-clause-grown : goal.returns-in-NoMemory-clause-grown
returns-in-NoMemory-clause-grown c = cut_grown _ _ _ _ c.row_counts-counts.ensures c.in-Err.ensures.grown c.cut_back_to_counts.ensures

pub returns-in-NoMemory-clause-refused : goal.returns-in-NoMemory-clause-refused
returns-in-NoMemory-clause-refused c = cut_back _ _ _ _ c.row_counts-counts.ensures c.in-Err.ensures.grown c.cut_back_to_counts.ensures

pub returns-in_ok-find_fault_of_line-in-Fault-clause-grown : goal.returns-in_ok-find_fault_of_line-in-Fault-clause-grown
returns-in_ok-find_fault_of_line-in-Fault-clause-grown c = cut_grown _ _ _ _ c.row_counts-counts.ensures c.in-Err.ensures.grown c.cut_back_to_counts.ensures

pub returns-in_ok-find_fault_of_line-in-Fault-clause-refused : goal.returns-in_ok-find_fault_of_line-in-Fault-clause-refused
returns-in_ok-find_fault_of_line-in-Fault-clause-refused c = cut_back _ _ _ _ c.row_counts-counts.ensures c.in-Err.ensures.grown c.cut_back_to_counts.ensures

pub returns-in-Ok-clause-gives : goal.returns-in-Ok-clause-gives
unfolding outcome_of_line
returns-in-Ok-clause-gives c =
    let line : List ℕ = c.args.line.now in
    let tokens : List TokenWithBytes = tokens_with_bytes line (tokens_of_line (line_mode line) line) in
    (ap (line_outcome_of_reading (line_stop_before_line_end line) tokens) (ap reading (sym c.from_line-cursor.ensures) ∙ c.in-Ok.ensures.reads.0), c.in-Ok.ensures.reads.1)
