use Rattle.std.proofs.Common.{◌≡◌, Ok, rules}
use Rattle.sudoers_line_reader.specs.Outcome.{IsLineOutcomeOrNoMemory, outcome_of_line}
use Rattle.sudoers_line_rows.specs.Tables.{node_in_tables}
use Rattle.sudoers_line_reader.proofs.Contract.{only, refused}
use Rattle.sudoers_line_reader.proofs.reading.parse.Goals as goal

pub returns-in_err-row-clause-only : goal.returns-in_err-row-clause-only
returns-in_err-row-clause-only c = λ node reads.
    let gives : IsLineOutcomeOrNoMemory c.from_residual.result (outcome_of_line c.args.line.now) = search rules in
    only c.args.line.now (c.outcome_is.ensures c.args.line.now) (c.one_reading.ensures c.args.line.now) (c.no_fault.ensures c.args.line.now) c.from_residual.result node reads gives

pub returns-in_err-row-clause-refused : goal.returns-in_err-row-clause-refused
returns-in_err-row-clause-refused c = λ at why fault.
    let gives : IsLineOutcomeOrNoMemory c.from_residual.result (outcome_of_line c.args.line.now) = search rules in
    refused c.args.line.now (c.outcome_is.ensures c.args.line.now) (c.one_fault.ensures c.args.line.now) (c.no_fault.ensures c.args.line.now) c.from_residual.result at why fault gives

pub returns-clause-only : goal.returns-clause-only
returns-clause-only c = λ node reads.
    let gives : outcome_of_line c.args.line.now ≡ Ok (node_in_tables c.in_ok-tables.tables.value c.in_ok-row.row) = search rules in
    only c.args.line.now (c.outcome_is.ensures c.args.line.now) (c.one_reading.ensures c.args.line.now) (c.no_fault.ensures c.args.line.now) (Ok (node_in_tables c.in_ok-tables.tables.value c.in_ok-row.row)) node reads gives

pub returns-clause-refused : goal.returns-clause-refused
returns-clause-refused c = λ at why fault.
    let gives : outcome_of_line c.args.line.now ≡ Ok (node_in_tables c.in_ok-tables.tables.value c.in_ok-row.row) = search rules in
    refused c.args.line.now (c.outcome_is.ensures c.args.line.now) (c.one_fault.ensures c.args.line.now) (c.no_fault.ensures c.args.line.now) (Ok (node_in_tables c.in_ok-tables.tables.value c.in_ok-row.row)) at why fault gives
